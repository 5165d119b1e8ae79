-- The lines of one worker, in order.
use Rattle.std.specs.Prelude.{◌≡◌, ℕ, List, [], ◌∷◌, ◌++◌, map}
use Rattle.std.specs.Option.{option_map_or}
use Rattle.mc_words.specs.declared.hand.Hand.{Hand}
use Rattle.mc_words.specs.hand.Arenas.{view}
use Rattle.mc_words.specs.hand.View.{Setup, View}
use Rattle.mc_words.specs.hand.Views.{chunk_released}
use Rattle.mc_items.specs.declared.refs.Ref.{Ref}
use Rattle.mc_items.specs.ItemRefs.{item_chunk}
use Rattle.mc_script.specs.declared.command.Command.{Command}
use Rattle.mc_workers.specs.declared.reply.Reply.{Reply}
use Rattle.mc_workers.specs.Asking.{asked_by, lines_of}
use Rattle.mc_workers.specs.Kept as kept
use Rattle.mc_workers.specs.Replies.{reply_text}
use Rattle.mc_workers.specs.Serving.{Serves}

-- the line of a reply to a command
abbrev pub reply_to : Command → Reply → List ℕ
reply_to command reply = option_map_or (λ asked. reply_text asked.key reply) (asked_by command) []

-- the lines were done one after another, each with its reply, from these holds on to those
abbrev pub ServesEach : Setup → List Command → List Reply → List kept.KeptReference → Hand → List kept.KeptReference → Hand → Type 0
ServesEach setup [] [] held before left now = (left ≡ held) × (now ≡ before)
ServesEach setup (command ∷ commands) (reply ∷ replies) held before left now =
    (next : Hand) × (between : List kept.KeptReference) × Serves setup command reply held before between next × ServesEach setup commands replies between next left now
ServesEach setup commands replies held before left now = ⊥

-- the text of the replies to these lines
abbrev pub reply_texts : List Command → List Reply → List ℕ
reply_texts (command ∷ commands) (reply ∷ replies) = reply_to command reply ++ reply_texts commands replies
reply_texts commands replies = []

-- a line was done, and the line of its reply was added to the text
pub record AddsReply (setup : Setup) (command : Command) (held : List kept.KeptReference) (before : Hand) (text : List ℕ) (left : List kept.KeptReference) (now : Hand) (longer : List ℕ) : Type 0 where
  pub reply : Reply
  pub serves : Serves setup command reply held before left now
  pub added : longer ≡ text ++ reply_to command reply

-- all lines of the worker were done, in order, and the lines of their replies were added to the text
pub record ServesLines (setup : Setup) (worker : ℕ) (commands : List Command) (held : List kept.KeptReference) (before : Hand) (text : List ℕ) (left : List kept.KeptReference) (now : Hand) (longer : List ℕ) : Type 0 where
  pub replies : List Reply
  pub serves : ServesEach setup (lines_of worker commands) replies held before left now
  pub added : longer ≡ text ++ reply_texts (lines_of worker commands) replies

-- each of these references was given back, the last one first
abbrev pub all_released : List Ref → View → View
all_released [] view = view
all_released (item ∷ items) view = chunk_released (item_chunk item) (all_released items view)

-- the worker's lines were done in order, from no holds on. The text has their replies, and what the worker still held was given back
pub record DoesLines (setup : Setup) (worker : ℕ) (commands : List Command) (before : Hand) (text : List ℕ) (now : Hand) : Type 0 where
  pub replies : List Reply
  pub left : List kept.KeptReference
  pub served : Hand
  pub serves : ServesEach setup (lines_of worker commands) replies [] before left served
  pub told : text ≡ reply_texts (lines_of worker commands) replies
  pub released : view now ≡ all_released (map (λ hold. hold.item) left) (view served)
