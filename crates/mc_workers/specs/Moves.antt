-- The lines of the mover, in order.
use Rattle.std.specs.Prelude.{◌≡◌, ℕ, List, [], ◌∷◌, ◌++◌, flat_map}
use Rattle.mc_classes.specs.Classes.{Classes}
use Rattle.mc_words.specs.declared.hand.Hand.{Hand}
use Rattle.mc_script.specs.declared.command.Command.{Command}
use Rattle.mc_watch.specs.Decider.{fresh_decider}
use Rattle.mc_workers.specs.declared.mover.Mover.{Mover}
use Rattle.mc_workers.specs.declared.mover_reply.MoverReply.{MoverReply}
use Rattle.mc_workers.specs.Asking.{lines_of_mover}
use Rattle.mc_workers.specs.MoverReplies.{mover_text}
use Rattle.mc_workers.specs.Moving.{ServesMover, decider_of, turns_of}

-- lines of the mover that were done one after another, each with its reply
abbrev pub MovesEach : List Command → List MoverReply → Mover → Hand → Mover → Hand → Type 0
MovesEach [] [] mover before left now = (left ≡ mover) × (now ≡ before)
MovesEach (command ∷ commands) (reply ∷ replies) mover before left now =
    (next : Hand) × (between : Mover) × ServesMover command reply mover before between next × MovesEach commands replies between next left now
MovesEach commands replies mover before left now = ⊥

-- the text of these replies
abbrev pub mover_texts : Classes → List MoverReply → List ℕ
mover_texts table replies = flat_map (mover_text table) replies

-- a line was done, and the lines of its reply were added to the text
pub record AddsMove (table : Classes) (command : Command) (mover : Mover) (before : Hand) (text : List ℕ) (left : Mover) (now : Hand) (longer : List ℕ) : Type 0 where
  pub reply : MoverReply
  pub serves : ServesMover command reply mover before left now
  pub added : longer ≡ text ++ mover_text table reply

-- all lines of the mover were done, in order, and the lines of their replies were added to the text
pub record AddsMoves (table : Classes) (commands : List Command) (mover : Mover) (before : Hand) (text : List ℕ) (left : Mover) (now : Hand) (longer : List ℕ) : Type 0 where
  pub replies : List MoverReply
  pub moves : MovesEach (lines_of_mover commands) replies mover before left now
  pub added : longer ≡ text ++ mover_texts table replies

-- the mover's lines were done in order, with a fresh decider and no turn begun at first, and the text has their replies
pub record MovesLines (table : Classes) (commands : List Command) (before : Hand) (text : List ℕ) (now : Hand) : Type 0 where
  pub first : Mover
  pub fresh : decider_of first ≡ fresh_decider table
  pub none_begun : turns_of first ≡ 0
  pub replies : List MoverReply
  pub left : Mover
  pub moves : MovesEach (lines_of_mover commands) replies first before left now
  pub told : text ≡ mover_texts table replies
