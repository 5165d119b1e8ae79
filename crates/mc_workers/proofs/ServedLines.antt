-- Lines of a worker, one more at the end.
use Rattle.std.proofs.Common.{◌≡◌, ℕ, ◌+◌, ◌<◌, Bool, true, false, cond, List, [], ◌∷◌, ◌++◌, length, take, get_or, Some, None, Option, refl, sym, ap, subst, ◌∙◌, append-nil, append_assoc}
use Rattle.std.specs.Option.{option_map, option_map_or}
use Rattle.std.proofs.lemmas.List.Elements.{filter_more}
use Rattle.mc_words.specs.declared.arena.Arena.{Arena}
use Rattle.mc_words.specs.declared.hand.Hand.{Hand}
use Rattle.mc_words.specs.hand.Arenas.{IsHandOf, setup_of, view}
use Rattle.mc_words.specs.hand.Observers.{hand_number}
use Rattle.mc_words.specs.hand.Ready.{IsReady}
use Rattle.mc_words.specs.hand.View.{Setup}
use Rattle.mc_items.specs.ItemRefs.{RefersToEach}
use Rattle.mc_items.specs.declared.refs.Ref.{Ref}
use Rattle.mc_script.specs.declared.command.Command.{Command}
use Rattle.mc_workers.specs.declared.reply.Reply.{Reply}
use Rattle.mc_workers.specs.Kept.{KeptReference, kept_references}
use Rattle.mc_workers.specs.Asking.{AskedLine, asked_by, is_asked_by, lines_of}
use Rattle.mc_workers.specs.Lines.{AddsReply, ServesEach, ServesLines, reply_texts, reply_to}
use Rattle.mc_workers.specs.Replies.{reply_text}
use Rattle.mc_workers.specs.Serving.{Serves}

-- a reply is told about the key that was asked for
told_of : (asked : Option AskedLine) (key : ℕ) (reply : Reply) → option_map (λ (a : AskedLine). a.key) asked ≡ Some key → option_map_or (λ (a : AskedLine). reply_text a.key reply) asked [] ≡ reply_text key reply
told_of None key reply is = absurd (cc)
told_of (Some asked) key reply is = let same : asked.key ≡ key = cc in ap (λ (k : ℕ). reply_text k reply) same

pub told : (command : Command) (key : ℕ) (reply : Reply) → option_map (λ (a : AskedLine). a.key) (asked_by command) ≡ Some key → reply_to command reply ≡ reply_text key reply
told command key reply is = told_of (asked_by command) key reply is

-- lines and replies, and one more of each
serves_more : (setup : Setup) (commands : List Command) (replies : List Reply) (held : List KeptReference) (before : Hand) (left : List KeptReference) (now : Hand) (command : Command) (reply : Reply) (after : List KeptReference) (then : Hand)
    → ServesEach setup commands replies held before left now → Serves setup command reply left now after then → ServesEach setup (commands ++ command ∷ []) (replies ++ reply ∷ []) held before after then
serves_more setup [] [] held before left now command reply after then each one =
    (then, after, subst (λ (h : Hand). Serves setup command reply held h after then) each.1 (subst (λ (hs : List KeptReference). Serves setup command reply hs now after then) each.0 one), (refl, refl))
serves_more setup [] (r ∷ replies) held before left now command reply after then each one = absurd each
serves_more setup (c ∷ commands) [] held before left now command reply after then each one = absurd each
serves_more setup (c ∷ commands) (r ∷ replies) held before left now command reply after then each one =
    (each.0, each.1, each.2, serves_more setup commands replies each.1 each.0 left now command reply after then each.3 one)

replies_more : (setup : Setup) (commands : List Command) (replies : List Reply) (held : List KeptReference) (before : Hand) (left : List KeptReference) (now : Hand) (command : Command) (reply : Reply)
    → ServesEach setup commands replies held before left now → reply_texts (commands ++ command ∷ []) (replies ++ reply ∷ []) ≡ reply_texts commands replies ++ reply_to command reply
replies_more setup [] [] held before left now command reply each = append-nil (reply_to command reply)
replies_more setup [] (r ∷ replies) held before left now command reply each = absurd each
replies_more setup (c ∷ commands) [] held before left now command reply each = absurd each
replies_more setup (c ∷ commands) (r ∷ replies) held before left now command reply each =
    ap (λ (l : List ℕ). reply_to c r ++ l) (replies_more setup commands replies each.1 each.0 left now command reply each.3)
    ∙ sym (append_assoc (reply_to c r) (reply_texts commands replies) (reply_to command reply))

-- the lines of a worker among the first, and the next one
next_line : (worker : ℕ) (commands : List Command) (i : ℕ) (other : Command) → i < length commands → is_asked_by worker (get_or commands i other) ≡ true → lines_of worker (take (i + 1) commands) ≡ lines_of worker (take i commands) ++ get_or commands i other ∷ []
next_line worker commands i other within is =
    filter_more (is_asked_by worker) commands i other within ∙ ap (λ (b : Bool). lines_of worker (take i commands) ++ cond b (get_or commands i other ∷ []) []) is

no_line : (worker : ℕ) (commands : List Command) (i : ℕ) (other : Command) → i < length commands → is_asked_by worker (get_or commands i other) ≡ false → lines_of worker (take (i + 1) commands) ≡ lines_of worker (take i commands)
no_line worker commands i other within isnt =
    filter_more (is_asked_by worker) commands i other within
    ∙ (ap (λ (b : Bool). lines_of worker (take i commands) ++ cond b (get_or commands i other ∷ []) []) isnt ∙ append-nil (lines_of worker (take i commands)))

-- what stands when a worker did its lines among these
pub record SoFar (arena : Arena) (worker : ℕ) (commands : List Command) (kept : List Ref) (before : Hand) (text : List ℕ) (now : Hand) (left : List Ref) (longer : List ℕ) : Type 0 where
  pub hand : IsHandOf arena now
  pub ready : IsReady (view now)
  pub kept_are : RefersToEach (view now) left
  pub number : hand_number now ≡ hand_number before
  pub serves : ServesLines (setup_of arena) worker commands (kept_references (view before) kept) before text (kept_references (view now) left) now longer

-- and when it did the next one, too
module _ (arena : Arena) (worker : ℕ) (commands : List Command) (i : ℕ) (other : Command) (within : i < length commands) (kept : List Ref) (before : Hand) (text : List ℕ) (now : Hand) (left : List Ref) (longer : List ℕ)
    (so_far : SoFar arena worker (take i commands) kept before text now left longer) where
  pub line_done : (then : Hand) (after : List Ref) (longest : List ℕ) → is_asked_by worker (get_or commands i other) ≡ true → IsHandOf arena then → IsReady (view then) → RefersToEach (view then) after → hand_number then ≡ hand_number now
      → AddsReply (setup_of arena) (get_or commands i other) (kept_references (view now) left) now longer (kept_references (view then) after) then longest → SoFar arena worker (take (i + 1) commands) kept before text then after longest
  line_done then after longest is hand ready are number adds =
      let setup = setup_of arena in
      let s = so_far.serves in
      let lines = lines_of worker (take i commands) in
      let command = get_or commands i other in
      let more = next_line worker commands i other within is in
      record {
        hand = hand;
        ready = ready;
        kept_are = are;
        number = number ∙ so_far.number;
        serves = record {
          replies = s.replies ++ adds.reply ∷ [];
          serves = subst (λ (l : List Command). ServesEach setup l (s.replies ++ adds.reply ∷ []) (kept_references (view before) kept) before (kept_references (view then) after) then) (sym more)
              (serves_more setup lines s.replies (kept_references (view before) kept) before (kept_references (view now) left) now command adds.reply (kept_references (view then) after) then s.serves adds.serves);
          added = adds.added ∙ (ap (λ (t : List ℕ). t ++ reply_to command adds.reply) s.added ∙ (append_assoc text (reply_texts lines s.replies) (reply_to command adds.reply)
              ∙ ap (λ (t : List ℕ). text ++ t) (sym (replies_more setup lines s.replies (kept_references (view before) kept) before (kept_references (view now) left) now command adds.reply s.serves) ∙ ap (λ (l : List Command). reply_texts l (s.replies ++ adds.reply ∷ [])) (sym more))));
        };
      }

  pub line_passed : is_asked_by worker (get_or commands i other) ≡ false → SoFar arena worker (take (i + 1) commands) kept before text now left longer
  line_passed isnt =
      let s = so_far.serves in
      let same = no_line worker commands i other within isnt in
      record {
        hand = so_far.hand;
        ready = so_far.ready;
        kept_are = so_far.kept_are;
        number = so_far.number;
        serves = record {
          replies = s.replies;
          serves = subst (λ (l : List Command). ServesEach (setup_of arena) l s.replies (kept_references (view before) kept) before (kept_references (view now) left) now) (sym same) s.serves;
          added = s.added ∙ ap (λ (l : List Command). text ++ reply_texts l s.replies) (sym same);
        };
      }
