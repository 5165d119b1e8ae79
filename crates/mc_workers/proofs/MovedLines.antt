-- Lines of the mover, one more at the end.
use Rattle.std.proofs.Common.{◌≡◌, ℕ, ◌+◌, ◌<◌, Bool, true, false, cond, not, List, [], ◌∷◌, ◌++◌, length, take, get_or, refl, sym, ap, subst, ◌∙◌, append-nil, append_assoc}
use Rattle.std.proofs.lemmas.Grind.{flat_map-append}
use Rattle.std.proofs.lemmas.List.Elements.{filter_more}
use Rattle.mc_classes.specs.Classes.{Classes}
use Rattle.mc_words.specs.declared.arena.Arena.{Arena}
use Rattle.mc_words.specs.declared.hand.Hand.{Hand}
use Rattle.mc_words.specs.hand.Arenas.{IsHandOf, setup_of, view}
use Rattle.mc_words.specs.hand.Observers.{hand_number}
use Rattle.mc_words.specs.hand.Ready.{IsReady}
use Rattle.mc_script.specs.declared.command.Command.{Command}
use Rattle.mc_workers.specs.declared.mover.Mover.{Mover}
use Rattle.mc_workers.specs.declared.mover_reply.MoverReply.{MoverReply}
use Rattle.mc_workers.specs.Asking.{is_movers, is_workers, lines_of_mover}
use Rattle.mc_workers.specs.MoverReplies.{mover_text}
use Rattle.mc_workers.specs.Moves.{AddsMove, AddsMoves, MovesEach, mover_texts}
use Rattle.mc_workers.specs.Moving.{ServesMover}

-- lines and replies, and one more of each
moves_more : (commands : List Command) (replies : List MoverReply) (mover : Mover) (before : Hand) (left : Mover) (now : Hand) (command : Command) (reply : MoverReply) (after : Mover) (then : Hand)
    → MovesEach commands replies mover before left now → ServesMover command reply left now after then → MovesEach (commands ++ command ∷ []) (replies ++ reply ∷ []) mover before after then
moves_more [] [] mover before left now command reply after then each one =
    (then, after, subst (λ (h : Hand). ServesMover command reply mover h after then) each.1 (subst (λ (m : Mover). ServesMover command reply m now after then) each.0 one), (refl, refl))
moves_more [] (r ∷ replies) mover before left now command reply after then each one = absurd each
moves_more (c ∷ commands) [] mover before left now command reply after then each one = absurd each
moves_more (c ∷ commands) (r ∷ replies) mover before left now command reply after then each one =
    (each.0, each.1, each.2, moves_more commands replies each.1 each.0 left now command reply after then each.3 one)

texts_more : (table : Classes) (replies : List MoverReply) (reply : MoverReply) → mover_texts table (replies ++ reply ∷ []) ≡ mover_texts table replies ++ mover_text table reply
texts_more table replies reply =
    flat_map-append (mover_text table) replies (reply ∷ []) ∙ ap (λ (t : List ℕ). mover_texts table replies ++ t) (append-nil (mover_text table reply))

-- what stands when the mover did its lines among these
pub record MovedSoFar (arena : Arena) (commands : List Command) (mover : Mover) (before : Hand) (text : List ℕ) (left : Mover) (now : Hand) (longer : List ℕ) : Type 0 where
  pub hand : IsHandOf arena now
  pub ready : IsReady (view now)
  pub number : hand_number now ≡ hand_number before
  pub holdings : (view now).row.holdings ≡ (view before).row.holdings
  pub moves : AddsMoves (setup_of arena).table commands mover before text left now longer

-- and when it did the next one, too
module _ (arena : Arena) (commands : List Command) (i : ℕ) (other : Command) (within : i < length commands) (mover : Mover) (before : Hand) (text : List ℕ) (left : Mover) (now : Hand) (longer : List ℕ)
    (so_far : MovedSoFar arena (take i commands) mover before text left now longer) where
  pub move_done : (after : Mover) (then : Hand) (longest : List ℕ) → is_movers (get_or commands i other) ≡ true → IsHandOf arena then → IsReady (view then) → hand_number then ≡ hand_number now → (view then).row.holdings ≡ (view now).row.holdings
      → AddsMove (setup_of arena).table (get_or commands i other) left now longer after then longest → MovedSoFar arena (take (i + 1) commands) mover before text after then longest
  move_done after then longest is hand ready number holdings adds =
      let table = (setup_of arena).table in
      let s = so_far.moves in
      let lines = lines_of_mover (take i commands) in
      let command = get_or commands i other in
      let more = filter_more is_movers commands i other within ∙ ap (λ (b : Bool). lines ++ cond b (command ∷ []) []) is in
      record {
        hand = hand;
        ready = ready;
        number = number ∙ so_far.number;
        holdings = holdings ∙ so_far.holdings;
        moves = record {
          replies = s.replies ++ adds.reply ∷ [];
          moves = subst (λ (l : List Command). MovesEach l (s.replies ++ adds.reply ∷ []) mover before after then) (sym more) (moves_more lines s.replies mover before left now command adds.reply after then s.moves adds.serves);
          added = adds.added ∙ (ap (λ (t : List ℕ). t ++ mover_text table adds.reply) s.added ∙ (append_assoc text (mover_texts table s.replies) (mover_text table adds.reply)
              ∙ ap (λ (t : List ℕ). text ++ t) (sym (texts_more table s.replies adds.reply))));
        };
      }

  pub move_passed : is_movers (get_or commands i other) ≡ false → MovedSoFar arena (take (i + 1) commands) mover before text left now longer
  move_passed isnt =
      let s = so_far.moves in
      let lines = lines_of_mover (take i commands) in
      let same = filter_more is_movers commands i other within ∙ (ap (λ (b : Bool). lines ++ cond b (get_or commands i other ∷ []) []) isnt ∙ append-nil lines) in
      record {
        hand = so_far.hand;
        ready = so_far.ready;
        number = so_far.number;
        holdings = so_far.holdings;
        moves = record {
          replies = s.replies;
          moves = subst (λ (l : List Command). MovesEach l s.replies mover before left now) (sym same) s.moves;
          added = s.added;
        };
      }

-- the line is no worker's
pub not_workers : (command : Command) → is_movers command ≡ true → is_workers command ≡ false
not_workers command is = from (is_workers command) is
  where
    from : (b : Bool) → not b ≡ true → b ≡ false
    from true is = absurd (cc)
    from false is = refl
