-- What all threads did, put together.
use Rattle.std.proofs.Common.{true, eqb-true, arith, ◌≡◌, ℕ, ◌+◌, List, [], ◌∷◌, inl, inr, refl, ap, sym, subst, ◌∙◌}
use Rattle.std.proofs.lemmas.Bool.{and_parts}
use Rattle.std.proofs.lemmas.List.{nil_from_length}
use Rattle.mc_words.specs.declared.arena.Arena.{Arena}
use Rattle.mc_words.specs.declared.hand.Hand.{Hand}
use Rattle.mc_words.specs.hand.Arenas.{setup_of, view}
use Rattle.mc_core.specs.model.Holdings.{has_fresh}
use Rattle.mc_words.specs.hand.Idle.{is_idle}
use Rattle.mc_words.specs.hand.Ready.{IsReady}
use Rattle.mc_words.specs.hand.View.{View}
use Rattle.mc_script.specs.declared.command.Command.{Command}
use Rattle.mc_workers.specs.declared.threads.Joined.{Joined}
use Rattle.mc_workers.specs.declared.threads.Served.{Served}
use Rattle.mc_workers.specs.Moves.{MovesLines}
use Rattle.mc_workers.specs.Threads.{AreDone, IsMoved, LinesAreServed, JoinsBoth}

-- an idle hand is ready
ready_idle : (view : View) → is_idle view ≡ true → IsReady view
ready_idle view idle =
    let parts = and_parts _ _ idle in
    let none = eqb-true _ _ parts.1 in
    record { unlocked = parts.0; unfilled = ap has_fresh (nil_from_length view.row.holdings none); within_limit = omega arith }

-- a worker and the others
pub all_done : (arena : Arena) (worker : ℕ) (commands : List Command) (hand : Hand) (hands : List Hand) (mover : Hand) (own : Served) (others joined : Joined)
    → LinesAreServed arena worker commands hand own → AreDone arena (worker + 1) commands hands mover others → JoinsBoth arena own others joined → AreDone arena worker commands (hand ∷ hands) mover joined
all_done arena worker commands hand hands mover own others joined served done both = record {
  of_arena = both.of_arena;
  idle = ap is_idle both.both ∙ done.idle;
  ready = ready_idle (view joined.hand) (ap is_idle both.both ∙ done.idle);
  agree = inr both.agree;
  moved = done.moved;
  moves = subst (λ (text : List ℕ). MovesLines (setup_of arena).table commands mover text done.moved) (sym both.mover) done.moves;
  runs = (own.text.items, others.workers.items, own.hand, others.hand, served.does, done.runs, both.workers, both.both);
}

-- the mover alone
pub moved_alone : (arena : Arena) (worker : ℕ) (commands : List Command) (mover : Hand) (joined : Joined) → IsMoved arena commands mover joined → AreDone arena worker commands [] mover joined
moved_alone arena worker commands mover joined is = record {
  of_arena = is.of_arena;
  idle = is.idle;
  ready = ready_idle (view joined.hand) is.idle;
  agree = inl refl;
  moved = joined.hand;
  moves = is.moves;
  runs = (is.none, refl);
}
