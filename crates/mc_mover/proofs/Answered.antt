-- What a turn's answer says of the move: from the sections of the turn and its end.
use Rattle.std.proofs.Common.{◌≡◌, ℕ, ◌==◌, ◌&&◌, Bool, true, false, is_none, is_some, List, [], ◌∷◌, Option, None, refl, sym, ap, ◌∙◌, inl, inr}
use Rattle.std.specs.Option.{option_map}
use Rattle.mc_pages.specs.declared.ids.ChunkId.{ChunkId}
use Rattle.mc_pages.specs.declared.ids.Moving.{Moving}
use Rattle.mc_pages.specs.Changes.{after_cut}
use Rattle.mc_pages.specs.Moves.{after_finish, begun_anew, after_move_end}
use Rattle.mc_pages.specs.SlabState.{SlabState}
use Rattle.mc_core.proofs.Places.SamePages.{arrived_if}
use Rattle.mc_words.specs.hand.View.{View}
use Rattle.mc_words.specs.page.Cuts.{CutsEach}
use Rattle.mc_mover.specs.declared.counts.Counts.{Counts}
use Rattle.mc_mover.specs.declared.counts.Turn.{Turn}
use Rattle.mc_mover.specs.declared.counts.Turn.TheVariants.{Idle, Went, Finished}
use Rattle.mc_mover.specs.Answering.{FinishesExactly, IsAnswerOf, RunsStill}
use Rattle.mc_mover.specs.Turning.{EndsTurn, Finishes, GoesOn}

-- chunks that are cut leave the move
cuts_moving : (chunks : List ChunkId) (view : View) (slabs : SlabState) (now : View) (left : SlabState) → CutsEach chunks view slabs now left → left.moving ≡ slabs.moving
cuts_moving [] view slabs now left (same, is) = ap (λ (s : SlabState). s.moving) is
cuts_moving (chunk ∷ chunks) view slabs now left (next, cuts, rest) = cuts_moving chunks next (after_cut slabs chunk) now left rest

-- a move's end leaves none
finished_none : (slabs : SlabState) (move : Moving) → (after_move_end slabs move).moving ≡ None
finished_none slabs move = by (move.dst == 0)
  where
    by : (b : Bool) → (arrived_if slabs move b).moving ≡ None
    by true = refl
    by false = refl

finishes_none : (number : ℕ) (view : View) (slabs : SlabState) (now : View) (left : SlabState) → Finishes number view slabs now left → left.moving ≡ None
finishes_none number view slabs now left finishes =
    cuts_moving _ finishes.moved _ now left finishes.cuts ∙ (ap (λ (o : Option Moving). (after_finish slabs o).moving) finishes.at_end.0 ∙ finished_none slabs finishes.move)

-- otherwise the move runs still
goes_runs : (number : ℕ) (view : View) (slabs : SlabState) (now : View) (left : SlabState) (found : Option Moving) → GoesOn number view slabs now left → RunsStill found slabs.moving → RunsStill found left.moving
goes_runs number view slabs now left found (inl (move, runs, within, same, is)) (first, last, begins, ends, on) = (first, last, begins, ap (λ (s : SlabState). s.moving) is ∙ ends, on)
goes_runs number view slabs now left found (inr (move, at_end, busy, happens, same, is)) (first, last, begins, ends, on) =
    (first, begun_anew last, begins, ap (λ (s : SlabState). s.moving) is ∙ ap (option_map begun_anew) ends, on)

-- so the answer says it, once sections were gone through
pub answers_end : (number : ℕ) (counts : Counts) (turn : Turn) (view : View) (slabs : SlabState) (now : View) (left : SlabState) (found : Option Moving) → EndsTurn number counts turn view slabs now left → RunsStill found slabs.moving → IsAnswerOf turn found left.moving
answers_end number counts Idle view slabs now left found ends runs = absurd ends
answers_end number counts (Went same) view slabs now left found (is, goes) runs = goes_runs number view slabs now left found goes runs
answers_end number counts (Finished same) view slabs now left found (is, finishes) (first, last, begins, ends, on) = (ap is_some begins, finishes_none number view slabs now left finishes)

-- and it says that the page came exactly where it did
pub finishes_there : FinishesExactly
finishes_there Idle found left (none, same) = sym (ap (λ (o : Option Moving). is_some o && is_none left) none)
finishes_there (Went counts) found left (first, last, begins, ends, on) = sym (λ k. is_some (begins k) && is_none (ends k))
finishes_there (Finished counts) found left (some, none) = sym (λ k. some k && is_none (none k))
