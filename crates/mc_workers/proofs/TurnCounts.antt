-- How many chunks a turn counts, and what the turns of a line count together.
use Rattle.std.proofs.Common.{◌≡◌, ℕ, ◌+◌, ◌≤◌, List, [], ◌∷◌, ◌++◌, length, refl, sym, ap, subst, ◌∙◌, arith}
use Rattle.mc_classes.specs.Classes.{IsSound}
use Rattle.mc_pages.specs.declared.moves.Found.{Found}
use Rattle.mc_pages.specs.declared.moves.Found.TheVariants.{Cleared, Rescued, Evicted, Busy, Locked, Already}
use Rattle.mc_pages.specs.SlabState.{SlabState}
use Rattle.mc_core.specs.model.InOrder.{IsOfTable}
use Rattle.mc_core.proofs.Steps.Listed.{per_page_is, source_of_move}
use Rattle.mc_words.specs.hand.View.{View}
use Rattle.mc_words.specs.lock.Doing.{HoldsSlabs}
use Rattle.mc_mover.specs.declared.counts.Counts as mover
use Rattle.mc_mover.specs.declared.counts.Turn.{Turn}
use Rattle.mc_mover.specs.declared.counts.Turn.TheVariants.{Idle, Went, Finished}
use Rattle.mc_mover.specs.Telling.{counts_in}
use Rattle.mc_mover.specs.Turning.{AreBelow, LooksFrom, Turns, counts_with_found, counts_with_all, no_counts}
use Rattle.mc_serial_spec.specs.declared.turn.Counts.{Counts}
use Rattle.mc_serial_spec.specs.Mover.{AreAtMost}
use Rattle.mc_workers.specs.Moving.{counts_of_all, counts_with}
use Rattle.mc_workers.proofs.Tellable.{taken_of_table}

-- one chunk more
one_more : (most : ℕ) (found : Found) (counts : mover.Counts) → AreBelow most counts → AreBelow (most + 1) (counts_with_found found counts)
one_more most Cleared counts (a, b, c, d, e) = (omega (arith, a), omega (arith, b), omega (arith, c), omega (arith, d), omega (arith, e))
one_more most Rescued counts (a, b, c, d, e) = (omega (arith, a), omega (arith, b), omega (arith, c), omega (arith, d), omega (arith, e))
one_more most Evicted counts (a, b, c, d, e) = (omega (arith, a), omega (arith, b), omega (arith, c), omega (arith, d), omega (arith, e))
one_more most Busy counts (a, b, c, d, e) = (omega (arith, a), omega (arith, b), omega (arith, c), omega (arith, d), omega (arith, e))
one_more most Locked counts (a, b, c, d, e) = (omega (arith, a), omega (arith, b), omega (arith, c), omega (arith, d), omega (arith, e))
one_more most Already counts (a, b, c, d, e) = (omega (arith, a), omega (arith, b), omega (arith, c), omega (arith, d), omega (arith, e))

below_more : (within_limit at_limit : ℕ) (counts : mover.Counts) → AreBelow within_limit counts → within_limit ≤ at_limit → AreBelow at_limit counts
below_more within_limit at_limit counts (a, b, c, d, e) more = (omega (arith, a), omega (arith, b), omega (arith, c), omega (arith, d), omega (arith, e))

-- each number is at most that of the chunks
all_counted : (found : List Found) (most : ℕ) (counts : mover.Counts) → AreBelow most counts → AreBelow (most + length found) (counts_with_all found counts)
all_counted [] most counts below = below_more most (most + 0) counts below (omega arith)
all_counted (one ∷ found) most counts below =
    below_more (most + 1 + length found) (most + length (one ∷ found)) (counts_with_all found (counts_with_found one counts)) (all_counted found (most + 1) (counts_with_found one counts) (one_more most one counts below)) (omega arith)

-- a turn looks at no more chunks than a page has
looks_few : (number : ℕ) (counts : mover.Counts) (view : View) (slabs : SlabState) (now : View) (left : SlabState) → IsOfTable view.setup.table slabs → IsSound view.setup.table → LooksFrom number counts view slabs now left → AreBelow 257 counts
looks_few number counts view slabs now left of sound looks =
    let source = source_of_move view.setup.table slabs looks.move of looks.runs in
    let chunks = (sound.chunks looks.move.src source).1 in
    let same = per_page_is view.setup.table slabs looks.move.src of (of.accounted.move looks.move looks.runs).src in
    let count = looks.count in
    let within_limit : 1 + length looks.found ≤ 257 = omega arith in
    subst (AreBelow 257) (sym looks.counts_are) (below_more (1 + length looks.found) 257 (counts_with_all looks.found no_counts) (all_counted looks.found 1 no_counts (omega arith, omega arith, omega arith, omega arith, omega arith)) within_limit)

-- so a turn counts at most 256 of each kind
pub turn_few : (number : ℕ) (turn : Turn) (view now : View) → HoldsSlabs (Turns number turn) view now → AreBelow 257 (counts_in turn)
turn_few number turn view now holds =
    by turn (taken_of_table view holds.found holds.taken holds.waits) holds.does
  where
    by : (turn : Turn) → IsOfTable holds.taken.setup.table holds.found × IsSound holds.taken.setup.table → Turns number turn holds.taken holds.found holds.last holds.left → AreBelow 257 (counts_in turn)
    by Idle (of, sound) turns = (omega arith, omega arith, omega arith, omega arith, omega arith)
    by (Went counts) (of, sound) turns = looks_few number counts holds.taken holds.found turns.looked turns.kept of sound turns.looks
    by (Finished counts) (of, sound) turns = looks_few number counts holds.taken holds.found turns.looked turns.kept of sound turns.looks

-- one turn more
pub more_counts : (most : ℕ) (turn : Turn) (counts : Counts) → AreAtMost most counts → AreBelow 257 (counts_in turn) → AreAtMost (most + 256) (counts_with turn counts)
more_counts most turn counts so_far (a, b, c, d, e) = record {
  cleared = omega (arith, so_far.cleared, a);
  rescued = omega (arith, so_far.rescued, b);
  evicted = omega (arith, so_far.evicted, c);
  busy = omega (arith, so_far.busy, d);
  locked = omega (arith, so_far.locked, e);
}

-- two turns in either order count the same
counts_commute : (one other : Turn) (counts : Counts) → counts_with one (counts_with other counts) ≡ counts_with other (counts_with one counts)
counts_commute one other counts =
    let cleared : counts.cleared + (counts_in other).cleared + (counts_in one).cleared ≡ counts.cleared + (counts_in one).cleared + (counts_in other).cleared = omega arith in
    let rescued : counts.rescued + (counts_in other).rescued + (counts_in one).rescued ≡ counts.rescued + (counts_in one).rescued + (counts_in other).rescued = omega arith in
    let evicted : counts.evicted + (counts_in other).evicted + (counts_in one).evicted ≡ counts.evicted + (counts_in one).evicted + (counts_in other).evicted = omega arith in
    let busy : counts.busy + (counts_in other).busy + (counts_in one).busy ≡ counts.busy + (counts_in one).busy + (counts_in other).busy = omega arith in
    let locked : counts.locked + (counts_in other).locked + (counts_in one).locked ≡ counts.locked + (counts_in one).locked + (counts_in other).locked = omega arith in
    λ k. record { cleared = cleared k; rescued = rescued k; evicted = evicted k; busy = busy k; locked = locked k }

-- the last turn's counts are added last
pub counts_push : (turns : List Turn) (turn : Turn) → counts_of_all (turns ++ turn ∷ []) ≡ counts_with turn (counts_of_all turns)
counts_push [] turn = refl
counts_push (one ∷ turns) turn = ap (counts_with one) (counts_push turns turn) ∙ counts_commute one turn (counts_of_all turns)
