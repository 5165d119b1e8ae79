-- Turns of the mover: chunk after chunk and turn after turn, and how much they count at most.
use Rattle.std.proofs.Common.{◌≡◌, ℕ, ◌+◌, ◌-◌, ◌<◌, ◌≤◌, zero, suc, Bool, true, false, Option, Some, None, refl, ap, sym, ◌∙◌, arith, add-one, zero-add}
use Rattle.std.specs.Prelude.{nat_lt, if◌then◌else◌}
use Rattle.std.proofs.lemmas.Bool.Decides.{nat_tests}
use Rattle.mc_pages.specs.declared.ids.Moving.{Moving}
use Rattle.mc_pages.specs.declared.moves.Found.{Found}
use Rattle.mc_pages.specs.declared.moves.Found.TheVariants.{Cleared, Rescued, Evicted, Busy, Locked, Already}
use Rattle.mc_pages.specs.Moves.{chunk_at_position}
use Rattle.mc_serial_spec.specs.declared.turn.Counts.{Counts}
use Rattle.mc_serial_spec.specs.Machine.{Machine}
use Rattle.mc_serial_spec.specs.Mover.{AreAtMost, MoverCount, TurnsOfMover, MoverLook, is_at_end, is_went, looked_at, turns_after_one, turns_from, with_chunk, with_chunks, with_count, with_end, with_looked}

-- the next chunk is looked at
abbrev pub next_chunk : MoverCount → MoverCount
next_chunk c = with_chunk c c.machine.slabs.moving

-- one more chunk is looked at last
chunks_suc : (count : ℕ) (c : MoverCount) → with_chunks (suc count) c ≡ next_chunk (with_chunks count c)
chunks_suc zero c = refl
chunks_suc (suc count) c = chunks_suc count (next_chunk c)

pub chunks_more : (count : ℕ) (c now next : MoverCount) → now ≡ with_chunks count c → next_chunk now ≡ next → next ≡ with_chunks (count + 1) c
chunks_more count c now next so_far one =
    sym one ∙ ap next_chunk so_far ∙ sym (chunks_suc count c) ∙ ap (λ n. with_chunks n c) (sym (add-one count))

-- where the next one changes nothing, none of those behind it does
still : (count : ℕ) (c : MoverCount) → next_chunk c ≡ c → with_chunks count c ≡ c
still zero c same = refl
still (suc count) c same = ap (with_chunks count) same ∙ still count c same

-- some chunks are looked at, and then the others
chunks_then : (done left : ℕ) (c : MoverCount) → with_chunks (done + left) c ≡ with_chunks left (with_chunks done c)
chunks_then zero left c = ap (λ n. with_chunks n c) (zero-add left)
chunks_then (suc done) left c =
    let next : suc done + left ≡ suc (done + left) = omega arith in
    ap (λ n. with_chunks n c) next ∙ chunks_then done left (next_chunk c)

-- so a turn may stop there
pub chunks_done : (count done : ℕ) (c now : MoverCount) → done ≤ count → now ≡ with_chunks done c → next_chunk now ≡ now → with_chunks count c ≡ now
chunks_done count done c now within so_far same =
    let split : count ≡ done + (count - done) = omega (arith, within) in
    ap (λ n. with_chunks n c) split ∙ chunks_then done (count - done) c ∙ ap (with_chunks (count - done)) (sym so_far) ∙ still (count - done) now same

-- counts that are at most so many are at most more
pub at_most_more : (within_limit at_limit : ℕ) (counts : Counts) → AreAtMost within_limit counts → within_limit ≤ at_limit → AreAtMost at_limit counts
at_most_more within_limit at_limit counts most more = record {
  cleared = omega (arith, most.cleared);
  rescued = omega (arith, most.rescued);
  evicted = omega (arith, most.evicted);
  busy = omega (arith, most.busy);
  locked = omega (arith, most.locked);
}

-- one chunk counts once
most_count : (n : ℕ) (counts : Counts) (found : Found) → AreAtMost n counts → AreAtMost (n + 1) (with_count counts found)
most_count n counts Cleared most = record { cleared = omega (arith, most.cleared); rescued = omega (arith, most.rescued); evicted = omega (arith, most.evicted); busy = omega (arith, most.busy); locked = omega (arith, most.locked) }
most_count n counts Rescued most = record { cleared = omega (arith, most.cleared); rescued = omega (arith, most.rescued); evicted = omega (arith, most.evicted); busy = omega (arith, most.busy); locked = omega (arith, most.locked) }
most_count n counts Evicted most = record { cleared = omega (arith, most.cleared); rescued = omega (arith, most.rescued); evicted = omega (arith, most.evicted); busy = omega (arith, most.busy); locked = omega (arith, most.locked) }
most_count n counts Busy most = record { cleared = omega (arith, most.cleared); rescued = omega (arith, most.rescued); evicted = omega (arith, most.evicted); busy = omega (arith, most.busy); locked = omega (arith, most.locked) }
most_count n counts Locked most = record { cleared = omega (arith, most.cleared); rescued = omega (arith, most.rescued); evicted = omega (arith, most.evicted); busy = omega (arith, most.busy); locked = omega (arith, most.locked) }
most_count n counts Already most = at_most_more n (n + 1) counts most (omega arith)

most_looked : (b : Bool) (n : ℕ) (c : MoverCount) (looked : MoverLook) → AreAtMost n c.counts → AreAtMost (n + 1) (if b then c else with_looked c.counts looked).counts
most_looked true n c looked most = at_most_more n (n + 1) c.counts most (omega arith)
most_looked false n c looked most = most_count n c.counts looked.found most

most_chunk : (n : ℕ) (c : MoverCount) (moving : Option Moving) → AreAtMost n c.counts → AreAtMost (n + 1) (with_chunk c moving).counts
most_chunk n c None most = at_most_more n (n + 1) c.counts most (omega arith)
most_chunk n c (Some move) most = most_looked (is_at_end c.machine move) n c (looked_at c.machine move.src (chunk_at_position move)) most

-- so many chunks count at most so often
pub most_chunks : (count n : ℕ) (c : MoverCount) → AreAtMost n c.counts → AreAtMost (n + count) (with_chunks count c).counts
most_chunks zero n c most = at_most_more n (n + 0) c.counts most (omega arith)
most_chunks (suc count) n c most =
    at_most_more (n + 1 + count) (n + suc count) (with_chunks (suc count) c).counts
    (most_chunks count (n + 1) (next_chunk c) (most_chunk n c c.machine.slabs.moving most)) (omega arith)

-- the end of a turn counts nothing
end_ways : (b d : Bool) (m : Machine) (went wrapped finished : TurnsOfMover) (counts : Counts) → went.counts ≡ counts → wrapped.counts ≡ counts → finished.counts ≡ counts
    → (if b then went else if d then wrapped else finished).counts ≡ counts
end_ways true d m went wrapped finished counts a b c = a
end_ways false true m went wrapped finished counts a b c = b
end_ways false false m went wrapped finished counts a b c = c

counts-end : (c : MoverCount) (moving : Option Moving) → (with_end c moving).counts ≡ c.counts
counts-end c None = refl
counts-end c (Some move) = end_ways _ (nat_lt 0 move.busy) c.machine _ _ _ c.counts refl refl refl

pub most_turned : (m : Machine) (counts : Counts) (n : ℕ) → m.bulk ≤ 256 → AreAtMost n counts → AreAtMost (n + 256) (turns_after_one m counts).counts
most_turned m counts n within_limit most =
    let c : MoverCount = with_chunks m.bulk (record { machine = record m { turns = m.turns + 1 }; counts = counts }) in
    let looked : AreAtMost (n + m.bulk) c.counts = most_chunks m.bulk n (record { machine = record m { turns = m.turns + 1 }; counts = counts }) most in
    rw (counts-end c c.machine.slabs.moving) (at_most_more (n + m.bulk) (n + 256) c.counts looked (omega (arith, within_limit)))

-- the turns that are left, one of them done
left_suc : (count done : ℕ) → done < count → count - done ≡ suc (count - (done + 1))
left_suc count done more = omega (arith, more)

-- no turns are left to the run
pub turns_out : (count done : ℕ) (t : TurnsOfMover) (all : Option TurnsOfMover) → done < count → 1000000 ≤ t.machine.turns
    → turns_from (count - done) t ≡ all → all ≡ None
turns_out count done t all more out rest =
    let none : nat_lt t.machine.turns 1000000 ≡ false = grind (arith, nat_tests) in
    sym rest ∙ ap (λ n. turns_from n t) (left_suc count done more) ∙ rw none refl

-- one turn is done, and the run goes on
pub turns_on : (count done : ℕ) (t next : TurnsOfMover) (all : Option TurnsOfMover) → done < count → t.machine.turns < 1000000
    → turns_after_one t.machine t.counts ≡ next → is_went next.ending ≡ true → turns_from (count - done) t ≡ all → turns_from (count - (done + 1)) next ≡ all
turns_on count done t next all more left one went rest =
    let some : nat_lt t.machine.turns 1000000 ≡ true = grind (arith, nat_tests) in
    sym (ap (λ n. turns_from n t) (left_suc count done more) ∙ rw (some, one, went) refl) ∙ rest

-- or stops there
pub turns_end : (count done : ℕ) (t next : TurnsOfMover) (all : Option TurnsOfMover) → done < count → t.machine.turns < 1000000
    → turns_after_one t.machine t.counts ≡ next → is_went next.ending ≡ false → turns_from (count - done) t ≡ all → all ≡ Some next
turns_end count done t next all more left one ended rest =
    let some : nat_lt t.machine.turns 1000000 ≡ true = grind (arith, nat_tests) in
    sym rest ∙ ap (λ n. turns_from n t) (left_suc count done more) ∙ rw (some, one, ended) refl

-- what so many chunks counted
pub counts_now : (count n : ℕ) (c now : MoverCount) → now ≡ with_chunks count c → AreAtMost n c.counts → AreAtMost (n + count) now.counts
counts_now count n c now so_far most = rw so_far (most_chunks count n c most)
