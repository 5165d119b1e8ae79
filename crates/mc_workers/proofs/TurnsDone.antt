-- The turns of a line, one after another.
use Rattle.std.proofs.Common.{◌≡◌, ℕ, ◌+◌, ◌*◌, ◌<◌, ◌≤◌, List, [], ◌∷◌, ◌++◌, length, Some, All, refl, sym, ap, subst, ◌∙◌, arith}
use Rattle.std.proofs.lemmas.List.{length-append}
use Rattle.std.proofs.lemmas.List.Elements.{All-nil, All-pop, All-push}
use Rattle.mc_words.specs.declared.hand.Hand.{Hand}
use Rattle.mc_mover.specs.declared.counts.Turn.{Turn}
use Rattle.mc_mover.specs.Acting.{ActsOnceByNumber, RecordsTurn}
use Rattle.mc_mover.specs.Turning.{Turns}
use Rattle.mc_serial_spec.specs.declared.turn.Counts.{Counts}
use Rattle.mc_serial_spec.specs.declared.turn.Ending.{Ending}
use Rattle.mc_serial_spec.specs.declared.turn.Ending.TheVariants.{Went}
use Rattle.mc_serial_spec.specs.Mover.{AreAtMost, zero_counts}
use Rattle.mc_workers.specs.declared.mover.Mover.{Mover}
use Rattle.mc_workers.specs.Moving.{DoesTurnsInRun, RunsOutOfTurns, TurnsEach, WentOn, counts_of_all, counts_with, ending_of}
use Rattle.mc_workers.proofs.TurnCounts.{counts_push, more_counts, turn_few}

-- a turn was done, which told its evictions and rescues
abbrev pub DoesTurn : Turn → Hand → Hand → Type 0
DoesTurn turn before now = ActsOnceByNumber (λ number. Turns number turn) before now × RecordsTurn before now turn

-- one turn more
each_more : (turns : List Turn) (turn : Turn) (before between now : Hand) → TurnsEach turns before between → DoesTurn turn between now → TurnsEach (turns ++ turn ∷ []) before now
each_more [] turn before between now same (acts, tells) = subst (λ (h : Hand). TurnsEach (turn ∷ []) h now) same (now, acts, tells, refl)
each_more (one ∷ turns) turn before between now (next, acts, tells, rest) does = (next, acts, tells, each_more turns turn next between now rest does)

-- so many turns of a line were done, and each went on
pub record HaveGone (count : ℕ) (counts : Counts) (mover : Mover) (before : Hand) (left : Mover) (now : Hand) : Type 0 where
  pub turns : List Turn
  pub count_is : length turns ≡ count
  pub went : All WentOn turns
  pub does : TurnsEach turns before now
  pub sums : counts ≡ counts_of_all turns
  pub begun : left ≡ record mover { turns = mover.turns + count }
  pub within_limit : 1 ≤ count → left.turns ≤ 1000000
  pub most : AreAtMost (256 * count) counts

-- at first
pub gone_none : (counts : Counts) (mover : Mover) (hand : Hand) → counts ≡ zero_counts → HaveGone 0 counts mover hand mover hand
gone_none counts mover hand none = record {
  turns = [];
  count_is = refl;
  went = All-nil WentOn;
  does = refl;
  sums = none;
  begun = let none_more : mover.turns ≡ mover.turns + 0 = omega arith in λ k. record mover { turns = none_more k };
  within_limit = λ some. absurd (omega (arith, some));
  most = subst (AreAtMost 0) (sym none) (record { cleared = omega arith; rescued = omega arith; evicted = omega arith; busy = omega arith; locked = omega arith });
}

-- a list that isn't empty has a last entry
last_of : (first : Turn) (turns : List Turn) → (earlier : List Turn) × (last : Turn) × (first ∷ turns ≡ earlier ++ last ∷ [])
last_of first [] = ([], first, refl)
last_of first (next ∷ turns) = let (earlier, last, all) = last_of next turns in (first ∷ earlier, last, ap (λ (ts : List Turn). first ∷ ts) all)

-- all that were asked for went on
pub gone_all : (asked count : ℕ) (ending : Ending) (counts : Counts) (mover : Mover) (before : Hand) (left : Mover) (now : Hand) → HaveGone count counts mover before left now → count ≡ asked → 1 ≤ count → ending ≡ Went
    → DoesTurnsInRun asked ending counts mover before left now
gone_all asked count ending counts mover before left now gone all some went = by gone.turns gone.count_is gone.went gone.does gone.sums
  where
    by : (turns : List Turn) → length turns ≡ count → All WentOn turns → TurnsEach turns before now → counts ≡ counts_of_all turns → DoesTurnsInRun asked ending counts mover before left now
    by [] none each does sums = absurd (omega (arith, none))
    by (first ∷ turns) count_is each does sums =
        let (earlier, last, is) = last_of first turns in
        let both = All-pop WentOn (first ∷ turns) earlier (Some last) is each in record {
          turns = first ∷ turns;
          are = record {
            earlier = earlier;
            last = last;
            all = is;
            went = both.0;
            ends = went ∙ sym both.1;
            most = omega (arith, count_is);
            enough = λ on. count_is ∙ all;
          };
          does = does;
          sums = sums;
          begun = gone.begun ∙ ap (λ (n : ℕ). record mover { turns = mover.turns + n }) (sym count_is);
          within_limit = gone.within_limit some;
        }

-- the run has no turns left for one more that was asked for
pub gone_out : (asked count : ℕ) (counts : Counts) (mover : Mover) (before : Hand) (left : Mover) (now : Hand) → HaveGone count counts mover before left now → count < asked → 1000000 ≤ left.turns → RunsOutOfTurns asked mover before left now
gone_out asked count counts mover before left now gone within spent = record {
  turns = gone.turns;
  went = gone.went;
  fewer = let is = gone.count_is in omega arith;
  does = gone.does;
  begun = gone.begun ∙ ap (λ (n : ℕ). record mover { turns = mover.turns + n }) (sym gone.count_is);
  spent = spent;
}

-- one turn more was begun, and done
module _ (asked count : ℕ) (counts more : Counts) (turn : Turn) (mover : Mover) (before : Hand) (between : Mover) (hand : Hand) (left : Mover) (now : Hand)
    (gone : HaveGone count counts mover before between hand) (below : between.turns < 1000000) (begun : left ≡ record between { turns = between.turns + 1 })
    (does : DoesTurn turn hand now) (added : more ≡ counts_with turn counts) where
  left_is : left ≡ record mover { turns = mover.turns + (count + 1) }
  left_is =
      let turns : between.turns ≡ mover.turns + count = ap (λ (m : Mover). m.turns) gone.begun in
      let sum : between.turns + 1 ≡ mover.turns + (count + 1) = omega arith in
      begun ∙ (λ k. record (gone.begun k) { turns = sum k })

  left_few : left.turns ≤ 1000000
  left_few = let one : left.turns ≡ between.turns + 1 = ap (λ (m : Mover). m.turns) begun in omega arith

  length_is : length (gone.turns ++ turn ∷ []) ≡ count + 1
  length_is = length-append gone.turns (turn ∷ []) ∙ ap (λ n. n + 1) gone.count_is

  sums_are : more ≡ counts_of_all (gone.turns ++ turn ∷ [])
  sums_are = added ∙ (ap (counts_with turn) gone.sums ∙ sym (counts_push gone.turns turn))

  -- it went on
  pub gone_more : WentOn turn → HaveGone (count + 1) more mover before left now
  gone_more on = record {
    turns = gone.turns ++ turn ∷ [];
    count_is = length_is;
    went = All-push WentOn gone.turns turn gone.went on;
    does = each_more gone.turns turn before hand now gone.does does;
    sums = sums_are;
    begun = left_is;
    within_limit = λ some. left_few;
    most = subst (λ (n : ℕ). AreAtMost n more) (omega arith) (subst (AreAtMost (256 * count + 256)) (sym added) (more_counts (256 * count) turn counts gone.most (turn_few hand.number turn hand.seat.me.0 now.seat.me.0 does.0)));
  }

  -- or it was the last
  pub gone_last : count < asked → (WentOn turn → ⊥) → DoesTurnsInRun asked (ending_of turn) more mover before left now
  gone_last within ended = record {
    turns = gone.turns ++ turn ∷ [];
    are = record {
      earlier = gone.turns;
      last = turn;
      all = refl;
      went = gone.went;
      ends = refl;
      most = let long = length_is in omega arith;
      enough = λ on. absurd (ended on);
    };
    does = each_more gone.turns turn before hand now gone.does does;
    sums = sums_are;
    begun = left_is ∙ ap (λ (n : ℕ). record mover { turns = mover.turns + n }) (sym length_is);
    within_limit = left_few;
  }
