use Rattle.std.proofs.Common.{◌≡◌, ℕ, List, [], ◌∷◌, length, Result, Ok, Err, IsErr, OnErr, OnOk, refl, arith}
use Rattle.mc_words.specs.hand.Arenas.{view}
use Rattle.mc_words.specs.hand.View.{View}
use Rattle.mc_words.specs.lock.Wait.{MissesSlabs, MissesSlabsEachTime}
use Rattle.mc_mover.specs.Within.{HoldsSlabsWithin}
use Rattle.example_calls.proofs.moves_within.set_mode_untried.Goals as goal

-- no lock is taken at one of no tries
untaken : {T E : Type 0} (result : Result T E) (before now : View) → OnOk result (HoldsSlabsWithin 0 before now) → IsErr result
untaken (Ok value) before now within = let limit = within.within_limit in absurd (omega (arith, limit))
untaken (Err error) before now within = refl

-- no tries leave the hand as it was
unlooked : (words : List ℕ) (before now : View) → length words ≡ 0 → MissesSlabs words before now → now ≡ before
unlooked [] before now none is = is
unlooked (word ∷ words) before now none misses = absurd (omega (arith, none))

untouched : {T E : Type 0} (result : Result T E) (before now : View) → IsErr result → OnErr result (MissesSlabsEachTime 0 before now) → now ≡ before
untouched (Ok value) before now is missed = absurd (cc)
untouched (Err error) before now is missed = unlooked missed.words before now missed.count missed.misses

pub returns-clause-held : goal.returns-clause-held
returns-clause-held c = untaken c.set_mode_within.result (view c.args.hand.now) (view c.set_mode_within.new.hand) c.set_mode_within.ensures.within

pub returns-clause-untouched : goal.returns-clause-untouched
returns-clause-untouched c = untouched c.set_mode_within.result (view c.args.hand.now) (view c.set_mode_within.new.hand) (returns-clause-held c) c.set_mode_within.ensures.missed
