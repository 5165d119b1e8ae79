-- What a push that succeeds leaves, and what two equal values hold.
use Rattle.std.proofs.Common.{◌≡◌, Result, Ok, is_ok, if◌then◌else◌, ap, subst}
use Rattle.mc_pages.specs.declared.slabs.Slabs.TheInside.{Inside}
use Rattle.mc_pages.specs.SlabState.{SlabState, SlabValue}
use Rattle.mc_pages.specs.Accounted.{IsAccounted}
use Rattle.mc_pages.specs.InOrder.{IsStoredInOrder, callers_slabs}

-- what a push that succeeds leaves
pub if_ok : {A E : Type 0} (result : Result (Unit {0}) E) (done undone : A) (u : Unit {0}) → result ≡ Ok u → (if is_ok result then done else undone) ≡ done
if_ok result done undone u h = ap (λ r. if is_ok r then done else undone) h

-- equal values hold the same
pub same_state : {a b : SlabValue} → a ≡ b → a.state ≡ b.state
same_state h = ap (λ (value : SlabValue). value.state) h

-- what callers see is accounted for
pub accounted_there : {value : SlabValue} (slabs : Inside) → callers_slabs slabs ≡ value → IsStoredInOrder slabs → IsAccounted value.state
accounted_there slabs seen kept = subst (λ (s : SlabState). IsAccounted s) (same_state seen) kept.order.accounted
