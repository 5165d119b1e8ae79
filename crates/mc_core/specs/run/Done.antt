-- A deed that is done where it is allowed, and not done where it isn't.
use Rattle.std.specs.Prelude.{◌≡◌, Bool, true}
use Rattle.mc_core.specs.model.State.{State}

-- the answer is whether the deed is allowed, and where it is allowed, the new state is the state after the deed
pub record IsResultOf (allowed : Bool) (after new : State) (told : Bool) : Type 0 where
  pub answer : told ≡ allowed
  pub left : allowed ≡ true → new ≡ after
