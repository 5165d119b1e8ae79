-- The calls of a stripe, of which the newest are recorded, or none is.
use Rattle.std.specs.Prelude.{ℕ, ◌<◌, List, [], length, drop, take, Option, IfSome}
use Rattle.std.specs.Option.{option_map, option_map_or}
use Rattle.mc_stripe.specs.declared.history.Call.{Call}
use Rattle.mc_stripe.specs.History.{Stamps, stamps_after_calls}

-- all calls of a stripe, which of them are recorded, and the room to record more
pub record Calls : Type 0 where
  -- all calls that there were, the oldest first
  pub all : List Call
  -- the place of the first call that is recorded, none where no call is
  pub recorded_from : Option ℕ
  -- room to record n more calls
  pub room : ℕ

-- where calls are recorded, there is room to record one more
abbrev pub CanRecord : Calls → Type 0
CanRecord calls = IfSome calls.recorded_from (λ from. 0 < calls.room)

-- how many of the calls aren't recorded
abbrev pub count_trimmed : List Call → Option ℕ → ℕ
count_trimmed all recorded_from = option_map_or (λ from. from) recorded_from (length all)

-- the calls that are recorded
abbrev pub recorded_calls : List Call → Option ℕ → List Call
recorded_calls all recorded_from = drop (count_trimmed all recorded_from) all

-- the stamps that the calls leave which aren't recorded
abbrev pub left_by_trimmed : List Call → Option ℕ → Stamps
left_by_trimmed all recorded_from = option_map_or (λ stamps. stamps) (stamps_after_calls [] (take (count_trimmed all recorded_from) all)) []

-- where calls are recorded, those are recorded that come behind the first n
abbrev pub recorded_behind : Option ℕ → ℕ → Option ℕ
recorded_behind recorded_from count = option_map (λ from. count) recorded_from
