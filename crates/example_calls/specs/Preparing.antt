-- What a hand does before it hands the first chunk out: issue numbers stay as they are.
use Rattle.std.specs.Prelude.{ℕ, ◌+◌, Bool, true, false}
use Rattle.std.specs.List.{list_all}
use Rattle.mc_core.specs.declared.event.Step.{Step}
use Rattle.mc_core.specs.declared.event.Step.TheVariants.{TakeSlabs, MissSlabs, GiveSlabs, Cut}
use Rattle.mc_core.specs.declared.event.Step.TheVariants as step
use Rattle.mc_core.specs.declared.head.Head.{Head}
use Rattle.mc_core.specs.declared.head.Tag.TheVariants.{Unlinked}
use Rattle.mc_words.specs.hand.View.{OwnEvent, View, made, joined}

-- the slabs lock is taken, looked at or given, a header is looked at, or a chunk is cut
abbrev pub is_preparing : Step → Bool
is_preparing TakeSlabs = true
is_preparing MissSlabs = true
is_preparing GiveSlabs = true
is_preparing (step.Head chunk) = true
is_preparing (Cut page index) = true
is_preparing other = false

-- the event of the hand is one of those that come before the first chunk is handed out, whatever pages and lists it changed before
abbrev pub is_prepare_event : OwnEvent → Bool
is_prepare_event (made before step) = is_preparing step
is_prepare_event joined = false

-- each event of the hand is one of those that come before the first chunk is handed out
abbrev pub has_prepared : View → Bool
has_prepared view = list_all is_prepare_event view.events

-- the header of a chunk that is out for the first time, and held once, where issue numbers count on from this one
abbrev pub first_out : ℕ → Head
first_out start = record { issue = start + 1; tag = Unlinked; count = 1 }
