-- The table of an arena in which nothing was done yet.
use Rattle.std.specs.Prelude.{ℕ, ◌-◌, ◌*◌, List, ◌∷◌, ◌++◌, replicate}
use Rattle.mc_pages.specs.SlabState.{fresh_slabs}
use Rattle.mc_stripe.specs.StripeState.{new_stripe}
use Rattle.mc_words.specs.declared.lock.slot.Slot.{Slot}
use Rattle.mc_words.specs.declared.lock.slot.Slot.TheVariants.{Empty, OfSlabs, OfStripe}
use Rattle.mc_words.specs.hand.View.{Setup, View, new_view}
use Rattle.mc_words.specs.rule.Layout.{spread, heads_from, head_count, data_count, config_words}
use Rattle.mc_words.specs.lock.Slots.{slots_between}

-- all locks are free, no page has a class, each header is out with the first issue number, and all data words are 0
abbrev pub first_words : Setup → List ℕ
first_words setup = replicate (heads_from setup) 0 ++ (replicate (head_count setup) (setup.start * 262144) ++ (replicate (data_count setup) 0 ++ config_words setup.config))

-- the values at home: untouched pages, and stripes without keys; and no value between them
abbrev pub first_slots : Setup → List Slot
first_slots setup = spread slots_between Empty (OfSlabs (fresh_slabs setup.table) ∷ replicate setup.config.stripes (OfStripe new_stripe))

-- the first hand, which makes all others
abbrev pub first_view : Setup → View
first_view setup = new_view setup 0 (setup.hands - 1)

-- the hand that makes another, and may make one less from then on
abbrev pub one_made : View → View
one_made view = record view { spare = view.spare - 1 }

-- the view of the hand that is made next: it did nothing yet, may make no other, and its number is how many hands there were
abbrev pub next_view : View → View
next_view view = new_view view.setup (view.setup.hands - view.spare) 0
