-- What every machine of a run keeps, and what it does by itself: no held chunk's words change, and no key leads to words
-- to which it didn't lead before.
use Rattle.std.proofs.Common.{◌≡◌, ℕ, ◌≤◌, List, [], length, true, false, Option, Some, None, refl, ap, sym, ◌∙◌, arith, inl, inr}
use Rattle.std.specs.Option.{option_map}
use Rattle.std.proofs.lemmas.Bool.{cases_Bool, cases_lt}
use Rattle.std.proofs.lemmas.Bool.Decides.{nat_tests}
use Rattle.std.proofs.lemmas.Option.{none-some}
use Rattle.std.proofs.lemmas.List.{get_or_past}
use Rattle.std.proofs.lemmas.List.Sums.{get_or-le-sum_by}
use Rattle.mc_classes.specs.Limits.{most_hands, most_refs}
use Rattle.mc_pages.specs.declared.ids.ChunkId.{ChunkId}
use Rattle.mc_pages.specs.ClassState.{is_chunk, times_in}
use Rattle.mc_pages.specs.SlabState.{SlabState, granted_count}
use Rattle.mc_pages.specs.InOrder.{AreSlabsInOrder}
use Rattle.mc_pages.proofs.Chunks.{same_from_is_chunk}
use Rattle.mc_pages.proofs.Owners.{count_by-AreGranted}
use Rattle.mc_serial_spec.specs.Item.{Item}
use Rattle.mc_serial_spec.specs.Items.{Items, item_in_chunk, without_item}
use Rattle.mc_serial_spec.specs.Holds.{Holds, held_by, hold_count, is_held}
use Rattle.mc_serial_spec.specs.Consistent.{place_count, IsConsistent}
use Rattle.mc_serial_spec.specs.Machine.{Machine, with_mode}
use Rattle.mc_serial_laws.specs.Answered.{HeldWords}
use Rattle.mc_serial_spec.proofs.Chunks.{places_none}
use Rattle.mc_serial_spec.proofs.Links.{some_places}
use Rattle.mc_serial_spec.proofs.KeptChanges.{place_once}
use Rattle.mc_serial_spec.proofs.Sweeps.{item_at-without_item}
use Rattle.mc_serial_laws.proofs.FoundItems.{found_before}

-- pages and chunks with the automover off: a run keeps them in order whatever its mode is, also one that there is none of
abbrev pub off : SlabState → SlabState
off slabs = with_mode slabs 0

pub record IsLawful (m : Machine) : Type 0 where
  pub kept : IsConsistent m.table (off m.slabs) m.items
  pub granted : ℕ
  pub order : AreSlabsInOrder (off m.slabs) granted
  pub workers : length m.holds ≡ most_hands
  pub within_limit : (worker : ℕ) → length (held_by m.holds worker) ≤ most_refs
  -- a chunk that a worker holds has an item
  pub stored : (worker : ℕ) (chunk : ChunkId) → 1 ≤ times_in chunk (held_by m.holds worker) → 1 ≤ place_count chunk m.items

-- a chunk's item as whoever holds it sees it
abbrev pub as_held : Item → HeldWords
as_held item = record { key = item.key; words = item.words }

abbrev pub stored_as : Items → ChunkId → Option HeldWords
stored_as items chunk = option_map as_held (item_in_chunk items chunk)

-- the machine goes on by itself: nobody's holds change, nor the items that they hold, and each linked item was there
-- before; granted pages stay granted, and the automover's mode is as before
pub record Proceeds (old new : Machine) : Type 0 where
  pub lawful : IsLawful new
  pub table : new.table ≡ old.table
  pub mode : new.slabs.automove ≡ old.slabs.automove
  pub grows : granted_count old.slabs ≤ granted_count new.slabs
  pub holds : new.holds ≡ old.holds
  pub held : (worker : ℕ) (chunk : ChunkId) → 1 ≤ times_in chunk (held_by old.holds worker)
      → item_in_chunk new.items chunk ≡ item_in_chunk old.items chunk
  pub linked : (chunk : ChunkId) (item : Item) → item_in_chunk new.items chunk ≡ Some item → item.linked ≡ true
      → (before : ChunkId) × (item_in_chunk old.items before ≡ Some item)

-- whoever holds a chunk sees there what stood there before
pub stands_on : (old new : Machine) → Proceeds old new → (worker : ℕ) (chunk : ChunkId) → 1 ≤ times_in chunk (held_by old.holds worker)
    → stored_as new.items chunk ≡ stored_as old.items chunk
stands_on old new goes worker chunk held = ap (option_map as_held) (goes.held worker chunk held)

pub proceeds_same : (m : Machine) → IsLawful m → Proceeds m m
proceeds_same m lawful = record {
  lawful = lawful;
  table = refl;
  mode = refl;
  grows = omega arith;
  holds = refl;
  held = λ worker chunk held. refl;
  linked = λ chunk item at is. (chunk, at);
}

pub proceeds_then : (a b c : Machine) → Proceeds a b → Proceeds b c → Proceeds a c
proceeds_then a b c first next = record {
  lawful = next.lawful;
  table = next.table ∙ first.table;
  mode = next.mode ∙ first.mode;
  grows = omega (arith, first.grows, next.grows);
  holds = next.holds ∙ first.holds;
  held = λ worker chunk held. next.held worker chunk (rw first.holds held) ∙ first.held worker chunk held;
  linked = λ chunk item at is.
      let here = next.linked chunk item at is in
      first.linked here.0 item here.1 is;
}

-- what stands in a chunk still does, so the chunk has an item
stored_still : (old new : Items) (chunk : ChunkId) → stored_as new chunk ≡ stored_as old chunk → 1 ≤ place_count chunk old → 1 ≤ place_count chunk new
stored_still old new chunk same there = found_new (item_in_chunk new chunk) (item_in_chunk old chunk) refl refl
  where
    found_new : (now before : Option Item) → item_in_chunk new chunk ≡ now → item_in_chunk old chunk ≡ before → 1 ≤ place_count chunk new
    found_new (Some item) before is was = some_places chunk item new is
    found_new None (Some item) is was =
        let bad : None ≡ Some (as_held item) = sym (ap (option_map as_held) is) ∙ same ∙ ap (option_map as_held) was in
        absurd (none-some (as_held item) bad)
    found_new None None is was = absurd (omega (arith, places_none chunk old was, there))

-- what is lawful after a step in which no held chunk's words change
pub lawful_from : (old new : Machine) (granted : ℕ) → IsLawful old
    → IsConsistent new.table (off new.slabs) new.items → AreSlabsInOrder (off new.slabs) granted → new.holds ≡ old.holds
    → ((worker : ℕ) (chunk : ChunkId) → 1 ≤ times_in chunk (held_by old.holds worker) → stored_as new.items chunk ≡ stored_as old.items chunk)
    → IsLawful new
lawful_from old new granted lawful kept order holds stands = record {
  kept = kept;
  granted = granted;
  order = order;
  workers = ap (λ (h : Holds). length h) holds ∙ lawful.workers;
  within_limit = λ worker. rw holds (lawful.within_limit worker);
  stored = λ worker chunk held.
      let held_before : 1 ≤ times_in chunk (held_by old.holds worker) = rw (← holds) held in
      stored_still old.items new.items chunk (stands worker chunk held_before) (lawful.stored worker chunk held_before);
}

-- a step of the machine, from its parts
pub proceeds_from : (old new : Machine) (granted : ℕ) (lawful : IsLawful old)
    → IsConsistent new.table (off new.slabs) new.items → AreSlabsInOrder (off new.slabs) granted → lawful.granted ≤ granted
    → new.table ≡ old.table → new.slabs.automove ≡ old.slabs.automove → new.holds ≡ old.holds
    → ((worker : ℕ) (chunk : ChunkId) → 1 ≤ times_in chunk (held_by old.holds worker) → item_in_chunk new.items chunk ≡ item_in_chunk old.items chunk)
    → ((chunk : ChunkId) (item : Item) → item_in_chunk new.items chunk ≡ Some item → item.linked ≡ true → (before : ChunkId) × (item_in_chunk old.items before ≡ Some item))
    → Proceeds old new
proceeds_from old new granted lawful kept order more table mode holds held linked = record {
  lawful = lawful_from old new granted lawful kept order holds (λ worker chunk holding. ap (option_map as_held) (held worker chunk holding));
  table = table;
  mode = mode;
  grows = omega (arith, more, count_by-AreGranted old.slabs.owners lawful.granted lawful.order.lowest, count_by-AreGranted new.slabs.owners granted order.lowest);
  holds = holds;
  held = held;
  linked = linked;
}

-- pages and chunks change, and no item does
pub proceeds_slabs : (m : Machine) (slabs : SlabState) (granted : ℕ) (lawful : IsLawful m)
    → IsConsistent m.table (off slabs) m.items → AreSlabsInOrder (off slabs) granted → lawful.granted ≤ granted → slabs.automove ≡ m.slabs.automove
    → Proceeds m (record m { slabs = slabs })
proceeds_slabs m slabs granted lawful kept order more mode =
    proceeds_from m (record m { slabs = slabs }) granted lawful kept order more refl mode refl (λ worker chunk held. refl)
    (λ chunk item at is. (chunk, at))

-- a chunk that nobody holds is in no worker's list
pub not_held : (holds : Holds) (chunk c : ChunkId) (worker : ℕ) → is_held holds chunk ≡ false → 1 ≤ times_in c (held_by holds worker) → is_chunk chunk c ≡ false
not_held holds chunk c worker free held = elim (cases_Bool (is_chunk chunk c)) [
  | inr other ↦ other
  | inl same ↦
      let one : chunk ≡ c = same_from_is_chunk chunk c same in
      let none : hold_count holds chunk ≡ 0 = grind (arith, nat_tests) in
      let here : 1 ≤ times_in chunk (held_by holds worker) = rw one held in
      elim (cases_lt worker (length holds)) [
        | inl inside ↦ absurd (omega (arith, here, none, get_or-le-sum_by (times_in chunk) holds worker [] inside))
        | inr past ↦ absurd (omega (arith, here, ap (λ (cs : List ChunkId). times_in chunk cs) (get_or_past holds worker [] past)))
      ]
]

-- the item of a chunk that nobody holds is gone
pub proceeds_without : (m : Machine) (slabs : SlabState) (chunk : ChunkId) (item : Item) (lawful : IsLawful m)
    → item_in_chunk m.items chunk ≡ Some item → is_held m.holds chunk ≡ false → IsConsistent m.table (off slabs) (without_item m.items chunk) → AreSlabsInOrder (off slabs) lawful.granted
    → slabs.automove ≡ m.slabs.automove → Proceeds m (record m { slabs = slabs; items = without_item m.items chunk })
proceeds_without m slabs chunk item lawful there free kept order mode =
    proceeds_from m (record m { slabs = slabs; items = without_item m.items chunk }) lawful.granted lawful kept order (omega arith) refl mode refl
    (λ worker c held. item_at-without_item m.items chunk c (not_held m.holds chunk c worker free held))
    (λ c found at is. (c, found_before m.items chunk item c found there (place_once m.table (off m.slabs) m.items chunk lawful.kept) at))
