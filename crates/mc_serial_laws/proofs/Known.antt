-- What the answers show of a machine: a key that was seen has an item, and what a worker holds of it is that item.
use Rattle.std.proofs.Common.{◌≡◌, ℕ, ◌+◌, ◌≤◌, List, ◌∷◌, [], Bool, true, false, Some, refl, ap, sym, ◌∙◌, arith, inl, inr, ◌⊎◌}
use Rattle.std.specs.Prelude.{◌==◌, ◌&&◌, ◌||◌, not}
use Rattle.std.specs.BTreeMap.{is_at}
use Rattle.std.proofs.lemmas.Bool.{and_parts, false≢true}
use Rattle.std.proofs.lemmas.Bool.Decides.{nat_tests}
use Rattle.mc_pages.specs.declared.ids.ChunkId.{ChunkId}
use Rattle.mc_pages.specs.ClassState.{times_in}
use Rattle.mc_serial_spec.specs.Item.{Item, is_linked_to}
use Rattle.mc_serial_spec.specs.Items.{Items, chunk_cmp, item_in_chunk, linked_chunk}
use Rattle.mc_serial_spec.specs.Holds.{held_by}
use Rattle.mc_serial_spec.specs.Consistent.{links_of_key}
use Rattle.mc_serial_spec.specs.Machine.{Machine}
use Rattle.mc_pages.proofs.Chunks.{same_from_is_chunk}
use Rattle.mc_serial_laws.specs.Answered.{AnsweredCommand}
use Rattle.mc_serial_laws.specs.Stays.{holds_now, is_seen, may_take, is_item_shown}
use Rattle.mc_serial_laws.proofs.Lawful.{Proceeds}
use Rattle.mc_serial_laws.proofs.Spares.{Spares}

-- the key leads to an item
pub record HasItem (items : Items) (key : ℕ) : Type 0 where
  pub chunk : ChunkId
  pub item : Item
  pub there : item_in_chunk items chunk ≡ Some item
  pub linked : is_linked_to key item ≡ true

-- the worker holds it so many times at least
pub record HoldsItem (m : Machine) (worker key count : ℕ) : Type 0 where
  pub has : HasItem m.items key
  pub at_limit : count ≤ times_in has.chunk (held_by m.holds worker)

pub record AreKnown (m : Machine) (answers : List AnsweredCommand) : Type 0 where
  pub seen : (key : ℕ) → is_seen key answers ≡ true → HasItem m.items key
  pub held : (worker key : ℕ) → 1 ≤ holds_now worker key answers → HoldsItem m worker key (holds_now worker key answers)

-- a linked item counts among those of its key
one_linked : (c : ChunkId) (item : Item) (key : ℕ) (items : Items) → item_in_chunk items c ≡ Some item → is_linked_to key item ≡ true → 1 ≤ links_of_key key items
one_linked c item key [] at linked = cc
one_linked c item key (e ∷ items) at linked = grind (arith, nat_tests, one_linked c item key items)

-- where the key leads to one item alone, it leads to this one's chunk
pub leads_there : (c : ChunkId) (item : Item) (key : ℕ) (items : Items) → item_in_chunk items c ≡ Some item → is_linked_to key item ≡ true → links_of_key key items ≤ 1
    → linked_chunk items key ≡ Some c
leads_there c item key [] at linked one = cc
leads_there c item key (e ∷ items) at linked one =
    leads_step (is_at (chunk_cmp c) e.chunk) (is_linked_to key e.item) refl refl (leads_there c item key items)
  where
    leads_step : (b d : Bool) → is_at (chunk_cmp c) e.chunk ≡ b → is_linked_to key e.item ≡ d
        → (item_in_chunk items c ≡ Some item → is_linked_to key item ≡ true → links_of_key key items ≤ 1 → linked_chunk items key ≡ Some c)
        → linked_chunk (e ∷ items) key ≡ Some c
    leads_step true true is to more =
        let same : c ≡ e.chunk = same_from_is_chunk c e.chunk (grind (arith, nat_tests)) in
        rw to (ap (λ (x : ChunkId). Some x) (sym same))
    leads_step true false is to more =
        let first : Some e.item ≡ Some item = rw is at at in
        let bad : is_linked_to key e.item ≡ true = grind (arith, linked, first) in
        absurd (false≢true (sym to ∙ bad))
    leads_step false true is to more =
        let below : item_in_chunk items c ≡ Some item = rw is at at in
        let count : 1 ≤ links_of_key key items = one_linked c item key items below linked in
        let here : 1 + links_of_key key items ≤ 1 = rw to at one in
        absurd (omega (arith, here, count))
    leads_step false false is to more =
        let below : item_in_chunk items c ≡ Some item = rw is at at in
        let fewer : links_of_key key items ≤ 1 = omega (arith, one) in
        rw to (more below linked fewer)

-- a key is seen by the last answer, or it was before and nothing took it away
pub seen_either : (s t p : Bool) → (s || (not t && p)) ≡ true → (s ≡ true) ⊎ ((t ≡ false) × (p ≡ true))
seen_either true t p is = inl refl
seen_either false false p is = inr (refl, is)
seen_either false true p is = absurd (false≢true is)

-- the machine went on
pub has_still : (old new : Machine) (key : ℕ) → Spares old new → HasItem old.items key → HasItem new.items key
has_still old new key spares has =
    let tests = and_parts has.item.linked (has.item.key == key) has.linked in
    let after = spares.kept has.chunk has.item has.there tests.0 in
    record { chunk = after.0; item = has.item; there = after.1; linked = has.linked }

pub holds_still : (old new : Machine) (worker key count : ℕ) → Proceeds old new → 1 ≤ count → HoldsItem old worker key count → HoldsItem new worker key count
holds_still old new worker key count goes some holds = record {
  has = record {
    chunk = holds.has.chunk;
    item = holds.has.item;
    there = goes.held worker holds.has.chunk (omega (arith, some, holds.at_limit)) ∙ holds.has.there;
    linked = holds.has.linked;
  };
  at_limit = rw goes.holds holds.at_limit;
}

-- the machine went on, took nothing away, and each hold is as it was
pub known_on : (m new : Machine) (answers : List AnsweredCommand) (answered : AnsweredCommand) → AreKnown m answers → Proceeds m new → Spares m new
    → ((key : ℕ) → is_item_shown key answered.command answered.reply ≡ true → HasItem new.items key)
    → ((worker key : ℕ) → holds_now worker key (answered ∷ answers) ≡ holds_now worker key answers)
    → AreKnown new (answered ∷ answers)
known_on m new answers answered known goes spares shown same = record {
  seen = λ key is. elim (seen_either (is_item_shown key answered.command answered.reply) (may_take key answered.command answered.reply) (is_seen key answers) is) [
    | inl here ↦ shown key here
    | inr before ↦ has_still m new key spares (known.seen key before.1)
  ];
  held = λ worker key some.
      let some_before : 1 ≤ holds_now worker key answers = rw (← same worker key) some in
      rw (same worker key) (holds_still m new worker key (holds_now worker key answers) goes some_before (known.held worker key some_before));
}

-- the machine went on, and may have taken away whatever nobody holds
pub known_after : (m new : Machine) (answers : List AnsweredCommand) (answered : AnsweredCommand) → AreKnown m answers → Proceeds m new
    → ((key : ℕ) → is_seen key (answered ∷ answers) ≡ true → HasItem new.items key)
    → ((worker key : ℕ) → holds_now worker key (answered ∷ answers) ≡ holds_now worker key answers)
    → AreKnown new (answered ∷ answers)
known_after m new answers answered known goes seen same = record {
  seen = seen;
  held = λ worker key some.
      let some_before : 1 ≤ holds_now worker key answers = rw (← same worker key) some in
      rw (same worker key) (holds_still m new worker key (holds_now worker key answers) goes some_before (known.held worker key some_before));
}
