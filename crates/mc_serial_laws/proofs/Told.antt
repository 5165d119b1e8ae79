-- What a machine has told so far: its linked items have the words stored last, and the held chunks the words of the holds.
use Rattle.std.proofs.Common.{◌≡◌, ℕ, ◌≤◌, List, ◌∷◌, true, false, cond, Some, None, ap, sym, ◌∙◌, arith, inl, inr, ◌⊎◌}
use Rattle.std.specs.Prelude.{◌==◌}
use Rattle.std.specs.Option.{option_map}
use Rattle.std.specs.BTreeMap.{is_at}
use Rattle.std.proofs.lemmas.Bool.{and_parts}
use Rattle.std.proofs.lemmas.Bool.Decides.{nat_tests}
use Rattle.std.proofs.lemmas.Option.{same_Some}
use Rattle.mc_pages.specs.declared.ids.ChunkId.{ChunkId}
use Rattle.mc_pages.specs.ClassState.{first_free, times_in}
use Rattle.mc_pages.specs.SlabState.{HasClass, class_at}
use Rattle.mc_pages.specs.Changes.{after_pop}
use Rattle.mc_pages.specs.InOrder.{AreSlabsInOrder}
use Rattle.mc_pages.proofs.Kept.{IsInOrder-after_pop}
use Rattle.mc_serial_spec.specs.Item.{Item, is_linked_to, new_item}
use Rattle.mc_serial_spec.specs.Items.{chunk_cmp, item_in_chunk, linked_chunk, unlinked_items, with_item}
use Rattle.mc_serial_spec.specs.Holds.{held_by}
use Rattle.mc_serial_spec.specs.Machine.{Machine, with_mode}
use Rattle.mc_serial_laws.specs.Answered.{AnsweredCommand, HeldWords, last_words, held_words}
use Rattle.mc_serial_spec.proofs.Chunks.{places-with_item, places_none}
use Rattle.mc_serial_laws.proofs.FoundItems.{item_at-with_item}
use Rattle.mc_serial_spec.proofs.KeptStore.{IsNext, is_at-tells, is_next, kept_store}
use Rattle.mc_serial_laws.proofs.Lawful.{off, IsLawful, Proceeds, as_held, stands_on, stored_as}
use Rattle.mc_serial_laws.proofs.ProceedCommands.{lawful_automove, lawful_unlinked, linked_still, stands_unlinked}
use Rattle.mc_serial_laws.proofs.Stands.{Stand, stand_on}

pub record AreTold (m : Machine) (answers : List AnsweredCommand) : Type 0 where
  pub lawful : IsLawful m
  -- an item to which its key leads has the words of the key that were stored last
  pub words : (key : ℕ) (chunk : ChunkId) (item : Item) → item_in_chunk m.items chunk ≡ Some item → is_linked_to key item ≡ true
      → last_words key answers ≡ Some item.words
  -- each worker holds the chunks of what it holds by the answers
  pub holds : (worker : ℕ) → Stand m.items (held_by m.holds worker) (held_words worker answers)

-- what stands where a machine went on
stand_proceeded : (m new : Machine) (worker : ℕ) (held : List HeldWords) → Proceeds m new → Stand m.items (held_by m.holds worker) held
    → Stand new.items (held_by new.holds worker) held
stand_proceeded m new worker held goes stands =
    rw goes.holds (stand_on m.items new.items (held_by m.holds worker) held (λ c there. stands_on m new goes worker c there) stands)

-- the machine went on, and one more answer leaves the words and holds as they were
pub told_on : (m new : Machine) (answers : List AnsweredCommand) (answered : AnsweredCommand) → AreTold m answers → Proceeds m new
    → ((key : ℕ) → last_words key (answered ∷ answers) ≡ last_words key answers)
    → ((worker : ℕ) → held_words worker (answered ∷ answers) ≡ held_words worker answers)
    → AreTold new (answered ∷ answers)
told_on m new answers answered told goes same_words same_held = record {
  lawful = goes.lawful;
  words = λ key chunk item at to.
      let before = goes.linked chunk item at (and_parts item.linked (item.key == key) to).0 in
      same_words key ∙ told.words key before.0 item before.1 to;
  holds = λ worker. rw (same_held worker) (stand_proceeded m new worker (held_words worker answers) goes (told.holds worker));
}

-- the machine went on by itself
pub told_still : (m new : Machine) (answers : List AnsweredCommand) → AreTold m answers → Proceeds m new → AreTold new answers
told_still m new answers told goes = record {
  lawful = goes.lawful;
  words = λ key chunk item at to.
      let before = goes.linked chunk item at (and_parts item.linked (item.key == key) to).0 in
      told.words key before.0 item before.1 to;
  holds = λ worker. stand_proceeded m new worker (held_words worker answers) goes (told.holds worker);
}

-- a key leads to no item any more, and one more answer changes its words
pub told_unlinked : (m : Machine) (answers : List AnsweredCommand) (answered : AnsweredCommand) (key : ℕ) → AreTold m answers
    → ((q : ℕ) → (key == q) ≡ false → last_words q (answered ∷ answers) ≡ last_words q answers)
    → ((worker : ℕ) → held_words worker (answered ∷ answers) ≡ held_words worker answers)
    → AreTold (record m { items = unlinked_items m.items key }) (answered ∷ answers)
told_unlinked m answers answered key told same_words same_held = record {
  lawful = lawful_unlinked m key told.lawful;
  words = λ q chunk item at to.
      let linked : item.linked ≡ true = (and_parts item.linked (item.key == q) to).0 in
      let before = linked_still key m.items chunk item at linked in
      let none : is_linked_to key item ≡ false = before.1 in
      let other : (key == q) ≡ false = grind (arith, nat_tests, none) in
      same_words q other ∙ told.words q chunk item before.0 to;
  holds = λ worker.
      rw (same_held worker) (stand_on m.items (unlinked_items m.items key) (held_by m.holds worker) (held_words worker answers)
      (λ c there. stands_unlinked key m.items c) (told.holds worker));
}

-- the automover's mode is another
pub told_automove : (m : Machine) (mode : ℕ) (answers : List AnsweredCommand) → AreTold m answers → AreTold (record m { slabs = with_mode m.slabs mode }) answers
told_automove m mode answers told = record { lawful = lawful_automove m mode told.lawful; words = told.words; holds = told.holds }

-- an item comes under a key that leads nowhere into the next chunk of a class
module _ (m : Machine) (class key : ℕ) (words : List ℕ) (chunk : ChunkId) (lawful : IsLawful m) (valid : HasClass m.slabs class)
    (next : first_free (class_at m.slabs class) ≡ Some chunk) (nowhere : linked_chunk m.items key ≡ None) where
  abbrev pub after_store : Machine
  after_store = record m { slabs = after_pop m.slabs class; items = with_item m.items chunk (new_item key words) }

  none_there : item_in_chunk m.items chunk ≡ None
  none_there =
      let is : IsNext (off m.slabs) m.items class chunk = is_next m.table (off m.slabs) m.items class chunk lawful.kept valid next in
      is.empty

  found_stored : (c : ChunkId) → item_in_chunk after_store.items c ≡ cond (is_at (chunk_cmp c) chunk) (Some (new_item key words)) (item_in_chunk m.items c)
  found_stored c = item_at-with_item chunk (new_item key words) c m.items none_there

  pub lawful_stored : IsLawful after_store
  lawful_stored =
      let order : AreSlabsInOrder (off (after_pop m.slabs class)) lawful.granted = IsInOrder-after_pop (off m.slabs) lawful.granted class lawful.order valid in
      record {
        kept = kept_store m.table (off m.slabs) m.items class key words chunk lawful.kept valid next order.accounted nowhere;
        granted = lawful.granted;
        order = order;
        workers = lawful.workers;
        within_limit = lawful.within_limit;
        stored = λ worker c held. omega (arith, lawful.stored worker c held, places-with_item c chunk (new_item key words) m.items none_there);
      }

  -- the new item is there, and what is held stands elsewhere
  pub item_stored : item_in_chunk after_store.items chunk ≡ Some (new_item key words)
  item_stored =
      let here : is_at (chunk_cmp chunk) chunk ≡ true = grind (arith, nat_tests) in
      found_stored chunk ∙ ap (λ b. cond b (Some (new_item key words)) (item_in_chunk m.items chunk)) here

  pub held_stored : (worker : ℕ) (c : ChunkId) → 1 ≤ times_in c (held_by m.holds worker) → item_in_chunk after_store.items c ≡ item_in_chunk m.items c
  held_stored worker c held = elim (is_at-tells c chunk) [
    | inl here ↦
        let none : item_in_chunk m.items c ≡ None = ap (item_in_chunk m.items) here.1 ∙ none_there in
        absurd (omega (arith, lawful.stored worker c held, places_none c m.items none))
    | inr other ↦ found_stored c ∙ ap (λ b. cond b (Some (new_item key words)) (item_in_chunk m.items c)) other.0
  ]

  stands_stored : (worker : ℕ) (c : ChunkId) → 1 ≤ times_in c (held_by m.holds worker) → stored_as after_store.items c ≡ stored_as m.items c
  stands_stored worker c held = ap (option_map as_held) (held_stored worker c held)

  -- an item that is found then is the new one, or was there before
  pub found_then : (c : ChunkId) (item : Item) → item_in_chunk after_store.items c ≡ Some item → (new_item key words ≡ item) ⊎ (item_in_chunk m.items c ≡ Some item)
  found_then c item at = elim (is_at-tells c chunk) [
    | inl here ↦
        inl (same_Some (new_item key words) item
        (sym (found_stored c ∙ ap (λ b. cond b (Some (new_item key words)) (item_in_chunk m.items c)) here.0) ∙ at))
    | inr other ↦
        inr (sym (found_stored c ∙ ap (λ b. cond b (Some (new_item key words)) (item_in_chunk m.items c)) other.0) ∙ at)
  ]

  -- and where the answers tell of the new words, all is told
  pub told_stored : (answers : List AnsweredCommand) → AreTold m answers → last_words key answers ≡ Some words → AreTold after_store answers
  told_stored answers told new_words = record {
    lawful = lawful_stored;
    words = λ q c item at to. elim (found_then c item at) [
      | inl same ↦
          let tests = and_parts item.linked (item.key == q) to in
          let is : item.key ≡ key = ap (λ (i : Item). i.key) (sym same) in
          let one : key ≡ q = grind (arith, nat_tests) in
          ap (λ n. last_words n answers) (sym one) ∙ new_words ∙ ap (λ (i : Item). Some i.words) same
      | inr there ↦ told.words q c item there to
    ];
    holds = λ worker.
        stand_on m.items after_store.items (held_by m.holds worker) (held_words worker answers) (λ c there. stands_stored worker c there) (told.holds worker);
  }
