-- What whoever asks for a key finds after a run.
use Rattle.std.proofs.Common.{◌≡◌, ℕ, List, length, Bool, true, false, Option, Some, None, refl, ap, sym, ◌∙◌, arith, inl, inr, ◌⊎◌}
use Rattle.std.specs.Prelude.{if◌then◌else◌, ◌==◌, codes}
use Rattle.std.specs.Option.{option_and_then, option_map}
use Rattle.std.proofs.lemmas.Bool.Decides.{nat_tests}
use Rattle.std.proofs.lemmas.Option.{same_Some}
use Rattle.mc_classes.specs.Limits.{most_refs}
use Rattle.mc_pages.specs.declared.ids.ChunkId.{ChunkId}
use Rattle.mc_serial_spec.specs.Item.{Item}
use Rattle.mc_serial_spec.specs.Items.{item_in_chunk, linked_chunk}
use Rattle.mc_serial_spec.specs.Holds.{held_by, is_full}
use Rattle.mc_serial_spec.specs.Lines.{Outcome, delete_outcome, hold_outcome_at, hold_outcome, lookup_outcome, touch_outcome, get_outcome, reply_only}
use Rattle.mc_serial_spec.specs.Machine.{Machine}
use Rattle.mc_serial_spec.specs.Texts.{key_line}
use Rattle.mc_serial_laws.specs.Answered.{AnsweredCommand, held_words, last_words}
use Rattle.mc_serial_laws.specs.Present.{KeyHasItem, found_or_none, holds_by_answers, reply_to_get, reply_to_hold, words_or_none}
use Rattle.mc_serial_spec.proofs.KeptChanges.{place_once}
use Rattle.mc_serial_spec.proofs.Links.{LinkedIn, linked_in}
use Rattle.mc_serial_laws.proofs.Lawful.{off}
use Rattle.mc_serial_laws.proofs.Stands.{length-stand}
use Rattle.mc_serial_laws.proofs.Told.{AreTold}

module _ (m : Machine) (answers : List AnsweredCommand) (all : AreTold m answers) where
  -- a worker is full where the answers tell of the most holds
  full_told : (worker : ℕ) → is_full m.holds worker ≡ (holds_by_answers worker answers == most_refs)
  full_told worker =
      let same : holds_by_answers worker answers ≡ length (held_by m.holds worker)
      = length-stand m.items (held_by m.holds worker) (held_words worker answers) (all.holds worker) in
      grind (arith, nat_tests, same, all.lawful.within_limit worker)

  get_way : (b : Bool) (key : ℕ) (found : Option Item)
      → (if b then reply_only m (key_line (codes "TOO_MANY_REFS") key) else get_outcome m key found).reply
      ≡ (if b then key_line (codes "TOO_MANY_REFS") key else words_or_none key (option_map (λ (i : Item). i.words) found))
  get_way true key found = refl
  get_way false key None = refl
  get_way false key (Some item) = refl

  pub get_found : (worker key : ℕ) (found : Option Item) → option_and_then (item_in_chunk m.items) (linked_chunk m.items key) ≡ found
      → (lookup_outcome m worker key).reply ≡ reply_to_get (holds_by_answers worker answers) key (option_map (λ (i : Item). i.words) found)
  get_found worker key found is =
      get_way (is_full m.holds worker) key (option_and_then (item_in_chunk m.items) (linked_chunk m.items key))
      ∙ ap (λ (b : Bool). if b then key_line (codes "TOO_MANY_REFS") key else words_or_none key (option_map (λ (i : Item). i.words) (option_and_then (item_in_chunk m.items) (linked_chunk m.items key)))) (full_told worker)
      ∙ ap (λ (o : Option Item). reply_to_get (holds_by_answers worker answers) key (option_map (λ (i : Item). i.words) o)) is

  hold_way : (b : Bool) (worker key : ℕ) (chunk : Option ChunkId) (item : Option (List ℕ))
      → (hold_outcome_at m worker key chunk).reply ≡ found_or_none (codes "HELD") key item
      → (if b then reply_only m (key_line (codes "TOO_MANY_REFS") key) else hold_outcome_at m worker key chunk).reply
      ≡ (if b then key_line (codes "TOO_MANY_REFS") key else found_or_none (codes "HELD") key item)
  hold_way true worker key chunk item is = refl
  hold_way false worker key chunk item is = is

  hold_found : (worker key : ℕ) (item : Option (List ℕ)) → (hold_outcome_at m worker key (linked_chunk m.items key)).reply ≡ found_or_none (codes "HELD") key item
      → (hold_outcome m worker key).reply ≡ reply_to_hold (holds_by_answers worker answers) key item
  hold_found worker key item is =
      hold_way (is_full m.holds worker) worker key (linked_chunk m.items key) item is
      ∙ ap (λ (b : Bool). if b then key_line (codes "TOO_MANY_REFS") key else found_or_none (codes "HELD") key item) (full_told worker)

  finds_none : (key : ℕ) → linked_chunk m.items key ≡ None → KeyHasItem m answers key None
  finds_none key leads = record {
    get = λ worker served is.
        ap (λ (s : Outcome). s.reply) (sym (same_Some (lookup_outcome m worker key) served is))
        ∙ get_found worker key None (ap (option_and_then (item_in_chunk m.items)) leads);
    hold = λ worker served is.
        ap (λ (s : Outcome). s.reply) (sym (same_Some (hold_outcome m worker key) served is))
        ∙ hold_found worker key None (ap (λ (o : Option ChunkId). (hold_outcome_at m worker key o).reply) leads);
    touch = λ worker served is.
        ap (λ (s : Outcome). s.reply) (sym (same_Some (touch_outcome m key (linked_chunk m.items key)) served is))
        ∙ ap (λ (o : Option ChunkId). (touch_outcome m key o).reply) leads;
    delete = λ worker served is.
        ap (λ (s : Outcome). s.reply) (sym (same_Some (delete_outcome m key (linked_chunk m.items key)) served is))
        ∙ ap (λ (o : Option ChunkId). (delete_outcome m key o).reply) leads;
  }

  finds_some : (key : ℕ) (chunk : ChunkId) (item : Item) → linked_chunk m.items key ≡ Some chunk → item_in_chunk m.items chunk ≡ Some item
      → KeyHasItem m answers key (Some item.words)
  finds_some key chunk item leads there = record {
    get = λ worker served is.
        ap (λ (s : Outcome). s.reply) (sym (same_Some (lookup_outcome m worker key) served is))
        ∙ get_found worker key (Some item) (ap (option_and_then (item_in_chunk m.items)) leads ∙ there);
    hold = λ worker served is.
        ap (λ (s : Outcome). s.reply) (sym (same_Some (hold_outcome m worker key) served is))
        ∙ hold_found worker key (Some item.words) (ap (λ (o : Option ChunkId). (hold_outcome_at m worker key o).reply) leads);
    touch = λ worker served is.
        ap (λ (s : Outcome). s.reply) (sym (same_Some (touch_outcome m key (linked_chunk m.items key)) served is))
        ∙ ap (λ (o : Option ChunkId). (touch_outcome m key o).reply) leads;
    delete = λ worker served is.
        ap (λ (s : Outcome). s.reply) (sym (same_Some (delete_outcome m key (linked_chunk m.items key)) served is))
        ∙ ap (λ (o : Option ChunkId). (delete_outcome m key o).reply) leads;
  }

  -- the item to which a key leads has the key's last words
  pub linked_now : (key : ℕ) (chunk : ChunkId) → linked_chunk m.items key ≡ Some chunk → LinkedIn key chunk m.items
  linked_now key chunk leads =
      linked_in key chunk m.items leads (place_once m.table (off m.slabs) m.items chunk all.lawful.kept) (all.lawful.kept.one_link key)

  item_way : (key : ℕ) (chunk : Option ChunkId) → linked_chunk m.items key ≡ chunk
      → (item : Option (List ℕ)) × ((item ≡ None) ⊎ (item ≡ last_words key answers)) × KeyHasItem m answers key item
  item_way key None leads = (None, inl refl, finds_none key leads)
  item_way key (Some chunk) leads =
      let there : LinkedIn key chunk m.items = linked_now key chunk leads in
      (Some there.item.words, inr (sym (all.words key chunk there.item there.there there.linked)), finds_some key chunk there.item leads there.there)

  pub one_item : (key : ℕ) → (item : Option (List ℕ)) × ((item ≡ None) ⊎ (item ≡ last_words key answers)) × KeyHasItem m answers key item
  one_item key = item_way key (linked_chunk m.items key) refl
