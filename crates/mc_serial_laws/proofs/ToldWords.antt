-- What a get and a drop tell after a run.
use Rattle.std.proofs.Common.{◌≡◌, ℕ, List, Bool, true, false, Option, Some, None, refl, ap, sym, subst}
use Rattle.std.specs.Prelude.{if◌then◌else◌, ◌==◌, codes, find}
use Rattle.std.specs.Option.{option_and_then, option_map}
use Rattle.std.proofs.lemmas.Option.{none-some, same_Some}
use Rattle.mc_pages.specs.declared.ids.ChunkId.{ChunkId}
use Rattle.mc_serial_spec.specs.Item.{Item}
use Rattle.mc_serial_spec.specs.Items.{item_in_chunk, linked_chunk}
use Rattle.mc_serial_spec.specs.Holds.{held_by, is_full}
use Rattle.mc_serial_spec.specs.Lines.{release_outcome, last_hold, release_outcome_at, lookup_outcome, get_outcome, reply_only}
use Rattle.mc_serial_spec.specs.Machine.{Machine}
use Rattle.mc_serial_spec.specs.Texts.{key_line, words_line}
use Rattle.mc_serial_laws.specs.Answered.{AnsweredCommand, HeldWords, held_words, last_words}
use Rattle.mc_serial_laws.specs.Words.{IsReplyToGet, absent, found, full, reply_to_drop}
use Rattle.mc_serial_spec.proofs.KeptChanges.{place_once}
use Rattle.mc_serial_laws.proofs.Lawful.{off, as_held}
use Rattle.mc_serial_spec.proofs.Links.{LinkedIn, linked_in}
use Rattle.mc_serial_laws.proofs.Stands.{FindsSame, finds_same}
use Rattle.mc_serial_laws.proofs.Told.{AreTold}

module _ (m : Machine) (answers : List AnsweredCommand) (all : AreTold m answers) where
  -- a look-up of the chunk to which the key leads
  read_words : (key : ℕ) (chunk : Option ChunkId) → linked_chunk m.items key ≡ chunk
      → IsReplyToGet key (last_words key answers) (get_outcome m key (option_and_then (item_in_chunk m.items) chunk)).reply
  read_words key None leads = absent refl
  read_words key (Some chunk) leads =
      let there : LinkedIn key chunk m.items
      = linked_in key chunk m.items leads (place_once m.table (off m.slabs) m.items chunk all.lawful.kept) (all.lawful.kept.one_link key) in
      let words : last_words key answers ≡ Some there.item.words = all.words key chunk there.item there.there there.linked in
      subst (λ (o : Option Item). IsReplyToGet key (last_words key answers) (get_outcome m key o).reply) (sym there.there)
      (found there.item.words words refl)

  get_way : (b : Bool) (key : ℕ) → IsReplyToGet key (last_words key answers)
      (if b then reply_only m (key_line (codes "TOO_MANY_REFS") key) else get_outcome m key (option_and_then (item_in_chunk m.items) (linked_chunk m.items key))).reply
  get_way true key = full refl
  get_way false key = read_words key (linked_chunk m.items key) refl

  pub get_tells : (worker key : ℕ) → IsReplyToGet key (last_words key answers) (lookup_outcome m worker key).reply
  get_tells worker key = get_way (is_full m.holds worker) key

  -- a hold that was found, by its chunk and by its words
  let_go_words : (worker key : ℕ) (chunk : ChunkId) (there : Option Item) (held : HeldWords) → option_map as_held there ≡ Some held
      → (release_outcome_at m worker key chunk there).reply ≡ reply_to_drop key (Some held)
  let_go_words worker key chunk None held stands = absurd (none-some held stands)
  let_go_words worker key chunk (Some item) held stands =
      ap (λ (h : HeldWords). words_line (codes "DROPPED") key h.words) (same_Some (as_held item) held stands)

  drop_words : (worker key : ℕ) (chunk : Option ChunkId) (held : Option HeldWords) → FindsSame m.items chunk held
      → (release_outcome m worker key chunk).reply ≡ reply_to_drop key held
  drop_words worker key None None same = refl
  drop_words worker key None (Some held) same = absurd same
  drop_words worker key (Some chunk) None same = absurd same
  drop_words worker key (Some chunk) (Some held) same = let_go_words worker key chunk (item_in_chunk m.items chunk) held same

  pub drop_tells : (worker key : ℕ)
      → (release_outcome m worker key (last_hold m worker key)).reply ≡ reply_to_drop key (find (λ held. held.key == key) (held_words worker answers))
  drop_tells worker key =
      drop_words worker key (last_hold m worker key) (find (λ held. held.key == key) (held_words worker answers))
      (finds_same m.items key (held_by m.holds worker) (held_words worker answers) (all.holds worker))
