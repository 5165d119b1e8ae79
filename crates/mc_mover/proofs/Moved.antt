-- An item that is copied into a fresh chunk, taken away, and linked there: what the hand knows after each of these.
use Rattle.std.proofs.Common.{◌≡◌, ℕ, ◌+◌, ◌%◌, ◌≤◌, ◌<◌, ◌==◌, ◌&&◌, ◌||◌, Bool, true, false, List, [], ◌∷◌, ◌++◌, length, Option, Some, None, IfSome, refl, sym, ap, subst, ◌∙◌, arith, cond, slice_index, slice_index_or, get_or-set_same, replicate, if◌then◌else◌, append_assoc, append-nil}
use Rattle.std.specs.Option.{option_map, option_map_or}
use Rattle.std.proofs.lemmas.List.{length-replicate}
use Rattle.std.proofs.lemmas.Bool.{and_from}
use Rattle.mc_pages.specs.declared.ids.ChunkId.{ChunkId}
use Rattle.mc_pages.specs.ClassState.{is_chunk}
use Rattle.mc_pages.specs.SlabState.{SlabState}
use Rattle.mc_pages.proofs.Chunks.{is_chunk-same}
use Rattle.mc_pages.specs.Pages.{is_on_the_move}
use Rattle.mc_stripe.specs.Entries.{AreRising, entry_at}
use Rattle.mc_stripe.specs.StripeState.{ReadyStripe, new_stripe, chunk_and_stamp, can_store}
use Rattle.mc_stripe.specs.Changes.{after_rescue, stamp_aside}
use Rattle.mc_stripe.proofs.Entries.{at_with_entry, at_without_entry, nat_eq_same}
use Rattle.mc_core.specs.declared.holding.Holding.{Holding}
use Rattle.mc_core.specs.declared.holding.Kind.TheVariants.{Fresh, Reference}
use Rattle.mc_core.specs.declared.holding.Purpose.TheVariants.{Copy, Rescue}
use Rattle.mc_core.specs.run.Chunks.{holding_with_word}
use Rattle.mc_core.specs.run.Evictions.{as_rescue, has_copy, lacks_room, none_dead}
use Rattle.mc_core.specs.model.Holdings.{Words, all_known, change_each, holding_of, is_complete, is_copy_of, is_of_chunk, words_of_item, known_key, without_first, numbers_of_known, stamp_in, stamp_in_words, holding_words}
use Rattle.mc_core.specs.run.Items.{are_same}
use Rattle.mc_core.specs.law.Judged.{sees_no_target}
use Rattle.mc_core.specs.model.State.{State, holdings_at, item_at}
use Rattle.mc_words.specs.hand.View.{View}
use Rattle.mc_words.specs.item.Removal.{key_read, key_seen, knows_reason, stripe_read}
use Rattle.mc_words.specs.item.Fresh.{IsFreshIn}
use Rattle.mc_words.specs.rule.Happens.{LawfulView}
use Rattle.mc_words.specs.item.Items.{issue_in, item_with, word_read, known_words_in}
use Rattle.mc_words.specs.item.Links.{IsCopyFilled, copied_item, copy_linked}
use Rattle.mc_words.specs.item.Originals.{CondemnsOriginal}
use Rattle.mc_words.specs.item.References.{reference_to}
use Rattle.mc_words.specs.hand.Views.{chunk_released, copy_holding, head_seen}
use Rattle.mc_words.proofs.Locks.LockViews.{holdings_were}
use Rattle.mc_words.proofs.Pages.OwnerViews.{holding_rows}
use Rattle.mc_words.proofs.Locks.StripeChanges.{stripe_here, stripe_near}
use Rattle.mc_mover.specs.Copying.{words_copied}
use Rattle.mc_mover.proofs.Copied.{copied_keeps, one_longer, read_copied, word_copied}
use Rattle.mc_mover.proofs.Writes.{all_more, found_among, found_changed, holding_with, item_is, lose_changed, lose_last, none_of, none_yet, same_list, same_words, unchanged, whole_with, written_long, written_over}

-- what is found is one
some_same : {a b : ℕ} → Some a ≡ Some b → a ≡ b
some_same e = cc

one_item : (old chunk : ChunkId) (issue : ℕ) (words : Words) (a b : List ℕ) → Some (copied_item old chunk issue a words) ≡ Some (copied_item old chunk issue b words) → a ≡ b
one_item old chunk issue words a b e = let kinds : Fresh (Rescue old a) words ≡ Fresh (Rescue old b) words = ap (λ (o : Option Holding). option_map_or (λ (h : Holding). h.kind) o (Reference [])) e in cc

-- words that are known, as numbers
numbers_known : (item : List ℕ) → numbers_of_known (all_known item) ≡ item
numbers_known [] = refl
numbers_known (word ∷ item) = ap (λ (l : List ℕ). word ∷ l) (numbers_known item)

-- the copy's chunk has the words that were copied
holdings_copied : (chunk copy : ChunkId) (done words : List ℕ) (place : ℕ) (view now : View) → now.row.holdings ≡ change_each (is_of_chunk copy) (holding_with done) view.row.holdings → place ≡ length done
    → (words_copied chunk copy place words now).row.holdings ≡ change_each (is_of_chunk copy) (holding_with (done ++ words)) view.row.holdings
holdings_copied chunk copy done [] place view now so at = so ∙ ap (λ (l : List ℕ). change_each (is_of_chunk copy) (holding_with l) view.row.holdings) (sym (append-nil done))
holdings_copied chunk copy done (word ∷ words) place view now so at =
    let next : (word_copied chunk copy place word now).row.holdings ≡ change_each (is_of_chunk copy) (holding_with (done ++ word ∷ [])) view.row.holdings =
    (λ k. change_each (is_of_chunk copy) (holding_with_word (at k) word) (so k)) ∙ all_more copy done word view.row.holdings in
    holdings_copied chunk copy (done ++ word ∷ []) words (place + 1) view (word_copied chunk copy place word now) next (let long = one_longer done word in omega (arith, at, long))
    ∙ ap (λ (l : List ℕ). change_each (is_of_chunk copy) (holding_with l) view.row.holdings) (append_assoc done (word ∷ []) words)

module _ (chunk copy : ChunkId) (key stamp : ℕ) (words : List ℕ) (view filled : View) (is : filled ≡ words_copied chunk copy 0 (item_with key stamp words) view) where
  abbrev item : List ℕ
  item = item_with key stamp words

  -- each word that was copied was read
  read_each : (i : ℕ) → i < length item → word_read filled chunk i ≡ Some (slice_index item i)
  read_each i within = ap (λ (v : View). word_read v chunk i) is ∙ read_copied chunk copy i i 0 item view within (omega arith)

  pub key_copied : key_read filled chunk ≡ Some key
  key_copied = read_each 0 (omega arith)

  -- all but looks and the copy's holding stays
  pub setup_stays : filled.setup ≡ view.setup
  setup_stays = ap (λ (v : View). v.setup) is ∙ copied_keeps chunk copy (λ (v : View). v.setup) (λ place word v. refl) 0 item view

  pub stripes_stay : filled.stripes ≡ view.stripes
  stripes_stay = ap (λ (v : View). v.stripes) is ∙ copied_keeps chunk copy (λ (v : View). v.stripes) (λ place word v. refl) 0 item view

  pub ids_stay : filled.row.ids ≡ view.row.ids
  ids_stay = ap (λ (v : View). v.row.ids) is ∙ copied_keeps chunk copy (λ (v : View). v.row.ids) (λ place word v. refl) 0 item view

  -- the stripe of the key is still known
  pub stripe_copied : (stripe : ℕ) → stripe_read view chunk ≡ Some stripe → IfSome (key_read view chunk) (λ before. key ≡ before) → (key % view.setup.config.stripes ≡ stripe) × (stripe_read filled chunk ≡ Some stripe)
  stripe_copied stripe read again =
      let of = by (key_read view chunk) read again in
      (of, (λ k. option_map (λ key. key % (setup_stays k).config.stripes) (key_copied k)) ∙ ap Some of)
    where
      by : (o : Option ℕ) → option_map (λ key. key % view.setup.config.stripes) o ≡ Some stripe → IfSome o (λ before. key ≡ before) → key % view.setup.config.stripes ≡ stripe
      by None read again = absurd (cc)
      by (Some before) read again = ap (λ (k : ℕ). k % view.setup.config.stripes) again ∙ some_same read

  -- the length that was read fits
  pub length_fits : (room : ℕ) → IfSome (word_read filled chunk 2) (λ count. 3 + count ≤ room) → 3 + length words ≤ room
  length_fits room fits = subst (λ (o : Option ℕ). IfSome o (λ count. 3 + count ≤ room)) (read_each 2 (omega arith)) fits

  -- the copy's holding has the words
  holdings_are : filled.row.holdings ≡ change_each (is_of_chunk copy) (holding_with item) view.row.holdings
  holdings_are = ap (λ (v : View). v.row.holdings) is ∙ holdings_copied chunk copy [] item 0 view view (sym (none_yet copy view.row.holdings)) refl

  -- what the hand holds beside the copy is as before
  pub others_filled : holding_of copy (without_first (is_of_chunk copy) view.row.holdings) ≡ None → without_first (is_of_chunk copy) filled.row.holdings ≡ without_first (is_of_chunk copy) view.row.holdings
  others_filled alone =
      ap (without_first (is_of_chunk copy)) holdings_are
      ∙ (lose_changed copy (is_of_chunk copy) (holding_with item) (λ h. refl) view.row.holdings
      ∙ unchanged (is_of_chunk copy) (holding_with item) (without_first (is_of_chunk copy) view.row.holdings) (none_of copy (without_first (is_of_chunk copy) view.row.holdings) alone))

  module _ (issue room : ℕ) (found : holding_of copy view.row.holdings ≡ Some (copy_holding chunk copy issue room)) where
    abbrev blank : Words
    blank = replicate room None

    abbrev own : Words
    own = written_over item blank

    abbrev copied : Holding
    copied = record { chunk = copy; issue = issue; kind = Fresh (Copy chunk) own }

    -- so it is found
    found_filled : holding_of copy filled.row.holdings ≡ Some copied
    found_filled =
        ap (holding_of copy) holdings_are
        ∙ (found_changed copy (is_of_chunk copy) (holding_with item) (λ h. refl) view.row.holdings (copy_holding chunk copy issue room) found
        ∙ ap (λ (b : Bool). Some (if b then copied else copy_holding chunk copy issue room)) (is_chunk-same copy))

    -- the hand has a copy, and so a reason
    pub copy_there : has_copy filled.row.holdings chunk ≡ true
    copy_there = found_among copy (is_copy_of chunk) filled.row.holdings copied found_filled (is_chunk-same chunk)

    pub reason_there : (slabs : SlabState) → is_on_the_move slabs chunk.page ≡ true → knows_reason slabs filled.row.looks filled.row.holdings chunk ≡ true
    reason_there slabs moves =
        λ k. moves k && copy_there k || is_on_the_move slabs chunk.page && none_dead slabs filled.row.looks chunk && sees_no_target slabs filled.row.looks chunk.page || lacks_room slabs filled.row.looks chunk

    module _ (fits : 3 + length words ≤ room) (stripe : ℕ) (value left : ReadyStripe) (now : View) (took : CondemnsOriginal stripe chunk value filled left now) where
      -- the key that was read again is the one that was copied
      same_key : took.key ≡ key
      same_key = some_same (sym took.is_key ∙ key_copied)

      -- the item that was taken away is the one that was copied
      same_item : took.item ≡ item
      same_item =
          let whole : length took.item ≡ 3 + slice_index took.item 2 = took.whole in
          let third : slice_index took.item 2 ≡ length words = took.read_is 2 (length words) (read_each 2 (omega arith)) (omega (arith, whole)) in
          let long : length took.item ≡ length item = omega (arith, whole, third) in
          same_list took.item item long (λ i within. took.read_is i (slice_index item i) (read_each i (omega (arith, within, long))) within)

      same_stamp : took.stamp ≡ stamp
      same_stamp = sym took.stamp_is ∙ ap stamp_in_words same_item

      -- the copy is to have the words of the item that was taken away
      holdings_now : now.row.holdings ≡ change_each (is_copy_of chunk) (as_rescue chunk took.item) filled.row.holdings
      holdings_now = ap (λ (v : View). v.row.holdings) took.is

      found_now : holding_of copy now.row.holdings ≡ Some (copied_item chunk copy issue took.item own)
      found_now =
          ap (holding_of copy) holdings_now
          ∙ (found_changed copy (is_copy_of chunk) (as_rescue chunk took.item) (λ h. refl) filled.row.holdings copied found_filled
          ∙ ap (λ (b : Bool). Some (if b then copied_item chunk copy issue took.item own else copied)) (is_chunk-same chunk))

      long_own : length own ≡ room
      long_own = written_long item blank ∙ length-replicate room None

      words_are : known_words_in now copy ≡ own
      words_are = ap (λ (o : Option Holding). option_map_or holding_words o []) found_now

      issue_is : issue_in now copy ≡ issue
      issue_is = ap (λ (o : Option Holding). option_map_or (λ (h : Holding). h.issue) o 0) found_now

      -- the copy is fresh still
      pub fresh_still : IsFreshIn now.row.holdings copy room
      fresh_still = record { holding = copied_item chunk copy issue took.item own; found = found_now; fresh = refl; room_is = long_own }

      -- the key's entry is aside
      aside_is : left.state.aside ≡ Some (key, (chunk, stamp))
      aside_is =
          ap (λ (v : ReadyStripe). v.state.aside) took.left_is
          ∙ (ap (option_map (λ (place : ChunkId × ℕ). (took.key, place))) took.led ∙ (λ k. Some (same_key k, (chunk, same_stamp k))))

      -- so the copy may be linked
      pub copy_filled : IsCopyFilled now left.state copy (issue_in now copy) (known_words_in now copy) key stamp
      copy_filled =
          let count : length blank ≡ room = length-replicate room None in
          let enough : 3 + length words ≤ length blank = omega (arith, count, fits) in
          let whole = whole_with key stamp words blank enough in
          let known = ap words_of_item words_are ∙ item_is key stamp words blank enough in record {
            old = chunk;
            item = took.item;
            found = found_now ∙ (λ k. Some (copied_item chunk copy (sym issue_is k) took.item (sym words_are k)));
            complete = ap is_complete words_are ∙ whole.0;
            same = (λ k. are_same (known k) (same_item k)) ∙ same_words item;
            same_key = ap known_key words_are ∙ whole.1;
            same_stamp = ap stamp_in words_are ∙ whole.2;
            aside = ap (λ (o : Option (ℕ × (ChunkId × ℕ))). option_map_or (λ entry. entry.0 == key && is_chunk entry.1.0 chunk && entry.1.1 == stamp) o false) aside_is
                ∙ (λ k. nat_eq_same key key refl k && is_chunk-same chunk k && nat_eq_same stamp stamp refl k);
          }

      -- its stripe has room for the call still
      pub ready_still : value.ready ≡ true → left.ready ≡ true
      ready_still ready = ap (λ (v : ReadyStripe). v.ready) took.left_is ∙ ready

      -- and for its entry
      pub room_still : value.ready ≡ true → value.entry ≡ true → can_store left ≡ true
      room_still ready entry = and_from left.ready left.entry (ready_still ready) (ap (λ (v : ReadyStripe). v.entry) took.left_is ∙ entry)

      -- and its key leads nowhere
      pub leads_nowhere : LawfulView filled → slice_index_or filled.stripes stripe None ≡ Some value → chunk_and_stamp left.state key ≡ None
      leads_nowhere was mine =
          let here = stripe_here filled stripe value mine was in
          let in_range = stripe_near filled stripe value mine was in
          let long = was.stripes in
          let rising : AreRising value.state.index = subst (λ (v : ReadyStripe). AreRising v.state.index) here.1 (was.lawful.legal.legal stripe new_stripe (omega (arith, in_range, long))).rising in
          (λ k. chunk_and_stamp (took.left_is k).state (sym same_key k))
          ∙ (at_without_entry value.state.index took.key took.key rising ∙ ap (λ (b : Bool). cond b None (entry_at value.state.index took.key)) (nat_eq_same took.key took.key refl))

      -- what the hand holds beside the copy is as before
      pub others_now : holding_of copy (without_first (is_of_chunk copy) view.row.holdings) ≡ None → has_copy (without_first (is_of_chunk copy) view.row.holdings) chunk ≡ false → without_first (is_of_chunk copy) now.row.holdings ≡ without_first (is_of_chunk copy) view.row.holdings
      others_now alone only =
          ap (without_first (is_of_chunk copy)) holdings_now
          ∙ (lose_changed copy (is_copy_of chunk) (as_rescue chunk took.item) (λ h. refl) filled.row.holdings
          ∙ (ap (change_each (is_copy_of chunk) (as_rescue chunk took.item)) (others_filled alone)
          ∙ unchanged (is_copy_of chunk) (as_rescue chunk took.item) (without_first (is_of_chunk copy) view.row.holdings) only))

      -- and it is so still once the copy is linked and let go
      pub dropped_holdings : (number : ℕ) (linked last : View) → linked ≡ copy_linked number stripe left key copy (issue_in now copy) (known_words_in now copy) room now → last ≡ chunk_released copy linked
          → holding_of copy (without_first (is_of_chunk copy) view.row.holdings) ≡ None → has_copy (without_first (is_of_chunk copy) view.row.holdings) chunk ≡ false → last.row.holdings ≡ without_first (is_of_chunk copy) view.row.holdings
      dropped_holdings number linked last linked_is last_is alone only =
          ap (λ (v : View). v.row.holdings) last_is
          ∙ (ap (λ (v : View). without_first (is_of_chunk copy) v.row.holdings) linked_is
          ∙ (ap (λ (hs : List Holding). without_first (is_of_chunk copy) (hs ++ reference_to copy (issue_in now copy) (numbers_of_known (words_of_item (known_words_in now copy))) ∷ [])) (others_now alone only)
          ∙ lose_last copy (without_first (is_of_chunk copy) view.row.holdings) (reference_to copy (issue_in now copy) (numbers_of_known (words_of_item (known_words_in now copy)))) alone (is_chunk-same copy)))

      -- memory had the words that were copied as the item was taken away
      item_bound : (words : List ℕ) → now.row.holdings ≡ change_each (is_copy_of chunk) (as_rescue chunk words) filled.row.holdings → holding_of copy now.row.holdings ≡ Some (copied_item chunk copy issue words own)
      item_bound words changed =
          ap (holding_of copy) changed
          ∙ (found_changed copy (is_copy_of chunk) (as_rescue chunk words) (λ h. refl) filled.row.holdings copied found_filled
          ∙ ap (λ (b : Bool). Some (if b then copied_item chunk copy issue words own else copied)) (is_chunk-same chunk))

      abbrev then_state : State
      then_state = took.happens.was.moment.state

      bound_there : now.row.holdings ≡ change_each (is_copy_of chunk) (as_rescue chunk (item_at then_state chunk)) filled.row.holdings
      bound_there =
          let seen : View = head_seen chunk took.head (key_seen chunk took.key filled) in
          let hand : ℕ = took.happens.was.hand in
          ap (λ (v : View). v.row.holdings) took.happens.is
          ∙ (get_or-set_same then_state.holdings hand (change_each (is_copy_of chunk) (as_rescue chunk (item_at then_state chunk)) (holdings_at then_state hand)) [] (holding_rows seen took.happens.was)
          ∙ ap (change_each (is_copy_of chunk) (as_rescue chunk (item_at then_state chunk))) (holdings_were seen seen took.happens.was))

      pub item_there : item_at then_state chunk ≡ item
      item_there = one_item chunk copy issue own (item_at then_state chunk) took.item (sym (item_bound (item_at then_state chunk) bound_there) ∙ item_bound took.item holdings_now) ∙ same_item

      -- so the copy has just these
      pub words_known : numbers_of_known (words_of_item (known_words_in now copy)) ≡ item
      words_known = ap numbers_of_known (ap words_of_item words_are ∙ item_is key stamp words blank (let count : length blank ≡ room = length-replicate room None in omega (arith, count, fits))) ∙ numbers_known item

      -- the key led to the original, and leads to the copy
      pub led_before : chunk_and_stamp value.state key ≡ Some (chunk, stamp)
      led_before = ap (chunk_and_stamp value.state) (sym same_key) ∙ (took.led ∙ (λ k. Some (chunk, same_stamp k)))

      pub leads_after : (number : ℕ) → chunk_and_stamp (after_rescue left.state number key copy) key ≡ Some (copy, stamp)
      leads_after number =
          at_with_entry left.state.index key (copy, stamp_aside left.state) key
          ∙ (ap (λ (b : Bool). cond b (Some (copy, stamp_aside left.state)) (entry_at left.state.index key)) (nat_eq_same key key refl)
          ∙ ap (λ (o : Option (ℕ × (ChunkId × ℕ))). Some (copy, option_map_or (λ entry. entry.1.1) o 0)) aside_is)

      -- no stamp was given out
      pub ids_now : now.row.ids ≡ filled.row.ids
      ids_now = ap (λ (v : View). v.row.ids) took.is
