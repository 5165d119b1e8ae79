-- The call that takes an item away: it reads the key, looks at the header, and exchanges it.
use Rattle.std.proofs.Common.{◌≡◌, ◌≢◌, ℕ, zero, suc, ◌-◌, ◌/◌, ◌%◌, ◌^◌, ◌==◌, ◌<◌, ◌&&◌, ◌||◌, Bool, true, false, [], ◌∷◌, ◌++◌, Option, Some, None, refl, sym, ap, subst, ◌∙◌, inl, inr, arith, IfSome, if◌then◌else◌, slice_index, slice_index_or, eqb-true, eq-eqb, get_or-set_same, length}
use Rattle.std.specs.List.{fold}
use Rattle.std.specs.Option.{option_map}
use Rattle.std.proofs.lemmas.Bool.{and_from, and_parts, cases_Bool, cases_eq}
use Rattle.std.proofs.lemmas.List.Sums.{fold-append}
use Rattle.mc_pages.specs.declared.ids.ChunkId.{ChunkId}
use Rattle.mc_pages.specs.SlabState.{SlabState, class_of_page}
use Rattle.mc_pages.proofs.Chunks.{is_chunk-same}
use Rattle.mc_stripe.specs.StripeState.{ReadyStripe, chunk_and_stamp}
use Rattle.mc_stripe.specs.Changes.{after_evict, after_lift, used_up}
use Rattle.mc_core.specs.declared.head.Head.{Head}
use Rattle.mc_core.specs.declared.head.Tag.{Tag}
use Rattle.mc_core.specs.declared.head.Tag.TheVariants.{Linked}
use Rattle.mc_core.specs.declared.look.Look.TheVariants.{Condemned, Read, Saw}
use Rattle.mc_core.specs.declared.event.Step.TheVariants as core
use Rattle.mc_core.specs.model.Codes.{word_minus}
use Rattle.mc_core.specs.run.Evictions.{head_after_condemn, has_copy, is_linked_unheld}
use Rattle.mc_core.specs.model.Head.{code, decode, tag_of, is_dead, is_free, is_linked, is_out, is_unlinked}
use Rattle.mc_core.specs.model.Looks.{was_linked}
use Rattle.mc_core.specs.past.Past.{header}
use Rattle.mc_core.specs.law.Seen.{IsStill, last_head, last_read, seen_head}
use Rattle.mc_core.specs.model.State.{State, has_chunk, head_at, item_at, looks_at, room_in, word_at}
use Rattle.mc_core.proofs.ItemWords.Codes.{are_one_word}
use Rattle.mc_core.proofs.Index.Entered.{tag_linked}
use Rattle.mc_core.proofs.Seen.SeenAdds.{was_linked_is}
use Rattle.mc_words.specs.hand.View.{Setup, View}
use Rattle.mc_words.specs.rule.Layout.{head_word}
use Rattle.mc_words.specs.rule.Happens.{LawfulView, Happens, HappensAt}
use Rattle.mc_words.specs.item.Calls.{item_condemned}
use Rattle.mc_words.specs.item.Removal.{Condemns, FindsHeld, SeesHeld, key_read, key_seen, knows_reason, stripe_read}
use Rattle.mc_words.specs.item.Items.{word_read}
use Rattle.mc_words.specs.item.Originals.{CondemnsOriginal, original_condemned}
use Rattle.mc_words.specs.hand.Tallies.{fresh_count}
use Rattle.mc_words.specs.hand.Views.{head_seen}
use Rattle.mc_words.specs.hand.Views as views
use Rattle.mc_words.proofs.Items.Condemns.{HasBoth, bound_count, bound_length, condemned_view, item_key, item_read, item_stamp, item_whole, leads_there, original_view}
use Rattle.mc_words.proofs.Chunks.Heads.{head_is, near_here}
use Rattle.mc_words.proofs.Chunks.Judging.{seen_is}
use Rattle.mc_words.proofs.Locks.LockViews as seen_views
use Rattle.mc_words.proofs.Pages.Owners.{looks_here, slabs_here}
use Rattle.mc_words.proofs.Items.Reasoned.{alive_after_look, alive_after_read, reason_after, unfit_after_look, unfit_after_read}
use Rattle.mc_words.proofs.Locks.StripeChanges.{inside}

-- what a header's word tells
linked_three : (tag : ℕ) → tag < 4 → is_linked (tag_of tag) ≡ true → tag ≡ 3
linked_three zero in_range is = absurd (cc)
linked_three (suc zero) in_range is = absurd (cc)
linked_three (suc (suc zero)) in_range is = absurd (cc)
linked_three (suc (suc (suc tag))) in_range is = omega arith

pub word_unheld : (word : ℕ) → word % 262144 ≡ 196609 → is_linked_unheld (decode word) ≡ true
unfolding decode
word_unheld word is =
    let tag : word / 65536 % 4 ≡ 3 = omega arith in
    let count : word % 65536 ≡ 1 = omega arith in
    and_from _ _ (ap (λ (n : ℕ). is_linked (tag_of n)) tag) (eq-eqb (word % 65536) 1 count)

pub word_held : (word : ℕ) → (word % 262144 ≡ 196609 → ⊥) → is_linked_unheld (decode word) ≡ false
unfolding decode
word_held word isnt = elim (cases_Bool (is_linked_unheld (decode word))) [
  | inl unheld ↦
      let parts = and_parts (is_linked (decode word).tag) ((decode word).count == 1) unheld in
      let tag : word / 65536 % 4 ≡ 3 = linked_three (word / 65536 % 4) (omega arith) parts.0 in
      let count : word % 65536 ≡ 1 = eqb-true (word % 65536) 1 parts.1 in
      absurd (isnt (omega arith))
  | inr held ↦ held
]

-- and what it becomes
pub word_condemned : (word : ℕ) → word < 2 ^ 64 → word % 262144 ≡ 196609 → word_minus 65537 word ≡ word - 65537
word_condemned word fits is = omega arith

-- headers of one issue number that are both linked and unheld are one
same_unheld : (a b : Head) → a.issue ≡ b.issue → is_linked_unheld a ≡ true → is_linked_unheld b ≡ true → a ≡ b
same_unheld a b issue one two =
    let first = and_parts (is_linked a.tag) (a.count == 1) one in
    let second = and_parts (is_linked b.tag) (b.count == 1) two in
    let tag : ◌≡◌ {A = Tag} a.tag b.tag = tag_linked a.tag first.0 ∙ sym (tag_linked b.tag second.0) in
    let count : a.count ≡ b.count = eqb-true a.count 1 first.1 ∙ sym (eqb-true b.count 1 second.1) in
    λ k. record { issue = issue k; tag = tag k; count = count k }

-- what was seen linked and unheld under this hold of the slabs lock, and is found otherwise, isn't so
pub other_held : (view : View) (slabs : SlabState) (chunk : ChunkId) (word found : ℕ) → view.slabs ≡ Some slabs → has_chunk view.setup.table chunk ≡ true → seen_head view.row.looks chunk ≡ Some (decode word) → is_linked_unheld (decode word) ≡ true
    → (was : LawfulView view) → slice_index was.words (head_word view.setup chunk) ≡ found → found ≢ word → is_linked_unheld (decode found) ≡ false
other_held view slabs chunk word found mine in_range last unheld was at apart = elim (cases_Bool (is_linked_unheld (decode found))) [
  | inl again ↦
      let s : State = was.moment.state in
      let is : head_at s chunk ≡ decode found = head_is view chunk in_range was ∙ ap decode at in
      let tag : (decode word).tag ≡ Linked = tag_linked (decode word).tag (and_parts _ _ unheld).0 in
      let still : IsStill (head_at s chunk) (decode word) =
      (was.lawful.seen was.hand (slabs_here view was slabs mine).0).last_heads chunk (decode word) (near_here view chunk in_range was) (ap (λ looks. seen_head looks chunk) (looks_here view was) ∙ last) in
      let issue : (head_at s chunk).issue ≡ (decode word).issue = (still.1 (ap (λ (t : Tag). is_out t || is_free t || is_unlinked t && (decode word).count == 0) tag)).1 in
      let same : decode found ≡ decode word = same_unheld (decode found) (decode word) (ap (λ (h : Head). h.issue) (sym is) ∙ issue) again unheld in
      absurd (apart (sym (are_one_word.again found) ∙ (ap code same ∙ are_one_word.again word)))
  | inr held ↦ held
]

-- the key that was read, and its stripe
some_number : (o : Option ℕ) (stripe n : ℕ) → option_map (λ key. key % n) o ≡ Some stripe → (key : ℕ) × (o ≡ Some key) × (key % n ≡ stripe)
some_number None stripe n is = absurd (cc)
some_number (Some key) stripe n is = (key, refl, cc)

pub stripe_key : (view : View) (chunk : ChunkId) (stripe : ℕ) → stripe_read view chunk ≡ Some stripe → (key : ℕ) × (key_read view chunk ≡ Some key) × (key % view.setup.config.stripes ≡ stripe)
stripe_key view chunk stripe is = some_number (key_read view chunk) stripe view.setup.config.stripes is

-- what the call asks
pub record Asks (view : View) (slabs : SlabState) (stripe : ℕ) (value : ReadyStripe) (chunk : ChunkId) : Type 0 where
  pub in_range : has_chunk view.setup.table chunk ≡ true
  pub mine : view.slabs ≡ Some slabs
  pub held : slice_index_or view.stripes stripe None ≡ Some value
  pub ready : value.ready ≡ true
  pub key : stripe_read view chunk ≡ Some stripe
  pub reason : knows_reason slabs view.row.looks view.row.holdings chunk ≡ true

-- as it is asked, of the arena's setup
pub asks : (view : View) (setup : Setup) (slabs : SlabState) (stripe : ℕ) (value : ReadyStripe) (chunk : ChunkId) → view.setup ≡ setup → has_chunk setup.table chunk ≡ true → view.slabs ≡ Some slabs → slice_index_or view.stripes stripe None ≡ Some value
    → value.ready ≡ true → stripe_read view chunk ≡ Some stripe → knows_reason slabs view.row.looks view.row.holdings chunk ≡ true → Asks view slabs stripe value chunk
asks view setup slabs stripe value chunk of in_range mine held ready key reason = record {
  in_range = ap (λ (s : Setup). has_chunk s.table chunk) of ∙ in_range;
  mine = mine;
  held = held;
  ready = ready;
  key = key;
  reason = reason;
}

module _ (view : View) (slabs : SlabState) (stripe : ℕ) (value : ReadyStripe) (chunk : ChunkId) (ask : Asks view slabs stripe value chunk) where
  -- a chunk of which a word was read was found linked, and has that word
  pub read_before : LawfulView view → (was_linked view.row.looks chunk ≡ true) × (0 < room_in view.setup.table (class_of_page slabs chunk.page))
  read_before was =
      let m = was.moment in
      let held = slabs_here view was slabs ask.mine in
      let (key, is, of) = stripe_key view chunk stripe ask.key in
      let read = (was.lawful.seen was.hand held.0).read_words chunk 0 key (near_here view chunk ask.in_range was) (ap (λ looks. fold (last_read chunk 0) None looks) (looks_here view was) ∙ is) in
      let room : room_in m.state.table (class_of_page m.state.slabs chunk.page) ≡ room_in view.setup.table (class_of_page slabs chunk.page) = (λ k. room_in (was.same_table k) (class_of_page (held.1 k) chunk.page)) in (
        ap (λ looks. was_linked looks chunk) (sym (looks_here view was)) ∙ (was_linked_is (looks_at m.state was.hand) chunk ∙ read.linked),
        subst (λ (n : ℕ). 0 < n) room read.within,
      )

  -- the key is read as it was before
  pub key_found : (key : ℕ) → IfSome (word_read view chunk 0) (λ before. key ≡ before) → HasBoth view slabs stripe value chunk key
  key_found key again =
      let (before, is, of) = stripe_key view chunk stripe ask.key in
      let same : key ≡ before = subst (λ (o : Option ℕ). IfSome o (λ before. key ≡ before)) is again in record {
        in_range = ask.in_range;
        mine = ask.mine;
        held = ask.held;
        read = is ∙ ap Some (sym same);
        of_key = ap (λ (k : ℕ). k % view.setup.config.stripes) same ∙ of;
      }

-- the hand read the key again, and looked at the header
module _ (view read seen : View) (slabs : SlabState) (stripe : ℕ) (value : ReadyStripe) (chunk : ChunkId) (key word : ℕ) (has : HasBoth view slabs stripe value chunk key) (read_is : read ≡ key_seen chunk key view) (seen_so : seen ≡ head_seen chunk (decode word) read) where
  -- as the views after these two
  abbrev plain : View
  plain = views.with_event [] (core.Head chunk) (views.view_after_look (Saw chunk (decode word)) (views.view_after_sight (header chunk (decode word)) (key_seen chunk key view)))

  seen_plain : seen ≡ plain
  seen_plain = seen_so ∙ (ap (head_seen chunk (decode word)) read_is ∙ seen_is (key_seen chunk key view) chunk (decode word) slabs has.mine)

  pub seen_whole : seen ≡ head_seen chunk (decode word) (key_seen chunk key view)
  seen_whole = seen_so ∙ ap (head_seen chunk (decode word)) read_is

  key_again : key_read plain chunk ≡ Some key
  key_again =
      fold-append (last_read chunk 0) None (view.row.looks ++ Read chunk 0 key ∷ []) (Saw chunk (decode word) ∷ [])
      ∙ (fold-append (last_read chunk 0) None view.row.looks (Read chunk 0 key ∷ [])
      ∙ ap (λ (b : Bool). if b && true then Some key else fold (last_read chunk 0) None view.row.looks) (is_chunk-same chunk))

  pub has_still : HasBoth seen slabs stripe value chunk key
  has_still = subst (λ (v : View). HasBoth v slabs stripe value chunk key) (sym seen_plain) (record { in_range = has.in_range; mine = has.mine; held = has.held; read = key_again; of_key = has.of_key })

  pub copy_still : has_copy view.row.holdings chunk ≡ true → has_copy seen.row.holdings chunk ≡ true
  copy_still copies = ap (λ (v : View). has_copy v.row.holdings chunk) seen_plain ∙ copies

  -- what was read of the chunk before
  read_still : (place : ℕ) → word_read seen chunk place ≡ word_read view chunk place
  read_still place =
      let once = fold (last_read chunk place) None view.row.looks in
      ap (λ (v : View). word_read v chunk place) seen_plain
      ∙ (fold-append (last_read chunk place) None (view.row.looks ++ Read chunk 0 key ∷ []) (Saw chunk (decode word) ∷ [])
      ∙ (fold-append (last_read chunk place) None view.row.looks (Read chunk 0 key ∷ [])
      ∙ (ap (λ (b : Bool). if b && 0 == place then Some key else once) (is_chunk-same chunk) ∙ elim (cases_Bool (0 == place)) [
        | inl same ↦ ap (λ (b : Bool). if b then Some key else once) same ∙ (sym has.read ∙ ap (λ (n : ℕ). fold (last_read chunk n) None view.row.looks) (eqb-true 0 place same))
        | inr apart ↦ ap (λ (b : Bool). if b then Some key else once) apart
      ])))

  pub none_still : has_copy view.row.holdings chunk ≡ false → has_copy seen.row.holdings chunk ≡ false
  none_still none = ap (λ (v : View). has_copy v.row.holdings chunk) seen_plain ∙ none

  pub last_seen : seen_head seen.row.looks chunk ≡ Some (decode word)
  last_seen =
      ap (λ (v : View). seen_head v.row.looks chunk) seen_plain
      ∙ (fold-append (last_head chunk) None (view.row.looks ++ Read chunk 0 key ∷ []) (Saw chunk (decode word) ∷ [])
      ∙ ap (λ (b : Bool). if b then Some (decode word) else seen_head (view.row.looks ++ Read chunk 0 key ∷ []) chunk) (is_chunk-same chunk))

  module _ (unheld : is_linked_unheld (decode word) ≡ true) where
    alive : is_dead (decode word) ≡ false
    alive = ap (λ (t : Tag). is_unlinked t && (decode word).count == 0) (tag_linked (decode word).tag (and_parts _ _ unheld).0)

    pub reason_still : knows_reason slabs view.row.looks view.row.holdings chunk ≡ true → knows_reason slabs seen.row.looks seen.row.holdings chunk ≡ true
    reason_still knows =
        let once = view.row.looks ++ Read chunk 0 key ∷ [] in
        let twice = once ++ Saw chunk (decode word) ∷ [] in
        ap (λ (v : View). knows_reason slabs v.row.looks v.row.holdings chunk) seen_plain
        ∙ reason_after slabs once twice view.row.holdings chunk (alive_after_look once chunk (decode word) alive) (unfit_after_look once chunk (decode word))
        (reason_after slabs view.row.looks once view.row.holdings chunk (λ other was. alive_after_read view.row.looks chunk 0 key other ∙ was) (λ other unfit. unfit_after_read view.row.looks chunk 0 key other ∙ unfit) knows)

    -- the key led to the chunk
    pub led_there : (now : View) (at : HappensAt (head_word seen.setup chunk) word seen [] (core.Condemn chunk) now) → chunk_and_stamp value.state key ≡ Some (chunk, word_at at.0.was.moment.state chunk 1)
    led_there now at =
        let h = at.0 in
        let is : head_at h.was.moment.state chunk ≡ decode word = head_is seen chunk has_still.in_range h.was ∙ ap decode at.1 in
        leads_there seen slabs stripe value chunk key has_still h.was (ap (λ (h : Head). h.tag) is ∙ tag_linked (decode word).tag (and_parts _ _ unheld).0)

    module _ (reads : Happens view [] (core.WordHeld chunk 0) read) (looks : Happens read [] (core.Head chunk) seen) where
      -- the item was taken away
      pub condemns : (number : ℕ) (now : View) (left : ReadyStripe) → seen.row.ids.number ≡ Some number → has_copy view.row.holdings chunk ≡ false → left ≡ used_up (after_evict value.state number key)
          → HappensAt (head_word seen.setup chunk) word seen [] (core.Condemn chunk) now → Condemns number stripe chunk value view left now
      condemns number now left numbered none left_is at =
          let h = at.0 in
          let is : head_at h.was.moment.state chunk ≡ decode word = head_is seen chunk has_still.in_range h.was ∙ ap decode at.1 in record {
            key = key;
            is_key = has.read;
            stamp = word_at h.was.moment.state chunk 1;
            led = led_there now at;
            head = decode word;
            unheld = unheld;
            reads = subst (Happens view [] (core.WordHeld chunk 0)) read_is reads;
            looks = subst (λ (p : View × View). Happens p.0 [] (core.Head chunk) p.1) (λ k. (read_is k, seen_whole k)) looks;
            happens = subst (λ (v : View). Happens v [] (core.Condemn chunk) now) seen_whole h;
            is = condemned_view seen slabs stripe value chunk key has_still number numbered (none_still none) now (decode word) h is ∙ ap (item_condemned number stripe value key chunk (decode word)) seen_whole;
            left_is = left_is;
          }

      -- or the original was, of which the hand has a copy
      pub condemns_original : (now : View) (left : ReadyStripe) → has_copy view.row.holdings chunk ≡ true → left ≡ record value { state = after_lift value.state key } → HappensAt (head_word seen.setup chunk) word seen [] (core.Condemn chunk) now
          → CondemnsOriginal stripe chunk value view left now
      condemns_original now left copies left_is at =
          let h = at.0 in
          let is : head_at h.was.moment.state chunk ≡ decode word = head_is seen chunk has_still.in_range h.was ∙ ap decode at.1 in
          let tag : (head_at h.was.moment.state chunk).tag ≡ Linked = ap (λ (h : Head). h.tag) is ∙ tag_linked (decode word).tag (and_parts _ _ unheld).0 in record {
            key = key;
            is_key = has.read;
            stamp = word_at h.was.moment.state chunk 1;
            led = led_there now at;
            item = item_at h.was.moment.state chunk;
            whole = item_whole seen slabs stripe value chunk key has_still h.was tag;
            key_is = item_key seen slabs stripe value chunk key has_still h.was tag;
            stamp_is = item_stamp seen slabs stripe value chunk key has_still h.was tag;
            read_is = λ place found read. item_read seen slabs stripe value chunk key has_still h.was tag place found (read_still place ∙ read);
            head = decode word;
            unheld = unheld;
            reads = subst (Happens view [] (core.WordHeld chunk 0)) read_is reads;
            looks = subst (λ (p : View × View). Happens p.0 [] (core.Head chunk) p.1) (λ k. (read_is k, seen_whole k)) looks;
            happens = subst (λ (v : View). Happens v [] (core.Condemn chunk) now) seen_whole h;
            is = original_view seen slabs stripe value chunk key has_still (copy_still copies) now (decode word) h is ∙ ap (original_condemned stripe value key chunk (item_at h.was.moment.state chunk) (decode word)) seen_whole;
            left_is = left_is;
          }

      -- it wasn't, as the header isn't so any more
      pub finds_held : (now : View) (found : ℕ) → found ≢ word → HappensAt (head_word seen.setup chunk) found seen [] (core.Head chunk) now → FindsHeld view chunk now
      finds_held now found apart at = record {
        key = key;
        is_key = has.read;
        reads = subst (Happens view [] (core.WordHeld chunk 0)) read_is reads;
        finds = inr (
          decode word,
          subst (λ (p : View × View). Happens p.0 [] (core.Head chunk) p.1) (λ k. (read_is k, seen_whole k)) looks,
          subst (λ (v : View). SeesHeld v chunk now) seen_whole (record {
            chunk = chunk;
            is_asked = refl;
            head = decode found;
            other = other_held seen slabs chunk word found has_still.mine has_still.in_range last_seen unheld at.0.was at.1 apart;
            happens = at.0;
            is = seen_views.seen_head seen now chunk found has_still.in_range at;
          }),
        );
      }

  -- the hand is the same
  pub same_number : (a b : ℕ) → view.row.ids.number ≡ Some a → seen.row.ids.number ≡ Some b → b ≡ a
  same_number a b one two = some_same b a (sym two ∙ (ap (λ (v : View). v.row.ids.number) seen_plain ∙ one))
    where
      some_same : (a b : ℕ) → Some a ≡ Some b → a ≡ b
      some_same a b e = cc

  pub same_holdings : seen.row.holdings ≡ view.row.holdings
  same_holdings = ap (λ (v : View). v.row.holdings) seen_plain

  -- whether the exchange hits or misses, nothing that is held comes or goes
  pub held_after : (number found : ℕ) (now : View) → seen.row.ids.number ≡ Some number → has_copy view.row.holdings chunk ≡ false → (found ≡ word → HappensAt (head_word seen.setup chunk) found seen [] (core.Condemn chunk) now)
      → (found ≢ word → HappensAt (head_word seen.setup chunk) found seen [] (core.Head chunk) now) → (now.row.ids ≡ seen.row.ids) × (now.row.holdings ≡ seen.row.holdings)
  held_after number found now numbered none hits misses = elim (cases_eq found word) [
    | inl hit ↦
        let h = (hits hit).0 in
        let is = condemned_view seen slabs stripe value chunk key has_still number numbered (none_still none) now (head_at h.was.moment.state chunk) h refl in
        (ap (λ (v : View). v.row.ids) is, ap (λ (v : View). v.row.holdings) is)
    | inr miss ↦
        let is = seen_views.seen_head seen now chunk found has_still.in_range (misses miss) in
        (ap (λ (v : View). v.row.ids) is, ap (λ (v : View). v.row.holdings) is)
  ]

  -- the same, of the original
  pub counts_after : (found : ℕ) (now : View) → has_copy view.row.holdings chunk ≡ true → (found ≡ word → HappensAt (head_word seen.setup chunk) found seen [] (core.Condemn chunk) now)
      → (found ≢ word → HappensAt (head_word seen.setup chunk) found seen [] (core.Head chunk) now)
      → (now.row.ids ≡ seen.row.ids) × (length now.row.holdings ≡ length seen.row.holdings) × (fresh_count now.row.holdings ≡ fresh_count seen.row.holdings)
  counts_after found now copies hits misses = elim (cases_eq found word) [
    | inl hit ↦
        let h = (hits hit).0 in
        let is = original_view seen slabs stripe value chunk key has_still (copy_still copies) now (head_at h.was.moment.state chunk) h refl in
        let item = item_at h.was.moment.state chunk in (
          ap (λ (v : View). v.row.ids) is,
          ap (λ (v : View). length v.row.holdings) is ∙ bound_length chunk item seen.row.holdings,
          ap (λ (v : View). fresh_count v.row.holdings) is ∙ bound_count chunk item seen.row.holdings,
        )
    | inr miss ↦
        let is = seen_views.seen_head seen now chunk found has_still.in_range (misses miss) in
        (ap (λ (v : View). v.row.ids) is, ap (λ (v : View). length v.row.holdings) is, ap (λ (v : View). fresh_count v.row.holdings) is)
  ]

  -- a miss leaves the values
  pub left_by_miss : (found : ℕ) (now : View) → HappensAt (head_word seen.setup chunk) found seen [] (core.Head chunk) now → (now.slabs ≡ Some slabs) × (slice_index_or now.stripes stripe None ≡ Some value)
  left_by_miss found now at =
      let is = seen_views.seen_head seen now chunk found has_still.in_range at in
      (ap (λ (v : View). v.slabs) is ∙ has_still.mine, ap (λ (v : View). slice_index_or v.stripes stripe None) is ∙ has_still.held)

  -- it is held, as the look tells
  pub sees_held : is_linked_unheld (decode word) ≡ false → Happens view [] (core.WordHeld chunk 0) read → Happens read [] (core.Head chunk) seen → FindsHeld view chunk seen
  sees_held held reads looks = record {
    key = key;
    is_key = has.read;
    reads = subst (Happens view [] (core.WordHeld chunk 0)) read_is reads;
    finds = inl (record {
      chunk = chunk;
      is_asked = refl;
      head = decode word;
      other = held;
      happens = subst (λ (v : View). Happens v [] (core.Head chunk) seen) read_is looks;
      is = seen_whole;
    });
  }

-- a condemned chunk was last seen dead
pub condemned_dead : (number stripe : ℕ) (value : ReadyStripe) (key : ℕ) (chunk : ChunkId) (head : Head) (view : View) → option_map is_dead (seen_head (item_condemned number stripe value key chunk head view).row.looks chunk) ≡ Some true
condemned_dead number stripe value key chunk head view =
    ap (option_map is_dead)
    (fold-append (last_head chunk) None view.row.looks (Condemned chunk (head_after_condemn head) ∷ []) ∙ ap (λ (b : Bool). if b then Some (head_after_condemn head) else seen_head view.row.looks chunk) (is_chunk-same chunk))

-- what is left of the stripe, and of pages and lists
pub left_by_condemn : (view : View) (number stripe : ℕ) (value left : ReadyStripe) (chunk : ChunkId) (now : View) → slice_index_or view.stripes stripe None ≡ Some value → Condemns number stripe chunk value view left now → slice_index_or now.stripes stripe None ≡ Some left
left_by_condemn view number stripe value left chunk now held done =
    ap (λ (v : View). slice_index_or v.stripes stripe None) done.is
    ∙ (get_or-set_same view.stripes stripe (Some (used_up (after_evict value.state number done.key))) None (inside view.stripes stripe value held) ∙ ap Some (sym done.left_is))

pub dead_by_condemn : (view : View) (number stripe : ℕ) (value left : ReadyStripe) (chunk : ChunkId) (now : View) → Condemns number stripe chunk value view left now → option_map is_dead (seen_head now.row.looks chunk) ≡ Some true
dead_by_condemn view number stripe value left chunk now done =
    ap (λ (v : View). option_map is_dead (seen_head v.row.looks chunk)) done.is ∙ condemned_dead number stripe value done.key chunk done.head (head_seen chunk done.head (key_seen chunk done.key view))

-- and what is left where the original was
pub left_by_original : (view : View) (stripe : ℕ) (value left : ReadyStripe) (chunk : ChunkId) (now : View) → slice_index_or view.stripes stripe None ≡ Some value → CondemnsOriginal stripe chunk value view left now → slice_index_or now.stripes stripe None ≡ Some left
left_by_original view stripe value left chunk now held done =
    ap (λ (v : View). slice_index_or v.stripes stripe None) done.is
    ∙ (get_or-set_same view.stripes stripe (Some (record value { state = after_lift value.state done.key })) None (inside view.stripes stripe value held) ∙ ap Some (sym done.left_is))

pub dead_by_original : (view : View) (stripe : ℕ) (value left : ReadyStripe) (chunk : ChunkId) (now : View) → CondemnsOriginal stripe chunk value view left now → option_map is_dead (seen_head now.row.looks chunk) ≡ Some true
dead_by_original view stripe value left chunk now done =
    let before = (head_seen chunk done.head (key_seen chunk done.key view)).row.looks in
    ap (λ (v : View). option_map is_dead (seen_head v.row.looks chunk)) done.is
    ∙ ap (option_map is_dead)
    (fold-append (last_head chunk) None before (Condemned chunk (head_after_condemn done.head) ∷ []) ∙ ap (λ (b : Bool). if b then Some (head_after_condemn done.head) else seen_head before chunk) (is_chunk-same chunk))
