-- The words of a reference are read: by the law they are its item's, at the place that its room gives.
use Rattle.std.proofs.Common.{◌≡◌, ℕ, ◌+◌, ◌*◌, ◌<◌, not, false, List, [], length, Option, Some, refl, sym, ap, ap₂, subst, ◌∙◌, arith, slice_index, slice_index_or, slice_get, lt-ltb, Contains}
use Rattle.std.proofs.lemmas.Bool.{and_from}
use Rattle.std.proofs.lemmas.List.{length-map}
use Rattle.std.proofs.lemmas.Option.{slice_get-map, slice_get-get_or}
use Rattle.std.specs.Option.{option_map, option_map_or}
use Rattle.mc_classes.specs.Classes.{arena_pages_of}
use Rattle.mc_pages.specs.declared.ids.ChunkId.{ChunkId}
use Rattle.mc_pages.specs.SlabState.{class_of_page}
use Rattle.mc_pages.proofs.Chunks.{same_from_is_chunk}
use Rattle.mc_core.specs.declared.holding.Holding.{Holding}
use Rattle.mc_core.specs.declared.holding.Kind.{Kind}
use Rattle.mc_core.specs.declared.holding.Kind.TheVariants.{Reference, Fresh}
use Rattle.mc_core.specs.declared.event.Step.TheVariants as core
use Rattle.mc_core.specs.model.Holdings.{is_of_chunk, is_fresh_kind, holding_of, holding_words, words_of_kind, item_of, item_of_kind}
use Rattle.mc_core.specs.model.State.{State, head_at, holdings_at, room_in, page_words}
use Rattle.mc_core.specs.run.Items.{can_read_in}
use Rattle.mc_core.specs.model.Columns.{Shows, IsHandedOut, place_in, head_in}
use Rattle.mc_core.specs.past.Past.{Moment, KnownItem, known_by, moment_stepped}
use Rattle.mc_core.proofs.Steps.Base.{IsPlaced, placed_at, word_within}
use Rattle.mc_core.proofs.Counts.Holders.{found_passes, found_each}
use Rattle.mc_core.proofs.Known.KnownQuiet.{IsStill}
use Rattle.mc_core.proofs.Hands.MoreRows.{each_contained}
use Rattle.mc_core.proofs.Seen.SeenQuiet.{held_near, held_handed_out}
use Rattle.mc_words.specs.hand.View.{View}
use Rattle.mc_words.specs.rule.Layout.{data_word, data_from, data_count, config_from}
use Rattle.mc_words.specs.rule.Happens.{LawfulView, Happens, MayWrite}
use Rattle.mc_words.specs.item.Items.{held_item}
use Rattle.mc_words.specs.hand.Views.{word_seen}
use Rattle.mc_words.specs.item.Refs.{IsRefOf}
use Rattle.mc_words.proofs.Rules.Written.{data_read, unwritten}
use Rattle.mc_words.proofs.Locks.LockViews.{view_from, holdings_were, looks_were, slabs_were, stripes_were}
use Rattle.mc_words.proofs.Pages.Owners.{holdings_here}
use Rattle.mc_words.proofs.Pages.OwnerViews.{learned_none}

-- of a reference each word of its item is known
item_known : (kind : Kind) (place : ℕ) → is_fresh_kind kind ≡ false → place < length (item_of_kind kind) → slice_get (words_of_kind kind) place ≡ Some (Some (slice_index (item_of_kind kind) place))
item_known (Reference item) place old in_range = slice_get-map (λ word. Some word) item place ∙ ap (option_map (λ word. Some word)) (slice_get-get_or item place 0 in_range)
item_known (Fresh purpose words) place old in_range = absurd (cc)

item_long : (kind : Kind) → is_fresh_kind kind ≡ false → length (words_of_kind kind) ≡ length (item_of_kind kind)
item_long (Reference item) old = length-map item (λ word. Some word)
item_long (Fresh purpose words) old = absurd (cc)

-- the item is that of what is found
pub item_found : (view : View) (chunk : ChunkId) (holding : Holding) → holding_of chunk view.row.holdings ≡ Some holding → held_item view chunk ≡ item_of holding
item_found view chunk holding found = ap (λ (o : Option Holding). option_map_or item_of o []) found

module _ (view : View) (chunk : ChunkId) (room : ℕ) (ref : IsRefOf view chunk room) (was : LawfulView view) where
  abbrev m : Moment
  m = was.moment

  abbrev holding : Holding
  holding = ref.holding

  pub found_here : holding_of chunk (holdings_at m.state was.hand) ≡ Some holding
  found_here = ap (holding_of chunk) (holdings_here view was) ∙ ref.found

  same_chunk : holding.chunk ≡ chunk
  same_chunk = same_from_is_chunk holding.chunk chunk (found_passes (is_of_chunk chunk) (holdings_at m.state was.hand) holding found_here)

  out : IsHandedOut (head_at m.state chunk) holding.issue
  out = held_handed_out m was.lawful was.hand chunk holding found_here

  pub placed : IsPlaced m.state.slabs chunk
  placed = (placed_at m was.lawful chunk holding.issue (held_near m was.lawful was.hand chunk holding found_here) out).0

  shows : Shows m.state.table m.state.slabs m.state.words chunk (holding_words holding)
  shows = subst (λ (c : ChunkId). Shows m.state.table m.state.slabs m.state.words c (holding_words holding)) same_chunk
      (found_each (λ h. Shows m.state.table m.state.slabs m.state.words h.chunk (holding_words h)) m.state.holdings was.hand (is_of_chunk chunk) holding found_here was.lawful.held.shows)

  -- how many words the chunk has
  pub room_is : room_in m.state.table (class_of_page m.state.slabs chunk.page) ≡ room
  room_is =
      let k : KnownItem = known_by room holding in
      let known : Contains (slice_index_or m.past.known was.hand []) k = subst (λ (l : List KnownItem). Contains l k) (ap (λ (v : View). v.row.knows.known) was.is) ref.knows in
      let still = each_contained (IsStill m was.lawful) m.past.known was.hand k was.lawful.known.still known in
      let out' : IsHandedOut (head_in m.state.table m.state.heads holding.chunk) holding.issue = subst (λ (c : ChunkId). IsHandedOut (head_in m.state.table m.state.heads c) holding.issue) (sym same_chunk) out in
      ap (λ (c : ChunkId). room_in m.state.table (class_of_page m.state.slabs c.page)) (sym same_chunk) ∙ still.room out'

  module _ (place : ℕ) (in_range : place < length (item_of ref.holding)) where
    on_page : place < room_in m.state.table (class_of_page m.state.slabs chunk.page)
    on_page = let fits = shows.fits in let long = item_long holding.kind ref.linked in omega arith

    -- where the word stands
    stands_at : data_word view.setup room chunk place ≡ data_from view.setup + place_in m.state.table m.state.slabs chunk place
    stands_at = ap₂ (λ (rows room : ℕ). data_from view.setup + (chunk.page * rows + chunk.index * room + place)) (ap page_words (sym was.same_table)) (sym room_is)

    within : place_in m.state.table m.state.slabs chunk place < data_count view.setup
    within =
        let inside = word_within m was.lawful chunk place (held_near m was.lawful was.hand chunk holding found_here) placed on_page in
        let long = was.lawful.sized.places in
        let count : arena_pages_of m.state.table * page_words m.state.table ≡ data_count view.setup = ap (λ table. arena_pages_of table * page_words table) was.same_table in
        omega arith

    -- it is a data word
    pub word_near : data_word view.setup room chunk place < config_from view.setup
    word_near = let is = stands_at in let in_range = within in omega arith

    -- and the item's
    pub word_is : slice_index was.words (data_word view.setup room chunk place) ≡ slice_index (item_of holding) place
    word_is =
        ap (slice_index was.words) stands_at
        ∙ (data_read view.setup was.cuts was.words m.state.slabs_lock m.state.stripe_locks m.state.heads m.state.words was.are (place_in m.state.table m.state.slabs chunk place) within
        ∙ shows.known_words place (slice_index (item_of holding) place) (item_known holding.kind place ref.linked in_range))

-- a word of the item is read
pub may_read : (view : View) (chunk : ChunkId) (room place : ℕ) (ref : IsRefOf view chunk room) → place < length (item_of ref.holding) → (at : ℕ) → MayWrite view (core.Word chunk place) at (λ found. found)
may_read view chunk room place ref in_range at was fits =
    let s : State = was.moment.state in (
      ap (can_read_in place) (ap (holding_of chunk) (holdings_here view was) ∙ ref.found) ∙ and_from _ _ (ap not ref.linked) (lt-ltb place (length (item_of ref.holding)) in_range),
      unwritten view.setup was.cuts was.words s.slabs_lock s.stripe_locks s.heads s.words was.are at,
    )

-- which is an event, and nothing else
pub read_word : (view now : View) (chunk : ChunkId) (place : ℕ) → Happens view [] (core.Word chunk place) now → now ≡ word_seen chunk place view
read_word view now chunk place h =
    let m : Moment = h.was.moment in
    let after : Moment = moment_stepped m h.was.hand (core.Word chunk place) in
    h.is ∙ view_from view h.was _ after refl view.row.holdings (holdings_were view now h.was) view.row.looks (looks_were view now h.was)
    view.row.knows (learned_none view now (core.Word chunk place) h refl refl (λ knows. refl)) view.slabs (slabs_were view now h.was) view.stripes (stripes_were view now h.was)
