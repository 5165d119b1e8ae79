-- Words of linked chunks are read under the slabs lock: the page's owner tells where they stand.
use Rattle.std.proofs.Common.{◌≡◌, ℕ, ◌+◌, ◌*◌, ◌/◌, ◌<◌, ◌≤◌, Bool, true, List, [], ◌∷◌, ◌++◌, length, Option, Some, None, IfSome, refl, sym, subst, ap, ap₂, ◌∙◌, arith, is_some, slice_index, lt-ltb, get_or-set_same, if◌then◌else◌, inl, inr}
use Rattle.std.specs.List.{fold}
use Rattle.std.proofs.lemmas.Bool.{and_from, cases_Bool}
use Rattle.mc_classes.specs.Classes.{Classes, arena_pages_of, size_of}
use Rattle.mc_pages.specs.declared.ids.ChunkId.{ChunkId}
use Rattle.mc_pages.specs.SlabState.{SlabState, class_of_page}
use Rattle.mc_core.specs.declared.look.Look.{Look}
use Rattle.mc_core.specs.declared.look.Look.TheVariants.{Read}
use Rattle.mc_core.specs.declared.event.Step.TheVariants as core
use Rattle.mc_core.specs.model.Columns.{IsHandedOut, Shows, head_in, place_in}
use Rattle.mc_core.specs.model.Holdings.{all_known, word_in}
use Rattle.mc_core.specs.law.Knowing.{IsTrueStill}
use Rattle.mc_core.specs.model.Looks.{was_linked}
use Rattle.mc_core.specs.past.Past.{Moment, moment_stepped}
use Rattle.mc_core.specs.law.Seen.{last_read, linked_issue}
use Rattle.mc_core.specs.model.State.{State, has_chunk, head_at, is_class, looks_at, page_words, room_in, word_at}
use Rattle.mc_core.proofs.Steps.Base.{IsPlaced, chunk_within, placed_at, word_within}
use Rattle.mc_core.proofs.Hands.MoreRows.{each_contained}
use Rattle.mc_core.specs.law.Knowing.{WasStored}
use Rattle.mc_core.specs.past.Past.{KnownItem}
use Rattle.mc_core.specs.model.Holdings.{stamp_in_words}
use Rattle.mc_words.specs.item.Items.{IsWordOfItem}
use Rattle.mc_core.proofs.ItemWords.Numbers.{known_at, known_long, whole_known}
use Rattle.mc_core.proofs.Seen.SeenAdds.{was_linked_is}
use Rattle.mc_core.proofs.Seen.SeenLooks.{some_is}
use Rattle.mc_core.proofs.ItemWords.ShownItems.{IsWhole, whole_word}
use Rattle.mc_words.specs.hand.View.{Setup, View}
use Rattle.mc_words.specs.rule.Layout.{data_word, data_from, data_count, config_from}
use Rattle.mc_words.specs.rule.Happens.{LawfulView, HappensAt, MayWrite}
use Rattle.mc_words.specs.item.Items.{word_read}
use Rattle.mc_words.specs.hand.Views.{held_word_seen}
use Rattle.mc_words.proofs.Rules.Written.{data_read, unwritten}
use Rattle.mc_words.proofs.Locks.LockViews.{view_from, holdings_were, looks_were, rows, slabs_were, stripes_were}
use Rattle.mc_words.proofs.Chunks.Heads.{near_here}
use Rattle.mc_words.proofs.Chunks.Judging.{room_of}
use Rattle.mc_words.proofs.Pages.Owners.{looks_here, slabs_here}
use Rattle.mc_words.proofs.Pages.OwnerViews.{learned_none}

-- there is room in chunks of a class alone
class_if_room : (table : Classes) (class place : ℕ) → place < room_in table class → is_class table class ≡ true
class_if_room table class place in_range = elim (cases_Bool (is_class table class)) [
  | inl is ↦ is
  | inr isnt ↦ absurd (let none : room_in table class ≡ 0 = ap (λ (b : Bool). if b then size_of table class / 8 else 0) isnt in omega arith)
]

-- the room of a chunk, by the size of the class that has its page
pub held_room : (setup seen : Setup) (table : Classes) (slabs : SlabState) (page class size place : ℕ) → seen ≡ setup → table ≡ setup.table → class ≡ class_of_page slabs page → place < room_in setup.table (class_of_page slabs page)
    → (is_class table class ≡ true) × (size ≡ size_of table class → size / 8 ≡ room_in seen.table (class_of_page slabs page))
held_room setup seen table slabs page class size place seen_is table_is class_here inside =
    let is : is_class table class ≡ true = (λ k. is_class (table_is k) (class_here k)) ∙ class_if_room setup.table (class_of_page slabs page) place inside in
    (is, λ size_is. room_of table class size is size_is ∙ ap₂ room_in (table_is ∙ ap (λ (s : Setup). s.table) (sym seen_is)) class_here)

module _ (view : View) (slabs : SlabState) (mine : view.slabs ≡ Some slabs) (chunk : ChunkId) (in_range : has_chunk view.setup.table chunk ≡ true) where
  -- its page has an owner
  pub owner_near : LawfulView view → chunk.page < length slabs.owners
  owner_near was =
      let s : State = was.moment.state in
      let pages : length s.slabs.owners ≡ arena_pages_of view.setup.table = was.lawful.paged.of_table.owners ∙ ap arena_pages_of was.same_table in
      let owners : length s.slabs.owners ≡ length slabs.owners = ap (λ (x : SlabState). length x.owners) (slabs_here view was slabs mine).1 in
      let within = (chunk_within view.setup.table chunk in_range).0 in
      omega arith

  module _ (linked : was_linked view.row.looks chunk ≡ true) (place : ℕ) (inside : place < room_in view.setup.table (class_of_page slabs chunk.page)) where
    module _ (was : LawfulView view) where
      abbrev m : Moment
      m = was.moment

      near_there : has_chunk m.state.table chunk ≡ true
      near_there = near_here view chunk in_range was

      -- it was handed out, and is so still
      placed : IsPlaced m.state.slabs chunk
      placed =
          let found : is_some (fold (linked_issue chunk) None (looks_at m.state was.hand)) ≡ true =
          sym (was_linked_is (looks_at m.state was.hand) chunk) ∙ (ap (λ looks. was_linked looks chunk) (looks_here view was) ∙ linked) in
          let (issue, is) = some_is (fold (linked_issue chunk) None (looks_at m.state was.hand)) found in
          let out : IsHandedOut (head_at m.state chunk) issue = ((was.lawful.seen was.hand (slabs_here view was slabs mine).0).linked chunk issue near_there is).0 in
          (placed_at m was.lawful chunk issue near_there out).0

      room_is : room_in m.state.table (class_of_page m.state.slabs chunk.page) ≡ room_in view.setup.table (class_of_page slabs chunk.page)
      room_is = (λ k. room_in (was.same_table k) (class_of_page ((slabs_here view was slabs mine).1 k) chunk.page))

      on_page : place < room_in m.state.table (class_of_page m.state.slabs chunk.page)
      on_page = let same = room_is in omega arith

      -- where the word stands
      stands_at : data_word view.setup (room_in view.setup.table (class_of_page slabs chunk.page)) chunk place ≡ data_from view.setup + place_in m.state.table m.state.slabs chunk place
      stands_at = ap₂ (λ (rows room : ℕ). data_from view.setup + (chunk.page * rows + chunk.index * room + place)) (ap page_words (sym was.same_table)) (sym room_is)

      within : place_in m.state.table m.state.slabs chunk place < data_count view.setup
      within =
          let inside = word_within m was.lawful chunk place near_there placed on_page in
          let long = was.lawful.sized.places in
          let count : arena_pages_of m.state.table * page_words m.state.table ≡ data_count view.setup = ap (λ table. arena_pages_of table * page_words table) was.same_table in
          omega arith

      -- it is a data word
      pub held_near : data_word view.setup (room_in view.setup.table (class_of_page slabs chunk.page)) chunk place < config_from view.setup
      held_near = let is = stands_at in let in_range = within in omega arith

      -- and that of the chunk
      held_word : slice_index was.words (data_word view.setup (room_in view.setup.table (class_of_page slabs chunk.page)) chunk place) ≡ word_at m.state chunk place
      held_word =
          ap (slice_index was.words) stands_at
          ∙ data_read view.setup was.cuts was.words m.state.slabs_lock m.state.stripe_locks m.state.heads m.state.words was.are (place_in m.state.table m.state.slabs chunk place) within

      -- the item that it had then is known, and so says a length that fits
      length_there : 3 + word_at m.state chunk 2 ≤ room_in view.setup.table (class_of_page slabs chunk.page)
      length_there =
          let found : is_some (fold (linked_issue chunk) None (looks_at m.state was.hand)) ≡ true =
          sym (was_linked_is (looks_at m.state was.hand) chunk) ∙ (ap (λ looks. was_linked looks chunk) (looks_here view was) ∙ linked) in
          let (issue, is) = some_is (fold (linked_issue chunk) None (looks_at m.state was.hand)) found in
          let (out, (hand, k, has, same)) = (was.lawful.seen was.hand (slabs_here view was slabs mine).0).linked chunk issue near_there is in
          let true_still = each_contained (IsTrueStill m.state.table m.state.slabs m.state.heads m.state.words m.state.holdings) m.past.known hand k was.lawful.known.still has in
          let shown = true_still.shows (subst (λ (c : ChunkId). IsHandedOut (head_in m.state.table m.state.heads c) k.issue) (sym same.0) (out.0, out.1 ∙ sym same.1)) in
          let here : Shows m.state.table m.state.slabs m.state.words chunk (all_known k.words) = subst (λ (c : ChunkId). Shows m.state.table m.state.slabs m.state.words c (all_known k.words)) same.0 shown in
          let whole : IsWhole (all_known k.words) = whole_known k.words true_still.whole in
          let long = whole.long in
          let third = here.known_words 2 (word_in (all_known k.words) 2) (whole_word (all_known k.words) 2 whole (omega arith)) in
          let last : word_at m.state chunk 2 ≡ word_in (all_known k.words) 2 = third in
          let fits : length (all_known k.words) ≤ room_in m.state.table (class_of_page m.state.slabs chunk.page) = here.fits in
          let same_room = room_is in
          omega arith

    -- the word is that of an item that some hand knows
    pub known_word : (now : View) (word : ℕ) → HappensAt (data_word view.setup (room_in view.setup.table (class_of_page slabs chunk.page)) chunk place) word view [] (core.WordHeld chunk place) now
        → (was : LawfulView view) × IsWordOfItem was.moment chunk place word
    known_word now word at =
        let was = at.0.was in
        let s : State = was.moment.state in
        let found : is_some (fold (linked_issue chunk) None (looks_at s was.hand)) ≡ true =
        sym (was_linked_is (looks_at s was.hand) chunk) ∙ (ap (λ looks. was_linked looks chunk) (looks_here view was) ∙ linked) in
        let (issue, is) = some_is (fold (linked_issue chunk) None (looks_at s was.hand)) found in
        let (out, (hand, k, has, same)) = (was.lawful.seen was.hand (slabs_here view was slabs mine).0).linked chunk issue (near_there was) is in
        let still = each_contained (IsTrueStill s.table s.slabs s.heads s.words s.holdings) was.moment.past.known hand k was.lawful.known.still has in
        let shown = still.shows (subst (λ (c : ChunkId). IsHandedOut (head_in s.table s.heads c) k.issue) (sym same.0) (out.0, out.1 ∙ sym same.1)) in
        let here : Shows s.table s.slabs s.words chunk (all_known k.words) = subst (λ (c : ChunkId). Shows s.table s.slabs s.words c (all_known k.words)) same.0 shown in
        let whole : IsWhole (all_known k.words) = whole_known k.words still.whole in
        let count = known_long k.words in (
          was,
          record {
            hand = hand;
            item = k;
            known = has;
            there = same.0;
            stored = each_contained (λ (known : KnownItem). WasStored was.moment.past.stored (stamp_in_words known.words) known.words) was.moment.past.known hand k was.lawful.known.said_by_some has;
            is_word = λ within. sym (known_at k.words place)
                ∙ (sym (here.known_words place (word_in (all_known k.words) place) (whole_word (all_known k.words) place whole (omega arith))) ∙ (sym (held_word was) ∙ at.1));
          },
        )

    -- the length that was read fits
    pub length_fits : (now : View) (word : ℕ) → HappensAt (data_word view.setup (room_in view.setup.table (class_of_page slabs chunk.page)) chunk place) word view [] (core.WordHeld chunk place) now
        → place ≡ 2 → 3 + word ≤ room_in view.setup.table (class_of_page slabs chunk.page)
    length_fits now word at third =
        let was = at.0.was in
        let is : word_at was.moment.state chunk 2 ≡ word = sym (ap (word_at was.moment.state chunk) third) ∙ (sym (held_word was) ∙ at.1) in
        let fits = length_there was in
        omega arith

    -- it is read
    pub may_read_held : (at : ℕ) → MayWrite view (core.WordHeld chunk place) at (λ found. found)
    may_read_held at was fits =
        let s : State = was.moment.state in (
          and_from _ _ (and_from _ _ (and_from _ _ (slabs_here view was slabs mine).0 (near_there was)) (ap (λ looks. was_linked looks chunk) (looks_here view was) ∙ linked)) (lt-ltb place (room_in s.table (class_of_page s.slabs chunk.page)) (on_page was)),
          unwritten view.setup was.cuts was.words s.slabs_lock s.stripe_locks s.heads s.words was.are at,
        )

    -- a word that was read before is the same again
    pub read_again : (now : View) (word : ℕ) → HappensAt (data_word view.setup (room_in view.setup.table (class_of_page slabs chunk.page)) chunk place) word view [] (core.WordHeld chunk place) now
        → IfSome (word_read view chunk place) (λ before. word ≡ before)
    read_again now word at = if_read (word_read view chunk place) refl
      where
        if_read : (o : Option ℕ) → word_read view chunk place ≡ o → IfSome o (λ before. word ≡ before)
        if_read None is = tt
        if_read (Some before) is =
            let was = at.0.was in
            let still = (was.lawful.seen was.hand (slabs_here view was slabs mine).0).read_words chunk place before (near_there was) (ap (λ (looks : List Look). fold (last_read chunk place) None looks) (looks_here view was) ∙ is) in
            sym at.1 ∙ (held_word was ∙ still.same)

    -- which is a look
    pub read_held : (now : View) (word : ℕ) → HappensAt (data_word view.setup (room_in view.setup.table (class_of_page slabs chunk.page)) chunk place) word view [] (core.WordHeld chunk place) now → now ≡ held_word_seen chunk place word view
    read_held now word at =
        let h = at.0 in
        let m : Moment = h.was.moment in
        let id : ℕ = h.was.hand in
        let after : Moment = moment_stepped m id (core.WordHeld chunk place) in
        let is : word_at m.state chunk place ≡ word = sym (held_word h.was) ∙ at.1 in
        h.is ∙ view_from view h.was _ after refl view.row.holdings (holdings_were view now h.was)
        (view.row.looks ++ Read chunk place word ∷ [])
        (get_or-set_same m.state.looks id (looks_at m.state id ++ Read chunk place (word_at m.state chunk place) ∷ []) [] (rows view now h.was) ∙ ap₂ (λ (looks : List Look) (word : ℕ). looks ++ Read chunk place word ∷ []) (looks_were view now h.was) is)
        view.row.knows (learned_none view now (core.WordHeld chunk place) h refl refl (λ knows. refl)) view.slabs (slabs_were view now h.was) view.stripes (stripes_were view now h.was)
