-- The rule of the table gives the headline.
use Rattle.std.proofs.Common.{◌≡◌, ℕ, zero, suc, ◌+◌, ◌*◌, ◌<◌, ◌≤◌, ◌&&◌, not, Bool, true, false, List, [], ◌∷◌, map, length, Option, Some, None, refl, sym, ap, ap₂, subst, ◌∙◌, inl, inr, arith, slice_get, slice_index, slice_index_or, is_some, lt-ltb, le_trans, mul-le-mul_right, div-mul-le_self, Contains, nat_lt, ltb-true, option_map, ◌++◌}
use Rattle.std.proofs.lemmas.Bool.{and_from, and_parts, cases_Bool}
use Rattle.std.proofs.lemmas.List.Elements.{All-contains}
use mathlib.Core.Option.{some}
use mathlib.Core.Option as maybe
use lib.ListN.{get_elem?}
use Rattle.atomic_table.proofs.Lists.{at_map}
use Rattle.mc_classes.specs.Classes.{Classes, arena_pages_of}
use Rattle.mc_pages.specs.declared.ids.ChunkId.{ChunkId}
use Rattle.mc_pages.specs.Accounted.{is_cut, is_moving, is_of_class, places_in, truth, cut_count}
use Rattle.mc_pages.specs.ClassState.{times_in}
use Rattle.mc_pages.specs.Ledger.{all_untouched, ordinary_count, owner_at, replay}
use Rattle.mc_pages.specs.SlabState.{HasClass, SlabState, class_at, class_of_page, page_count}
use Rattle.mc_core.specs.declared.event.Event.{Event}
use Rattle.mc_core.specs.declared.head.Head.{Head}
use Rattle.mc_core.specs.declared.head.Tag.{Tag}
use Rattle.mc_core.specs.declared.head.Tag.TheVariants.{Free, Linked, Out, Unlinked}
use Rattle.mc_core.specs.declared.holding.Holding.{Holding}
use Rattle.mc_core.specs.model.Columns.{IsHandedOut, head_in, holder_count, count_of_holdings, link_count, place_in}
use Rattle.mc_core.specs.model.Head.{is_free, is_out, never_cut}
use Rattle.mc_core.specs.model.Holdings.{holding_words}
use Rattle.mc_core.specs.model.InOrder.{IsOfTable}
use Rattle.mc_core.specs.law.Lawful.{IsKept, IsLawful}
use Rattle.mc_core.specs.law.Laws.{moment_at_end}
use Rattle.mc_core.specs.past.Past.{Moment, moment_after}
use Rattle.mc_core.specs.past.Stretch.{HasSameWords, HoldsChunk, KeepsHolding, StaysKept}
use Rattle.mc_core.specs.model.State.{has_chunk, head_place, holdings_at, is_hand, number_at, page_words, chunk_room, room_in, word_at}
use Rattle.mc_core.proofs.Steps.Base.{chunk_within, placed_at, word_within}
use Rattle.mc_pages.proofs.GrantedPage.{length-owners}
use Rattle.mc_core.proofs.Law.Follows.{are_kept}
use Rattle.mc_core.proofs.Hands.MoreRows.{each_contained}
use Rattle.mc_core.proofs.Law.Stretches.{stretches_keep}
use Rattle.mc_words.specs.declared.lock.slot.Slot.{Slot}
use Rattle.mc_words.specs.declared.lock.slot.Slot.TheVariants.{Empty, OfSlabs, OfStripe}
use Rattle.mc_words.specs.Headline.{HasSameData, HeldStaysTheSame, HeldStaysThroughout, IsAccountedFor, IsInOnePlace, IsKeptIn, RuleGivesHeadline, StaysThroughout, ViewsGiveHeadline, ViewsStayThroughout, class_in, data_in, header_in, holders_among}
use Rattle.mc_words.specs.rule.Joins.{all_settled}
use Rattle.mc_words.specs.rule.Layout.{data_count, data_from, data_word, slabs_word}
use Rattle.mc_words.specs.rule.Meaning.{AreCut, Has, IsViewOf, IsReachedBy, IsRuled, WordsOfTable, WordsOf, beginning_of}
use Rattle.mc_words.specs.hand.View.{Setup, View, new_view, settled_view}
use Rattle.mc_words.proofs.Rules.Written.{data_read, head_near, head_read, page_read, slabs_lock_read}

-- all holders are those of the rows
same_holders : (chunk : ChunkId) (rows : List (List Holding)) (views : List View) → ((i : ℕ) (view : View) → get_elem? views i ≡ some view → slice_index_or rows i [] ≡ view.row.holdings)
    → ((i : ℕ) → length views ≤ i → i < length rows → slice_index_or rows i [] ≡ []) → length views ≤ length rows → holder_count chunk rows ≡ holders_among chunk views
same_holders chunk [] [] have none within_limit = refl
same_holders chunk [] (view ∷ views) have none within_limit = absurd (omega arith)
same_holders chunk (row ∷ rows) [] have none within_limit =
    ap₂ (λ (own : List Holding) (n : ℕ). count_of_holdings chunk own + n) (none 0 (omega arith) (omega arith)) (same_holders chunk rows [] (λ i view at. absurd (maybe.some-ne-none view (sym at))) (λ i past in_range. none (suc i) (omega arith) (omega arith)) (omega arith))
same_holders chunk (row ∷ rows) (view ∷ views) have none within_limit =
    ap₂ (λ (own : List Holding) (n : ℕ). count_of_holdings chunk own + n) (have 0 view refl) (same_holders chunk rows views (λ i v at. have (suc i) v at) (λ i past in_range. none (suc i) (omega arith) (omega arith)) (omega arith))

known_near : {A : Type 0} (l : List A) (i : ℕ) (a : A) → slice_get l i ≡ Some a → i < length l
known_near [] i a e = absurd (cc)
known_near (x ∷ l) zero a e = omega arith
known_near (x ∷ l) (suc i) a e = let more = known_near l i a e in omega arith

one_number : (a b : ℕ) (o : Option ℕ) → o ≡ Some a → o ≡ Some b → a ≡ b
one_number a b o is_a is_b = cc

no_number : {X : Type 0} (o : Option X) → is_some o ≡ false → o ≡ None
no_number None e = refl
no_number (Some x) e = absurd (cc)

-- so it is of the settled views
same_settled : (chunk : ChunkId) (views : List View) → holders_among chunk (map settled_view views) ≡ holders_among chunk views
same_settled chunk [] = refl
same_settled chunk (view ∷ views) = ap (λ (n : ℕ). count_of_holdings chunk view.row.holdings + n) (same_settled chunk views)

-- a lawful moment, as these words have it
module _ (setup : Setup) (cuts words : List ℕ) (m : Moment) (lawful : IsLawful m) (same_table : m.state.table ≡ setup.table) (are : WordsOf setup cuts words m.state) (cut : AreCut cuts m.state.slabs) where
  -- headers, pages and data words, as the moment has them
  header_same : (chunk : ChunkId) → has_chunk setup.table chunk ≡ true → head_in m.state.table m.state.heads chunk ≡ header_in setup words chunk
  header_same chunk in_range =
      ap (λ (table : Classes). slice_index_or m.state.heads (head_place table chunk) never_cut) same_table
      ∙ head_read setup cuts words m.state.slabs_lock m.state.stripe_locks m.state.heads m.state.words are (head_place setup.table chunk) never_cut (head_near setup chunk in_range)

  class_same : (chunk : ChunkId) → has_chunk setup.table chunk ≡ true → class_in setup words chunk ≡ class_of_page m.state.slabs chunk.page
  class_same chunk in_range =
      page_read setup cuts words m.state.slabs_lock m.state.stripe_locks m.state.heads m.state.words are chunk.page (chunk_within setup.table chunk in_range).0
      ∙ cut chunk.page

  -- one of the arena's
  near_here : (chunk : ChunkId) → has_chunk m.state.table chunk ≡ true → has_chunk setup.table chunk ≡ true
  near_here chunk inside = subst (λ (table : Classes). has_chunk table chunk ≡ true) same_table inside

  -- a word of a chunk that is handed out
  pub data_same : (chunk : ChunkId) (issue place : ℕ) → has_chunk m.state.table chunk ≡ true → IsHandedOut (head_in m.state.table m.state.heads chunk) issue → place < chunk_room m.state chunk → data_in setup words chunk place ≡ word_at m.state chunk place
  data_same chunk issue place inside out fits =
      let at : ℕ = place_in m.state.table m.state.slabs chunk place in
      let class = class_same chunk (near_here chunk inside) in
      let within : at < length m.state.words = word_within m lawful chunk place inside (placed_at m lawful chunk issue inside out).0 fits in
      let long = lawful.sized.places in
      let count : arena_pages_of m.state.table * page_words m.state.table ≡ data_count setup = ap (λ (table : Classes). arena_pages_of table * page_words table) same_table in
      let stands : data_word setup (room_in setup.table (class_in setup words chunk)) chunk place ≡ data_from setup + at =
      (λ k. data_word setup (room_in (sym same_table k) (class k)) chunk place) ∙ ap (λ (table : Classes). data_from setup + (chunk.page * page_words table + chunk.index * room_in m.state.table (class_of_page m.state.slabs chunk.page) + place)) (sym same_table) in
      ap (slice_index words) stands ∙ data_read setup cuts words m.state.slabs_lock m.state.stripe_locks m.state.heads m.state.words are at (omega arith)

  -- a holding of the moment is kept in the words
  kept_words : (holding : Holding) → has_chunk m.state.table holding.chunk ≡ true → IsKept m.state holding → IsKeptIn setup words holding
  kept_words holding inside kept =
      let in_range : has_chunk setup.table holding.chunk ≡ true = near_here holding.chunk inside in
      let class = class_same holding.chunk in_range in record {
        handed_out = subst (λ (head : Head). IsHandedOut head holding.issue) (header_same holding.chunk in_range) kept.handed_out;
        owned = let owned = kept.owned.0 in omega arith;
        shows = λ place word known.
            let fits = kept.shows.fits in
            let inside_words : place < length (holding_words holding) = known_near (holding_words holding) place (Some word) known in
            data_same holding.chunk holding.issue place inside kept.handed_out (omega arith) ∙ kept.shows.known_words place word known;
      }

  -- so is each that a hand has
  pub kept_at : (hand : ℕ) (holding : Holding) → Contains (holdings_at m.state hand) holding → IsKeptIn setup words holding
  kept_at hand holding among =
      kept_words holding (each_contained (λ (h : Holding). has_chunk m.state.table h.chunk ≡ true) m.state.holdings hand holding lawful.held.inside among)
      (All-contains (IsKept m.state) (holdings_at m.state hand) holding (are_kept m lawful hand) among)

  -- counts
  pub counts_at : (chunk : ChunkId) → has_chunk setup.table chunk ≡ true → (header_in setup words chunk).count ≡ link_count (header_in setup words chunk).tag + holder_count chunk m.state.holdings
  counts_at chunk in_range =
      let inside : has_chunk m.state.table chunk ≡ true = subst (λ (table : Classes). has_chunk table chunk ≡ true) (sym same_table) in_range in
      subst (λ (h : Head). h.count ≡ link_count h.tag + holder_count chunk m.state.holdings) (header_same chunk in_range) (lawful.counted.counted chunk inside)

  abbrev slabs : SlabState
  slabs = m.state.slabs

  -- a chunk of which nothing is uncut is in one place, by its tag
  one_place : (class : ℕ) (chunk : ChunkId) (head : Head) (tag : Tag) → head.tag ≡ tag → times_in chunk (class_at slabs class).free ≡ truth (is_free tag) → times_in chunk (class_at slabs class).order ≡ truth (not (is_free tag) && not (is_out tag))
      → (tag ≡ Out → is_moving (owner_at slabs.owners chunk.page) ≡ true) → IsInOnePlace slabs class chunk head
  one_place class chunk head Free is free order moves = inl (is, (free, order))
  one_place class chunk head Out is free order moves = inr (inl (is, (free, order), moves refl))
  one_place class chunk head Unlinked is free order moves = inr (inr (inl is, (free, order)))
  one_place class chunk head Linked is free order moves = inr (inr (inr is, (free, order)))

  module _ (free : slice_index words slabs_word ≡ 0) where
    none_uncut : slabs.uncut ≡ None
    none_uncut = lawful.paged.whole (sym (slabs_lock_read setup cuts words m.state.slabs_lock m.state.stripe_locks m.state.heads m.state.words are) ∙ free)

    cut_here : (class : ℕ) (chunk : ChunkId) → is_of_class class (owner_at slabs.owners chunk.page) ≡ true → chunk.index < (class_at slabs class).per_page → is_cut slabs class chunk ≡ true
    cut_here class chunk of within =
        and_from _ _ of (ap (λ (o : Option ChunkId). nat_lt chunk.index (cut_count o chunk.page (class_at slabs class).per_page)) none_uncut ∙ lt-ltb chunk.index (class_at slabs class).per_page within)

    chunks_here : (class : ℕ) (chunk : ChunkId) → HasClass slabs class → has_chunk setup.table chunk ≡ true → is_of_class class (owner_at slabs.owners chunk.page) ≡ true → chunk.index < (class_at slabs class).per_page
        → IsInOnePlace slabs class chunk (header_in setup words chunk)
    chunks_here class chunk of_class in_range of within =
        let cut = cut_here class chunk of within in
        let head : Head = head_in m.state.table m.state.heads chunk in
        subst (λ (h : Head). IsInOnePlace slabs class chunk h) (header_same chunk in_range)
        (one_place class chunk head head.tag refl (lawful.placed.free class chunk of_class ∙ ap (λ (b : Bool). truth (b && is_free head.tag)) cut)
        (lawful.placed.order class chunk of_class ∙ ap (λ (b : Bool). truth (b && (not (is_free head.tag) && not (is_out head.tag)))) cut) (lawful.placed.cleared class chunk of_class cut))

    -- what stands in a list of a class was cut for it
    only_here : (class : ℕ) (chunk : ChunkId) → HasClass slabs class → 1 ≤ places_in slabs class chunk → (is_of_class class (owner_at slabs.owners chunk.page) ≡ true) × (chunk.index < (class_at slabs class).per_page)
    only_here class chunk of_class standing =
        let all = lawful.paged.of_table.accounted.chunks class chunk of_class in
        let cut : is_cut slabs class chunk ≡ true = elim (cases_Bool (is_cut slabs class chunk)) [
          | inl is ↦ is
          | inr isnt ↦ absurd (let none = ap truth isnt in omega (arith, all, none, standing))
        ] in
        let parts = and_parts _ _ cut in
        (parts.0, ltb-true chunk.index (class_at slabs class).per_page (sym (ap (λ (o : Option ChunkId). nat_lt chunk.index (cut_count o chunk.page (class_at slabs class).per_page)) none_uncut) ∙ parts.1))

    pub accounted_at : IsAccountedFor setup words slabs
    accounted_at =
        let table = lawful.paged.of_table in
        let accounted = table.accounted in
        let page : slabs.page ≡ setup.table.page = table.page ∙ ap (λ (c : Classes). c.page) same_table in
        let limit : slabs.limit ≡ setup.table.limit = table.limit ∙ ap (λ (c : Classes). c.limit) same_table in
        let at_limit : page_count slabs ≡ arena_pages_of setup.table = sym (length-owners slabs accounted) ∙ (table.owners ∙ ap arena_pages_of same_table) in record {
          of_table = subst (λ (c : Classes). IsOfTable c slabs) same_table table;
          pages = record {
            replays = ap (λ (n : ℕ). replay (all_untouched n) slabs.ledger) (sym at_limit) ∙ accounted.replays;
            classes = accounted.pages;
            owned = accounted.owned;
            pool = accounted.pool;
            move = λ a b one two. one_number a b (option_map (λ move. move.page) slabs.moving) (accounted.one_move a one) (accounted.one_move b two);
          };
          bytes = record {
            limit = subst (λ (p : ℕ × ℕ). ordinary_count slabs.ledger * p.0 ≤ p.1) (λ k. (page k, limit k)) (le_trans (mul-le-mul_right slabs.page accounted.limit) (div-mul-le_self slabs.limit slabs.page));
            grace = accounted.grace;
          };
          chunks = chunks_here;
          only = only_here;
        }

module _ (setup : Setup) (t : WordsOfTable) (r : IsRuled setup t) where
  abbrev m : Moment
  m = r.moment

  -- what a view holds is what the moment has
  holds_same : (hand : ℕ) (view : View) → IsViewOf setup r.run m hand view → holdings_at m.state hand ≡ view.row.holdings
  holds_same hand view is = elim (cases_Bool (is_hand m.state hand)) [
    | inl there ↦ ap (λ (v : View). v.row.holdings) (sym (is.there there))
    | inr none ↦ r.lawful.hands.nothing hand (no_number (number_at m.state hand) none) ∙ ap (λ (v : View). v.row.holdings) (sym (is.gone none))
  ]

  holders_same : (chunk : ChunkId) → holder_count chunk m.state.holdings ≡ holders_among chunk t.views
  holders_same chunk =
      let count = r.lawful.hands.holding_rows in
      let hands = r.means.hands in
      let most = r.means.most in
      same_holders chunk m.state.holdings t.views (λ hand view at. holds_same hand view (r.means.views hand view at)) (λ hand past in_range. holds_same hand (new_view setup hand 0) (r.means.unmade hand past (omega arith))) (omega arith)

  -- what is held in a view is kept
  pub kept_here : (hand : ℕ) (view : View) (holding : Holding) → get_elem? t.views hand ≡ some view → Contains view.row.holdings holding → IsKeptIn setup t.words holding
  kept_here hand view holding at has =
      kept_at setup r.cuts t.words m r.lawful r.means.same_table r.means.words r.means.cut hand holding
      (subst (λ (l : List Holding). Contains l holding) (sym (holds_same hand view (r.means.views hand view at))) has)

  -- counts
  pub counts_here : (chunk : ChunkId) → has_chunk setup.table chunk ≡ true → (header_in setup t.words chunk).count ≡ link_count (header_in setup t.words chunk).tag + holders_among chunk t.views
  counts_here chunk in_range =
      counts_at setup r.cuts t.words m r.lawful r.means.same_table r.means.words r.means.cut chunk in_range
      ∙ ap (λ (n : ℕ). link_count (header_in setup t.words chunk).tag + n) (holders_same chunk)

  -- the value at home accounts for all
  pub free_here : slice_index t.words slabs_word ≡ 0 → (slabs : SlabState) × (get_elem? t.homes 0 ≡ some (some (OfSlabs slabs))) × IsAccountedFor setup t.words slabs
  free_here free = let (slot, home, has) = r.means.homes 0 (omega arith) free in by_slot slot home has
    where
      by_slot : (slot : Slot) → get_elem? t.homes 0 ≡ some (some slot) → Has m.state zero slot → (slabs : SlabState) × (get_elem? t.homes 0 ≡ some (some (OfSlabs slabs))) × IsAccountedFor setup t.words slabs
      by_slot Empty home has = absurd has
      by_slot (OfSlabs value) home has = (value, home, subst (IsAccountedFor setup t.words) (sym has) (accounted_at setup r.cuts t.words m r.lawful r.means.same_table r.means.words r.means.cut free))
      by_slot (OfStripe value) home has = absurd has

pub rule_gives_headline : RuleGivesHeadline
rule_gives_headline setup t rule = record {
  free = λ free. free_here setup (all_settled t) rule.ruled free;
  counts = λ chunk in_range. counts_here setup (all_settled t) rule.ruled chunk in_range ∙ ap (λ (n : ℕ). link_count (header_in setup t.words chunk).tag + n) (same_settled chunk t.views);
  kept = λ hand view holding at has. kept_here setup (all_settled t) rule.ruled hand (settled_view view) holding (at_map settled_view t.views hand view at) has;
}

pub held_stays_the_same : HeldStaysTheSame
held_stays_the_same setup before now hand holding rule after both =
    let was = (rule_gives_headline setup before rule).kept hand both.view holding both.at both.had in
    let is = (rule_gives_headline setup now after).kept hand both.after holding both.at_after both.has in record {
      same_issue = is.handed_out.1 ∙ sym was.handed_out.1;
      kept_before = was;
      kept_now = is;
      same_words = λ place word known. is.shows place word known ∙ sym (was.shows place word known);
    }

pub views_give_headline : ViewsGiveHeadline
views_give_headline view was = record {
  free = accounted_at view.setup was.cuts was.words was.moment was.lawful was.same_table was.are was.cut;
  counts = counts_at view.setup was.cuts was.words was.moment was.lawful was.same_table was.are was.cut;
  kept = kept_at view.setup was.cuts was.words was.moment was.lawful was.same_table was.are was.cut;
  own = λ holding has. kept_at view.setup was.cuts was.words was.moment was.lawful was.same_table was.are was.cut was.hand holding
      (subst (λ (l : List Holding). Contains l holding) (ap (λ (v : View). v.row.holdings) was.is) has);
}

-- who keeps a holding over all of a run keeps it over its beginning
keeps_first : (moment : Moment) (hand : ℕ) (chunk : ChunkId) (issue : ℕ) (run more : List Event) → KeepsHolding moment hand chunk issue (run ++ more) → KeepsHolding moment hand chunk issue run
keeps_first moment hand chunk issue [] [] keeps = keeps
keeps_first moment hand chunk issue [] (event ∷ more) keeps = keeps.0
keeps_first moment hand chunk issue (event ∷ run) more keeps = (keeps.0, keeps.1, keeps_first (moment_after moment event) hand chunk issue run more keeps.2)

keeps_at_end : (moment : Moment) (hand : ℕ) (chunk : ChunkId) (issue : ℕ) (run : List Event) → KeepsHolding moment hand chunk issue run → HoldsChunk (moment_at_end moment run) hand chunk issue
keeps_at_end moment hand chunk issue [] keeps = keeps
keeps_at_end moment hand chunk issue (event ∷ run) keeps = keeps_at_end (moment_after moment event) hand chunk issue run keeps.2

keeps_at_first : (moment : Moment) (hand : ℕ) (chunk : ChunkId) (issue : ℕ) (run : List Event) → KeepsHolding moment hand chunk issue run → HoldsChunk moment hand chunk issue
keeps_at_first moment hand chunk issue [] keeps = keeps
keeps_at_first moment hand chunk issue (event ∷ run) keeps = keeps.0

-- the end of two runs, one behind the other
end_of_both : (first : Moment) (run more : List Event) → moment_at_end first (run ++ more) ≡ moment_at_end (moment_at_end first run) more
end_of_both first [] more = refl
end_of_both first (event ∷ run) more = end_of_both (moment_after first event) run more

ends_there : (setup : Setup) (run more whole : List Event) (before now : Moment) → IsReachedBy setup run before → IsReachedBy setup whole now → whole ≡ run ++ more → moment_at_end before more ≡ now
ends_there setup run more whole before now first last is =
    sym (ap (λ (moment : Moment). moment_at_end moment more) first.end) ∙ (sym (end_of_both (beginning_of setup) run more) ∙ (sym (ap (moment_at_end (beginning_of setup)) is) ∙ last.end))

held_inside : (m : Moment) → IsLawful m → (hand : ℕ) (chunk : ChunkId) (issue : ℕ) → HoldsChunk m hand chunk issue → (has_chunk m.state.table chunk ≡ true) × IsHandedOut (head_in m.state.table m.state.heads chunk) issue
held_inside m lawful hand chunk issue held =
    let inside = each_contained (λ (h : Holding). has_chunk m.state.table h.chunk ≡ true) m.state.holdings hand held.holding lawful.held.inside held.among in
    let kept = All-contains (IsKept m.state) (holdings_at m.state hand) held.holding (are_kept m lawful hand) held.among in
    (subst (λ (c : ChunkId). has_chunk m.state.table c ≡ true) held.same_chunk inside, subst (λ (p : ChunkId × ℕ). IsHandedOut (head_in m.state.table m.state.heads p.0) p.1) (λ k. (held.same_chunk k, held.same_issue k)) kept.handed_out)

-- two moments of one run, as the words have them
module _ (setup : Setup) (cuts then words later : List ℕ) (m n : Moment) (lawful : IsLawful m) (same_table : m.state.table ≡ setup.table) (are : WordsOf setup cuts words m.state) (cut : AreCut cuts m.state.slabs)
    (lawful_then : IsLawful n) (table_then : n.state.table ≡ setup.table) (are_then : WordsOf setup then later n.state) (cut_then : AreCut then n.state.slabs)
    (hand : ℕ) (chunk : ChunkId) (issue : ℕ) (run more : List Event) (keeps : KeepsHolding m hand chunk issue (run ++ more)) (ends : moment_at_end m run ≡ n) where
  over : KeepsHolding m hand chunk issue run
  over = keeps_first m hand chunk issue run more keeps

  kept : StaysKept m n hand chunk issue run
  kept = subst (λ (moment : Moment). StaysKept m moment hand chunk issue run) ends (stretches_keep m hand chunk issue run lawful over)

  here : (has_chunk m.state.table chunk ≡ true) × IsHandedOut (head_in m.state.table m.state.heads chunk) issue
  here = held_inside m lawful hand chunk issue (keeps_at_first m hand chunk issue run over)

  in_range : has_chunk setup.table chunk ≡ true
  in_range = near_here setup cuts words m lawful same_table are cut chunk here.0

  inside_then : has_chunk n.state.table chunk ≡ true
  inside_then = subst (λ (table : Classes). has_chunk table chunk ≡ true) (sym table_then) in_range

  class_was : class_in setup words chunk ≡ class_of_page m.state.slabs chunk.page
  class_was = class_same setup cuts words m lawful same_table are cut chunk in_range

  class_is : class_in setup later chunk ≡ class_of_page n.state.slabs chunk.page
  class_is = class_same setup then later n lawful_then table_then are_then cut_then chunk in_range

  words_same : HasSameWords m.state n.state chunk → HasSameData setup words later chunk
  words_same same place fits =
      let room : chunk_room m.state chunk ≡ room_in setup.table (class_in setup words chunk) = λ k. room_in (same_table k) (sym class_was k) in
      let room_then : chunk_room n.state chunk ≡ room_in setup.table (class_in setup words chunk) = λ k. room_in (table_then k) ((kept.same_class ∙ sym class_was) k) in
      let below : place < chunk_room m.state chunk = subst (λ (n : ℕ). place < n) (sym room) fits in
      let below_then : place < chunk_room n.state chunk = subst (λ (n : ℕ). place < n) (sym room_then) fits in
      data_same setup then later n lawful_then table_then are_then cut_then chunk issue place inside_then kept.handed_out below_then
      ∙ (same place below ∙ sym (data_same setup cuts words m lawful same_table are cut chunk issue place here.0 here.1 below))

  pub stays_throughout : StaysThroughout setup words later m hand chunk issue run
  stays_throughout = record {
    handed_out = subst (λ (head : Head). IsHandedOut head issue) (header_same setup then later n lawful_then table_then are_then cut_then chunk in_range) kept.handed_out;
    owned = let owned = kept.owned.0 in omega (arith, owned, class_is);
    same_class = class_is ∙ (kept.same_class ∙ sym class_was);
    unfilled = λ none. words_same (kept.unfilled none);
    referred = λ held stale. words_same (kept.referred held stale);
  }

pub held_stays_throughout : HeldStaysThroughout
held_stays_throughout setup before now was is hand chunk issue run more later keeps =
    let r = was.ruled in
    let q = is.ruled in
    stays_throughout setup r.cuts q.cuts before.words now.words r.moment q.moment r.lawful r.means.same_table r.means.words r.means.cut q.lawful q.means.same_table q.means.words q.means.cut hand chunk issue run more keeps
    (ends_there setup r.run run q.run r.moment q.moment r.reached q.reached later)

pub views_stay_throughout : ViewsStayThroughout
views_stay_throughout first last was is hand chunk issue run more same later keeps =
    let table_then : is.moment.state.table ≡ first.setup.table = is.same_table ∙ ap (λ (s : Setup). s.table) same in
    stays_throughout first.setup was.cuts is.cuts was.words is.words was.moment is.moment was.lawful was.same_table was.are was.cut is.lawful table_then
    (subst (λ (s : Setup). WordsOf s is.cuts is.words is.moment.state) same is.are) is.cut hand chunk issue run more keeps
    (ends_there first.setup was.run run is.run was.moment is.moment was.reached (subst (λ (s : Setup). IsReachedBy s is.run is.moment) same is.reached) later)
