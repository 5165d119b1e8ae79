-- A chunk that is handed out for a copy of an item on the moving page.
use Rattle.std.proofs.Common.{◌≡◌, ℕ, ◌+◌, ◌<◌, ◌==◌, Bool, true, false, [], ◌∷◌, length, Option, Some, None, refl, sym, ap, subst, ◌∙◌, inl, arith, if◌then◌else◌, slice_index, slice_set, lt-ltb, le-leb, eqb-true}
use Rattle.std.specs.Prelude.{All}
use Rattle.std.specs.Option.{option_map_or, option_or}
use Rattle.std.proofs.lemmas.Bool.{and_from}
use Rattle.std.proofs.lemmas.List.{length-replicate}
use Rattle.std.proofs.lemmas.List.Folds.{find-append}
use Rattle.mc_classes.specs.Classes.{Classes}
use Rattle.mc_pages.specs.declared.ids.ChunkId.{ChunkId}
use Rattle.mc_pages.specs.declared.ids.Moving.{Moving}
use Rattle.mc_pages.specs.Accounted.{IsMove}
use Rattle.mc_pages.specs.SlabState.{SlabState, class_of_owner, class_of_page}
use Rattle.mc_pages.proofs.Chunks.{is_chunk-same}
use Rattle.mc_pages.proofs.RoomyFinish.{moving_within}
use Rattle.mc_pages.specs.Pages.{is_on_the_move}
use Rattle.mc_core.specs.declared.head.Head.{Head}
use Rattle.mc_core.specs.declared.head.Tag.TheVariants.{Free}
use Rattle.mc_core.specs.declared.holding.Holding.{Holding}
use Rattle.mc_core.specs.declared.event.Step.TheVariants as core
use Rattle.mc_core.specs.run.Chunks as chunks
use Rattle.mc_core.specs.run.Chunks.{head_after_hand_out, has_place, most_holdings, most_issue, popped_off, target_of}
use Rattle.mc_core.specs.model.Codes.{FitsBits, word_plus}
use Rattle.mc_core.specs.model.Columns.{holder_count}
use Rattle.mc_core.specs.model.Head.{decode, is_free}
use Rattle.mc_core.specs.model.Holdings.{holding_of, is_of_chunk}
use Rattle.mc_core.specs.model.InOrder.{IsOfTable}
use Rattle.mc_core.specs.law.Judged.{SeesTarget}
use Rattle.mc_core.specs.run.Silent.{is_handed_out}
use Rattle.mc_core.specs.model.State.{head_at, head_place, has_chunk, holdings_at, is_class, looks_at, room_in}
use Rattle.mc_core.proofs.ItemWords.Codes.{all_are_sums}
use Rattle.mc_core.proofs.Counts.Holders.{none_held}
use Rattle.mc_core.proofs.Places.OfTable.{class_count}
use Rattle.mc_words.specs.hand.View.{View}
use Rattle.mc_words.specs.item.Fresh.{IsFreshOf}
use Rattle.mc_words.specs.rule.Layout.{head_word}
use Rattle.mc_words.specs.rule.Happens.{LawfulView, Happens, MayWrite}
use Rattle.mc_words.specs.hand.Views.{chunk_popped_off, copy_holding}
use Rattle.mc_words.proofs.Chunks.Heads.{AreAll, head_is, header_written, near_here}
use Rattle.mc_words.proofs.Chunks.Judging.{none_found}
use Rattle.mc_words.proofs.Pages.MoveChanges.{of_table_here}
use Rattle.mc_words.proofs.Pages.OwnerViews.{holding_rows, popped_off_chunk}
use Rattle.mc_words.proofs.Pages.Owners.{fits_here, holdings_here, judged, looks_here, needless, slabs_here, summed}
use Rattle.mc_words.proofs.Rules.Quiet.{columns}

-- the moving page is of a class
moving_of : (table : Classes) (slabs : SlabState) (page : ℕ) (moving : Option Moving) → IsOfTable table slabs → slabs.moving ≡ moving → option_map_or (λ (move : Moving). move.page == page) moving false ≡ true
    → (is_class table (class_of_page slabs page) ≡ true) × (page < length slabs.owners)
moving_of table slabs page None of runs is = absurd (cc)
moving_of table slabs page (Some move) of runs is =
    let at : move.page ≡ page = eqb-true move.page page is in
    let moves : IsMove slabs move = of.accounted.move move runs in
    let own : class_of_page slabs page ≡ move.src = ap (class_of_page slabs) (sym at) ∙ ap class_of_owner moves.owner in
    let count = class_count table slabs of in
    let low = moves.src.0 in
    let high = moves.src.1 in
    let class : is_class table move.src ≡ true = and_from _ _ (le-leb 1 move.src low) (le-leb move.src (length table.sizes) (omega arith)) in (
      ap (is_class table) own ∙ class,
      subst (λ (p : ℕ). p < length slabs.owners) at (moving_within slabs move moves),
    )

pub moving_class : (view : View) → LawfulView view → (slabs : SlabState) (page : ℕ) → view.slabs ≡ Some slabs → is_on_the_move slabs page ≡ true → (is_class view.setup.table (class_of_page slabs page) ≡ true) × (page < length slabs.owners)
moving_class view was slabs page mine moves = moving_of view.setup.table slabs page slabs.moving (of_table_here view was slabs mine) refl moves

module _ (view : View) (slabs : SlabState) (old chunk : ChunkId) (mine : view.slabs ≡ Some slabs) (moves : is_on_the_move slabs old.page ≡ true) (sees : SeesTarget slabs view.row.looks old.page chunk) where
  module _ (was : LawfulView view) where
    moves_here : is_on_the_move was.moment.state.slabs old.page ≡ true
    moves_here = ap (λ (x : SlabState). is_on_the_move x old.page) (slabs_here view was slabs mine).1 ∙ moves

    abbrev target_here : SeesTarget was.moment.state.slabs (looks_at was.moment.state was.hand) old.page chunk
    target_here =
        let slabs_is : slabs ≡ was.moment.state.slabs = sym (slabs_here view was slabs mine).1 in
        let looks_is : view.row.looks ≡ looks_at was.moment.state was.hand = sym (looks_here view was) in
        record {
          before = sees.before;
          after = sees.after;
          seen = sees.seen;
          stands = ap (λ (x : SlabState). (Rattle.mc_pages.specs.SlabState.class_at x (class_of_page x old.page)).free) (sym slabs_is) ∙ sees.stands;
          unfit = ap (λ looks. Rattle.std.specs.List.list_all (Rattle.mc_core.specs.law.Judged.is_seen_unfit looks old.page) sees.before) (sym looks_is) ∙ sees.unfit;
          off = sees.off;
          last = ap (λ looks. Rattle.mc_core.specs.law.Seen.seen_head looks chunk) (sym looks_is) ∙ sees.last;
          unused = sees.unused;
        }

    -- it is the core's target, with the header that was seen
    pub found_here : (target_of was.moment.state.table was.moment.state.heads was.moment.state.slabs old.page ≡ Some chunk) × (head_at was.moment.state chunk ≡ sees.seen)
    found_here = (judged view was slabs mine).target old.page chunk moves_here target_here

    free_here : (has_chunk was.moment.state.table chunk ≡ true) × ((head_at was.moment.state chunk).tag ≡ Free)
    free_here = (needless view was).target old.page chunk moves_here found_here.0

    -- it is one of the arena's, and nobody has it
    pub target_near : has_chunk view.setup.table chunk ≡ true
    target_near = ap (λ table. has_chunk table chunk) (sym was.same_table) ∙ free_here.0

    target_not_held : holding_of chunk view.row.holdings ≡ None
    target_not_held =
        let m = was.moment in
        let here = near_here view chunk target_near was in
        let count = was.lawful.counted.counted chunk here in
        let shut = was.lawful.counted.shut chunk here (inl (ap is_free free_here.1)) in
        let none : holder_count chunk m.state.holdings ≡ 0 = omega arith in
        none_found chunk view.row.holdings (subst (All (λ holding. is_of_chunk chunk holding ≡ false)) (holdings_here view was) (none_held chunk m.state.holdings none was.hand [] (holding_rows view was)))

  pub may_pop_off : is_handed_out slabs old ≡ true → length view.row.holdings < most_holdings → MayWrite view (core.PopOff old) (head_word view.setup chunk) (word_plus 327681)
  may_pop_off out within_limit was fits =
      let m = was.moment in
      let word = slice_index was.words (head_word view.setup chunk) in
      let found = found_here was in
      let in_range = target_near was in
      let place : has_place m.state was.hand ≡ true = lt-ltb (length (holdings_at m.state was.hand)) most_holdings (let e = ap length (holdings_here view was) in omega arith) in
      let out_here : is_handed_out m.state.slabs old ≡ true = ap (λ (x : SlabState). is_handed_out x old) (slabs_here view was slabs mine).1 ∙ out in
      let free : (head_at m.state chunk).tag ≡ Free = (free_here was).1 in
      let count : (head_at m.state chunk).count ≡ 0 = was.lawful.counted.shut chunk (near_here view chunk in_range was) (inl (ap is_free free)) in
      let is_word : head_at m.state chunk ≡ decode word = head_is view chunk in_range was in
      let small : FitsBits (decode word) = subst FitsBits is_word (fits_here view was chunk in_range) in
      let left : (decode word).issue < most_issue = subst (λ (h : Head). h.issue < most_issue) (sym found.1 ∙ is_word) sees.unused in
      let taken : decode (word_plus 327681 word) ≡ head_after_hand_out (head_at m.state chunk) =
      summed word fits head_after_hand_out (word_plus 327681) ((all_are_sums (decode word) small).hand_out (sym (ap (λ (h : Head). h.tag) is_word) ∙ free) (sym (ap (λ (h : Head). h.count) is_word) ∙ count) left) (record { issue = omega arith; count = omega arith })
      ∙ ap head_after_hand_out (sym is_word) in
      let after : columns (chunks.after_pop_off m.state was.hand old) ≡ (m.state.slabs_lock, m.state.stripe_locks, slice_set m.state.heads (head_place m.state.table chunk) (head_after_hand_out (head_at m.state chunk)), m.state.words) =
      ap (λ o. columns (popped_off m.state was.hand old o)) found.0 in (
        (judged view was slabs mine).pop_off old chunk (moves_here was) out_here place (target_here was),
        subst (AreAll view.setup was.cuts (slice_set was.words (head_word view.setup chunk) (word_plus 327681 word))) (sym after) (header_written view chunk in_range was (word_plus 327681 word) (head_after_hand_out (head_at m.state chunk)) taken),
      )

  -- what the hand has then
  pub pops_off : class_of_page slabs chunk.page ≡ class_of_page slabs old.page → (now : View) → Happens view [] (core.PopOff old) now → now ≡ chunk_popped_off slabs old chunk sees.seen view
  pops_off own now h =
      let found = found_here h.was in
      popped_off_chunk view now slabs mine old chunk sees.seen h found.0 (ap (λ (x : SlabState). class_of_page x chunk.page) (slabs_here view h.was slabs mine).1 ∙ own) found.1

  pub is_fresh_copy : LawfulView view → (now : View) → now ≡ chunk_popped_off slabs old chunk sees.seen view → IsFreshOf now chunk (room_in view.setup.table (class_of_page slabs old.page))
  is_fresh_copy was now popped =
      let room = room_in view.setup.table (class_of_page slabs old.page) in
      let holding : Holding = copy_holding old chunk (sees.seen.issue + 1) room in record {
        holding = holding;
        found = ap (λ (v : View). holding_of chunk v.row.holdings) popped
            ∙ (find-append (is_of_chunk chunk) view.row.holdings (holding ∷ [])
            ∙ (ap (λ found. option_or found (holding_of chunk (holding ∷ []))) (target_not_held was) ∙ ap (λ (b : Bool). if b then Some holding else None) (is_chunk-same chunk)));
        fresh = refl;
        room_is = length-replicate room None;
      }
