-- A rescue keeps the item: from what was copied, and from what memory had as the item was taken away.
use Rattle.std.proofs.Common.{◌≡◌, ℕ, ◌+◌, ◌≤◌, Bool, true, List, [], ◌∷◌, ◌++◌, Option, Some, None, count_by, refl, sym, ap, subst, ◌∙◌, inl, inr, arith, cond, slice_index_or}
use Rattle.std.specs.Option.{option_or}
use Rattle.std.proofs.lemmas.Bool.{cases_Bool}
use Rattle.std.proofs.lemmas.List.Elements.{All-contains, Contains-push}
use Rattle.std.proofs.lemmas.List.Folds.{find-append}
use Rattle.std.proofs.lemmas.List.Sums.{sum_by-append, sum_by-cons}
use Rattle.mc_pages.specs.Accounted.{truth}
use Rattle.mc_pages.specs.declared.ids.ChunkId.{ChunkId}
use Rattle.mc_pages.specs.SlabState.{SlabState, class_of_page}
use Rattle.mc_pages.proofs.Chunks.{is_chunk-same}
use Rattle.mc_stripe.specs.StripeState.{ReadyStripe, chunk_and_stamp}
use Rattle.mc_core.specs.declared.event.Event.{Event}
use Rattle.mc_core.specs.declared.event.Step.TheVariants as step
use Rattle.mc_core.specs.declared.head.Tag.TheVariants.{Unlinked}
use Rattle.mc_core.specs.declared.holding.Holding.{Holding}
use Rattle.mc_core.specs.model.Columns.{head_in, holder_count, count_of_holdings}
use Rattle.mc_core.specs.model.Holdings.{holding_of, is_fresh, is_of_chunk}
use Rattle.mc_core.specs.past.Past.{Moment, moment_after}
use Rattle.mc_core.specs.model.State.{item_at, room_in}
use Rattle.mc_core.proofs.Steps.Base.{each_row, holds_row}
use Rattle.mc_core.proofs.Law.LawKept.{lawful_events}
use Rattle.mc_words.specs.hand.View.{Setup, View}
use Rattle.mc_words.specs.rule.Happens.{event_of}
use Rattle.mc_words.specs.item.Items.{item_with}
use Rattle.mc_words.specs.chunk.Copies.{PopsOff}
use Rattle.mc_words.specs.hand.Views.{copy_holding}
use Rattle.mc_mover.specs.SameItems.{KeepsItem, RescuesKeepItems}
use Rattle.mc_mover.proofs.Grows.{known_copy, known_rescued}
use Rattle.mc_mover.proofs.Kept.{passes_keep}
use Rattle.mc_mover.proofs.Moved.{item_there, leads_after, led_before, words_known}
use Rattle.mc_mover.proofs.Saves.{popped_holds}

-- what is found is counted
found_counts : (chunk : ChunkId) (holdings : List Holding) (holding : Holding) → holding_of chunk holdings ≡ Some holding → 1 ≤ count_of_holdings chunk holdings
found_counts chunk [] holding found = absurd (cc)
found_counts chunk (first ∷ holdings) holding found =
    let sum : count_of_holdings chunk (first ∷ holdings) ≡ truth (is_of_chunk chunk first) + count_of_holdings chunk holdings = sum_by-cons (λ (h : Holding). truth (is_of_chunk chunk h)) first holdings in
    elim (cases_Bool (is_of_chunk chunk first)) [
      | inl here ↦ (let one = ap truth here in omega arith)
      | inr further ↦
          (let rest : holding_of chunk holdings ≡ Some holding = sym (ap (λ (b : Bool). cond b (Some first) (holding_of chunk holdings)) further) ∙ found in
          let some = found_counts chunk holdings holding rest in omega arith)
    ]

-- a chunk that was handed out for a copy is held by that alone
module _ (view now : View) (slabs : SlabState) (old chunk : ChunkId) (pops : PopsOff view slabs old chunk now) where
  abbrev event : Event
  event = event_of pops.happens.was.hand [] (step.PopOff old)

  abbrev after : Moment
  after = moment_after pops.happens.was.moment event

  abbrev room : ℕ
  room = room_in pops.seen.setup.table (class_of_page slabs old.page)

  abbrev last : Holding
  last = copy_holding old chunk (pops.finds.fit.head.issue + 1) room

  row_is : slice_index_or after.state.holdings pops.happens.was.hand [] ≡ view.row.holdings ++ last ∷ []
  row_is = sym (ap (λ (v : View). v.row.holdings) pops.happens.is) ∙ popped_holds view now slabs old chunk pops

  once : count_of_holdings chunk (view.row.holdings ++ last ∷ []) ≤ 1
  once =
      let lawful = lawful_events pops.happens.was.moment event pops.happens.was.lawful pops.happens.allowed in
      let P : Holding → Type 0 = λ holding. is_fresh holding ≡ true → ((head_in after.state.table after.state.heads holding.chunk).tag ≡ Unlinked) × (holder_count holding.chunk after.state.holdings ≡ 1) in
      let row = each_row P after.state.holdings pops.happens.was.hand lawful.held.alone in
      let alone = All-contains P (slice_index_or after.state.holdings pops.happens.was.hand []) last row (subst (λ (l : List Holding). Rattle.std.specs.Prelude.Contains l last) (sym row_is) (Contains-push view.row.holdings last)) refl in
      let most = holds_row chunk after.state.holdings pops.happens.was.hand in
      let one = alone.1 in
      subst (λ (l : List Holding). count_of_holdings chunk l ≤ 1) row_is (omega (arith, most, one))

  none_yet : holding_of chunk view.row.holdings ≡ None
  none_yet = by (holding_of chunk view.row.holdings) refl
    where
      by : (o : Option Holding) → holding_of chunk view.row.holdings ≡ o → holding_of chunk view.row.holdings ≡ None
      by None none = none
      by (Some other) found =
          absurd (
          let some = found_counts chunk view.row.holdings other found in
          let all : count_of_holdings chunk (view.row.holdings ++ last ∷ []) ≡ count_of_holdings chunk view.row.holdings + count_of_holdings chunk (last ∷ []) = sum_by-append (λ (h : Holding). truth (is_of_chunk chunk h)) view.row.holdings (last ∷ []) in
          let one : count_of_holdings chunk (last ∷ []) ≡ 1 = ap (λ (b : Bool). count_by (λ (h : Holding). b) (last ∷ [])) (is_chunk-same chunk) in
          let most = once in
          omega (arith, some, all, one, most))

  room_here : pops.seen.setup ≡ view.setup
  room_here = ap (λ (v : View). v.setup) pops.finds.fit.is ∙ passes_keep (λ (v : View). v.setup) (λ one v. refl) (λ chunk one v. refl) old.page pops.finds.before view pops.finds.passed pops.finds.passes

  pub copy_found : holding_of chunk now.row.holdings ≡ Some (copy_holding old chunk (pops.finds.fit.head.issue + 1) (room_in view.setup.table (class_of_page slabs old.page)))
  copy_found =
      ap (holding_of chunk) (popped_holds view now slabs old chunk pops)
      ∙ (find-append (is_of_chunk chunk) view.row.holdings (last ∷ [])
      ∙ (ap (λ (o : Option Holding). option_or o (holding_of chunk (last ∷ []))) none_yet
      ∙ (ap (λ (b : Bool). cond b (Some last) None) (is_chunk-same chunk)
      ∙ ap (λ (s : Setup). Some (copy_holding old chunk (pops.finds.fit.head.issue + 1) (room_in s.table (class_of_page slabs old.page)))) room_here)))

pub rescues_keep : RescuesKeepItems
rescues_keep number stripe chunk slabs value view kept left now rescues =
    let copy = rescues.copy in
    let moves = rescues.moves in
    let key : ℕ = moves.key in
    let stamp : ℕ = moves.stamp in
    let words : List ℕ = moves.copies.words in
    let issue : ℕ = rescues.pops.finds.fit.head.issue + 1 in
    let room : ℕ = room_in view.setup.table (class_of_page slabs chunk.page) in
    let found = copy_found view rescues.popped slabs chunk copy rescues.pops in
    let there : item_at moves.condemns.happens.was.moment.state chunk ≡ item_with key stamp words =
    item_there chunk copy key stamp words rescues.popped moves.filled moves.copies.is issue room found moves.fits stripe value moves.lifted moves.condemned moves.condemns in
    let led = led_before chunk copy key stamp words rescues.popped moves.filled moves.copies.is issue room found moves.fits stripe value moves.lifted moves.condemned moves.condemns in
    let leads = ap (λ (v : ReadyStripe). chunk_and_stamp v.state key) moves.left_is
    ∙ leads_after chunk copy key stamp words rescues.popped moves.filled moves.copies.is issue room found moves.fits stripe value moves.lifted moves.condemned moves.condemns number in
    let known = words_known chunk copy key stamp words rescues.popped moves.filled moves.copies.is issue room found moves.fits stripe value moves.lifted moves.condemned moves.condemns in
    subst (λ (item : List ℕ). KeepsItem chunk copy item value left view now) (sym there) (record {
      led = led;
      leads = leads;
      known = known_copy number stripe chunk slabs value view kept left now rescues;
      is_copy = refl;
      has_words = known;
      come = known_rescued number stripe chunk slabs value view kept left now rescues;
    })
