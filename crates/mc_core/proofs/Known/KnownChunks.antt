-- Known items as chunks are handed out, given up, unlinked, put back, cleared and cut.
use Rattle.std.proofs.Common.{◌≡◌, ℕ, ◌≤◌, ◌||◌, Bool, true, false, List, [], refl, sym, ap, subst, arith, mod-lt, Some, None, if◌then◌else◌}
use Rattle.std.proofs.lemmas.Bool.{and_parts, both_ways}
use Rattle.std.proofs.lemmas.Option.{slice_get-get_or}
use Rattle.mc_stripe.specs.StripeState.{new_stripe}
use Rattle.mc_pages.specs.declared.ids.ChunkId.{ChunkId}
use Rattle.mc_pages.specs.SlabState.{SlabState, class_at, class_of_page}
use Rattle.mc_pages.specs.Changes as slabs_changes
use Rattle.mc_pages.proofs.Chunks.{same_from_is_chunk}
use Rattle.mc_pages.proofs.HandedOut.{IsClass-handed_out}
use Rattle.mc_pages.specs.Pages.{is_on_the_move}
use Rattle.mc_core.specs.declared.event.Step.TheVariants.{Pop, PopOff, Unlink, Release, Discard, PutBack, Clear, Cut}
use Rattle.mc_core.specs.declared.head.Head.{Head}
use Rattle.mc_core.specs.declared.head.Tag.TheVariants.{Unlinked}
use Rattle.mc_core.specs.declared.holding.Holding.{Holding}
use Rattle.mc_core.specs.declared.holding.Purpose.{Purpose}
use Rattle.mc_core.specs.declared.holding.Purpose.TheVariants.{Item, Copy}
use Rattle.mc_core.specs.declared.look.Look.{Look}
use Rattle.mc_core.specs.model.Head.{is_linked, is_dead, is_out, is_free}
use Rattle.mc_core.specs.model.Holdings.{is_of_chunk, holding_of, has_fresh}
use Rattle.mc_core.specs.model.State.{State, has_chunk, head_at, has_slabs, with_head, with_slabs, with_look, with_stripe, stripe_at, stripe_of, is_class, holdings_at}
use Rattle.mc_core.specs.run.Silent.{writer_of, is_handed_out, is_listed}
use Rattle.mc_core.specs.run.Locks.{state_after_look}
use Rattle.mc_core.specs.run.Chunks.{head_after_hand_out, head_after_release, with_tag_free, with_tag_out, new_holding, with_fresh, next_free, state_after_pop_of, popped_off, target_of, is_target, has_place, can_hand_out, after_drop, holds_as, is_next_uncut}
use Rattle.mc_core.specs.run.Items.{head_after_unlink, stripe_unlinked, chunk_of_key, is_linked_at, with_unlinked}
use Rattle.mc_core.specs.past.Past.{Moment, KnownItem, StoredItem, with_more, moment_stepped}
use Rattle.mc_core.specs.model.Columns.{head_in}
use Rattle.mc_core.specs.law.Knowing.{AreKnown}
use Rattle.mc_core.specs.law.Indexed.{IsEntry}
use Rattle.mc_core.specs.law.Laws.{MayStep}
use Rattle.mc_core.specs.law.Lawful.{IsLawful, KnownIn}
use Rattle.mc_core.proofs.Steps.Listed.{IsClass_from, Contains_from_among}
use Rattle.mc_core.proofs.Counts.Rows.{rows_less, rows_more, each_more}
use Rattle.mc_core.proofs.Places.FreeChunks.{near_placed, first_placed, found_placed}
use Rattle.mc_core.proofs.Counts.Holders.{found_passes, found_each}
use Rattle.mc_core.proofs.Known.KnownStill.{IsApartFrom, IsNoOlder}
use Rattle.mc_core.proofs.Known.KnownQuiet.{nothing_learned, known_turned, apart_same, apart_less, own_less, own_fresh, IsStill, younger_handed_out, younger_let_go, younger_unlinked, younger_free, younger_out}

-- the clause, of a state
abbrev pub KnownAt : State → List (List StoredItem) → List (List KnownItem) → Type 0
KnownAt s said known = AreKnown s.table s.slabs s.heads s.words s.holdings said known

-- a look changes nothing of it
pub known_looked : (s : State) (hand : ℕ) (look : Look) (said : List (List StoredItem)) (known : List (List KnownItem)) → KnownAt s said known → KnownAt (state_after_look s hand look) said known
known_looked s hand look said known is = elim (has_slabs s hand) as (λ (b : Bool). KnownAt (if b then with_look s hand look else s) said known) [ true ↦ is | false ↦ is ]

-- the entry of a key
pub entry_of : (m : Moment) → IsLawful m → (key : ℕ) (place : ChunkId × ℕ) → chunk_of_key m.state key ≡ Some place → IsEntry m.state.table m.state.slabs m.state.heads m.state.words key place.1 place.0
entry_of m l key place found =
    let some = l.legal.some in
    let stripe = stripe_of m.state key in
    (l.indexed.entries stripe key place.1 (stripe_at m.state stripe) place.0 (slice_get-get_or m.state.stripes stripe new_stripe (mod-lt key (omega arith))) found).1

module _ (m : Moment) (hand : ℕ) where
  -- nothing is said or learned
  pub known_end : (s : State) → KnownAt s m.past.stored m.past.known → KnownAt s (with_more m.past.stored hand []) (with_more m.past.known hand [])
  known_end s is = nothing_learned (λ said known. KnownAt s said known) m.past.stored m.past.known hand is

  -- one header changes, and the order of lists
  known_header : (l : IsLawful m) (next : SlabState) (chunk : ChunkId) (head : Head) → ((page : ℕ) → class_of_page next page ≡ class_of_page m.state.slabs page) → has_chunk m.state.table chunk ≡ true →
      IsNoOlder (head_at m.state chunk) head → is_linked head.tag ≡ false → KnownAt (with_head (with_slabs m.state next) chunk head) (with_more m.past.stored hand []) (with_more m.past.known hand [])
  known_header l next chunk head same in_range younger head_after_unlink =
      known_end (with_head (with_slabs m.state next) chunk head)
      (known_turned m l next chunk head m.state.holdings same in_range younger (λ is. absurd (both_ways (is_linked head.tag) head_after_unlink (ap is_linked is))) (apart_same m l) l.known.own)

  pub known_put_back : (chunk : ChunkId) → MayStep m hand (PutBack chunk) → KnownIn (moment_stepped m hand (PutBack chunk))
  known_put_back chunk may =
      let parts = and_parts _ (is_handed_out m.state.slabs chunk) may.allowed in
      let more = and_parts _ (is_dead (head_at m.state chunk)) parts.0 in
      let in_range = (and_parts (has_slabs m.state hand) (has_chunk m.state.table chunk) more.0).1 in
      known_header may.lawful (slabs_changes.after_back m.state.slabs chunk) chunk (with_tag_free (head_at m.state chunk)) (λ page. refl) in_range (younger_free (head_at m.state chunk)) refl

  pub known_clear : (chunk : ChunkId) → MayStep m hand (Clear chunk) → KnownIn (moment_stepped m hand (Clear chunk))
  known_clear chunk may =
      let parts = and_parts _ (is_listed m.state.slabs (class_of_page m.state.slabs chunk.page) chunk) may.allowed in
      let dead = and_parts _ (is_free (head_at m.state chunk).tag || is_dead (head_at m.state chunk)) parts.0 in
      let moving = and_parts _ (is_on_the_move m.state.slabs chunk.page) dead.0 in
      let in_range = (and_parts (has_slabs m.state hand) (has_chunk m.state.table chunk) moving.0).1 in
      known_header may.lawful (slabs_changes.after_clear m.state.slabs chunk) chunk (with_tag_out (head_at m.state chunk)) (λ page. refl) in_range (younger_out (head_at m.state chunk)) refl

  pub known_cut : (page index : ℕ) → MayStep m hand (Cut page index) → KnownIn (moment_stepped m hand (Cut page index))
  known_cut page index may =
      let chunk : ChunkId = record { page = page; index = index } in
      let parts = and_parts _ (is_out (head_at m.state chunk).tag) may.allowed in
      let next = and_parts _ (is_next_uncut m.state.slabs chunk) parts.0 in
      let in_range = (and_parts (has_slabs m.state hand) (has_chunk m.state.table chunk) next.0).1 in
      known_header may.lawful (slabs_changes.after_cut m.state.slabs chunk) chunk (with_tag_free (head_at m.state chunk)) (λ page. refl) in_range (younger_free (head_at m.state chunk)) refl

  -- a holding is given up
  known_dropped : (l : IsLawful m) (chunk : ChunkId) (holding : Holding) → holding_of chunk (holdings_at m.state hand) ≡ Some holding → KnownAt (after_drop m.state hand chunk) (with_more m.past.stored hand []) (with_more m.past.known hand [])
  known_dropped l chunk holding found =
      let at : holding.chunk ≡ chunk = same_from_is_chunk holding.chunk chunk (found_passes (is_of_chunk chunk) (holdings_at m.state hand) holding found) in
      let in_range : has_chunk m.state.table chunk ≡ true = subst (λ (c : ChunkId). has_chunk m.state.table c ≡ true) at
      (found_each (λ h. has_chunk m.state.table h.chunk ≡ true) m.state.holdings hand (is_of_chunk chunk) holding found l.held.inside) in
      known_end (after_drop m.state hand chunk)
      (known_turned m l m.state.slabs chunk (head_after_release (head_at m.state chunk)) (rows_less m.state.holdings hand (is_of_chunk chunk)) (λ page. refl) in_range (younger_let_go (head_at m.state chunk)) (λ is. (is, refl))
      (apart_less m l hand (is_of_chunk chunk)) (own_less m l hand (is_of_chunk chunk)))

  known_drop : (l : IsLawful m) (chunk : ChunkId) (fresh : Bool) → holds_as fresh (holding_of chunk (holdings_at m.state hand)) ≡ true → KnownAt (after_drop m.state hand chunk) (with_more m.past.stored hand []) (with_more m.past.known hand [])
  known_drop l chunk fresh can =
      elim (holding_of chunk (holdings_at m.state hand)) as (λ o. holding_of chunk (holdings_at m.state hand) ≡ o → holds_as fresh o ≡ true → KnownAt (after_drop m.state hand chunk) (with_more m.past.stored hand []) (with_more m.past.known hand [])) [
        | None ↦ λ _ never. absurd (cc)
        | Some holding ↦ λ found _. known_dropped l chunk holding found
      ] refl can

  pub known_release : (chunk : ChunkId) → MayStep m hand (Release chunk) → KnownIn (moment_stepped m hand (Release chunk))
  known_release chunk may = known_drop may.lawful chunk false may.allowed

  pub known_discard : (chunk : ChunkId) → MayStep m hand (Discard chunk) → KnownIn (moment_stepped m hand (Discard chunk))
  known_discard chunk may = known_drop may.lawful chunk true may.allowed

  -- a free chunk is handed out
  module _ (l : IsLawful m) (next : SlabState) (same : (page : ℕ) → class_of_page next page ≡ class_of_page m.state.slabs page) (chunk : ChunkId) (in_range : has_chunk m.state.table chunk ≡ true) (purpose : Purpose) where
    abbrev holding : Holding
    holding = new_holding (with_slabs m.state next) chunk purpose

    new_apart : (k : KnownItem) → IsStill m l k → IsApartFrom k holding
    new_apart k is fresh at issue = absurd (
        let was : k.issue ≤ (head_in m.state.table m.state.heads chunk).issue = subst (λ (c : ChunkId). k.issue ≤ (head_in m.state.table m.state.heads c).issue) (sym at) is.older in
        omega arith)

    known_fresh : KnownAt (with_fresh (with_slabs m.state next) hand chunk purpose) (with_more m.past.stored hand []) (with_more m.past.known hand [])
    known_fresh =
        known_end (with_fresh (with_slabs m.state next) hand chunk purpose)
        (known_turned m l next chunk (head_after_hand_out (head_at m.state chunk)) (rows_more m.state.holdings hand holding) same in_range (younger_handed_out (head_at m.state chunk))
        (λ is. absurd (both_ways (is_linked Unlinked) refl (ap is_linked is)))
        (λ k is. each_more m.state.holdings hand (IsApartFrom k) holding is.apart (new_apart k is)) (own_fresh m l hand holding refl))

  pub known_pop : (class : ℕ) → MayStep m hand (Pop class) → KnownIn (moment_stepped m hand (Pop class))
  known_pop class may =
      let l = may.lawful in
      let parts = and_parts _ (can_hand_out m.state (next_free m.state class)) may.allowed in
      let more = and_parts _ (has_place m.state hand) parts.0 in
      let of_table = and_parts (has_slabs m.state hand) (is_class m.state.table class) more.0 in
      let is = IsClass_from m.state.table m.state.slabs class l.paged.of_table of_table.1 in
      let left : State = with_slabs m.state (slabs_changes.after_pop m.state.slabs class) in
      elim (next_free m.state class) as (λ o. next_free m.state class ≡ o → can_hand_out m.state o ≡ true → KnownAt (state_after_pop_of left hand o) (with_more m.past.stored hand []) (with_more m.past.known hand [])) [
        | None ↦ λ _ never. absurd (cc)
        | Some chunk ↦ λ first _.
            let at = first_placed m l class chunk is first in
            known_fresh l (slabs_changes.after_pop m.state.slabs class) (λ page. refl) chunk (near_placed m l chunk at.1) Item
      ] refl parts.1

  pub known_pop_off : (old : ChunkId) → MayStep m hand (PopOff old) → KnownIn (moment_stepped m hand (PopOff old))
  known_pop_off old may =
      let l = may.lawful in
      let parts = and_parts _ (can_hand_out m.state (target_of m.state.table m.state.heads m.state.slabs old.page)) may.allowed in
      let more = and_parts _ (has_place m.state hand) parts.0 in
      let out = and_parts _ (is_handed_out m.state.slabs old) more.0 in
      let class = class_of_page m.state.slabs old.page in
      let is = IsClass-handed_out m.state.slabs old l.paged.of_table.accounted (Contains_from_among (class_at m.state.slabs class).order old out.1) in
      elim (target_of m.state.table m.state.heads m.state.slabs old.page) as (λ o. target_of m.state.table m.state.heads m.state.slabs old.page ≡ o → can_hand_out m.state o ≡ true → KnownAt (popped_off m.state hand old o) (with_more m.past.stored hand []) (with_more m.past.known hand [])) [
        | None ↦ λ _ never. absurd (cc)
        | Some chunk ↦ λ found _.
            let at = found_placed m l class chunk (is_target m.state.table m.state.heads old.page) is found in
            known_fresh l (slabs_changes.after_replace m.state.slabs chunk old) (λ page. refl) chunk (near_placed m l chunk at.1) (Copy old)
      ] refl parts.1

  -- a linked chunk is unlinked
  pub known_unlink : (key : ℕ) → MayStep m hand (Unlink key) → KnownIn (moment_stepped m hand (Unlink key))
  known_unlink key may =
      let l = may.lawful in
      let parts = and_parts _ (is_linked_at m.state (chunk_of_key m.state key)) may.allowed in
      let stripe = stripe_of m.state key in
      let left : State = with_stripe m.state stripe (stripe_unlinked (stripe_at m.state stripe) (has_fresh (holdings_at m.state hand)) (writer_of m.state hand) key) in
      elim (chunk_of_key m.state key) as (λ o. chunk_of_key m.state key ≡ o → is_linked_at m.state o ≡ true → KnownAt (with_unlinked left o) (with_more m.past.stored hand []) (with_more m.past.known hand [])) [
        | None ↦ λ _ never. absurd (cc)
        | Some place ↦ λ found is.
            let entry = entry_of m l key place found in
            known_header l m.state.slabs place.0 (head_after_unlink (head_at m.state place.0)) (λ page. refl) entry.inside (younger_unlinked (head_at m.state place.0) entry.linked) refl
      ] refl parts.1
