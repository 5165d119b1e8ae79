-- What a condemn that is allowed tells of its reason.
use Rattle.std.proofs.Common.{◌≡◌, ◌≢◌, ◌⊎◌, ℕ, suc, ◌/◌, ◌≤◌, ◌==◌, ◌&&◌, not, cond, Bool, true, false, List, [], ◌∷◌, length, Option, Some, None, refl, sym, ap, ap₂, ◌∙◌, subst, inl, inr, arith, find, is_none, nat_lt, slice_get, All, Contains, eqb-true}
use Rattle.std.specs.List.{fold, list_all, list_any}
use Rattle.std.specs.Option.{option_map_or}
use Rattle.std.proofs.lemmas.Bool.{and_parts, or_cases, both_ways, cases_lt, ltb-false, ne_eqb}
use Rattle.std.proofs.lemmas.List.Elements.{All-nil, All-cons, All-weaker, All-contains}
use Rattle.mc_pages.specs.declared.ids.ChunkId.{ChunkId}
use Rattle.mc_pages.specs.declared.ids.Moving.{Moving}
use Rattle.mc_pages.specs.InOrder.{AreSlabsInOrder}
use Rattle.mc_pages.specs.Changes.{next_page}
use Rattle.mc_pages.specs.ClassState.{is_chunk, first_free}
use Rattle.mc_pages.specs.Ledger.{ordinary_count, owner_at}
use Rattle.mc_pages.specs.SlabState.{SlabState, class_at, class_of_page, class_of_chunk, HasClass}
use Rattle.mc_pages.proofs.Owners.{is_of_class-class_of_owner}
use Rattle.mc_pages.proofs.RoomyGrow.{next_none}
use Rattle.mc_pages.proofs.Chunks.{same_from_is_chunk}
use Rattle.mc_pages.specs.Pages.{is_on_the_move}
use Rattle.mc_core.specs.declared.head.Head.{Head}
use Rattle.mc_core.specs.declared.head.Tag.{Tag}
use Rattle.mc_core.specs.declared.head.Tag.TheVariants.{Unlinked}
use Rattle.mc_core.specs.declared.holding.Holding.{Holding}
use Rattle.mc_core.specs.declared.holding.Kind.TheVariants.{Fresh}
use Rattle.mc_core.specs.declared.holding.Purpose.TheVariants.{Copy}
use Rattle.mc_core.specs.declared.look.Look.{Look}
use Rattle.mc_core.specs.declared.look.Look.TheVariants.{Saw, SawStripe, Read, Popped, PoppedOff, Condemned, PutBack, Cleared, Cut, Changed}
use Rattle.mc_core.specs.model.Head.{is_unlinked, is_dead}
use Rattle.mc_core.specs.model.Holdings.{Words, is_copy_of}
use Rattle.mc_core.specs.model.Looks.{stays_alive, is_found_alive}
use Rattle.mc_core.specs.model.State.{has_slabs, head_at, holdings_at, looks_at}
use Rattle.mc_core.specs.run.Silent.{none_half_cut}
use Rattle.mc_core.specs.run.Chunks.{is_target, target_of, most_issue}
use Rattle.mc_core.specs.run.Evictions.{has_copy, none_dead, must_leave, lacks_room, has_reason}
use Rattle.mc_core.specs.law.Knowing.{IsRescue}
use Rattle.mc_core.specs.past.Past.{Moment}
use Rattle.mc_core.specs.law.Lawful.{IsLawful}
use Rattle.mc_core.specs.law.Reasons.{is_taking_look, is_look_at, WasFoundAlive, IsSwept, Moves, HasNoneOff, IsOutOfRoom, HasCopyOff, MustGo, CondemnsAreReasoned}
use Rattle.mc_core.proofs.Steps.Base.{each_row}
use Rattle.mc_core.proofs.Known.KnownCondemned.{condemnable}
use Rattle.mc_core.proofs.ItemWords.RescuedSteps.{copy_is}

-- neither a taking nor a look at the chunk
abbrev IsQuiet : ChunkId → Look → Type 0
IsQuiet chunk look = (is_taking_look look ≡ false) × (is_look_at chunk look ≡ false)

dead_is : (head : Head) → head.tag ≡ Unlinked → head.count ≡ 0 → is_dead head ≡ true
dead_is head tag count = ap₂ (λ (t : Tag) n. is_unlinked t && (n == 0)) tag count

alive_is : (head : Head) → not (is_dead head) ≡ true → head.tag ≡ Unlinked → head.count ≡ 0 → ⊥
alive_is head alive tag count = both_ways (not (is_dead head)) (ap not (dead_is head tag count)) alive

-- from the end: nothing yet says anything of the chunk, or a look at it does
module _ (chunk : ChunkId) (looks : List Look) (quiet : All (IsQuiet chunk) looks) (before : Bool) where
  abbrev Tells : Look → Type 0
  Tells look = ((before ≡ true) × All (IsQuiet chunk) (look ∷ looks)) ⊎ WasFoundAlive (look ∷ looks) chunk

  saw_alive : (seen : ChunkId) (head : Head) → stays_alive chunk before (Saw seen head) ≡ true → Tells (Saw seen head)
  saw_alive seen head =
      elim (is_chunk seen chunk) as (λ b. is_chunk seen chunk ≡ b → cond b (not (is_dead head)) before ≡ true → Tells (Saw seen head)) [
        | true ↦ λ here alive. inr (record {
          before = [];
          head = head;
          since = looks;
          split = ap (λ (c : ChunkId). Saw c head ∷ looks) (same_from_is_chunk seen chunk here);
          alive = alive_is head alive;
          quiet = quiet;
        })
        | false ↦ λ elsewhere was. inl (was, All-cons (IsQuiet chunk) (Saw seen head) looks (refl, elsewhere) quiet)
      ] refl

  tells_alive : (look : Look) → stays_alive chunk before look ≡ true → Tells look
  tells_alive (Saw seen head) is = saw_alive seen head is
  tells_alive (SawStripe stripe word) is = inl (is, All-cons (IsQuiet chunk) (SawStripe stripe word) looks (refl, refl) quiet)
  tells_alive (Read seen place word) is = inl (is, All-cons (IsQuiet chunk) (Read seen place word) looks (refl, refl) quiet)
  tells_alive (Popped seen head) is = absurd (cc)
  tells_alive (PoppedOff seen old head) is = absurd (cc)
  tells_alive (Condemned seen head) is = absurd (cc)
  tells_alive (PutBack seen head) is = inl (is, All-cons (IsQuiet chunk) (PutBack seen head) looks (refl, refl) quiet)
  tells_alive (Cleared seen head) is = absurd (cc)
  tells_alive (Cut seen head) is = inl (is, All-cons (IsQuiet chunk) (Cut seen head) looks (refl, refl) quiet)
  tells_alive (Changed change) is = inl (is, All-cons (IsQuiet chunk) (Changed change) looks (refl, refl) quiet)

later : (chunk : ChunkId) (look : Look) (looks : List Look) → WasFoundAlive looks chunk → WasFoundAlive (look ∷ looks) chunk
later chunk look looks found = record {
  before = look ∷ found.before;
  head = found.head;
  since = found.since;
  split = ap (λ rest. look ∷ rest) found.split;
  alive = found.alive;
  quiet = found.quiet;
}

alive_split : (chunk : ChunkId) (looks : List Look) (before : Bool) → fold (stays_alive chunk) before looks ≡ true → ((before ≡ true) × All (IsQuiet chunk) looks) ⊎ WasFoundAlive looks chunk
alive_split chunk [] before is = inl (is, All-nil (IsQuiet chunk))
alive_split chunk (look ∷ looks) before is =
    elim (alive_split chunk looks (stays_alive chunk before look) is) [
      | inl both ↦ tells_alive chunk looks both.1 before look both.0
      | inr found ↦ inr (later chunk look looks found)
    ]

pub found_alive : (looks : List Look) (chunk : ChunkId) → is_found_alive looks chunk ≡ true → WasFoundAlive looks chunk
found_alive looks chunk is = elim (alive_split chunk looks false is) [ inl both ↦ absurd (let never = both.0 in cc) | inr found ↦ found ]

-- each entry passes
all_pass : {X : Type 0} (test : X → Bool) (xs : List X) → list_all test xs ≡ true → All (λ x. test x ≡ true) xs
all_pass test [] is = All-nil (λ x. test x ≡ true)
all_pass test (x ∷ xs) is = let both = and_parts (test x) (list_all test xs) is in All-cons (λ x. test x ≡ true) x xs both.0 (all_pass test xs both.1)

-- none is found
none_found : {X : Type 0} (test : X → Bool) (xs : List X) → find test xs ≡ None → All (λ x. test x ≡ false) xs
none_found test [] none = All-nil (λ x. test x ≡ false)
none_found test (x ∷ xs) none =
    elim (test x) as (λ b. test x ≡ b → cond b (Some x) (find test xs) ≡ None → All (λ x. test x ≡ false) (x ∷ xs)) [
      | true ↦ λ _ never. absurd (cc)
      | false ↦ λ fails later. All-cons (λ x. test x ≡ false) x xs fails (none_found test xs later)
    ] refl none

-- some passes
some_passes : {X : Type 0} (test : X → Bool) (xs : List X) → list_any test xs ≡ true → (x : X) × Contains xs x × (test x ≡ true)
some_passes test [] is = absurd (cc)
some_passes test (x ∷ xs) is =
    elim (or_cases (test x) (list_any test xs) is) [
      | inl here ↦ (x, (0, omega arith, refl), here)
      | inr later ↦ let (y, (i, within, at), passes) = some_passes test xs later in (y, (suc i, omega arith, at), passes)
    ]

none_is : {X : Type 0} (o : Option X) → is_none o ≡ true → o ≡ None
none_is None is = refl
none_is (Some x) is = absurd (cc)

-- where no page is to be had for the class of a page, or for the first where it has none
none_left : (slabs : SlabState) (granted page : ℕ) → AreSlabsInOrder slabs granted → next_page slabs (class_of_page slabs page) ≡ None → (slabs.pool ≡ []) × (slabs.limit / slabs.page ≤ ordinary_count slabs.ledger) × (1 ≤ length (class_at slabs (class_of_page slabs page)).pages)
none_left slabs granted page kept none =
    let class = class_of_page slabs page in
    elim (cases_lt 0 class) [
      | inl some ↦ next_none slabs granted class kept (kept.accounted.owned class page (is_of_class-class_of_owner class (owner_at slabs.owners page) some refl)) none
      | inr nothing ↦
          let at : class ≡ 0 = omega (arith, nothing) in
          let first : HasClass slabs 1 = (omega arith, omega (arith, kept.accounted.cursor.0, kept.accounted.cursor.1)) in
          let is = next_none slabs granted 1 kept first (subst (λ (n : ℕ). next_page slabs n ≡ None) at none) in
          (is.0, is.1, subst (λ (n : ℕ). 1 ≤ length (class_at slabs n).pages) (sym at) is.2)
    ]

moves_is : (slabs : SlabState) (page : ℕ) (moving : Option Moving) → slabs.moving ≡ moving → option_map_or (λ move. move.page == page) moving false ≡ true → Moves slabs page
moves_is slabs page None at is = absurd (cc)
moves_is slabs page (Some move) at is = (move, at, eqb-true move.page page is)

module _ (m : Moment) (l : IsLawful m) (hand : ℕ) (chunk : ChunkId) (has : has_slabs m.state hand ≡ true) where
  abbrev class : ℕ
  class = class_of_page m.state.slabs chunk.page

  moving : is_on_the_move m.state.slabs chunk.page ≡ true → Moves m.state.slabs chunk.page
  moving is = moves_is m.state.slabs chunk.page m.state.slabs.moving refl is

  swept : none_dead m.state.slabs (looks_at m.state hand) chunk ≡ true → IsSwept m.state hand class
  swept is =
      let order = (class_at m.state.slabs class).order in
      let looks = looks_at m.state hand in
      (has, All-weaker (λ c. is_found_alive looks c ≡ true) (WasFoundAlive looks) (λ c. found_alive looks c) order (all_pass (is_found_alive looks) order is))

  none_off : is_none (target_of m.state.table m.state.heads m.state.slabs chunk.page) ≡ true → HasNoneOff m.state class chunk.page
  none_off is =
      let free = (class_at m.state.slabs class).free in
      All-weaker (λ c. is_target m.state.table m.state.heads chunk.page c ≡ false) (λ (c : ChunkId). c.page ≢ chunk.page → most_issue ≤ (head_at m.state c).issue) not_target free
      (none_found (is_target m.state.table m.state.heads chunk.page) free (none_is (target_of m.state.table m.state.heads m.state.slabs chunk.page) is))
    where
      not_target : (c : ChunkId) → is_target m.state.table m.state.heads chunk.page c ≡ false → c.page ≢ chunk.page → most_issue ≤ (head_at m.state c).issue
      not_target c isnt off =
          ltb-false (head_at m.state c).issue most_issue (sym (ap (λ b. not b && nat_lt (head_at m.state c).issue most_issue) (ne_eqb c.page chunk.page off)) ∙ isnt)

  out_of_room : lacks_room m.state.slabs (looks_at m.state hand) chunk ≡ true → IsSwept m.state hand class × IsOutOfRoom m.state class
  out_of_room is =
      let whole = and_parts _ (none_half_cut m.state.slabs) is in
      let page = and_parts _ (is_none (next_page m.state.slabs class)) whole.0 in
      let dead = and_parts (is_none (first_free (class_of_chunk m.state.slabs chunk))) (none_dead m.state.slabs (looks_at m.state hand) chunk) page.0 in
      let pages = none_left m.state.slabs l.paged.order.0 chunk.page l.paged.order.1 (none_is (next_page m.state.slabs class) page.1) in (
        swept dead.1,
        record {
          none_free = nothing_free (class_at m.state.slabs class).free dead.0;
          none_pooled = pages.0;
          none_ordinary = pages.1;
          has_page = pages.2;
          none_half_cut = none_is m.state.slabs.uncut whole.1;
        },
      )
    where
      nothing_free : (free : List ChunkId) → is_none (slice_get free 0) ≡ true → free ≡ []
      nothing_free [] is = refl
      nothing_free (c ∷ free) is = absurd (cc)

  -- what is said of the hand's holdings
  abbrev rescued : Holding → Type 0
  rescued holding = IsRescue m.past.stored holding.chunk holding.kind

  own_rescued : All rescued (holdings_at m.state hand)
  own_rescued = each_row rescued m.state.holdings hand l.rescued

  copied : has_copy (holdings_at m.state hand) chunk ≡ true → HasCopyOff m.state hand chunk
  copied is =
      let (copy, among, passes) = some_passes (is_copy_of chunk) (holdings_at m.state hand) is in
      let both = copy_is m.past.stored copy.chunk chunk copy.kind passes (All-contains rescued (holdings_at m.state hand) copy own_rescued among) in
      record { copy = copy; among = among; words = both.0.0; meant = both.0.1; off = both.1 }

  all_off : All (λ (copy : Holding). (words : Words) → copy.kind ≡ Fresh (Copy chunk) words → copy.chunk.page ≢ chunk.page) (holdings_at m.state hand)
  all_off = All-weaker rescued (λ (copy : Holding). (words : Words) → copy.kind ≡ Fresh (Copy chunk) words → copy.chunk.page ≢ chunk.page) off (holdings_at m.state hand) own_rescued
    where
      off : (copy : Holding) → rescued copy → (words : Words) → copy.kind ≡ Fresh (Copy chunk) words → copy.chunk.page ≢ chunk.page
      off copy is words meant = subst (IsRescue m.past.stored copy.chunk) meant is

  reason : has_reason m.state.table m.state.heads m.state.slabs (looks_at m.state hand) (holdings_at m.state hand) chunk ≡ true → (Moves m.state.slabs chunk.page × HasCopyOff m.state hand chunk) ⊎ (IsSwept m.state hand class × MustGo m.state chunk.page)
  reason is =
      elim (or_cases _ (lacks_room m.state.slabs (looks_at m.state hand) chunk) is) [
        | inl leaves ↦
            elim (or_cases (is_on_the_move m.state.slabs chunk.page && has_copy (holdings_at m.state hand) chunk) (must_leave m.state.table m.state.heads m.state.slabs (looks_at m.state hand) chunk) leaves) [
              | inl copies ↦ let both = and_parts (is_on_the_move m.state.slabs chunk.page) (has_copy (holdings_at m.state hand) chunk) copies in inl (moving both.0, copied both.1)
              | inr must ↦
                  let target = and_parts _ (is_none (target_of m.state.table m.state.heads m.state.slabs chunk.page)) must in
                  let both = and_parts (is_on_the_move m.state.slabs chunk.page) (none_dead m.state.slabs (looks_at m.state hand) chunk) target.0 in
                  inr (swept both.1, inl (moving both.0, none_off target.1))
            ]
        | inr lacks ↦ let both = out_of_room lacks in inr (both.0, inr both.1)
      ]

pub condemns_are_reasoned : CondemnsAreReasoned
condemns_are_reasoned m hand chunk may =
    let has = (condemnable m hand chunk may).slabs in
    let why = (and_parts _ (has_reason m.state.table m.state.heads m.state.slabs (looks_at m.state hand) (holdings_at m.state hand) chunk) may.allowed).1 in
    record { reason = reason m may.lawful hand chunk has why; copies = all_off m may.lawful hand chunk has }
