-- Known items where nobody learns one.
use Rattle.std.proofs.Common.{◌≡◌, ℕ, ◌≤◌, Bool, true, false, List, [], ◌∷◌, ◌++◌, refl, sym, subst, inl, inr, arith, slice_set, Contains, All}
use Rattle.std.proofs.lemmas.Bool.{both_ways}
use Rattle.mc_classes.specs.Classes.{Classes}
use Rattle.mc_pages.specs.declared.ids.ChunkId.{ChunkId}
use Rattle.mc_pages.specs.SlabState.{SlabState, class_of_page}
use Rattle.mc_core.specs.declared.head.Head.{Head}
use Rattle.mc_core.specs.declared.head.Tag.TheVariants.{Unlinked, Linked}
use Rattle.mc_core.specs.declared.holding.Holding.{Holding}
use Rattle.mc_core.specs.model.Holdings.{is_fresh, change_each, without_first, stamp_in_words}
use Rattle.mc_core.specs.past.Past.{Moment, KnownItem, StoredItem, known_by, with_more, IsKnownToSome}
use Rattle.mc_core.specs.model.State.{has_chunk, head_place}
use Rattle.mc_core.specs.run.Chunks.{head_after_hand_out, head_after_release, with_tag_free, with_tag_out}
use Rattle.mc_core.specs.run.Items.{head_after_link, head_after_unlink, head_after_refer}
use Rattle.mc_core.specs.run.Evictions.{head_after_condemn}
use Rattle.mc_core.specs.model.Columns.{head_in, Each, IsHandedOut}
use Rattle.mc_core.specs.law.Identities.{stored_count}
use Rattle.mc_core.specs.law.Knowing.{WasStored, IsTrueStill, AreKnown}
use Rattle.mc_core.specs.law.Lawful.{IsLawful}
use Rattle.mc_core.proofs.Steps.Base.{each_map, all_lose, all_more}
use Rattle.mc_core.proofs.Counts.Rows.{rows_less, rows_more, each_less}
use Rattle.mc_core.proofs.Counts.Changed.{rows_changed, all_changed}
use Rattle.mc_core.proofs.Hands.MoreRows.{row_of, rows_set, with_none}
use Rattle.mc_core.proofs.Histories.SaidOnce.{said_one}
use Rattle.mc_core.proofs.Known.KnownStill.{IsApartFrom, IsNoOlder, not_shown, still_turned, linked_turned}

-- the hand knows the item, if the holding is a reference
abbrev pub IsOwn : List (List KnownItem) → ℕ → Holding → Type 0
IsOwn known hand holding = is_fresh holding ≡ false → (room : ℕ) × Contains (row_of known hand) (known_by room holding)

-- each linked chunk is known to some hand
abbrev pub AreLinkedKnown : Classes → List Head → List (List KnownItem) → Type 0
AreLinkedKnown table heads known =
    (chunk : ChunkId) → has_chunk table chunk ≡ true → (head_in table heads chunk).tag ≡ Linked → IsKnownToSome known (λ k. (k.chunk ≡ chunk) × (k.issue ≡ (head_in table heads chunk).issue))

-- no step that says and learns nothing changes what was said and is known
pub nothing_learned : (P : List (List StoredItem) → List (List KnownItem) → Type 0) (said : List (List StoredItem)) (known : List (List KnownItem)) (hand : ℕ) → P said known → P (with_more said hand []) (with_more known hand [])
nothing_learned P said known hand p =
    subst (λ (s : List (List StoredItem)). P s (with_more known hand [])) (sym (with_none said hand)) (subst (λ (k : List (List KnownItem)). P said k) (sym (with_none known hand)) p)

-- what is known agrees with what is said
pub all_agree : (said : List (List StoredItem)) (known : List (List KnownItem)) → ((stamp : ℕ) → stored_count stamp said ≤ 1) → Each (λ k. WasStored said (stamp_in_words k.words) k.words) known →
    Each (λ k. (words : List ℕ) → WasStored said (stamp_in_words k.words) words → words ≡ k.words) known
all_agree said known once each =
    each_map (λ k. WasStored said (stamp_in_words k.words) k.words) (λ k. (words : List ℕ) → WasStored said (stamp_in_words k.words) words → words ≡ k.words) known
    (λ k is words too. said_one said (stamp_in_words k.words) words k.words (once (stamp_in_words k.words)) too is) each

module _ (m : Moment) (l : IsLawful m) where
  abbrev pub table : Classes
  table = m.state.table

  abbrev pub known : List (List KnownItem)
  known = m.past.known

  abbrev pub rows : List (List Holding)
  rows = m.state.holdings

  -- what is known is as true as before
  abbrev pub IsStill : KnownItem → Type 0
  IsStill k = IsTrueStill table m.state.slabs m.state.heads m.state.words rows k

  pub known_quiet : (next : SlabState) (heads : List Head) (words : List ℕ) (rows' : List (List Holding)) → ((k : KnownItem) → IsStill k → IsTrueStill table next heads words rows' k) →
      ((hand : ℕ) → All (IsOwn known hand) (row_of rows' hand)) → AreLinkedKnown table heads known → AreKnown table next heads words rows' m.past.stored known
  known_quiet next heads words rows' still own head_after_link = record {
    once = l.known.once;
    agree = l.known.agree;
    said_by_some = l.known.said_by_some;
    still = each_map IsStill (IsTrueStill table next heads words rows') known still l.known.still;
    one = l.known.one;
    own = own;
    linked = head_after_link;
  }

  -- one header, the order of lists, and rows of holdings
  pub known_turned : (next : SlabState) (chunk : ChunkId) (head : Head) (rows' : List (List Holding)) → ((page : ℕ) → class_of_page next page ≡ class_of_page m.state.slabs page) → has_chunk table chunk ≡ true →
      IsNoOlder (head_in table m.state.heads chunk) head → (head.tag ≡ Linked → ((head_in table m.state.heads chunk).tag ≡ Linked) × (head.issue ≡ (head_in table m.state.heads chunk).issue)) →
      ((k : KnownItem) → IsStill k → Each (IsApartFrom k) rows') → ((hand : ℕ) → All (IsOwn known hand) (row_of rows' hand)) →
      AreKnown table next (slice_set m.state.heads (head_place table chunk) head) m.state.words rows' m.past.stored known
  known_turned next chunk head rows' same in_range younger tag apart own =
      known_quiet next (slice_set m.state.heads (head_place table chunk) head) m.state.words rows'
      (λ k is. still_turned table m.state.heads chunk head l.sized.headers in_range m.state.slabs next m.state.words rows rows' k younger (same k.chunk.page) (apart k is) is)
      own
      (linked_turned table m.state.heads chunk head l.sized.headers in_range known known (λ P some. some) l.known.linked
      (λ is. let was = tag is in
      subst (λ n. IsKnownToSome known (λ k. (k.chunk ≡ chunk) × (k.issue ≡ n))) (sym was.1) (l.known.linked chunk in_range was.0)))

  -- the holdings may stay, or one go, or one come that is fresh
  pub apart_same : (k : KnownItem) → IsStill k → Each (IsApartFrom k) rows
  apart_same k is = is.apart

  pub apart_less : (hand : ℕ) (test : Holding → Bool) (k : KnownItem) → IsStill k → Each (IsApartFrom k) (rows_less rows hand test)
  apart_less hand test k is = each_less rows hand (IsApartFrom k) test is.apart

  pub own_less : (hand : ℕ) (test : Holding → Bool) (other : ℕ) → All (IsOwn known other) (row_of (rows_less rows hand test) other)
  own_less hand test = rows_set (IsOwn known) rows hand (without_first test (row_of rows hand)) l.known.own (all_lose (IsOwn known hand) test (row_of rows hand) (l.known.own hand))

  -- some holdings are changed, and are fresh then
  pub own_changed : (hand : ℕ) (test : Holding → Bool) (change : Holding → Holding) → ((holding : Holding) → test holding ≡ true → is_fresh (change holding) ≡ true) →
      (other : ℕ) → All (IsOwn known other) (row_of (rows_changed rows hand test change) other)
  own_changed hand test change fresh =
      rows_set (IsOwn known) rows hand (change_each test change (row_of rows hand)) l.known.own
      (all_changed test change (IsOwn known hand) (IsOwn known hand) (λ holding is own stale. absurd (both_ways (is_fresh (change holding)) stale (fresh holding is))) (λ holding _ own. own) (row_of rows hand) (l.known.own hand))

  pub own_added : (rows' : List (List Holding)) (hand : ℕ) (holding : Holding) → ((other : ℕ) → All (IsOwn known other) (row_of rows' other)) → is_fresh holding ≡ true → (other : ℕ) → All (IsOwn known other) (row_of (rows_more rows' hand holding) other)
  own_added rows' hand holding own fresh =
      rows_set (IsOwn known) rows' hand (row_of rows' hand ++ holding ∷ []) own
      (all_more (IsOwn known hand) (row_of rows' hand) holding (own hand) (λ stale. absurd (both_ways (is_fresh holding) stale fresh)))

  pub own_fresh : (hand : ℕ) (holding : Holding) → is_fresh holding ≡ true → (other : ℕ) → All (IsOwn known other) (row_of (rows_more rows hand holding) other)
  own_fresh hand holding fresh = own_added rows hand holding l.known.own fresh

-- headers that show nothing new
pub younger_handed_out : (old : Head) → IsNoOlder old (head_after_hand_out old)
younger_handed_out old = record { issue = omega arith; shows = λ issue most out. absurd (let same = out.1 in omega arith) }

pub younger_let_go : (old : Head) → IsNoOlder old (head_after_release old)
younger_let_go old = record { issue = omega arith; shows = λ issue most out. out }

pub younger_referred : (old : Head) → IsNoOlder old (head_after_refer old)
younger_referred old = record { issue = omega arith; shows = λ issue most out. out }

pub younger_unlinked : (old : Head) → old.tag ≡ Linked → IsNoOlder old (head_after_unlink old)
younger_unlinked old was = record { issue = omega arith; shows = λ issue most out. (inr was, out.1) }

pub younger_condemned : (old : Head) → old.tag ≡ Linked → IsNoOlder old (head_after_condemn old)
younger_condemned old was = record { issue = omega arith; shows = λ issue most out. (inr was, out.1) }

pub younger_linked : (old : Head) → old.tag ≡ Unlinked → IsNoOlder old (head_after_link old)
younger_linked old was = record { issue = omega arith; shows = λ issue most out. (inl was, out.1) }

pub younger_free : (old : Head) → IsNoOlder old (with_tag_free old)
younger_free old = record { issue = omega arith; shows = λ issue most out. not_shown (with_tag_free old) issue (IsHandedOut old issue) (inl refl) out }

pub younger_out : (old : Head) → IsNoOlder old (with_tag_out old)
younger_out old = record { issue = omega arith; shows = λ issue most out. not_shown (with_tag_out old) issue (IsHandedOut old issue) (inr refl) out }
