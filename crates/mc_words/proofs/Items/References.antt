-- A reference that a hand got: the first holding of its chunk has the same issue, item and room.
use Rattle.std.proofs.Common.{◌≡◌, ℕ, zero, suc, Bool, true, false, List, [], ◌∷◌, length, find, Some, sym, ap, subst, ◌∙◌, inl, inr, arith, if◌then◌else◌, Contains}
use Rattle.std.specs.Option.{option_map}
use Rattle.std.proofs.lemmas.Bool.{cases_Bool}
use Rattle.std.proofs.lemmas.List.Elements.{All-contains}
use Rattle.mc_pages.specs.declared.ids.ChunkId.{ChunkId}
use Rattle.mc_pages.specs.SlabState.{class_of_page}
use Rattle.mc_pages.proofs.Chunks.{same_from_is_chunk, is_chunk-same}
use Rattle.mc_core.specs.declared.holding.Holding.{Holding}
use Rattle.mc_core.specs.model.Holdings.{is_of_chunk, is_fresh, holding_of, item_of, length_of_item}
use Rattle.mc_core.specs.model.State.{room_in, holdings_at}
use Rattle.mc_core.specs.model.Columns.{Each, head_in}
use Rattle.mc_core.specs.past.Past.{Moment, KnownItem, known_by}
use Rattle.mc_core.proofs.Steps.Base.{IsOut, held_out}
use Rattle.mc_core.proofs.Counts.Holders.{found_passes, found_all, found_each}
use Rattle.mc_core.proofs.Known.KnownQuiet.{IsStill}
use Rattle.mc_core.proofs.Hands.MoreRows.{row_of, each_contained}
use Rattle.mc_words.specs.hand.View.{View}
use Rattle.mc_words.specs.rule.Happens.{LawfulView}
use Rattle.mc_words.specs.item.Items.{held_item}
use Rattle.mc_words.specs.item.Refs.{IsRefOf, IsIssueOf}
use Rattle.mc_words.proofs.Pages.Owners.{holdings_here}
use Rattle.mc_words.proofs.Items.WordReads.{item_found, room_is}

-- among holdings of which one passes the test one is found
found_some : (test : Holding → Bool) (row : List Holding) (x : Holding) → test x ≡ true → Contains row x → (y : Holding) × (find test row ≡ Some y)
found_some test [] x is (k, within, at) = absurd (omega arith)
found_some test (a ∷ row) x is (zero, within, at) = (a, ap (λ (b : Bool). if b then Some a else find test row) (ap test at ∙ is))
found_some test (a ∷ row) x is (suc k, within, at) = elim (cases_Bool (test a)) [
  | inl passes ↦ (a, ap (λ (b : Bool). if b then Some a else find test row) passes)
  | inr fails ↦ let (y, found) = found_some test row x is (k, (omega arith), at) in (y, ap (λ (b : Bool). if b then Some a else find test row) fails ∙ found)
]

module _ (view : View) (was : LawfulView view) (x : Holding) (room : ℕ) (old : is_fresh x ≡ false) (has : Contains view.row.holdings x) (knows : Contains view.row.knows.known (known_by room x)) where
  abbrev m : Moment
  m = was.moment

  known_here : Contains (row_of m.past.known was.hand) (known_by room x)
  known_here = subst (λ (l : List KnownItem). Contains l (known_by room x)) (ap (λ (v : View). v.row.knows.known) was.is) knows

  still : IsStill m was.lawful (known_by room x)
  still = each_contained (IsStill m was.lawful) m.past.known was.hand (known_by room x) was.lawful.known.still known_here

  out : IsOut m was.lawful x
  out = All-contains (IsOut m was.lawful) (holdings_at m.state was.hand) x (held_out m was.lawful was.hand) (subst (λ (l : List Holding). Contains l x) (sym (holdings_here view was)) has)

  first : (y : Holding) × (holding_of x.chunk view.row.holdings ≡ Some y)
  first = found_some (is_of_chunk x.chunk) view.row.holdings x (is_chunk-same x.chunk) has

  abbrev y : Holding
  y = first.0

  found_here : holding_of x.chunk (holdings_at m.state was.hand) ≡ Some y
  found_here = ap (holding_of x.chunk) (holdings_here view was) ∙ first.1

  same_chunk : y.chunk ≡ x.chunk
  same_chunk = same_from_is_chunk y.chunk x.chunk (found_passes (is_of_chunk x.chunk) (holdings_at m.state was.hand) y found_here)

  first_out : IsOut m was.lawful y
  first_out = found_all (IsOut m was.lawful) (is_of_chunk x.chunk) (holdings_at m.state was.hand) y found_here (held_out m was.lawful was.hand)

  same_issue : y.issue ≡ x.issue
  same_issue = sym first_out.1.1 ∙ (ap (λ (c : ChunkId). (head_in m.state.table m.state.heads c).issue) same_chunk ∙ out.1.1)

  first_old : is_fresh y ≡ false
  first_old = elim (cases_Bool (is_fresh y)) [
    | inl fresh ↦ absurd (found_each (λ h. is_fresh h ≡ true → h.chunk ≡ x.chunk → h.issue ≡ x.issue → ⊥) m.state.holdings was.hand (is_of_chunk x.chunk) y found_here still.apart fresh same_chunk same_issue)
    | inr isnt ↦ isnt
  ]

  first_known : (r : ℕ) × Contains (row_of m.past.known was.hand) (known_by r y)
  first_known = found_all (λ h. is_fresh h ≡ false → (r : ℕ) × Contains (row_of m.past.known was.hand) (known_by r h)) (is_of_chunk x.chunk) (holdings_at m.state was.hand) y found_here (was.lawful.known.own was.hand) first_old

  same_words : item_of y ≡ item_of x
  same_words =
      each_contained (λ (other : KnownItem). other.chunk ≡ x.chunk → other.issue ≡ x.issue → other.words ≡ item_of x) m.past.known was.hand (known_by first_known.0 y)
      (each_contained (λ (k : KnownItem). Each (λ (other : KnownItem). other.chunk ≡ k.chunk → other.issue ≡ k.issue → other.words ≡ k.words) m.past.known) m.past.known was.hand (known_by room x) was.lawful.known.one known_here)
      first_known.1 same_chunk same_issue

  same_room : first_known.0 ≡ room
  same_room =
      let first_still = each_contained (IsStill m was.lawful) m.past.known was.hand (known_by first_known.0 y) was.lawful.known.still first_known.1 in
      sym (first_still.room first_out.1) ∙ (ap (λ (c : ChunkId). room_in m.state.table (class_of_page m.state.slabs c.page)) same_chunk ∙ still.room out.1)

  -- the hand has a reference, by the first holding
  pub is_ref : IsRefOf view x.chunk room
  is_ref = record {
    holding = y;
    found = first.1;
    linked = first_old;
    knows = subst (λ (r : ℕ). Contains view.row.knows.known (known_by r y)) same_room (subst (λ (l : List KnownItem). Contains l (known_by first_known.0 y)) (sym (ap (λ (v : View). v.row.knows.known) was.is)) first_known.1);
  }

  -- of this issue
  pub is_issue : IsIssueOf view x.chunk x.issue
  is_issue = ap (option_map (λ (h : Holding). h.issue)) first.1 ∙ ap Some same_issue

  -- and this item
  pub is_item : held_item view x.chunk ≡ item_of x
  is_item = item_found view x.chunk y first.1 ∙ same_words

  -- which is whole
  pub is_whole : length (item_of x) ≡ length_of_item (item_of x)
  is_whole = still.whole

  -- and is what the hand knows of the chunk with this issue
  pub is_known : (k : KnownItem) → Contains view.row.knows.known k → k.chunk ≡ x.chunk → k.issue ≡ x.issue → item_of x ≡ k.words
  is_known k among chunk issue =
      each_contained (λ (other : KnownItem). other.chunk ≡ k.chunk → other.issue ≡ k.issue → other.words ≡ k.words) m.past.known was.hand (known_by room x)
      (each_contained (λ (k : KnownItem). Each (λ (other : KnownItem). other.chunk ≡ k.chunk → other.issue ≡ k.issue → other.words ≡ k.words) m.past.known) m.past.known was.hand k was.lawful.known.one
      (subst (λ (l : List KnownItem). Contains l k) (ap (λ (v : View). v.row.knows.known) was.is) among))
      known_here (sym chunk) (sym issue)

-- a reference has one room
pub one_room : (view : View) → LawfulView view → (chunk : ChunkId) (a b : ℕ) → IsRefOf view chunk a → IsRefOf view chunk b → a ≡ b
one_room view was chunk a b first second = sym (room_is view chunk a first was) ∙ room_is view chunk b second was

-- the item of a reference is whole: it has as many words as it says
pub ref_whole : (view : View) → LawfulView view → (chunk : ChunkId) (room : ℕ) → IsRefOf view chunk room → length (held_item view chunk) ≡ length_of_item (held_item view chunk)
ref_whole view was chunk room ref =
    let m : Moment = was.moment in
    let k : KnownItem = known_by room ref.holding in
    let known : Contains (row_of m.past.known was.hand) k = subst (λ (l : List KnownItem). Contains l k) (ap (λ (v : View). v.row.knows.known) was.is) ref.knows in
    let still = each_contained (IsStill m was.lawful) m.past.known was.hand k was.lawful.known.still known in
    subst (λ (item : List ℕ). length item ≡ length_of_item item) (sym (item_found view chunk ref.holding ref.found)) still.whole
