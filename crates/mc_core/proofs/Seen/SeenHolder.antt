-- The hand that has the slabs lock, and what it saw: the shapes of steps.
use Rattle.std.proofs.Common.{◌≡◌, ◌⊎◌, ℕ, ◌+◌, ◌≤◌, ◌==◌, ◌&&◌, ◌||◌, true, List, [], ◌∷◌, ◌++◌, refl, sym, ap, ap₂, subst, ◌∙◌, inl, inr, arith, slice_set, slice_index_or, Option, Some, None, eqb-true}
use Rattle.std.proofs.lemmas.List.{set-get_or}
use Rattle.mc_classes.specs.Classes.{Classes}
use Rattle.mc_pages.specs.declared.ids.ChunkId.{ChunkId}
use Rattle.mc_pages.specs.SlabState.{SlabState}
use Rattle.mc_core.specs.declared.head.Head.{Head}
use Rattle.mc_core.specs.declared.head.Tag.{Tag}
use Rattle.mc_core.specs.declared.head.Tag.TheVariants.{Out, Free, Unlinked, Linked}
use Rattle.mc_core.specs.declared.look.Look.{Look}
use Rattle.mc_core.specs.model.Head.{is_out, is_free, is_unlinked}
use Rattle.mc_core.specs.run.Chunks.{head_after_release}
use Rattle.mc_core.specs.run.Items.{head_after_link, head_after_unlink, head_after_refer}
use Rattle.mc_core.specs.past.Past.{Moment, KnownItem, Hold, no_hold, with_more}
use Rattle.mc_core.specs.model.State.{State, is_held_by, has_slabs, number_at, is_hand, has_chunk, head_place, looks_at}
use Rattle.mc_core.specs.model.Columns.{head_in, IsHandedOut}
use Rattle.mc_core.specs.law.Seen.{AreSeen}
use Rattle.mc_core.specs.law.Lawful.{IsLawful}
use Rattle.mc_core.proofs.Frame.Own.{IsOwn}
use Rattle.mc_core.proofs.Steps.Plays.{hand_there}
use Rattle.mc_core.proofs.Hands.MoreRows.{row_of, row_same, with_none}
use Rattle.mc_core.proofs.Known.KnownStill.{head_now}
use Rattle.mc_core.proofs.Known.KnownLearned.{known_more}
use Rattle.mc_core.proofs.Seen.SeenLooks.{StaysPut, put_same, LeavesSeen, seen_left, AddsLook, seen_added}

-- what a lock's word says of who has it
pub held_is : (word : ℕ) (number : Option ℕ) → is_held_by word number ≡ true → (n : ℕ) × (number ≡ Some n) × (word ≡ n + 1)
held_is word None h = absurd (cc)
held_is word (Some n) h = (n, refl, eqb-true word (n + 1) h)

-- one hand has the lock
pub one_holder : (m : Moment) → IsLawful m → (a b : ℕ) → has_slabs m.state a ≡ true → has_slabs m.state b ≡ true → a ≡ b
one_holder m l a b has_a has_b =
    let (n, is_a, word_a) = held_is m.state.slabs_lock (number_at m.state a) has_a in
    let (k, is_b, word_b) = held_is m.state.slabs_lock (number_at m.state b) has_b in
    let same : k ≡ n = omega arith in
    l.hands.apart a b n is_a (is_b ∙ ap Some same)

-- a plain step moves no lock
pub has_before : (before now : State) (hand h : ℕ) → IsOwn before now hand → has_slabs now h ≡ true → has_slabs before h ≡ true
has_before before now hand h own has = sym (ap₂ is_held_by own.slabs_lock (own.numbers h)) ∙ has

-- headers that stay put
shut_not : (tag : Tag) (count : ℕ) → (tag ≡ Unlinked) ⊎ (tag ≡ Linked) → 1 ≤ count → (is_out tag || is_free tag || (is_unlinked tag && count == 0)) ≡ true → ⊥
shut_not Out count (inl is) some h = absurd (cc)
shut_not Out count (inr is) some h = absurd (cc)
shut_not Free count (inl is) some h = absurd (cc)
shut_not Free count (inr is) some h = absurd (cc)
shut_not Unlinked count is some h = let none = eqb-true count 0 h in absurd (omega arith)
shut_not Linked count is some h = absurd (cc)

linked_not : (tag : Tag) (count : ℕ) → tag ≡ Linked → (is_out tag || is_free tag || (is_unlinked tag && count == 0)) ≡ true → ⊥
linked_not Out count is h = absurd (cc)
linked_not Free count is h = absurd (cc)
linked_not Unlinked count is h = absurd (cc)
linked_not Linked count is h = absurd (cc)

pub put_linked : (old : Head) → old.tag ≡ Unlinked → 1 ≤ old.count → StaysPut old (head_after_link old)
put_linked old is some = record { shut = λ shut. absurd (shut_not old.tag old.count (inl is) some shut); out = λ issue out. (inr refl, out.1) }

pub put_referred : (old : Head) → old.tag ≡ Linked → StaysPut old (head_after_refer old)
put_referred old is = record { shut = λ shut. absurd (linked_not old.tag old.count is shut); out = λ issue out. out }

pub put_unlinked : (old : Head) → old.tag ≡ Linked → StaysPut old (head_after_unlink old)
put_unlinked old is = record { shut = λ shut. absurd (linked_not old.tag old.count is shut); out = λ issue out. (inl refl, out.1) }

pub put_let_go : (old : Head) (issue : ℕ) → IsHandedOut old issue → 1 ≤ old.count → StaysPut old (head_after_release old)
put_let_go old issue is some = record { shut = λ shut. absurd (shut_not old.tag old.count is.0 some shut); out = λ issue out. out }

module _ (m : Moment) (l : IsLawful m) where
  abbrev table : Classes
  table = m.state.table

  abbrev known : List (List KnownItem)
  known = m.past.known

  -- pages and lists as the hand found them
  abbrev pub found_by : List Hold → ℕ → SlabState
  found_by holds hand = (slice_index_or holds hand no_hold).found

  -- no hold begins or ends
  abbrev pub same_holds : ℕ → List Hold
  same_holds hand = slice_set m.past.holds hand (slice_index_or m.past.holds hand no_hold)

  found_same : (hand h : ℕ) → found_by m.past.holds h ≡ found_by (same_holds hand) h
  found_same hand h = ap (λ holds. found_by holds h) (sym (set-get_or m.past.holds hand no_hold))

  -- a step that appends no look to the looks of the lock's holder
  pub seen_quiet : (hand : ℕ) (more : List KnownItem) (heads' : List Head) (words' : List ℕ) → LeavesSeen table m.state.slabs m.state.heads heads' m.state.words words' known (with_more known hand more) →
      (h : ℕ) → has_slabs m.state h ≡ true → AreSeen table m.state.slabs heads' words' (with_more known hand more) (found_by (same_holds hand) h) (looks_at m.state h)
  seen_quiet hand more heads' words' leaves h has =
      subst (λ found. AreSeen table m.state.slabs heads' words' (with_more known hand more) found (looks_at m.state h)) (found_same hand h)
      (seen_left table m.state.slabs (found_by m.past.holds h) m.state.heads heads' m.state.words words' known (with_more known hand more) (looks_at m.state h) leaves (l.seen h has))

  -- neither headers nor words change
  pub leaves_same : (hand : ℕ) (more : List KnownItem) → LeavesSeen table m.state.slabs m.state.heads m.state.heads m.state.words m.state.words known (with_more known hand more)
  leaves_same hand more = record {
    headers = λ chunk in_range. put_same (head_in table m.state.heads chunk);
    items = λ chunk issue. known_more known hand more (λ k. (k.chunk ≡ chunk) × (k.issue ≡ issue));
    data_words = λ chunk place issue in_range is within. refl;
  }

  -- one header changes
  pub leaves_turned : (hand : ℕ) (more : List KnownItem) (chunk : ChunkId) (head : Head) → has_chunk table chunk ≡ true → StaysPut (head_in table m.state.heads chunk) head →
      LeavesSeen table m.state.slabs m.state.heads (slice_set m.state.heads (head_place table chunk) head) m.state.words m.state.words known (with_more known hand more)
  leaves_turned hand more chunk head in_range put = record {
    headers = λ other near'. head_now table m.state.heads chunk head l.sized.headers in_range (λ h. StaysPut (head_in table m.state.heads other) h) other near'
        (λ same. subst (λ c. StaysPut (head_in table m.state.heads c) head) same put) (λ _. put_same (head_in table m.state.heads other));
    items = λ chunk issue. known_more known hand more (λ k. (k.chunk ≡ chunk) × (k.issue ≡ issue));
    data_words = λ chunk place issue in_range is within. refl;
  }

  -- the holder looks once more
  module _ (hand : ℕ) (there : is_hand m.state hand ≡ true) (mine : has_slabs m.state hand ≡ true) (next : SlabState) (heads' : List Head) (look : Look)
      (adds : AddsLook table m.state.slabs next m.state.heads heads' m.state.words known (looks_at m.state hand) look) where
    abbrev looks' : List (List Look)
    looks' = slice_set m.state.looks hand (looks_at m.state hand ++ look ∷ [])

    pub seen_change : (h : ℕ) → has_slabs m.state h ≡ true → AreSeen table next heads' m.state.words known (found_by m.past.holds h) (row_of looks' h)
    seen_change h has =
        let rows = l.hands.look_rows in let is = hand_there m.state hand there in
        let row : row_of looks' hand ≡ looks_at m.state hand ++ look ∷ [] = row_same m.state.looks hand (looks_at m.state hand ++ look ∷ []) (omega arith) in
        subst (λ n. AreSeen table next heads' m.state.words known (found_by m.past.holds n) (row_of looks' n)) (one_holder m l hand h mine has)
        (subst (λ looks. AreSeen table next heads' m.state.words known (found_by m.past.holds hand) looks) (sym row)
        (seen_added table m.state.slabs next (found_by m.past.holds hand) m.state.heads heads' m.state.words known (looks_at m.state hand) look adds (l.seen hand mine)))

    pub seen_look : (h : ℕ) → has_slabs m.state h ≡ true → AreSeen table next heads' m.state.words (with_more known hand []) (found_by (same_holds hand) h) (row_of looks' h)
    seen_look h has =
        subst (λ found. AreSeen table next heads' m.state.words (with_more known hand []) found (row_of looks' h)) (found_same hand h)
        (subst (λ known'. AreSeen table next heads' m.state.words known' (found_by m.past.holds h) (row_of looks' h)) (sym (with_none known hand)) (seen_change h has))
