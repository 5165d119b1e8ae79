-- What follows from one more look, by its kind.
use Rattle.std.proofs.Common.{◌≡◌, ℕ, ◌+◌, ◌*◌, ◌<◌, ◌==◌, ◌&&◌, ◌||◌, not, Bool, true, false, cond, if◌then◌else◌, List, length, refl, sym, ap, subst, ◌∙◌, inl, inr, slice_set, slice_index, is_some, Option, Some, None, eqb-true}
use Rattle.std.specs.List.{fold}
use Rattle.std.proofs.lemmas.Bool.{cases_Bool, and_parts}
use Rattle.std.proofs.lemmas.List.Folds.{fold_along}
use Rattle.mc_classes.specs.Classes.{Classes, arena_pages_of}
use Rattle.mc_pages.specs.declared.ids.ChunkId.{ChunkId}
use Rattle.mc_pages.specs.ClassState.{is_chunk}
use Rattle.mc_pages.specs.SlabState.{SlabState, class_of_page}
use Rattle.mc_pages.proofs.Chunks.{is_chunk-same, same_from_is_chunk}
use Rattle.mc_core.specs.declared.event.Change.{Change}
use Rattle.mc_core.specs.declared.head.Head.{Head}
use Rattle.mc_core.specs.declared.head.Tag.TheVariants.{Linked}
use Rattle.mc_core.specs.declared.look.Look.{Look}
use Rattle.mc_core.specs.declared.look.Look.TheVariants.{Saw, SawStripe, Read, Popped, PoppedOff, Condemned, PutBack, Cleared, Cut, Changed}
use Rattle.mc_core.specs.model.Head.{is_linked}
use Rattle.mc_core.specs.model.Looks.{stays_linked, was_linked}
use Rattle.mc_core.specs.past.Past.{KnownItem, IsKnownToSome}
use Rattle.mc_core.specs.run.Silent.{slabs_after}
use Rattle.mc_core.specs.model.State.{room_in, has_chunk, head_place, most_of, page_words}
use Rattle.mc_core.specs.model.Columns.{head_in, place_in, IsHandedOut}
use Rattle.mc_core.specs.law.Seen.{newer, last_head, linked_issue, last_read, slabs_after_look, IsStill, IsReadStill, AreSeen}
use Rattle.mc_core.proofs.Known.KnownStill.{head_now}
use Rattle.mc_core.proofs.Known.KnownReferences.{linked_tag}
use Rattle.mc_core.proofs.Known.KnownQuiet.{AreLinkedKnown}
use Rattle.mc_core.proofs.Seen.SeenLooks.{AddsLook, still_now, some_is}

newer_here : (chunk seen : ChunkId) (head now : Head) (before : Option Head) → is_chunk seen chunk ≡ true → newer chunk seen head before ≡ Some now → head ≡ now
newer_here chunk seen head now before same e =
    let here : Some head ≡ Some now = subst (λ b. cond b (Some head) before ≡ Some now) same e in cc

newer_there : (chunk seen : ChunkId) (head now : Head) (before : Option Head) → is_chunk seen chunk ≡ false → newer chunk seen head before ≡ Some now → before ≡ Some now
newer_there chunk seen head now before apart e = subst (λ b. cond b (Some head) before ≡ Some now) apart e

none_some : (n : ℕ) (P : Type 0) → None ≡ Some n → P
none_some n P e = absurd (cc)

-- a chunk that is given back is linked no more
ended_is : (before : Bool) (issue : Option ℕ) (b : Bool) → before ≡ is_some issue → (before && not b) ≡ is_some (cond b None issue)
ended_is true issue true same = refl
ended_is true issue false same = same
ended_is false issue true same = refl
ended_is false issue false same = same

-- whether a chunk was found linked, and with which issue, agree
stays_is : (chunk : ChunkId) (before : Bool) (issue : Option ℕ) (look : Look) → before ≡ is_some issue → stays_linked chunk before look ≡ is_some (linked_issue chunk issue look)
stays_is chunk before issue (Saw seen head) same = saw before issue (is_chunk seen chunk && is_linked head.tag) head.issue same
  where
    saw : (before : Bool) (issue : Option ℕ) (b : Bool) (n : ℕ) → before ≡ is_some issue → (before || b) ≡ is_some (cond b (Some n) issue)
    saw true issue true n same = refl
    saw true issue false n same = same
    saw false issue true n same = refl
    saw false issue false n same = same
stays_is chunk before issue (SawStripe stripe word) same = same
stays_is chunk before issue (Read seen at word) same = same
stays_is chunk before issue (Popped seen head) same = same
stays_is chunk before issue (PoppedOff seen old head) same = same
stays_is chunk before issue (Condemned seen head) same = same
stays_is chunk before issue (PutBack seen head) same = ended_is before issue (is_chunk seen chunk) same
stays_is chunk before issue (Cleared seen head) same = ended_is before issue (is_chunk seen chunk) same
stays_is chunk before issue (Cut seen head) same = same
stays_is chunk before issue (Changed change) same = same

pub was_linked_is : (looks : List Look) (chunk : ChunkId) → was_linked looks chunk ≡ is_some (fold (linked_issue chunk) None looks)
was_linked_is looks chunk = fold_along (stays_linked chunk) (linked_issue chunk) (λ (b : Bool) (o : Option ℕ). b ≡ is_some o) (λ b o look same. stays_is chunk b o look same) false None looks refl

-- a word read of a page that stays of its class
read_moved : (table : Classes) (slabs next : SlabState) (words : List ℕ) (looks : List Look) (chunk : ChunkId) (place word : ℕ) → class_of_page next chunk.page ≡ class_of_page slabs chunk.page → IsReadStill table slabs words looks chunk place word →
    (slice_index words (place_in table next chunk place) ≡ word) × (place < room_in table (class_of_page next chunk.page))
read_moved table slabs next words looks chunk place word same read =
    (ap (λ class. slice_index words (chunk.page * page_words table + chunk.index * room_in table class + place)) same ∙ read.same, subst (λ class. place < room_in table class) (sym same) read.within)

module _ (table : Classes) (slabs : SlabState) (heads : List Head) (words : List ℕ) (known : List (List KnownItem)) (looks : List Look) where
  -- the issue with which a chunk is linked stays
  issue_stays : (chunk : ChunkId) (place word : ℕ) (issue : Option ℕ) → issue ≡ fold (linked_issue chunk) None looks → IsReadStill table slabs words looks chunk place word → is_some issue ≡ true
  issue_stays chunk place word issue same read = ap is_some same ∙ read.linked

  pub adds_stripe : (stripe word : ℕ) → AddsLook table slabs slabs heads heads words known looks (SawStripe stripe word)
  adds_stripe stripe word = record {
    told = refl;
    headers = λ chunk before seen in_range was last. was seen last;
    linked = λ chunk before issue in_range was last. was issue last;
    reads = λ chunk place before issue w in_range same was last. let read = was w last in (read.same, read.within, issue_stays chunk place w issue same read);
  }

  pub adds_read : (chunk : ChunkId) (at : ℕ) → was_linked looks chunk ≡ true → at < room_in table (class_of_page slabs chunk.page) →
      AddsLook table slabs slabs heads heads words known looks (Read chunk at (slice_index words (place_in table slabs chunk at)))
  adds_read chunk at linked within = record {
    told = refl;
    headers = λ other before seen in_range was last. was seen last;
    linked = λ other before issue in_range was last. was issue last;
    reads = λ other place before issue w in_range same was last.
        elim (cases_Bool (is_chunk chunk other && at == place)) [
          | inl here ↦
              let parts = and_parts (is_chunk chunk other) (at == place) here in
              let other_is = same_from_is_chunk chunk other parts.0 in
              let place_is = eqb-true at place parts.1 in
              let now : Some (slice_index words (place_in table slabs chunk at)) ≡ Some w = subst (λ b. cond b (Some (slice_index words (place_in table slabs chunk at))) before ≡ Some w) here last in
              let word : slice_index words (place_in table slabs chunk at) ≡ w = (cc) in (
                subst (λ (c : ChunkId). slice_index words (place_in table slabs c place) ≡ w) other_is (subst (λ p. slice_index words (place_in table slabs chunk p) ≡ w) place_is word),
                subst (λ (c : ChunkId). place < room_in table (class_of_page slabs c.page)) other_is (subst (λ p. p < room_in table (class_of_page slabs chunk.page)) place_is within),
                ap is_some same ∙ (sym (was_linked_is looks other) ∙ subst (λ c. was_linked looks c ≡ true) other_is linked),
              )
          | inr there ↦
              let read = was w (subst (λ b. cond b (Some (slice_index words (place_in table slabs chunk at))) before ≡ Some w) there last) in
              (read.same, read.within, issue_stays other place w issue same read)
        ];
  }

  pub adds_saw : (chunk : ChunkId) → AreLinkedKnown table heads known → AddsLook table slabs slabs heads heads words known looks (Saw chunk (head_in table heads chunk))
  adds_saw chunk all_known = record {
    told = refl;
    headers = λ other before seen in_range was last.
        elim (cases_Bool (is_chunk chunk other)) [
          | inl same ↦
              let is = newer_here other chunk (head_in table heads chunk) seen before same last in
              subst (λ h. IsStill (head_in table heads other) h) is (subst (λ c. IsStill (head_in table heads other) (head_in table heads c)) (sym (same_from_is_chunk chunk other same)) (still_now (head_in table heads other)))
          | inr apart ↦ was seen (newer_there other chunk (head_in table heads chunk) seen before apart last)
        ];
    linked = λ other before issue in_range was last.
        elim (cases_Bool (is_chunk chunk other && is_linked (head_in table heads chunk).tag)) [
          | inl here ↦
              let parts = and_parts (is_chunk chunk other) (is_linked (head_in table heads chunk).tag) here in
              let other_is = same_from_is_chunk chunk other parts.0 in
              let now : Some (head_in table heads chunk).issue ≡ Some issue = subst (λ b. cond b (Some (head_in table heads chunk).issue) before ≡ Some issue) here last in
              let at : (head_in table heads chunk).issue ≡ issue = (cc) in
              let there : (head_in table heads other).issue ≡ issue = subst (λ c. (head_in table heads c).issue ≡ issue) other_is at in
              let tag : (head_in table heads other).tag ≡ Linked = subst (λ c. (head_in table heads c).tag ≡ Linked) other_is (linked_tag (head_in table heads chunk).tag parts.1) in
              ((inr tag, there), subst (λ i. IsKnownToSome known (λ k. (k.chunk ≡ other) × (k.issue ≡ i))) there (all_known other in_range tag))
          | inr there ↦ was issue (subst (λ b. cond b (Some (head_in table heads chunk).issue) before ≡ Some issue) there last)
        ];
    reads = λ other place before issue w in_range same was last.
        let read = was w last in
        (read.same, read.within, kept (is_chunk chunk other && is_linked (head_in table heads chunk).tag) (head_in table heads chunk).issue issue (issue_stays other place w issue same read));
  }
    where
      kept : (b : Bool) (n : ℕ) (issue : Option ℕ) → is_some issue ≡ true → is_some (cond b (Some n) issue) ≡ true
      kept true n issue is = refl
      kept false n issue is = is

  -- pages and lists change alone
  pub adds_changed : (change : Change) (found : SlabState) → AreSeen table slabs heads words known found looks →
      ((chunk : ChunkId) (issue : ℕ) → has_chunk table chunk ≡ true → IsHandedOut (head_in table heads chunk) issue → class_of_page (slabs_after slabs change) chunk.page ≡ class_of_page slabs chunk.page) →
      AddsLook table slabs (slabs_after slabs change) heads heads words known looks (Changed change)
  adds_changed change found seen stays = record {
    told = refl;
    headers = λ chunk before seen in_range was last. was seen last;
    linked = λ chunk before issue in_range was last. was issue last;
    reads = λ chunk place before issue w in_range same was last.
        let read = was w last in
        let some = some_is (fold (linked_issue chunk) None looks) read.linked in
        let moved = read_moved table slabs (slabs_after slabs change) words looks chunk place w (stays chunk some.0 in_range (seen.linked chunk some.0 in_range some.1).0) read in
        (moved.0, moved.1, issue_stays chunk place w issue same read);
  }

  -- a header is written, and the look says so
  module _ (next : SlabState) (chunk : ChunkId) (head : Head) (look : Look) (sized : length heads ≡ arena_pages_of table * most_of table) (in_range : has_chunk table chunk ≡ true)
      (classes : (page : ℕ) → class_of_page next page ≡ class_of_page slabs page) (told : slabs_after_look slabs look ≡ next)
      (headed : (other : ChunkId) (before : Option Head) → last_head other before look ≡ newer other chunk head before) where
    abbrev heads' : List Head
    heads' = slice_set heads (head_place table chunk) head

    header_still : (other : ChunkId) (before : Option Head) (seen : Head) → has_chunk table other ≡ true → ((h : Head) → before ≡ Some h → IsStill (head_in table heads other) h) →
        last_head other before look ≡ Some seen → IsStill (head_in table heads' other) seen
    header_still other before seen near' was last =
        let last' = sym (headed other before) ∙ last in
        head_now table heads chunk head sized in_range (λ h. IsStill h seen) other near'
        (λ same. subst (λ h. IsStill head h) (newer_here other chunk head seen before (subst (λ c. is_chunk chunk c ≡ true) same (is_chunk-same chunk)) last') (still_now head))
        (λ apart. was seen (newer_there other chunk head seen before apart last'))

    -- and the chunk isn't given back
    pub adds_turned : ((other : ChunkId) (before : Option ℕ) → linked_issue other before look ≡ before) → ((other : ChunkId) (place : ℕ) (before : Option ℕ) → last_read other place before look ≡ before) →
        ((issue : ℕ) → IsHandedOut (head_in table heads chunk) issue → IsHandedOut head issue) → AddsLook table slabs next heads heads' words known looks look
    adds_turned same_link same_read out = record {
      told = told;
      headers = header_still;
      linked = λ other before issue near' was last.
          let both = was issue (sym (same_link other before) ∙ last) in
          (head_now table heads chunk head sized in_range (λ h. IsHandedOut h issue) other near' (λ same. out issue (subst (λ c. IsHandedOut (head_in table heads c) issue) (sym same) both.0)) (λ _. both.0), both.1);
      reads = λ other place before issue w near' same was last.
          let read = was w (sym (same_read other place before) ∙ last) in
          let moved = read_moved table slabs next words looks other place w (classes other.page) read in
          (moved.0, moved.1, ap is_some (same_link other issue) ∙ issue_stays other place w issue same read);
    }

    -- the chunk is put back or cleared
    pub adds_ended : ((other : ChunkId) (before : Option ℕ) → linked_issue other before look ≡ (if is_chunk chunk other then None else before)) →
        ((other : ChunkId) (place : ℕ) (before : Option ℕ) → last_read other place before look ≡ (if is_chunk chunk other then None else before)) → AddsLook table slabs next heads heads' words known looks look
    adds_ended ended_link ended_read = record {
      told = told;
      headers = header_still;
      linked = λ other before issue near' was last.
          let last' = sym (ended_link other before) ∙ last in (
            head_now table heads chunk head sized in_range (λ h. IsHandedOut h issue) other near'
                (λ same. none_some issue (IsHandedOut head issue) (subst (λ b. cond b None before ≡ Some issue) (subst (λ c. is_chunk chunk c ≡ true) same (is_chunk-same chunk)) last'))
                (λ apart. (was issue (subst (λ b. cond b None before ≡ Some issue) apart last')).0),
            elim (cases_Bool (is_chunk chunk other)) [
              | inl same ↦ none_some issue (IsKnownToSome known (λ k. (k.chunk ≡ other) × (k.issue ≡ issue))) (subst (λ b. cond b None before ≡ Some issue) same last')
              | inr apart ↦ (was issue (subst (λ b. cond b None before ≡ Some issue) apart last')).1
            ],
          );
      reads = λ other place before issue w near' same was last.
          let last' = sym (ended_read other place before) ∙ last in
          elim (cases_Bool (is_chunk chunk other)) [
            | inl here ↦ none_some w _ (subst (λ b. cond b None before ≡ Some w) here last')
            | inr apart ↦
                let read = was w (subst (λ b. cond b None before ≡ Some w) apart last') in
                let moved = read_moved table slabs next words looks other place w (classes other.page) read in
                (moved.0, moved.1, ap is_some (ended_link other issue ∙ ap (λ b. cond b None issue) apart) ∙ issue_stays other place w issue same read)
          ];
    }
