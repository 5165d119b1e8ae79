-- What the hand with the slabs lock saw holds still, as others do steps and as it looks once more.
use Rattle.std.proofs.Common.{◌≡◌, ◌⊎◌, ℕ, ◌<◌, ◌==◌, ◌&&◌, ◌||◌, Bool, true, false, List, [], ◌∷◌, ◌++◌, refl, sym, ap, subst, ◌∙◌, inl, inr, slice_index, is_some, Option, Some, None}
use Rattle.std.specs.List.{fold}
use Rattle.std.proofs.lemmas.List.Sums.{fold_push}
use Rattle.mc_classes.specs.Classes.{Classes}
use Rattle.mc_pages.specs.declared.ids.ChunkId.{ChunkId}
use Rattle.mc_pages.specs.SlabState.{SlabState, class_of_page}
use Rattle.mc_core.specs.declared.head.Head.{Head}
use Rattle.mc_core.specs.declared.head.Tag.{Tag}
use Rattle.mc_core.specs.declared.head.Tag.TheVariants.{Out, Free, Unlinked, Linked}
use Rattle.mc_core.specs.declared.look.Look.{Look}
use Rattle.mc_core.specs.model.Head.{is_free, is_out, is_dead, is_unlinked}
use Rattle.mc_core.specs.past.Past.{KnownItem, IsKnownToSome}
use Rattle.mc_core.specs.model.State.{room_in, has_chunk}
use Rattle.mc_core.specs.model.Columns.{head_in, place_in, IsHandedOut}
use Rattle.mc_core.specs.law.Seen.{last_head, linked_issue, last_read, slabs_after_look, IsStill, IsReadStill, AreSeen}

-- nobody holds it, and no key leads to it
abbrev pub is_shut : Head → Bool
is_shut head = is_out head.tag || is_free head.tag || is_dead head

-- what is shut stays as it is, and what is handed out stays so
pub record StaysPut (old new : Head) : Type 0 where
  pub shut : is_shut old ≡ true → new ≡ old
  pub out : (issue : ℕ) → IsHandedOut old issue → IsHandedOut new issue

pub put_same : (head : Head) → StaysPut head head
put_same head = record { shut = λ _. refl; out = λ issue out. out }

-- so what was seen of it holds still
pub still_put : (old new seen : Head) → StaysPut old new → IsStill old seen → IsStill new seen
still_put old new seen put is =
    ((λ shut. let same = is.0 shut in put.shut (subst (λ (h : Head). is_shut h ≡ true) (sym same) shut) ∙ same), λ open'. put.out seen.issue (is.1 open'))

-- a header that isn't shut is handed out
open_out : (tag : Tag) (count : ℕ) → (is_out tag || is_free tag || (is_unlinked tag && count == 0)) ≡ false → (tag ≡ Unlinked) ⊎ (tag ≡ Linked)
open_out Out count h = absurd (cc)
open_out Free count h = absurd (cc)
open_out Unlinked count h = inl refl
open_out Linked count h = inr refl

-- what was just seen is so
pub still_now : (head : Head) → IsStill head head
still_now head = ((λ _. refl), λ open'. (open_out head.tag head.count open', refl))

pub some_is : {X : Type 0} (o : Option X) → is_some o ≡ true → (x : X) × (o ≡ Some x)
some_is None h = absurd (cc)
some_is (Some x) h = (x, refl)

-- the chunk is handed out with the issue number, and somebody knows its item
abbrev pub IsLinkedStill : Classes → List Head → List (List KnownItem) → ChunkId → ℕ → Type 0
IsLinkedStill table heads known chunk issue = IsHandedOut (head_in table heads chunk) issue × IsKnownToSome known (λ k. (k.chunk ≡ chunk) × (k.issue ≡ issue))

-- a step leaves what may have been seen
pub record LeavesSeen (table : Classes) (slabs : SlabState) (heads heads' : List Head) (words words' : List ℕ) (known known' : List (List KnownItem)) : Type 0 where
  pub headers : (chunk : ChunkId) → has_chunk table chunk ≡ true → StaysPut (head_in table heads chunk) (head_in table heads' chunk)
  pub items : (chunk : ChunkId) (issue : ℕ) → IsKnownToSome known (λ k. (k.chunk ≡ chunk) × (k.issue ≡ issue)) → IsKnownToSome known' (λ k. (k.chunk ≡ chunk) × (k.issue ≡ issue))
  pub data_words : (chunk : ChunkId) (place issue : ℕ) → has_chunk table chunk ≡ true → IsLinkedStill table heads known chunk issue → place < room_in table (class_of_page slabs chunk.page) →
      slice_index words' (place_in table slabs chunk place) ≡ slice_index words (place_in table slabs chunk place)

pub seen_left : (table : Classes) (slabs found : SlabState) (heads heads' : List Head) (words words' : List ℕ) (known known' : List (List KnownItem)) (looks : List Look) →
    LeavesSeen table slabs heads heads' words words' known known' → AreSeen table slabs heads words known found looks → AreSeen table slabs heads' words' known' found looks
seen_left table slabs found heads heads' words words' known known' looks leaves seen = record {
  last_heads = λ chunk head in_range last. still_put (head_in table heads chunk) (head_in table heads' chunk) head (leaves.headers chunk in_range) (seen.last_heads chunk head in_range last);
  linked = λ chunk issue in_range last.
      let both = seen.linked chunk issue in_range last in
      ((leaves.headers chunk in_range).out issue both.0, leaves.items chunk issue both.1);
  read_words = λ chunk place word in_range last.
      let read = seen.read_words chunk place word in_range last in
      let (issue, is) = some_is (fold (linked_issue chunk) None looks) read.linked in
      record { same = leaves.data_words chunk place issue in_range (seen.linked chunk issue in_range is) read.within ∙ read.same; within = read.within; linked = read.linked };
  told = seen.told;
}

-- one more look: what follows from it and from all before
pub record AddsLook (table : Classes) (slabs slabs' : SlabState) (heads heads' : List Head) (words : List ℕ) (known : List (List KnownItem)) (looks : List Look) (look : Look) : Type 0 where
  pub told : slabs_after_look slabs look ≡ slabs'
  pub headers : (chunk : ChunkId) (before : Option Head) (seen : Head) → has_chunk table chunk ≡ true → ((head : Head) → before ≡ Some head → IsStill (head_in table heads chunk) head) →
      last_head chunk before look ≡ Some seen → IsStill (head_in table heads' chunk) seen
  pub linked : (chunk : ChunkId) (before : Option ℕ) (issue : ℕ) → has_chunk table chunk ≡ true → ((i : ℕ) → before ≡ Some i → IsLinkedStill table heads known chunk i) →
      linked_issue chunk before look ≡ Some issue → IsLinkedStill table heads' known chunk issue
  -- a word that was read is of a chunk that was linked
  pub reads : (chunk : ChunkId) (place : ℕ) (before issue : Option ℕ) (word : ℕ) → has_chunk table chunk ≡ true → (issue ≡ fold (linked_issue chunk) None looks) →
      ((w : ℕ) → before ≡ Some w → IsReadStill table slabs words looks chunk place w) → last_read chunk place before look ≡ Some word →
      (slice_index words (place_in table slabs' chunk place) ≡ word) × (place < room_in table (class_of_page slabs' chunk.page)) × (is_some (linked_issue chunk issue look) ≡ true)

pub seen_added : (table : Classes) (slabs slabs' found : SlabState) (heads heads' : List Head) (words : List ℕ) (known : List (List KnownItem)) (looks : List Look) (look : Look) →
    AddsLook table slabs slabs' heads heads' words known looks look → AreSeen table slabs heads words known found looks → AreSeen table slabs' heads' words known found (looks ++ look ∷ [])
seen_added table slabs slabs' found heads heads' words known looks look adds seen = record {
  last_heads = λ chunk head in_range last.
      adds.headers chunk (fold (last_head chunk) None looks) head in_range (λ h before. seen.last_heads chunk h in_range before) (sym (fold_push (last_head chunk) None looks look) ∙ last);
  linked = λ chunk issue in_range last.
      adds.linked chunk (fold (linked_issue chunk) None looks) issue in_range (λ i before. seen.linked chunk i in_range before) (sym (fold_push (linked_issue chunk) None looks look) ∙ last);
  read_words = λ chunk place word in_range last.
      let read = adds.reads chunk place (fold (last_read chunk place) None looks) (fold (linked_issue chunk) None looks) word in_range refl (λ w before. seen.read_words chunk place w in_range before)
      (sym (fold_push (last_read chunk place) None looks look) ∙ last) in
      record { same = read.0; within = read.1; linked = ap is_some (fold_push (linked_issue chunk) None looks look) ∙ read.2 };
  told = fold_push slabs_after_look found looks look ∙ (ap (λ s. slabs_after_look s look) seen.told ∙ adds.told);
}
