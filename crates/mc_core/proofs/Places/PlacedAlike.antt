-- Chunks keep their places where headers change no more than between handed-out tags, and where pages change but no list.
use Rattle.std.proofs.Common.{◌≡◌, ◌⊎◌, ℕ, zero, suc, ◌&&◌, Bool, true, false, not, List, [], ◌∷◌, length, get_or, set, refl, sym, ap, ◌∙◌, inl, inr, arith}
use Rattle.std.proofs.lemmas.Bool.{cases_Bool, both_ways}
use Rattle.mc_classes.specs.Classes.{Classes}
use Rattle.mc_pages.specs.declared.ids.ChunkId.{ChunkId}
use Rattle.mc_pages.specs.Ledger.{owner_at}
use Rattle.mc_pages.specs.ClassState.{times_in}
use Rattle.mc_pages.specs.SlabState.{SlabState, HasClass, class_at, class_of_page}
use Rattle.mc_pages.specs.Accounted.{truth, is_cut, is_moving, IsAccounted}
use Rattle.mc_core.specs.declared.head.Head.{Head}
use Rattle.mc_core.specs.declared.head.Tag.{Tag}
use Rattle.mc_core.specs.declared.head.Tag.TheVariants.{Out, Free, Unlinked, Linked}
use Rattle.mc_core.specs.model.Head.{never_cut, is_free, is_out}
use Rattle.mc_core.specs.model.State.{has_chunk, head_place}
use Rattle.mc_core.specs.model.Columns.{head_in}
use Rattle.mc_core.specs.law.Places.{ArePlaced, is_cut_there}
use Rattle.mc_core.proofs.Places.SamePages.{is_in_hand, cut_there, cut_there_from}

-- whether a chunk is free or out
abbrev pub kind_of : Head → Bool × Bool
kind_of head = (is_free head.tag, is_out head.tag)

-- a write that leaves what f makes of the entry at its place leaves it at each place
pub same_at : {X Y : Type 0} (f : X → Y) (xs : List X) (i : ℕ) (x d : X) → f x ≡ f (get_or xs i d) → (j : ℕ) → f (get_or (set xs i x) j d) ≡ f (get_or xs j d)
same_at f [] i x d e j = refl
same_at f (y ∷ ys) zero x d e zero = e
same_at f (y ∷ ys) zero x d e (suc j) = refl
same_at f (y ∷ ys) (suc i) x d e zero = refl
same_at f (y ∷ ys) (suc i) x d e (suc j) = same_at f ys i x d e j

-- the tag Out is what is out
pub out_from : (tag : Tag) → is_out tag ≡ true → tag ≡ Out
out_from Out h = refl
out_from Free h = absurd (cc)
out_from Unlinked h = absurd (cc)
out_from Linked h = absurd (cc)

pub out_is : (tag : Tag) → tag ≡ Out → is_out tag ≡ true
out_is tag h = ap is_out h

-- what is neither free nor in hand is out
pub out_else : (tag : Tag) → is_free tag ≡ false → is_in_hand tag ≡ false → tag ≡ Out
out_else Out free hand = refl
out_else Free free hand = absurd (cc)
out_else Unlinked free hand = absurd (cc)
out_else Linked free hand = absurd (cc)

-- each header is free or out as before
abbrev pub AreAlike : List Head → List Head → Type 0
AreAlike heads now = (place : ℕ) → kind_of (get_or now place never_cut) ≡ kind_of (get_or heads place never_cut)

-- chunks that are free or out as before have the places of before
pub placed_alike : (table : Classes) (slabs : SlabState) (heads now : List Head) → AreAlike heads now → ArePlaced table slabs heads → ArePlaced table slabs now
placed_alike table slabs heads now alike placed =
    let same = λ (chunk : ChunkId). alike (head_place table chunk) in
    record {
      free = λ class chunk is. placed.free class chunk is ∙ sym (ap (λ (k : Bool × Bool). truth (is_cut slabs class chunk && k.0)) (same chunk));
      order = λ class chunk is. placed.order class chunk is ∙ sym (ap (λ (k : Bool × Bool). truth (is_cut slabs class chunk && (not k.0 && not k.1))) (same chunk));
      cleared = λ class chunk is cut out.
          let was : is_out (head_in table heads chunk).tag ≡ true = sym (ap (λ (k : Bool × Bool). k.1) (same chunk)) ∙ out_is (head_in table now chunk).tag out in
          placed.cleared class chunk is cut (out_from (head_in table heads chunk).tag was);
      elsewhere = λ chunk here uncut.
          out_from (head_in table now chunk).tag (ap (λ (k : Bool × Bool). k.1) (same chunk) ∙ out_is (head_in table heads chunk).tag (placed.elsewhere chunk here uncut));
    }

-- the lists have the chunks that they had, and what isn't cut any more is in none
pub record AreListed (slabs now : SlabState) : Type 0 where
  pub classes : length now.classes ≡ length slabs.classes
  pub free : (class : ℕ) (chunk : ChunkId) → HasClass slabs class → times_in chunk (class_at now class).free ≡ times_in chunk (class_at slabs class).free
  pub order : (class : ℕ) (chunk : ChunkId) → HasClass slabs class → times_in chunk (class_at now class).order ≡ times_in chunk (class_at slabs class).order
  pub cut : (class : ℕ) (chunk : ChunkId) → HasClass slabs class →
      (is_cut now class chunk ≡ is_cut slabs class chunk)
      ⊎ ((is_cut now class chunk ≡ false) × ((times_in chunk (class_at slabs class).free ≡ 0) × (times_in chunk (class_at slabs class).order ≡ 0)))
  pub moving : (class : ℕ) (chunk : ChunkId) → HasClass slabs class → is_cut now class chunk ≡ true → is_moving (owner_at slabs.owners chunk.page) ≡ true → is_moving (owner_at now.owners chunk.page) ≡ true

truth_none : (b : Bool) → truth b ≡ 0 → b ≡ false
truth_none true h = absurd (omega arith)
truth_none false h = refl

and_none : (a b : Bool) → a ≡ true → truth (a && b) ≡ 0 → b ≡ false
and_none a b h none = truth_none b (sym (ap (λ (x : Bool). truth (x && b)) h) ∙ none)

module _ (table : Classes) (slabs now : SlabState) (heads : List Head) (all : IsAccounted slabs) (placed : ArePlaced table slabs heads) (listed : AreListed slabs now) where
  was_class : (class : ℕ) → HasClass now class → HasClass slabs class
  was_class class is = let same = listed.classes in (is.0, omega (arith, is.1, same))

  free_listed : (class : ℕ) (chunk : ChunkId) → HasClass slabs class → times_in chunk (class_at now class).free ≡ truth (is_cut now class chunk && is_free (head_in table heads chunk).tag)
  free_listed class chunk is =
      let free = is_free (head_in table heads chunk).tag in
      elim (listed.cut class chunk is) [
        | inl same ↦ listed.free class chunk is ∙ placed.free class chunk is ∙ sym (ap (λ b. truth (b && free)) same)
        | inr gone ↦ listed.free class chunk is ∙ gone.1.0 ∙ sym (ap (λ b. truth (b && free)) gone.0)
      ]

  order_listed : (class : ℕ) (chunk : ChunkId) → HasClass slabs class → times_in chunk (class_at now class).order ≡ truth (is_cut now class chunk && is_in_hand (head_in table heads chunk).tag)
  order_listed class chunk is =
      let hand = is_in_hand (head_in table heads chunk).tag in
      elim (listed.cut class chunk is) [
        | inl same ↦ listed.order class chunk is ∙ placed.order class chunk is ∙ sym (ap (λ b. truth (b && hand)) same)
        | inr gone ↦ listed.order class chunk is ∙ gone.1.1 ∙ sym (ap (λ b. truth (b && hand)) gone.0)
      ]

  cleared_listed : (class : ℕ) (chunk : ChunkId) → HasClass slabs class → is_cut now class chunk ≡ true → (head_in table heads chunk).tag ≡ Out → is_moving (owner_at now.owners chunk.page) ≡ true
  cleared_listed class chunk is cut out = elim (listed.cut class chunk is) [
    | inl same ↦ listed.moving class chunk is cut (placed.cleared class chunk is (sym same ∙ cut) out)
    | inr gone ↦ absurd (both_ways _ gone.0 cut)
  ]

  elsewhere_listed : (chunk : ChunkId) → has_chunk table chunk ≡ true → is_cut_there now chunk ≡ false → (head_in table heads chunk).tag ≡ Out
  elsewhere_listed chunk here uncut = elim (cases_Bool (is_cut_there slabs chunk)) [
    | inr before ↦ placed.elsewhere chunk here before
    | inl before ↦
        let class = class_of_page slabs chunk.page in
        let tag = (head_in table heads chunk).tag in
        let is = cut_there slabs chunk all before in
        elim (listed.cut class chunk is) [
          | inl kept ↦ absurd (both_ways _ uncut (cut_there_from now class chunk (kept ∙ before)))
          | inr gone ↦
              let free : truth (is_cut slabs class chunk && is_free tag) ≡ 0 = sym (placed.free class chunk is) ∙ gone.1.0 in
              let hand : truth (is_cut slabs class chunk && is_in_hand tag) ≡ 0 = sym (placed.order class chunk is) ∙ gone.1.1 in
              out_else tag (and_none (is_cut slabs class chunk) (is_free tag) before free) (and_none (is_cut slabs class chunk) (is_in_hand tag) before hand)
        ]
  ]

  -- lists that have what they had say as much of headers that stay
  pub placed_listed : ArePlaced table now heads
  placed_listed = record {
    free = λ class chunk is. free_listed class chunk (was_class class is);
    order = λ class chunk is. order_listed class chunk (was_class class is);
    cleared = λ class chunk is. cleared_listed class chunk (was_class class is);
    elsewhere = elsewhere_listed;
  }
