-- What a sweep of a class, and a pop behind it, leave of the pages.
use Rattle.std.proofs.Common.{◌≡◌, ℕ, List, [], ◌∷◌, Option, Some, None, Result, Ok, Err, IfOk, IfSome, OnErr, refl, ap, ◌∙◌, inl, inr}
use Rattle.mc_pages.specs.declared.ids.ChunkId.{ChunkId}
use Rattle.mc_pages.specs.Changes.{after_pop}
use Rattle.mc_pages.specs.SlabState.{SlabState}
use Rattle.mc_words.specs.hand.View.{View}
use Rattle.mc_words.specs.chunk.Sweeps.{Recovers, SweepsEach, SweepsOne}

-- no page is cut, or begun to be
each_uncut : (chunks : List ChunkId) (view : View) (slabs : SlabState) (now : View) (left : SlabState) → SweepsEach chunks view slabs now left → left.uncut ≡ slabs.uncut
each_uncut [] view slabs now left (same, is) = ap (λ (s : SlabState). s.uncut) is
each_uncut (chunk ∷ chunks) view slabs now left (next, between, one, rest) = each_uncut chunks next between now left rest ∙ by one
  where
    by : SweepsOne chunk view slabs next between → between.uncut ≡ slabs.uncut
    by (inl (back, is)) = ap (λ (s : SlabState). s.uncut) is
    by (inr (other, is)) = ap (λ (s : SlabState). s.uncut) is

pub recovers_uncut : (order : List ChunkId) (view : View) (slabs : SlabState) (now : View) (left : SlabState) → Recovers order view slabs now left → left.uncut ≡ slabs.uncut
recovers_uncut order view slabs now left recovers = each_uncut recovers.again recovers.seen slabs now left recovers.each

-- nor by a pop, whatever it answers
pub pop_uncut : {A E : Type 0} (r : Result (Option A) E) (X : A → Type 0) (Q : Type 0) (slabs left : SlabState) (class : ℕ) → (r ≡ Ok None → left ≡ slabs) → IfOk r (λ o. IfSome o (λ a. X a × (left ≡ after_pop slabs class))) → OnErr r (Q × (left ≡ slabs)) → left.uncut ≡ slabs.uncut
pop_uncut (Ok (Some a)) X Q slabs left class none popped worn = ap (λ (s : SlabState). s.uncut) popped.1
pop_uncut (Ok None) X Q slabs left class none popped worn = ap (λ (s : SlabState). s.uncut) (none refl)
pop_uncut (Err e) X Q slabs left class none popped worn = ap (λ (s : SlabState). s.uncut) worn.1
