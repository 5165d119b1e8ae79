-- One chunk that a hand put back, or saw alive, without a look at others: that is a recovery of its class.
use Rattle.std.proofs.Common.{◌≡◌, ℕ, true, false, List, [], ◌∷◌, ◌++◌, Some, refl, sym, ap, subst, ◌∙◌, inl, inr}
use Rattle.std.specs.Prelude.{Contains}
use Rattle.std.proofs.lemmas.List.Elements.{Contains-push_cases}
use Rattle.mc_pages.specs.declared.ids.ChunkId.{ChunkId}
use Rattle.mc_pages.specs.SlabState.{SlabState, class_at, class_of_page}
use Rattle.mc_pages.proofs.Chunks.{times_from_Contains}
use Rattle.mc_core.specs.declared.look.Look.{Look}
use Rattle.mc_core.specs.declared.look.Look.TheVariants.{Saw}
use Rattle.mc_core.specs.declared.event.Step.TheVariants as step
use Rattle.mc_core.specs.model.Head.{is_dead}
use Rattle.mc_core.specs.model.Looks.{is_found_alive}
use Rattle.mc_core.specs.model.State.{has_chunk}
use Rattle.mc_words.specs.chunk.Sweeps.{Recovers, SweepsOne}
use Rattle.mc_words.specs.rule.Happens.{Happens}
use Rattle.mc_words.specs.page.Owner.{PutsBack, SeesOther}
use Rattle.mc_words.specs.hand.View.{View}
use Rattle.mc_words.specs.hand.Views.{head_seen}
use Rattle.mc_words.proofs.Chunks.FewDead.{follows_one}
use Rattle.mc_words.proofs.Chunks.Judging.{seen_is, seen_last, seen_slabs, stands_out}
use Rattle.mc_words.proofs.Chunks.Recovered.{nothing_in}
use Rattle.mc_words.proofs.Chunks.Sweeps.{chunk_alive}

-- the one that was asked for is the one that was seen
asked_is : (chunk seen : ChunkId) → Some chunk ≡ Some seen → seen ≡ chunk
asked_is chunk seen is = cc

-- an only chunk of a list
only_one : (chunk other : ChunkId) → Contains (chunk ∷ []) other → other ≡ chunk
only_one chunk other there = elim (Contains-push_cases [] chunk other there) [
  | inl none ↦ absurd (nothing_in other none)
  | inr is ↦ sym is
]

module _ (view : View) (slabs : SlabState) (mine : view.slabs ≡ Some slabs) (class : ℕ) (chunk : ChunkId) (own : class_of_page slabs chunk.page ≡ class) (in_range : has_chunk view.setup.table chunk ≡ true) where
  -- a chunk that was put back was handed out by its page's class
  listed : (now : View) → PutsBack view slabs chunk now → Contains (class_at slabs class).order chunk
  listed now back =
      let seen = head_seen chunk back.head view in
      subst (λ (n : ℕ). Contains (class_at slabs n).order chunk) own
      (stands_out seen now slabs (seen_slabs view chunk back.head slabs mine) chunk back.head in_range (seen_last view chunk back.head slabs mine) back.dead back.happens.was)

  -- the chunk was put back
  put_back_alone : (now : View) (left : SlabState) → PutsBack view slabs chunk now → SweepsOne chunk view slabs now left → Recovers (class_at slabs class).order view slabs now left
  put_back_alone now left back one = record {
    looked = [];
    seen = view;
    sees = refl;
    again = chunk ∷ [];
    oldest_first = follows_one (class_at slabs class).order chunk (times_from_Contains chunk (class_at slabs class).order (listed now back));
    each = (now, left, one, (refl, refl));
    alive = λ other there listed out. absurd (nothing_in other there);
  }

  -- the chunk was seen alive
  seen_alone : (now : View) (left : SlabState) → (other : SeesOther view (Some chunk) (λ head. is_dead head ≡ false) now) → left ≡ slabs → Recovers (class_at slabs class).order view slabs now left
  seen_alone now left other same =
      let is_seen = asked_is chunk other.chunk other.is_asked in
      let is : now ≡ head_seen chunk other.head view = subst (λ (c : ChunkId). now ≡ head_seen c other.head view) is_seen other.is in
      let looks : now.row.looks ≡ view.row.looks ++ Saw chunk other.head ∷ [] = ap (λ (v : View). v.row.looks) is ∙ ap (λ (v : View). v.row.looks) (seen_is view chunk other.head slabs mine) in record {
        looked = chunk ∷ [];
        seen = now;
        sees = (now, record { head = other.head; happens = subst (λ (c : ChunkId). Happens view [] (step.Head c) now) is_seen other.happens; is = is }, refl);
        again = [];
        oldest_first = refl;
        each = (refl, same);
        alive = λ one there listed out. subst (λ (c : ChunkId). is_found_alive now.row.looks c ≡ true) (sym (only_one chunk one there)) (subst (λ (l : List Look). is_found_alive l chunk ≡ true) (sym looks) (chunk_alive view.row.looks chunk other.head other.other));
      }

  pub recovers_one : (now : View) (left : SlabState) → SweepsOne chunk view slabs now left → Recovers (class_at slabs class).order view slabs now left
  recovers_one now left one = elim one [
    | inl back ↦ put_back_alone now left back.0 (inl back)
    | inr other ↦ seen_alone now left other.0 other.1
  ]
