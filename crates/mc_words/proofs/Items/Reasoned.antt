-- The reason for which an item may be taken away stands over more looks, and is the core's.
use Rattle.std.proofs.Common.{◌≡◌, ℕ, ◌==◌, ◌&&◌, ◌||◌, Bool, true, false, not, List, [], ◌∷◌, ◌++◌, None, Some, refl, sym, ap, ◌∙◌, inl, inr, nat_lt, is_none, if◌then◌else◌, eq-eqb}
use Rattle.std.specs.List.{list_all}
use Rattle.std.specs.Option.{option_map_or}
use Rattle.std.proofs.lemmas.Bool.{and_from, and_parts, cases_Bool, or_right}
use Rattle.std.proofs.lemmas.List.Sums.{fold-append}
use Rattle.mc_pages.specs.declared.ids.ChunkId.{ChunkId}
use Rattle.mc_pages.specs.ClassState.{first_free, is_chunk}
use Rattle.mc_pages.specs.Changes.{next_page}
use Rattle.mc_pages.specs.SlabState.{SlabState, class_at, class_of_page, class_of_chunk}
use Rattle.mc_pages.proofs.Chunks.{same_from_is_chunk}
use Rattle.mc_pages.specs.Pages.{is_on_the_move}
use Rattle.mc_core.specs.declared.head.Head.{Head}
use Rattle.mc_core.specs.declared.holding.Holding.{Holding}
use Rattle.mc_core.specs.declared.look.Look.{Look}
use Rattle.mc_core.specs.declared.look.Look.TheVariants.{Changed, Cleared, Condemned, Cut, Popped, PoppedOff, PutBack, Read, Saw, SawStripe}
use Rattle.mc_core.specs.run.Chunks.{most_issue}
use Rattle.mc_core.specs.run.Evictions.{has_copy, has_reason, lacks_room, must_leave, none_dead}
use Rattle.mc_core.specs.model.Head.{is_dead}
use Rattle.mc_core.specs.law.Judged.{IsJudged, is_seen_unfit, sees_no_target}
use Rattle.mc_core.specs.law.Reasons.{is_look_at, is_taking_look}
use Rattle.mc_core.specs.model.Looks.{stays_alive, is_found_alive}
use Rattle.mc_core.specs.past.Past.{Moment}
use Rattle.mc_core.specs.law.Seen.{last_head, seen_head}
use Rattle.mc_core.specs.run.Silent.{none_half_cut}
use Rattle.mc_core.specs.model.State.{looks_at, holdings_at}
use Rattle.mc_words.specs.item.Removal.{knows_reason}

-- what all pass, all pass that is weaker
pub all_weaker : {A : Type 0} (f g : A → Bool) (xs : List A) → ((x : A) → f x ≡ true → g x ≡ true) → list_all f xs ≡ true → list_all g xs ≡ true
all_weaker f g [] weaker all = refl
all_weaker f g (x ∷ xs) weaker all = let parts = and_parts (f x) (list_all f xs) all in and_from (g x) (list_all g xs) (weaker x parts.0) (all_weaker f g xs weaker parts.1)

-- the reasons that a look at the chunk leaves, where it finds it alive; and a read leaves all
module _ (looks : List Look) (chunk : ChunkId) where
  pub alive_after_read : (place word : ℕ) (other : ChunkId) → is_found_alive (looks ++ Read chunk place word ∷ []) other ≡ is_found_alive looks other
  alive_after_read place word other = fold-append (stays_alive other) false looks (Read chunk place word ∷ [])

  seen_after_read : (place word : ℕ) (other : ChunkId) → seen_head (looks ++ Read chunk place word ∷ []) other ≡ seen_head looks other
  seen_after_read place word other = fold-append (last_head other) None looks (Read chunk place word ∷ [])

  pub unfit_after_read : (place word : ℕ) (other : ChunkId) → is_seen_unfit (looks ++ Read chunk place word ∷ []) chunk.page other ≡ is_seen_unfit looks chunk.page other
  unfit_after_read place word other = ap (λ seen. other.page == chunk.page || option_map_or (λ head. not (nat_lt head.issue most_issue)) seen false) (seen_after_read place word other)

  module _ (head : Head) where
    pub alive_after_look : is_dead head ≡ false → (other : ChunkId) → is_found_alive looks other ≡ true → is_found_alive (looks ++ Saw chunk head ∷ []) other ≡ true
    alive_after_look alive other was =
        fold-append (stays_alive other) false looks (Saw chunk head ∷ [])
        ∙ (elim (is_chunk chunk other) as (λ (b : Bool). (if b then not (is_dead head) else is_found_alive looks other) ≡ true) [
          | true ↦ ap not alive
          | false ↦ was
        ])

    seen_after_look : (other : ChunkId) → seen_head (looks ++ Saw chunk head ∷ []) other ≡ (if is_chunk chunk other then Some head else seen_head looks other)
    seen_after_look other = fold-append (last_head other) None looks (Saw chunk head ∷ [])

    -- what is on the chunk's own page was no target
    pub unfit_after_look : (other : ChunkId) → is_seen_unfit looks chunk.page other ≡ true → is_seen_unfit (looks ++ Saw chunk head ∷ []) chunk.page other ≡ true
    unfit_after_look other unfit = elim (cases_Bool (is_chunk chunk other)) [
      | inl same ↦ ap (λ b. b || option_map_or (λ head. not (nat_lt head.issue most_issue)) (seen_head (looks ++ Saw chunk head ∷ []) other) false) (on_page other same)
      | inr apart ↦
          ap (λ seen. other.page == chunk.page || option_map_or (λ head. not (nat_lt head.issue most_issue)) seen false)
          (seen_after_look other ∙ ap (λ (b : Bool). if b then Some head else seen_head looks other) apart)
          ∙ unfit
    ]
      where
        on_page : (other : ChunkId) → is_chunk chunk other ≡ true → (other.page == chunk.page) ≡ true
        on_page other same = ap (λ (c : ChunkId). c.page == chunk.page) (sym (same_from_is_chunk chunk other same)) ∙ eq-eqb chunk.page chunk.page refl

-- what hands out, condemns and clears nothing, and isn't a look at the chunk, says nothing of it
pub alive_after_other : (looks : List Look) (look : Look) (other : ChunkId) → is_taking_look look ≡ false → is_look_at other look ≡ false → is_found_alive (looks ++ look ∷ []) other ≡ is_found_alive looks other
alive_after_other looks look other quiet elsewhere = fold-append (stays_alive other) false looks (look ∷ []) ∙ stays look (is_found_alive looks other) quiet elsewhere
  where
    stays : (look : Look) (before : Bool) → is_taking_look look ≡ false → is_look_at other look ≡ false → stays_alive other before look ≡ before
    stays (Saw seen head) before quiet elsewhere = ap (λ (b : Bool). if b then not (is_dead head) else before) elsewhere
    stays (SawStripe stripe word) before quiet elsewhere = refl
    stays (Read seen place word) before quiet elsewhere = refl
    stays (Popped seen head) before quiet elsewhere = absurd (cc)
    stays (PoppedOff seen old head) before quiet elsewhere = absurd (cc)
    stays (Condemned seen head) before quiet elsewhere = absurd (cc)
    stays (PutBack seen head) before quiet elsewhere = refl
    stays (Cleared seen head) before quiet elsewhere = absurd (cc)
    stays (Cut seen head) before quiet elsewhere = refl
    stays (Changed change) before quiet elsewhere = refl

-- a class that was swept, has no free chunk, and for which no page is to be had, is a reason
pub room_needed : (slabs : SlabState) (looks : List Look) (holdings : List Holding) (class : ℕ) (chunk : ChunkId) → class_of_page slabs chunk.page ≡ class → first_free (class_at slabs class) ≡ None
    → list_all (is_found_alive looks) (class_at slabs class).order ≡ true → next_page slabs class ≡ None → none_half_cut slabs ≡ true → knows_reason slabs looks holdings chunk ≡ true
room_needed slabs looks holdings class chunk own free alive page whole =
    let free' : is_none (first_free (class_of_chunk slabs chunk)) ≡ true = ap (λ (n : ℕ). is_none (first_free (class_at slabs n))) own ∙ ap is_none free in
    let page' : is_none (next_page slabs (class_of_page slabs chunk.page)) ≡ true = ap (λ (n : ℕ). is_none (next_page slabs n)) own ∙ ap is_none page in
    let alive' : none_dead slabs looks chunk ≡ true = ap (λ (n : ℕ). list_all (is_found_alive looks) (class_at slabs n).order) own ∙ alive in
    or_right (is_on_the_move slabs chunk.page && has_copy holdings chunk || is_on_the_move slabs chunk.page && none_dead slabs looks chunk && sees_no_target slabs looks chunk.page) (lacks_room slabs looks chunk)
    (and_from _ _ (and_from _ _ (and_from _ _ free' alive') page') whole)

-- the three reasons, of which each may be weaker
or_three : (a b c b' c' : Bool) → (b ≡ true → b' ≡ true) → (c ≡ true → c' ≡ true) → (a || b || c) ≡ true → (a || b' || c') ≡ true
or_three true b c b' c' of_b of_c is = refl
or_three false true c b' c' of_b of_c is = ap (λ x. x || c') (of_b refl)
or_three false false c true c' of_b of_c is = refl
or_three false false c false c' of_b of_c is = of_c is

-- more looks, after which no chunk that was found alive is taken for dead, and none that was unfit for fit
module _ (slabs : SlabState) (looks more : List Look) (holdings : List Holding) (chunk : ChunkId) (alive : (other : ChunkId) → is_found_alive looks other ≡ true → is_found_alive more other ≡ true)
    (unfit : (other : ChunkId) → is_seen_unfit looks chunk.page other ≡ true → is_seen_unfit more chunk.page other ≡ true) where
  pub dead_after : none_dead slabs looks chunk ≡ true → none_dead slabs more chunk ≡ true
  dead_after none = all_weaker (is_found_alive looks) (is_found_alive more) (class_of_chunk slabs chunk).order alive none

  pub reason_after : knows_reason slabs looks holdings chunk ≡ true → knows_reason slabs more holdings chunk ≡ true
  reason_after knows =
      or_three (is_on_the_move slabs chunk.page && has_copy holdings chunk) (is_on_the_move slabs chunk.page && none_dead slabs looks chunk && sees_no_target slabs looks chunk.page) (lacks_room slabs looks chunk)
      (is_on_the_move slabs chunk.page && none_dead slabs more chunk && sees_no_target slabs more chunk.page) (lacks_room slabs more chunk)
      (λ leaves.
      let parts = and_parts (is_on_the_move slabs chunk.page && none_dead slabs looks chunk) (sees_no_target slabs looks chunk.page) leaves in
      let first = and_parts (is_on_the_move slabs chunk.page) (none_dead slabs looks chunk) parts.0 in
      and_from _ _ (and_from _ _ first.0 (dead_after first.1)) (all_weaker (is_seen_unfit looks chunk.page) (is_seen_unfit more chunk.page) (class_at slabs (class_of_page slabs chunk.page)).free unfit parts.1))
      (λ lacks.
      let whole = and_parts _ (none_half_cut slabs) lacks in
      let page = and_parts _ (is_none (next_page slabs (class_of_page slabs chunk.page))) whole.0 in
      let free = and_parts _ (none_dead slabs looks chunk) page.0 in
      and_from _ _ (and_from _ _ (and_from _ _ free.0 (dead_after free.1)) page.1) whole.1)
      knows

-- what the hand knows is a reason of the core's
pub reason_here : (m : Moment) (hand : ℕ) → IsJudged m hand → (chunk : ChunkId) → knows_reason m.state.slabs (looks_at m.state hand) (holdings_at m.state hand) chunk ≡ true
    → has_reason m.state.table m.state.heads m.state.slabs (looks_at m.state hand) (holdings_at m.state hand) chunk ≡ true
reason_here m hand judged chunk knows =
    let slabs = m.state.slabs in
    let looks = looks_at m.state hand in
    or_three (is_on_the_move slabs chunk.page && has_copy (holdings_at m.state hand) chunk) (is_on_the_move slabs chunk.page && none_dead slabs looks chunk && sees_no_target slabs looks chunk.page) (lacks_room slabs looks chunk)
    (must_leave m.state.table m.state.heads slabs looks chunk) (lacks_room slabs looks chunk)
    (λ leaves.
    let parts = and_parts (is_on_the_move slabs chunk.page && none_dead slabs looks chunk) (sees_no_target slabs looks chunk.page) leaves in
    let first = and_parts (is_on_the_move slabs chunk.page) (none_dead slabs looks chunk) parts.0 in
    judged.leave chunk first.0 first.1 parts.1)
    (λ lacks. lacks)
    knows
