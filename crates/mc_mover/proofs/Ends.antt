-- The end of a pass: what the hand has is accounted for, and a page that came has its class's chunks.
use Rattle.std.proofs.Common.{◌≡◌, ◌≢◌, ℕ, ◌<◌, ◌≤◌, ◌==◌, Bool, true, false, length, slice_set, inl, inr, eqb-true, length-set, get_or-set_same, refl, sym, ap, subst, ◌∙◌, arith}
use Rattle.std.specs.Prelude.{map}
use Rattle.std.proofs.lemmas.Bool.{cases_Bool}
use Rattle.std.proofs.lemmas.List.{length-map}
use Rattle.std.specs.Prelude.{Some}
use Rattle.mc_pages.specs.declared.ids.Moving.{Moving}
use Rattle.mc_pages.specs.declared.ledger.Owner.TheVariants.{Untouched, Pool, Class}
use Rattle.mc_pages.specs.Accounted.{IsAccounted, IsMove}
use Rattle.mc_pages.specs.ClassState.{ClassState, with_page, without_page}
use Rattle.mc_pages.specs.Moves.{CanFinish, after_move_end, after_page_release}
use Rattle.mc_pages.specs.SlabState.{SlabState, HasClass, class_at, class_of_chunk, class_of_owner, class_of_page}
use Rattle.mc_pages.proofs.ClassChanges.{per_pages-with_class}
use Rattle.mc_pages.proofs.Cuts.{per_page-map}
use Rattle.mc_pages.proofs.Kept.{all_cleared_at_end}
use Rattle.mc_core.proofs.Places.SamePages.{arrived_if}
use Rattle.mc_words.specs.hand.View.{View}
use Rattle.mc_words.specs.rule.Happens.{LawfulView}
use Rattle.mc_words.proofs.Pages.MoveChanges.{move_near}
use Rattle.mc_words.proofs.Pages.Owners.{slabs_here}
use Rattle.mc_mover.specs.Turning.{IsAtEnd}

-- a move's end leaves how many chunks a page of each class has
per_pages_finished : (slabs : SlabState) (move : Moving) → map (λ (c : ClassState). c.per_page) (after_move_end slabs move).classes ≡ map (λ (c : ClassState). c.per_page) slabs.classes
per_pages_finished slabs move = by (move.dst == 0)
  where
    pool : SlabState
    pool = after_page_release slabs move.page move.src

    first : map (λ (c : ClassState). c.per_page) pool.classes ≡ map (λ (c : ClassState). c.per_page) slabs.classes
    first = per_pages-with_class slabs move.src (without_page (class_at slabs move.src) move.page) refl

    by : (b : Bool) → map (λ (c : ClassState). c.per_page) (arrived_if slabs move b).classes ≡ map (λ (c : ClassState). c.per_page) slabs.classes
    by true = first
    by false = per_pages-with_class pool move.dst (with_page (class_at pool move.dst) move.page) refl ∙ first

-- and a page of one class
pub per_page_finished : (slabs : SlabState) (move : Moving) (class : ℕ) → (class_at (after_move_end slabs move) class).per_page ≡ (class_at slabs class).per_page
per_page_finished slabs move class = per_page-map slabs (after_move_end slabs move) class (per_pages_finished slabs move)

-- so its classes are classes still
pub class_finished : (slabs : SlabState) (move : Moving) (class : ℕ) → HasClass slabs class → HasClass (after_move_end slabs move) class
class_finished slabs move class (low, high) =
    let per_page = λ (c : ClassState). c.per_page in
    let same : length (after_move_end slabs move).classes ≡ length slabs.classes =
    sym (length-map (after_move_end slabs move).classes per_page) ∙ (ap length (per_pages_finished slabs move) ∙ length-map slabs.classes per_page) in
    (low, omega (arith, high, same))

-- the page whose move ended has its destination's class, and the pool is none
finished_page : (slabs : SlabState) (move : Moving) → move.page < length slabs.owners → class_of_page (after_move_end slabs move) move.page ≡ move.dst
finished_page slabs move in_range =
    let long : length (slice_set slabs.owners move.page Pool) ≡ length slabs.owners = length-set slabs.owners move.page Pool in
    elim (cases_Bool (move.dst == 0)) [
      | inl pooled ↦ ap (λ (b : Bool). class_of_page (arrived_if slabs move b) move.page) pooled ∙ (ap class_of_owner (get_or-set_same slabs.owners move.page Pool Untouched in_range) ∙ sym (eqb-true move.dst 0 pooled))
      | inr given ↦
          ap (λ (b : Bool). class_of_page (arrived_if slabs move b) move.page) given
          ∙ ap class_of_owner (get_or-set_same (slice_set slabs.owners move.page Pool) move.page (Class move.dst) Untouched (omega arith))
    ]

-- of what is behind the lock of the slabs
module _ (view : View) (was : LawfulView view) (slabs : SlabState) (mine : view.slabs ≡ Some slabs) where
  -- it is accounted for
  pub accounted_here : IsAccounted slabs
  accounted_here = subst IsAccounted (slabs_here view was slabs mine).1 was.lawful.paged.of_table.accounted

  -- a page of a class has a chunk
  pub some_here : (class : ℕ) → HasClass slabs class → 1 ≤ (class_at slabs class).per_page
  some_here class is =
      let same = (slabs_here view was slabs mine).1 in
      subst (λ (s : SlabState). 1 ≤ (class_at s class).per_page) same (was.lawful.paged.order.1.per_page class (subst (λ (s : SlabState). HasClass s class) (sym same) is))

  -- what the move that runs is
  pub move_here : (move : Moving) → slabs.moving ≡ Some move → IsMove slabs move
  move_here move runs = accounted_here.move move runs

  -- each chunk is cleared at the page's end, where nothing held up the pass
  pub can_finish_here : (move : Moving) → IsAtEnd slabs move → move.busy ≡ 0 → CanFinish slabs move
  can_finish_here move at_end none = all_cleared_at_end slabs move accounted_here at_end.0 at_end.1 none

  -- the page's chunks are those of its new class
  pub per_page_come : (move : Moving) → slabs.moving ≡ Some move → (class_of_chunk (after_move_end slabs move) (record { page = move.page; index = 0 })).per_page ≡ (class_at (after_move_end slabs move) move.dst).per_page
  per_page_come move runs = ap (λ (n : ℕ). (class_at (after_move_end slabs move) n).per_page) (finished_page slabs move (move_near view was slabs move mine runs).1)

  -- that class is one
  pub class_come : (move : Moving) → slabs.moving ≡ Some move → move.dst ≢ 0 → HasClass slabs move.dst
  class_come move runs some = (omega (arith, some), (move_here move runs).dst)
