-- What a state in memory keeps as its pages and lists change.
use Rattle.std.proofs.Common.{◌≡◌, ℕ, Some, Result, Ok, Err, IfOk, OnErr, refl, sym, subst}
use Rattle.mc_pages.specs.SlabState.{SlabState}
use Rattle.mc_pages.specs.declared.slabs.pages.Grow.{Grow}
use Rattle.mc_pages.specs.Changes.{next_page, after_grow}
use Rattle.mc_pages.specs.Accounted.{IsAccounted}
use Rattle.mc_core.specs.model.State.{State}
use Rattle.mc_core.specs.model.InOrder.{IsStateInOrder}
use Rattle.mc_core.proofs.Places.OfTable.{HasShape, of_table, grow_shape}

-- pages and lists changed, and classes and owners are as many as before
pub changed : (state : State) (new after : SlabState) → IsStateInOrder state → new ≡ after → HasShape state.slabs after → IsAccounted new → IsStateInOrder (record state { slabs = new })
changed state new after kept is shape all = record {
  sound = kept.sound;
  slabs = of_table state.table state.slabs new kept.slabs (subst (λ s. HasShape state.slabs s) (sym is) shape) all;
  issued = kept.issued;
  stripes = kept.stripes;
  locks = kept.locks;
  holdings = kept.holdings;
  looks = kept.looks;
}

pub same_shape : (slabs : SlabState) → HasShape slabs slabs
same_shape slabs = record { page = refl; limit = refl; counts = refl; owners = refl }

-- what a grant that may be refused leaves
pub grown_shape : (result : Result ℕ Grow) (old new : SlabState) (class : ℕ) → IfOk result (λ page. (next_page old class ≡ Some page) × (new ≡ after_grow old class page)) → OnErr result (new ≡ old) → HasShape old new
grown_shape (Ok page) old new class ok err = subst (λ s. HasShape old s) (sym ok.1) (grow_shape old class page)
grown_shape (Err e) old new class ok err = subst (λ s. HasShape old s) (sym err) (same_shape old)
