-- What was looked at and put back, as a caller has it: each chunk of the order that was looked at and is handed out still was seen alive last.
use Rattle.std.proofs.Common.{◌≡◌, ℕ, ◌≤◌, true, List, [], Some, subst, ◌∙◌, arith}
use Rattle.std.specs.Prelude.{Contains}
use Rattle.mc_pages.specs.declared.ids.ChunkId.{ChunkId}
use Rattle.mc_pages.specs.ClassState.{times_in}
use Rattle.mc_pages.specs.SlabState.{SlabState, class_at, class_of_chunk}
use Rattle.mc_pages.proofs.Chunks.{times_from_Contains}
use Rattle.mc_core.specs.model.State.{is_class}
use Rattle.mc_words.specs.chunk.Sweeps.{SweepsEach}
use Rattle.mc_words.specs.hand.View.{View}
use Rattle.mc_words.specs.rule.Happens.{LawfulView}
use Rattle.mc_words.proofs.Chunks.FewDead.{each_held}
use Rattle.mc_words.proofs.Chunks.SweepViews.{stands_out}

-- a chunk that the class handed out before stands in its order still, where it stands in the order of its page's class
pub out_still : (view : View) → LawfulView view → (slabs : SlabState) → view.slabs ≡ Some slabs → (class : ℕ) → is_class view.setup.table class ≡ true → (again : List ChunkId) (now : View) (left : SlabState) → SweepsEach again view slabs now left
    → (chunk : ChunkId) → Contains (class_at slabs class).order chunk → Contains (class_of_chunk left chunk).order chunk → Contains (class_at left class).order chunk
out_still view was slabs mine class is again now left each chunk listed out =
    let own = each_held again view slabs now left mine each chunk.page ∙ (stands_out view was slabs mine class is chunk listed).own in
    subst (λ (n : ℕ). Contains (class_at left n).order chunk) own out

pub nothing_in : (chunk : ChunkId) → Contains [] chunk → ⊥
nothing_in chunk there = let some : 1 ≤ times_in chunk [] = times_from_Contains chunk [] there in omega arith
