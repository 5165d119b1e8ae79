use Rattle.std.proofs.Common.{ℕ, length, nat_lt, slice_index_or, ap, ◌∙◌, arith}
use Rattle.mc_pages.specs.ClassState.{new_class}
use Rattle.mc_pages.specs.SlabState.{SlabState, class_at}
use Rattle.mc_pages.specs.InOrder.{slabs_of}
use Rattle.mc_pages.proofs.RoomySlabs.{read_pages}
use Rattle.mc_pages.proofs.Roomy.{same_state}
use Rattle.mc_pages.proofs.slabs.Slabs.has_spare.Goals as goal

pub returns-then-place-len : goal.returns-then-place-len
returns-then-place-len c =
    let read = ap length (read_pages c.self.inside c.saturating_sub-place.result _ (omega arith) c.index.ensures) in
    ap (nat_lt 1) (c.page_count.ensures ∙ (read
    ∙ (ap (λ (n : ℕ). length (slice_index_or (slabs_of c.self.inside).classes n (new_class 0 0)).pages) c.saturating_sub-place.ensures
    ∙ ap (λ (s : SlabState). length (class_at s c.args.class).pages) (same_state c.self.view_is))))
