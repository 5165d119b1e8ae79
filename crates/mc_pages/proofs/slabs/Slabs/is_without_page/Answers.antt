use Rattle.std.proofs.Common.{ℕ, ◌==◌, length, refl, ap, ◌∙◌, sym, subst, arith}
use Rattle.mc_pages.specs.ClassState.{ClassState}
use Rattle.mc_pages.specs.SlabState.{SlabState, HasClass}
use Rattle.mc_pages.specs.Changes.{is_without_page}
use Rattle.mc_pages.proofs.RoomySlabs.{length-classes, read_state}
use Rattle.mc_pages.proofs.Roomy.{same_state}
use Rattle.mc_pages.proofs.slabs.Slabs.is_without_page.Goals as goal

pub index-slab-requires : goal.index-slab-requires
index-slab-requires c =
    let is = subst (λ (s : SlabState). HasClass s c.args.class) (sym (same_state c.self.view_is)) c.requires in
    omega (arith, is.0, length-classes c.self.inside c.args.class is)

pub returns : goal.returns
returns c =
    let is = subst (λ (s : SlabState). HasClass s c.args.class) (sym (same_state c.self.view_is)) c.requires in
    let pages = c.page_count.ensures ∙ ap (λ (class : ClassState). length class.pages) (read_state c.self.inside c.args.class _ _ is refl c.index-slab.ensures) in
    ap (λ (n : ℕ). n == 0) pages ∙ ap (λ (s : SlabState). is_without_page s c.args.class) (same_state c.self.view_is)
