use Rattle.std.proofs.Common.{length, slice_index_or, refl, sym, ap, ◌∙◌, subst, arith}
use Rattle.mc_pages.specs.ClassState.{ClassState}
use Rattle.mc_pages.specs.SlabState.{SlabState, HasClass, class_at}
use Rattle.mc_pages.specs.Moves.{first_page}
use Rattle.mc_pages.proofs.RoomySlabs.{read_state}
use Rattle.mc_pages.proofs.Roomy.{same_state}
use Rattle.mc_pages.proofs.slabs.Slabs.first_page.Goals as goal

pub first_page-requires : goal.first_page-requires
first_page-requires c =
    let is = subst (λ (s : SlabState). HasClass s c.args.class) (sym (same_state c.self.view_is)) c.requires.class in
    let read = read_state c.self.inside c.args.class _ _ is refl c.index.ensures in
    omega (arith, c.requires.some, ap (λ (class : ClassState). length class.pages) read, ap (λ (s : SlabState). length (class_at s c.args.class).pages) (same_state c.self.view_is))

pub returns : goal.returns
returns c =
    let is = subst (λ (s : SlabState). HasClass s c.args.class) (sym (same_state c.self.view_is)) c.requires.class in
    let read = read_state c.self.inside c.args.class _ _ is refl c.index.ensures in
    c.first_page.ensures ∙ (ap (λ (class : ClassState). slice_index_or class.pages 0 0) read ∙ ap (λ (s : SlabState). first_page s c.args.class) (same_state c.self.view_is))
