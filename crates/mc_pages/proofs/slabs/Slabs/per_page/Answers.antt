use Rattle.std.proofs.Common.{refl, sym, ap, ◌∙◌, subst, arith}
use Rattle.mc_pages.specs.ClassState.{ClassState}
use Rattle.mc_pages.specs.SlabState.{SlabState, HasClass, class_at}
use Rattle.mc_pages.proofs.RoomySlabs.{length-classes, read_state}
use Rattle.mc_pages.proofs.Roomy.{same_state, accounted_there}
use Rattle.mc_pages.proofs.slabs.Slabs.per_page.Goals as goal

pub index-slab-requires : goal.index-slab-requires
index-slab-requires c =
    let is = subst (λ (s : SlabState). HasClass s c.args.class) (sym (same_state c.self.view_is)) c.requires in
    omega (arith, is.0, length-classes c.self.inside c.args.class is)

pub returns-clause-chunks : goal.returns-clause-chunks
returns-clause-chunks c =
    let is = subst (λ (s : SlabState). HasClass s c.args.class) (sym (same_state c.self.view_is)) c.requires in
    let read = read_state c.self.inside c.args.class _ _ is refl c.index-slab.ensures in
    c.per_page.ensures ∙ ap (λ (class : ClassState). class.per_page) read
    ∙ ap (λ (s : SlabState). (class_at s c.args.class).per_page) (same_state c.self.view_is)

pub returns-clause-accounted : goal.returns-clause-accounted
returns-clause-accounted c = accounted_there c.self.inside c.self.view_is c.self.invariant
