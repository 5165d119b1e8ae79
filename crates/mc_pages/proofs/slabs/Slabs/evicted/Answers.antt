use Rattle.std.proofs.Common.{refl, sym, ap, ◌∙◌, subst, arith}
use Rattle.mc_pages.specs.ClassState.{class_after_eviction}
use Rattle.mc_pages.specs.SlabState.{SlabState, HasClass}
use Rattle.mc_pages.specs.Changes.{after_evicted}
use Rattle.mc_pages.specs.InOrder.{slabs_of}
use Rattle.mc_pages.proofs.Kept.{IsInOrder-after_evicted}
use Rattle.mc_pages.proofs.RoomySlabs.{length-classes, slabs_of-changed, AreKept-changed}
use Rattle.mc_pages.proofs.Roomy.{same_state}
use Rattle.mc_pages.proofs.slabs.Slabs.evicted.Goals as goal

pub invariant_of-self : goal.invariant_of-self
invariant_of-self c =
    let is = subst (λ (s : SlabState). HasClass s c.args.class) (sym (same_state c.self.view_is)) c.requires in
    AreKept-changed c.self.inside c.args.class _ _ _ class_after_eviction c.self.invariant is refl c.index_mut.ensures.value c.count_eviction.ensures refl refl refl
    (IsInOrder-after_evicted (slabs_of c.self.inside) c.self.inside.granted c.args.class c.self.invariant.order is)

pub returns-clause-evicted : goal.returns-clause-evicted
returns-clause-evicted c =
    let is = subst (λ (s : SlabState). HasClass s c.args.class) (sym (same_state c.self.view_is)) c.requires in
    slabs_of-changed c.self.inside c.args.class _ _ _ class_after_eviction is refl c.index_mut.ensures.value c.count_eviction.ensures refl
    ∙ ap (λ (s : SlabState). after_evicted s c.args.class) (same_state c.self.view_is)

pub returns-clause-accounted : goal.returns-clause-accounted
returns-clause-accounted c = (invariant_of-self c).order.accounted

pub index_mut-requires : goal.index_mut-requires
index_mut-requires c =
    let is = subst (λ (s : SlabState). HasClass s c.args.class) (sym (same_state c.self.view_is)) c.requires in
    omega (arith, is.0, length-classes c.self.inside c.args.class is)
