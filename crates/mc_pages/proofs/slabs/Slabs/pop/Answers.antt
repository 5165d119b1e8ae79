use Rattle.std.proofs.Common.{List, slice_get, refl, sym, ap, ◌∙◌, subst, arith}
use Rattle.mc_pages.specs.declared.ids.ChunkId.{ChunkId}
use Rattle.mc_pages.specs.ClassState.{class_after_pop, first_free}
use Rattle.mc_pages.specs.Ages.{HasAges, ages_after_renewal}
use Rattle.mc_pages.specs.SlabState.{SlabState, HasClass, class_at}
use Rattle.mc_pages.specs.Changes.{after_pop}
use Rattle.mc_pages.specs.InOrder.{slabs_of}
use Rattle.mc_pages.proofs.Kept.{IsInOrder-after_pop}
use Rattle.mc_pages.proofs.KeptAges.{HasAges-popped, HasAges-none, out_popped, row_within}
use Rattle.mc_pages.proofs.RoomySlabs.{IsPlace-class, lists_at, lengths_below, slabs_of-became, AreKept-became, size-popped}
use Rattle.mc_pages.proofs.Roomy.{same_state}
use Rattle.mc_pages.proofs.slabs.Slabs.pop.Goals as goal

pub pop-requires-clause-class : goal.pop-requires-clause-class
pop-requires-clause-class c =
    let is = subst (λ (s : SlabState). HasClass s c.args.class) (sym (same_state c.self.view_is)) c.requires in
    IsPlace-class c.self.inside c.args.class _ c.self.invariant is refl

pub pop-requires-clause-below : goal.pop-requires-clause-below
pop-requires-clause-below c =
    let is = subst (λ (s : SlabState). HasClass s c.args.class) (sym (same_state c.self.view_is)) c.requires in
    (lengths_below c.self.inside c.args.class _ c.self.invariant is refl).1

pub place-row-requires : goal.place-row-requires
place-row-requires c =
    let out = out_popped c.self.inside.rows c.pop.new.self _ c.in-Some.chunk c.pop.ensures.popped (sym c.pop.ensures.chunk ∙ c.in-Some.is) in
    (row_within c.self.inside.rows c.pop.new.self c.self.inside.ages _ class_after_pop c.in-Some.chunk c.pop.ensures.popped c.self.invariant.aged out).0

pub renew-requires : goal.renew-requires
renew-requires c =
    let out = out_popped c.self.inside.rows c.pop.new.self _ c.in-Some.chunk c.pop.ensures.popped (sym c.pop.ensures.chunk ∙ c.in-Some.is) in
    omega (arith, c.place-row.ensures, (row_within c.self.inside.rows c.pop.new.self c.self.inside.ages _ class_after_pop c.in-Some.chunk c.pop.ensures.popped c.self.invariant.aged out).1)

-- nothing was free
pub invariant_of-self : goal.invariant_of-self
invariant_of-self c =
    let slabs = slabs_of c.self.inside in
    let is = subst (λ (s : SlabState). HasClass s c.args.class) (sym (same_state c.self.view_is)) c.requires in
    AreKept-became c.self.inside _ c.self.inside.ages c.args.class _ class_after_pop c.self.invariant is refl c.pop.ensures.popped (size-popped (class_at slabs c.args.class))
    (IsInOrder-after_pop slabs c.self.inside.granted c.args.class c.self.invariant.order is)
    (HasAges-none c.self.inside.rows _ c.self.inside.ages _ c.pop.ensures.popped c.self.invariant.aged (sym c.pop.ensures.chunk ∙ c.in_default.is))

pub returns-in_default-clause-chunk : goal.returns-in_default-clause-chunk
returns-in_default-clause-chunk c =
    let is = subst (λ (s : SlabState). HasClass s c.args.class) (sym (same_state c.self.view_is)) c.requires in
    sym c.in_default.is ∙ (c.pop.ensures.chunk ∙ (ap (λ (free : List ChunkId). slice_get free 0) (lists_at c.self.inside c.args.class _ is refl).0
    ∙ ap (λ (s : SlabState). first_free (class_at s c.args.class)) (same_state c.self.view_is)))

pub returns-in_default-clause-popped : goal.returns-in_default-clause-popped
returns-in_default-clause-popped c =
    let is = subst (λ (s : SlabState). HasClass s c.args.class) (sym (same_state c.self.view_is)) c.requires in
    slabs_of-became c.self.inside _ c.args.class _ class_after_pop is refl c.pop.ensures.popped
    ∙ ap (λ (s : SlabState). after_pop s c.args.class) (same_state c.self.view_is)

pub returns-in_default-clause-accounted : goal.returns-in_default-clause-accounted
returns-in_default-clause-accounted c = (invariant_of-self c).order.accounted

-- a chunk was handed out
pub invariant_of-self-2 : goal.invariant_of-self-2
invariant_of-self-2 c =
    let slabs = slabs_of c.self.inside in
    let is = subst (λ (s : SlabState). HasClass s c.args.class) (sym (same_state c.self.view_is)) c.requires in
    let renewed_is = c.renew.ensures ∙ ap (ages_after_renewal c.self.inside.ages) c.place-row.ensures in
    AreKept-became c.self.inside _ _ c.args.class _ class_after_pop c.self.invariant is refl c.pop.ensures.popped (size-popped (class_at slabs c.args.class))
    (IsInOrder-after_pop slabs c.self.inside.granted c.args.class c.self.invariant.order is)
    (subst (HasAges c.pop.new.self) (sym renewed_is)
    (HasAges-popped c.self.inside.rows _ c.self.inside.ages _ c.in-Some.chunk c.pop.ensures.popped c.self.invariant.aged (sym c.pop.ensures.chunk ∙ c.in-Some.is)))

pub returns-clause-chunk : goal.returns-clause-chunk
returns-clause-chunk c =
    let is = subst (λ (s : SlabState). HasClass s c.args.class) (sym (same_state c.self.view_is)) c.requires in
    sym c.in-Some.is ∙ (c.pop.ensures.chunk ∙ (ap (λ (free : List ChunkId). slice_get free 0) (lists_at c.self.inside c.args.class _ is refl).0
    ∙ ap (λ (s : SlabState). first_free (class_at s c.args.class)) (same_state c.self.view_is)))

pub returns-clause-popped : goal.returns-clause-popped
returns-clause-popped c =
    let is = subst (λ (s : SlabState). HasClass s c.args.class) (sym (same_state c.self.view_is)) c.requires in
    slabs_of-became c.self.inside _ c.args.class _ class_after_pop is refl c.pop.ensures.popped
    ∙ ap (λ (s : SlabState). after_pop s c.args.class) (same_state c.self.view_is)

pub returns-clause-accounted : goal.returns-clause-accounted
returns-clause-accounted c = (invariant_of-self-2 c).order.accounted
