use Rattle.std.proofs.Common.{ℕ, ◌-◌, List, Contains, refl, sym, ap, ◌∙◌, subst, arith}
use Rattle.mc_pages.specs.declared.ids.ChunkId.{ChunkId}
use Rattle.mc_pages.specs.ClassState.{ClassState, class_after_touch}
use Rattle.mc_pages.specs.Ages.{HasAges, ages_after_renewal}
use Rattle.mc_pages.specs.SlabState.{SlabState, HasClass, class_of_page, class_of_chunk}
use Rattle.mc_pages.specs.Changes.{after_touch}
use Rattle.mc_pages.specs.InOrder.{slabs_of}
use Rattle.mc_pages.proofs.HandedOut.{IsClass-handed_out}
use Rattle.mc_pages.proofs.Kept.{IsInOrder-after_touch}
use Rattle.mc_pages.proofs.KeptAges.{HasAges-touched, out_touched, row_within}
use Rattle.mc_pages.proofs.RoomySlabs.{IsPlace-class, lists_at, lengths_below, slabs_of-became, AreKept-became}
use Rattle.mc_pages.proofs.Roomy.{same_state}
use Rattle.mc_pages.proofs.slabs.Slabs.touch.Goals as goal

-- the chunk was handed out
abbrev IsHandedOut : ChunkId → SlabState → Type 0
IsHandedOut chunk slabs = Contains (class_of_chunk slabs chunk).order chunk

-- where its class stands
abbrev place_in : ChunkId → SlabState → ℕ
place_in chunk slabs = class_of_page slabs chunk.page - 1

pub class_place-place-requires : goal.class_place-place-requires
class_place-place-requires c =
    let handed = subst (IsHandedOut c.args.chunk) (sym (same_state c.self.view_is)) c.requires in
    subst (λ (slabs : SlabState). HasClass slabs (class_of_page slabs c.args.chunk.page)) (same_state c.self.view_is)
    (IsClass-handed_out (slabs_of c.self.inside) c.args.chunk c.self.invariant.order.accounted handed)

pub touch-requires-clause-class : goal.touch-requires-clause-class
touch-requires-clause-class c =
    let slabs = slabs_of c.self.inside in
    let handed = subst (IsHandedOut c.args.chunk) (sym (same_state c.self.view_is)) c.requires in
    let is = IsClass-handed_out slabs c.args.chunk c.self.invariant.order.accounted handed in
    let at = c.class_place-place.ensures ∙ ap (place_in c.args.chunk) (sym (same_state c.self.view_is)) in
    IsPlace-class c.self.inside (class_of_page slabs c.args.chunk.page) _ c.self.invariant is at

pub touch-requires-clause-handed_out : goal.touch-requires-clause-handed_out
touch-requires-clause-handed_out c =
    let slabs = slabs_of c.self.inside in
    let handed = subst (IsHandedOut c.args.chunk) (sym (same_state c.self.view_is)) c.requires in
    let is = IsClass-handed_out slabs c.args.chunk c.self.invariant.order.accounted handed in
    let at = c.class_place-place.ensures ∙ ap (place_in c.args.chunk) (sym (same_state c.self.view_is)) in
    subst (λ (chunks : List ChunkId). Contains chunks c.args.chunk) (sym (lists_at c.self.inside (class_of_page slabs c.args.chunk.page) _ is at).1) handed

pub touch-requires-clause-below : goal.touch-requires-clause-below
touch-requires-clause-below c =
    let slabs = slabs_of c.self.inside in
    let handed = subst (IsHandedOut c.args.chunk) (sym (same_state c.self.view_is)) c.requires in
    let is = IsClass-handed_out slabs c.args.chunk c.self.invariant.order.accounted handed in
    let at = c.class_place-place.ensures ∙ ap (place_in c.args.chunk) (sym (same_state c.self.view_is)) in
    (lengths_below c.self.inside (class_of_page slabs c.args.chunk.page) _ c.self.invariant is at).1

pub place-youngest-requires : goal.place-youngest-requires
place-youngest-requires c =
    let out = out_touched c.self.inside.rows c.touch.new.self _ c.args.chunk c.touch.ensures.touched in
    let class_after_touch = λ (class : ClassState). class_after_touch class c.args.chunk in
    (row_within c.self.inside.rows c.touch.new.self c.self.inside.ages _ class_after_touch c.args.chunk c.touch.ensures.touched c.self.invariant.aged out).0

pub renew-requires : goal.renew-requires
renew-requires c =
    let out = out_touched c.self.inside.rows c.touch.new.self _ c.args.chunk c.touch.ensures.touched in
    let class_after_touch = λ (class : ClassState). class_after_touch class c.args.chunk in
    omega (arith, c.place-youngest.ensures, (row_within c.self.inside.rows c.touch.new.self c.self.inside.ages _ class_after_touch c.args.chunk c.touch.ensures.touched c.self.invariant.aged out).1)

pub invariant_of-self : goal.invariant_of-self
invariant_of-self c =
    let renewed_is = c.renew.ensures ∙ ap (ages_after_renewal c.self.inside.ages) c.place-youngest.ensures in
    let slabs = slabs_of c.self.inside in
    let handed = subst (IsHandedOut c.args.chunk) (sym (same_state c.self.view_is)) c.requires in
    let is = IsClass-handed_out slabs c.args.chunk c.self.invariant.order.accounted handed in
    let at = c.class_place-place.ensures ∙ ap (place_in c.args.chunk) (sym (same_state c.self.view_is)) in
    AreKept-became c.self.inside _ _ (class_of_page slabs c.args.chunk.page) _ (λ class. class_after_touch class c.args.chunk) c.self.invariant is at c.touch.ensures.touched refl
    (IsInOrder-after_touch slabs c.self.inside.granted c.args.chunk c.self.invariant.order handed)
    (subst (HasAges c.touch.new.self) (sym renewed_is) (HasAges-touched c.self.inside.rows _ c.self.inside.ages _ c.args.chunk c.touch.ensures.touched c.self.invariant.aged))

pub returns-clause-touched : goal.returns-clause-touched
returns-clause-touched c =
    let slabs = slabs_of c.self.inside in
    let handed = subst (IsHandedOut c.args.chunk) (sym (same_state c.self.view_is)) c.requires in
    let is = IsClass-handed_out slabs c.args.chunk c.self.invariant.order.accounted handed in
    let at = c.class_place-place.ensures ∙ ap (place_in c.args.chunk) (sym (same_state c.self.view_is)) in
    slabs_of-became c.self.inside _ (class_of_page slabs c.args.chunk.page) _ (λ class. class_after_touch class c.args.chunk) is at c.touch.ensures.touched
    ∙ ap (λ (s : SlabState). after_touch s c.args.chunk) (same_state c.self.view_is)

pub returns-clause-accounted : goal.returns-clause-accounted
returns-clause-accounted c = (invariant_of-self c).order.accounted
