use Rattle.std.proofs.Common.{ℕ, ◌-◌, List, Contains, refl, sym, ap, ◌∙◌, subst}
use Rattle.mc_pages.specs.declared.ids.ChunkId.{ChunkId}
use Rattle.mc_pages.specs.ClassState.{put_back}
use Rattle.mc_pages.specs.SlabState.{SlabState, HasClass, class_of_page, class_of_chunk}
use Rattle.mc_pages.specs.Changes.{after_back}
use Rattle.mc_pages.specs.InOrder.{slabs_of}
use Rattle.mc_pages.proofs.HandedOut.{IsClass-handed_out}
use Rattle.mc_pages.proofs.Kept.{IsInOrder-after_back}
use Rattle.mc_pages.proofs.KeptAges.{HasAges-back}
use Rattle.mc_pages.proofs.RoomySlabs.{IsPlace-class, lists_at, lengths_below, slabs_of-became, AreKept-became}
use Rattle.mc_pages.proofs.Roomy.{same_state}
use Rattle.mc_pages.proofs.slabs.Slabs.back.Goals as goal

-- the chunk was handed out
abbrev IsHandedOut : ChunkId → SlabState → Type 0
IsHandedOut chunk slabs = Contains (class_of_chunk slabs chunk).order chunk

-- where its class stands
abbrev place_in : ChunkId → SlabState → ℕ
place_in chunk slabs = class_of_page slabs chunk.page - 1

pub class_place-place-requires : goal.class_place-place-requires
class_place-place-requires c =
    let handed = subst (IsHandedOut c.args.chunk) (sym (same_state c.self.view_is)) c.requires in
    subst (λ (slabs : SlabState). HasClass slabs (class_of_page slabs c.args.chunk.page)) (same_state c.self.view_is)
    (IsClass-handed_out (slabs_of c.self.inside) c.args.chunk c.self.invariant.order.accounted handed)

pub back-requires-clause-class : goal.back-requires-clause-class
back-requires-clause-class c =
    let slabs = slabs_of c.self.inside in
    let handed = subst (IsHandedOut c.args.chunk) (sym (same_state c.self.view_is)) c.requires in
    let is = IsClass-handed_out slabs c.args.chunk c.self.invariant.order.accounted handed in
    let at = c.class_place-place.ensures ∙ ap (place_in c.args.chunk) (sym (same_state c.self.view_is)) in
    IsPlace-class c.self.inside (class_of_page slabs c.args.chunk.page) _ c.self.invariant is at

pub back-requires-clause-handed_out : goal.back-requires-clause-handed_out
back-requires-clause-handed_out c =
    let slabs = slabs_of c.self.inside in
    let handed = subst (IsHandedOut c.args.chunk) (sym (same_state c.self.view_is)) c.requires in
    let is = IsClass-handed_out slabs c.args.chunk c.self.invariant.order.accounted handed in
    let at = c.class_place-place.ensures ∙ ap (place_in c.args.chunk) (sym (same_state c.self.view_is)) in
    subst (λ (chunks : List ChunkId). Contains chunks c.args.chunk) (sym (lists_at c.self.inside (class_of_page slabs c.args.chunk.page) _ is at).1) handed

pub back-requires-clause-below : goal.back-requires-clause-below
back-requires-clause-below c =
    let slabs = slabs_of c.self.inside in
    let handed = subst (IsHandedOut c.args.chunk) (sym (same_state c.self.view_is)) c.requires in
    let is = IsClass-handed_out slabs c.args.chunk c.self.invariant.order.accounted handed in
    let at = c.class_place-place.ensures ∙ ap (place_in c.args.chunk) (sym (same_state c.self.view_is)) in
    (lengths_below c.self.inside (class_of_page slabs c.args.chunk.page) _ c.self.invariant is at).0

pub invariant_of-self : goal.invariant_of-self
invariant_of-self c =
    let slabs = slabs_of c.self.inside in
    let handed = subst (IsHandedOut c.args.chunk) (sym (same_state c.self.view_is)) c.requires in
    let is = IsClass-handed_out slabs c.args.chunk c.self.invariant.order.accounted handed in
    let at = c.class_place-place.ensures ∙ ap (place_in c.args.chunk) (sym (same_state c.self.view_is)) in
    AreKept-became c.self.inside _ c.self.inside.ages (class_of_page slabs c.args.chunk.page) _ (λ class. put_back class c.args.chunk) c.self.invariant is at c.back.ensures.back refl
    (IsInOrder-after_back slabs c.self.inside.granted c.args.chunk c.self.invariant.order handed)
    (HasAges-back c.self.inside.rows _ c.self.inside.ages _ c.args.chunk c.back.ensures.back c.self.invariant.aged)

pub returns-clause-back : goal.returns-clause-back
returns-clause-back c =
    let slabs = slabs_of c.self.inside in
    let handed = subst (IsHandedOut c.args.chunk) (sym (same_state c.self.view_is)) c.requires in
    let is = IsClass-handed_out slabs c.args.chunk c.self.invariant.order.accounted handed in
    let at = c.class_place-place.ensures ∙ ap (place_in c.args.chunk) (sym (same_state c.self.view_is)) in
    slabs_of-became c.self.inside _ (class_of_page slabs c.args.chunk.page) _ (λ class. put_back class c.args.chunk) is at c.back.ensures.back
    ∙ ap (λ (s : SlabState). after_back s c.args.chunk) (same_state c.self.view_is)

pub returns-clause-accounted : goal.returns-clause-accounted
returns-clause-accounted c = (invariant_of-self c).order.accounted
