use Rattle.std.proofs.Common.{◌≡◌, ℕ, ◌-◌, ◌≤◌, Some, refl, sym, ap, ◌∙◌, subst, arith}
use Rattle.std.specs.Option.{option_map}
use Rattle.mc_pages.specs.declared.ids.ChunkId.{ChunkId}
use Rattle.mc_pages.specs.ClassState.{times_in, class_after_clear}
use Rattle.mc_pages.specs.SlabState.{SlabState, HasClass, class_of_page}
use Rattle.mc_pages.specs.Changes.{after_clear}
use Rattle.mc_pages.specs.Accounted.{places_in}
use Rattle.mc_pages.specs.InOrder.{slabs_of}
use Rattle.mc_pages.proofs.HandedOut.{IsClass-placed}
use Rattle.mc_pages.proofs.Kept.{IsInOrder-after_clear}
use Rattle.mc_pages.proofs.KeptAges.{HasAges-cleared}
use Rattle.mc_pages.proofs.RoomySlabs.{IsPlace-class, lists_at, slabs_of-became, AreKept-became}
use Rattle.mc_pages.proofs.Roomy.{same_state}
use Rattle.mc_pages.proofs.slabs.Slabs.clear.Goals as goal

-- the chunk stands in a list of its class
abbrev IsListed : ChunkId → SlabState → Type 0
IsListed chunk slabs = 1 ≤ places_in slabs (class_of_page slabs chunk.page) chunk

-- where its class stands
abbrev place_in : ChunkId → SlabState → ℕ
place_in chunk slabs = class_of_page slabs chunk.page - 1

pub class_place-place-requires : goal.class_place-place-requires
class_place-place-requires c =
    let listed = subst (IsListed c.args.chunk) (sym (same_state c.self.view_is)) c.requires.listed in
    subst (λ (slabs : SlabState). HasClass slabs (class_of_page slabs c.args.chunk.page)) (same_state c.self.view_is)
    (IsClass-placed (slabs_of c.self.inside) c.args.chunk c.self.invariant.order.accounted listed)

pub clear-requires-clause-class : goal.clear-requires-clause-class
clear-requires-clause-class c =
    let slabs = slabs_of c.self.inside in
    let listed = subst (IsListed c.args.chunk) (sym (same_state c.self.view_is)) c.requires.listed in
    let is = IsClass-placed slabs c.args.chunk c.self.invariant.order.accounted listed in
    let at = c.class_place-place.ensures ∙ ap (place_in c.args.chunk) (sym (same_state c.self.view_is)) in
    IsPlace-class c.self.inside (class_of_page slabs c.args.chunk.page) _ c.self.invariant is at

pub clear-requires-clause-listed : goal.clear-requires-clause-listed
clear-requires-clause-listed c =
    let slabs = slabs_of c.self.inside in
    let listed = subst (IsListed c.args.chunk) (sym (same_state c.self.view_is)) c.requires.listed in
    let is = IsClass-placed slabs c.args.chunk c.self.invariant.order.accounted listed in
    let at = c.class_place-place.ensures ∙ ap (place_in c.args.chunk) (sym (same_state c.self.view_is)) in
    let lists = lists_at c.self.inside (class_of_page slabs c.args.chunk.page) _ is at in
    omega (arith, listed, ap (times_in c.args.chunk) lists.0, ap (times_in c.args.chunk) lists.1)

pub invariant_of-self : goal.invariant_of-self
invariant_of-self c =
    let slabs = slabs_of c.self.inside in
    let listed = subst (IsListed c.args.chunk) (sym (same_state c.self.view_is)) c.requires.listed in
    let is = IsClass-placed slabs c.args.chunk c.self.invariant.order.accounted listed in
    let at = c.class_place-place.ensures ∙ ap (place_in c.args.chunk) (sym (same_state c.self.view_is)) in
    let moves = subst (λ (s : SlabState). option_map (λ move. move.page) s.moving ≡ Some c.args.chunk.page) (sym (same_state c.self.view_is)) c.requires.moving in
    AreKept-became c.self.inside _ c.self.inside.ages (class_of_page slabs c.args.chunk.page) _ (λ class. class_after_clear class c.args.chunk) c.self.invariant is at c.clear.ensures.cleared refl
    (IsInOrder-after_clear slabs c.self.inside.granted c.args.chunk c.self.invariant.order moves listed)
    (HasAges-cleared c.self.inside.rows _ c.self.inside.ages _ c.args.chunk c.clear.ensures.cleared c.self.invariant.aged)

pub returns-clause-cleared : goal.returns-clause-cleared
returns-clause-cleared c =
    let slabs = slabs_of c.self.inside in
    let listed = subst (IsListed c.args.chunk) (sym (same_state c.self.view_is)) c.requires.listed in
    let is = IsClass-placed slabs c.args.chunk c.self.invariant.order.accounted listed in
    let at = c.class_place-place.ensures ∙ ap (place_in c.args.chunk) (sym (same_state c.self.view_is)) in
    slabs_of-became c.self.inside _ (class_of_page slabs c.args.chunk.page) _ (λ class. class_after_clear class c.args.chunk) is at c.clear.ensures.cleared
    ∙ ap (λ (s : SlabState). after_clear s c.args.chunk) (same_state c.self.view_is)

pub returns-clause-accounted : goal.returns-clause-accounted
returns-clause-accounted c = (invariant_of-self c).order.accounted
