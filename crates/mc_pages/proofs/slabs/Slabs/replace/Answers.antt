use Rattle.std.proofs.Common.{ℕ, ◌-◌, ◌<◌, ◌≤◌, List, Contains, length, refl, sym, ap, ap₂, ◌∙◌, subst, arith}
use Rattle.mc_pages.specs.declared.ids.ChunkId.{ChunkId}
use Rattle.mc_pages.specs.declared.rows.ListName.TheVariants.{HandedOut}
use Rattle.mc_pages.specs.ClassState.{ClassState, times_in, class_after_replacement}
use Rattle.mc_pages.specs.Rows.{IsRow, row_place}
use Rattle.mc_pages.specs.Linked.{list_chunks}
use Rattle.mc_pages.specs.Ages.{HasAges, ages_after_inheritance}
use Rattle.mc_pages.specs.SlabState.{SlabState, HasClass, class_of_page, class_of_chunk}
use Rattle.mc_pages.specs.Changes.{after_replace}
use Rattle.mc_pages.specs.InOrder.{slabs_of}
use Rattle.mc_pages.proofs.Chunks.{times_from_Contains}
use Rattle.mc_pages.proofs.HandedOut.{IsClass-handed_out}
use Rattle.mc_pages.proofs.Kept.{IsInOrder-after_replace}
use Rattle.mc_pages.proofs.KeptAges.{HasAges-replaced, out_replaced, row_within}
use Rattle.mc_pages.proofs.RoomySlabs.{IsPlace-class, lists_at, lengths_below, slabs_of-became, AreKept-became}
use Rattle.mc_pages.proofs.Roomy.{same_state}
use Rattle.mc_pages.proofs.slabs.Slabs.replace.Goals as goal
use Rattle.mc_pages.proofs.slabs.Slabs.replace.Goals.{After-replace}

-- the chunk was handed out
abbrev IsHandedOut : ChunkId → SlabState → Type 0
IsHandedOut chunk slabs = Contains (class_of_chunk slabs chunk).order chunk

-- the new chunk is free in the class of the old one
abbrev IsFreeBeside : ChunkId → ChunkId → SlabState → Type 0
IsFreeBeside new old slabs = Contains (class_of_chunk slabs old).free new

-- where the class of the old one stands
abbrev place_in : ChunkId → SlabState → ℕ
place_in old slabs = class_of_page slabs old.page - 1

pub class_place-place-requires : goal.class_place-place-requires
class_place-place-requires c =
    let handed = subst (IsHandedOut c.args.old) (sym (same_state c.self.view_is)) c.requires.handed_out in
    subst (λ (slabs : SlabState). HasClass slabs (class_of_page slabs c.args.old.page)) (same_state c.self.view_is)
    (IsClass-handed_out (slabs_of c.self.inside) c.args.old c.self.invariant.order.accounted handed)

pub replace-requires-clause-class : goal.replace-requires-clause-class
replace-requires-clause-class c =
    let slabs = slabs_of c.self.inside in
    let handed = subst (IsHandedOut c.args.old) (sym (same_state c.self.view_is)) c.requires.handed_out in
    let is = IsClass-handed_out slabs c.args.old c.self.invariant.order.accounted handed in
    let at = c.class_place-place.ensures ∙ ap (place_in c.args.old) (sym (same_state c.self.view_is)) in
    IsPlace-class c.self.inside (class_of_page slabs c.args.old.page) _ c.self.invariant is at

pub replace-requires-clause-free : goal.replace-requires-clause-free
replace-requires-clause-free c =
    let slabs = slabs_of c.self.inside in
    let free = subst (IsFreeBeside c.args.new c.args.old) (sym (same_state c.self.view_is)) c.requires.free in
    let handed = subst (IsHandedOut c.args.old) (sym (same_state c.self.view_is)) c.requires.handed_out in
    let is = IsClass-handed_out slabs c.args.old c.self.invariant.order.accounted handed in
    let at = c.class_place-place.ensures ∙ ap (place_in c.args.old) (sym (same_state c.self.view_is)) in
    subst (λ (chunks : List ChunkId). Contains chunks c.args.new) (sym (lists_at c.self.inside (class_of_page slabs c.args.old.page) _ is at).0) free

pub replace-requires-clause-handed_out : goal.replace-requires-clause-handed_out
replace-requires-clause-handed_out c =
    let slabs = slabs_of c.self.inside in
    let handed = subst (IsHandedOut c.args.old) (sym (same_state c.self.view_is)) c.requires.handed_out in
    let is = IsClass-handed_out slabs c.args.old c.self.invariant.order.accounted handed in
    let at = c.class_place-place.ensures ∙ ap (place_in c.args.old) (sym (same_state c.self.view_is)) in
    subst (λ (chunks : List ChunkId). Contains chunks c.args.old) (sym (lists_at c.self.inside (class_of_page slabs c.args.old.page) _ is at).1) handed

pub replace-requires-clause-below : goal.replace-requires-clause-below
replace-requires-clause-below c =
    let slabs = slabs_of c.self.inside in
    let handed = subst (IsHandedOut c.args.old) (sym (same_state c.self.view_is)) c.requires.handed_out in
    let is = IsClass-handed_out slabs c.args.old c.self.invariant.order.accounted handed in
    let at = c.class_place-place.ensures ∙ ap (place_in c.args.old) (sym (same_state c.self.view_is)) in
    (lengths_below c.self.inside (class_of_page slabs c.args.old.page) _ c.self.invariant is at).1

-- the old chunk is handed out
old_out : (c : After-replace) → 1 ≤ times_in c.args.old (list_chunks c.self.inside.rows (HandedOut c.class_place-place.result))
old_out c =
    let slabs = slabs_of c.self.inside in
    let handed = subst (IsHandedOut c.args.old) (sym (same_state c.self.view_is)) c.requires.handed_out in
    let is = IsClass-handed_out slabs c.args.old c.self.invariant.order.accounted handed in
    let at = c.class_place-place.ensures ∙ ap (place_in c.args.old) (sym (same_state c.self.view_is)) in
    let order = (lists_at c.self.inside (class_of_page slabs c.args.old.page) _ is at).1 in
    omega (arith, ap (times_in c.args.old) order, times_from_Contains c.args.old (class_of_chunk slabs c.args.old).order handed)

-- both are afterwards
both_out : (c : After-replace) → (1 ≤ times_in c.args.new (list_chunks c.replace.new.self (HandedOut c.class_place-place.result))) × (1 ≤ times_in c.args.old (list_chunks c.replace.new.self (HandedOut c.class_place-place.result)))
both_out c = out_replaced c.self.inside.rows c.replace.new.self _ c.args.new c.args.old c.replace.ensures.replaced (old_out c)

-- a chunk of the order has a row and an age
has_age : (c : After-replace) (chunk : ChunkId) → 1 ≤ times_in chunk (list_chunks c.replace.new.self (HandedOut c.class_place-place.result)) → IsRow c.replace.new.self chunk × (row_place c.replace.new.self.most chunk < length c.self.inside.ages.ages)
has_age c chunk out =
    let change = λ (class : ClassState). class_after_replacement class c.args.new c.args.old in
    row_within c.self.inside.rows c.replace.new.self c.self.inside.ages _ change chunk c.replace.ensures.replaced c.self.invariant.aged out

pub place-to-requires : goal.place-to-requires
place-to-requires c =
    let here = (goal.at.place-to-requires c).After-replace in
    (has_age here c.args.new (both_out here).0).0

pub place-from-requires : goal.place-from-requires
place-from-requires c =
    let here = (goal.at.place-from-requires c).After-replace in
    (has_age here c.args.old (both_out here).1).0

pub inherit-requires-clause-new : goal.inherit-requires-clause-new
inherit-requires-clause-new c =
    let here = (goal.at.inherit-requires-clause-new c).After-replace in
    omega (arith, c.place-to.ensures, (has_age here c.args.new (both_out here).0).1)

pub inherit-requires-clause-old : goal.inherit-requires-clause-old
inherit-requires-clause-old c =
    let here = (goal.at.inherit-requires-clause-old c).After-replace in
    omega (arith, c.place-from.ensures, (has_age here c.args.old (both_out here).1).1)

pub invariant_of-self : goal.invariant_of-self
invariant_of-self c =
    let inherited_is = c.inherit.ensures ∙ ap₂ (ages_after_inheritance c.self.inside.ages) c.place-to.ensures c.place-from.ensures in
    let slabs = slabs_of c.self.inside in
    let free = subst (IsFreeBeside c.args.new c.args.old) (sym (same_state c.self.view_is)) c.requires.free in
    let handed = subst (IsHandedOut c.args.old) (sym (same_state c.self.view_is)) c.requires.handed_out in
    let is = IsClass-handed_out slabs c.args.old c.self.invariant.order.accounted handed in
    let at = c.class_place-place.ensures ∙ ap (place_in c.args.old) (sym (same_state c.self.view_is)) in
    AreKept-became c.self.inside _ _ (class_of_page slabs c.args.old.page) _ (λ class. class_after_replacement class c.args.new c.args.old) c.self.invariant is at c.replace.ensures.replaced refl
    (IsInOrder-after_replace slabs c.self.inside.granted c.args.new c.args.old c.self.invariant.order free handed)
    (subst (HasAges c.replace.new.self) (sym inherited_is)
    (HasAges-replaced c.self.inside.rows _ c.self.inside.ages _ c.args.new c.args.old c.replace.ensures.replaced c.self.invariant.aged (old_out (goal.at.invariant_of-self c).After-replace)))

pub returns-clause-replaced : goal.returns-clause-replaced
returns-clause-replaced c =
    let slabs = slabs_of c.self.inside in
    let handed = subst (IsHandedOut c.args.old) (sym (same_state c.self.view_is)) c.requires.handed_out in
    let is = IsClass-handed_out slabs c.args.old c.self.invariant.order.accounted handed in
    let at = c.class_place-place.ensures ∙ ap (place_in c.args.old) (sym (same_state c.self.view_is)) in
    slabs_of-became c.self.inside _ (class_of_page slabs c.args.old.page) _ (λ class. class_after_replacement class c.args.new c.args.old) is at c.replace.ensures.replaced
    ∙ ap (λ (s : SlabState). after_replace s c.args.new c.args.old) (same_state c.self.view_is)

pub returns-clause-accounted : goal.returns-clause-accounted
returns-clause-accounted c = (invariant_of-self c).order.accounted
