use Rattle.std.proofs.Common.{◌≡◌, ℕ, ◌-◌, Option, Some, refl, arith, sym, ap, ap₂, ◌∙◌, subst}
use Rattle.mc_pages.specs.declared.ids.ChunkId.{ChunkId}
use Rattle.mc_pages.specs.ClassState.{ClassState, with_cut}
use Rattle.mc_pages.specs.SlabState.{SlabState, HasClass, class_of_page}
use Rattle.mc_pages.specs.Changes.{next_uncut, after_cut}
use Rattle.mc_pages.specs.InOrder.{AreSlabsInOrder, slabs_of}
use Rattle.mc_pages.proofs.Kept.{IsInOrder-after_cut}
use Rattle.mc_pages.proofs.KeptAges.{HasAges-cut}
use Rattle.mc_pages.proofs.RoomySlabs.{length-classes, read_state, IsPlace-class, lengths_below, unlisted_uncut, IsRow-uncut, slabs_of-became, AreKept-lists, with_rows}
use Rattle.mc_pages.proofs.Roomy.{same_state}
use Rattle.mc_pages.proofs.slabs.Slabs.cut.Goals as goal

-- the lowest uncut chunk
abbrev IsLowest : ChunkId → SlabState → Type 0
IsLowest chunk slabs = slabs.uncut ≡ Some chunk

-- where its class stands
abbrev place_in : ChunkId → SlabState → ℕ
place_in chunk slabs = class_of_page slabs chunk.page - 1

pub class_place-place-requires : goal.class_place-place-requires
class_place-place-requires c =
    let chunk : ChunkId = record { page = c.args.page; index = c.args.index } in
    let first = subst (IsLowest chunk) (sym (same_state c.self.view_is)) c.requires in
    subst (λ (slabs : SlabState). HasClass slabs (class_of_page slabs c.args.page)) (same_state c.self.view_is) (c.self.invariant.order.uncut chunk first).owned

-- the lowest uncut chunk of what was opened
lowest : (chunk : ChunkId) (before now : SlabState) → before ≡ now → now.uncut ≡ Some chunk → before.uncut ≡ Some chunk
lowest chunk before now h = subst (IsLowest chunk) (sym h)

pub index-requires : goal.index-requires
index-requires c =
    let chunk : ChunkId = record { page = c.args.page; index = c.args.index } in
    let is = (c.self.invariant.order.uncut chunk (lowest chunk _ _ (same_state c.self.view_is) c.requires)).owned in
    let at = c.class_place-place.ensures ∙ ap (place_in chunk) (sym (same_state c.self.view_is)) in
    omega (arith, at, is.0, length-classes c.self.inside (class_of_page (slabs_of c.self.inside) c.args.page) is)

pub next_to_cut-self-inside-requires : goal.next_to_cut-self-inside-requires
next_to_cut-self-inside-requires c =
    let chunk : ChunkId = record { page = c.args.page; index = c.args.index } in
    let on = c.self.invariant.order.uncut chunk (lowest chunk _ _ (same_state c.self.view_is) c.requires) in
    let at = c.class_place-place.ensures ∙ ap (place_in chunk) (sym (same_state c.self.view_is)) in
    let read = read_state c.self.inside (class_of_page (slabs_of c.self.inside) c.args.page) _ _ on.owned at c.index.ensures in
    omega (arith, c.per_page-per_page.ensures, ap (λ (class : ClassState). class.per_page) read, on.within)

pub cut-requires-clause-class : goal.cut-requires-clause-class
cut-requires-clause-class c =
    let chunk : ChunkId = record { page = c.args.page; index = c.args.index } in
    let is = (c.self.invariant.order.uncut chunk (lowest chunk _ _ (same_state c.self.view_is) c.requires)).owned in
    let at = c.class_place-place.ensures ∙ ap (place_in chunk) (sym (same_state c.self.view_is)) in
    IsPlace-class c.self.inside (class_of_page (slabs_of c.self.inside) c.args.page) _ c.self.invariant is at

pub cut-requires-clause-row : goal.cut-requires-clause-row
cut-requires-clause-row c =
    let chunk : ChunkId = record { page = c.args.page; index = c.args.index } in
    IsRow-uncut c.self.inside chunk c.self.invariant (lowest chunk _ _ (same_state c.self.view_is) c.requires)

pub cut-requires-clause-unlisted : goal.cut-requires-clause-unlisted
cut-requires-clause-unlisted c =
    let chunk : ChunkId = record { page = c.args.page; index = c.args.index } in
    unlisted_uncut c.self.inside chunk c.self.invariant (lowest chunk _ _ (same_state c.self.view_is) c.requires)

pub cut-requires-clause-below : goal.cut-requires-clause-below
cut-requires-clause-below c =
    let chunk : ChunkId = record { page = c.args.page; index = c.args.index } in
    let is = (c.self.invariant.order.uncut chunk (lowest chunk _ _ (same_state c.self.view_is) c.requires)).owned in
    let at = c.class_place-place.ensures ∙ ap (place_in chunk) (sym (same_state c.self.view_is)) in
    (lengths_below c.self.inside (class_of_page (slabs_of c.self.inside) c.args.page) _ c.self.invariant is at).0

-- the whole after the cut, as its callers see it
cut_is : (c : goal.After-cut) → slabs_of (record (with_rows c.self.inside c.cut.new.self) { uncut = c.next_to_cut-self-inside.result }) ≡ after_cut (slabs_of c.self.inside) (record { page = c.args.page; index = c.args.index })
cut_is c =
    let chunk : ChunkId = record { page = c.args.page; index = c.args.index } in
    let is = (c.self.invariant.order.uncut chunk (lowest chunk _ _ (same_state c.self.view_is) c.requires)).owned in
    let at = c.class_place-place.ensures ∙ ap (place_in chunk) (sym (same_state c.self.view_is)) in
    let read = read_state c.self.inside (class_of_page (slabs_of c.self.inside) c.args.page) _ _ is at c.index.ensures in
    let changed = slabs_of-became c.self.inside c.cut.new.self (class_of_page (slabs_of c.self.inside) c.args.page) _ (λ class. with_cut class chunk) is at c.cut.ensures.cut in
    let next = c.next_to_cut-self-inside.ensures ∙ ap (λ (n : ℕ). next_uncut n chunk) (c.per_page-per_page.ensures ∙ ap (λ (class : ClassState). class.per_page) read) in
    ap₂ (λ (s : SlabState) (uncut : Option ChunkId). record s { uncut = uncut }) changed next

pub invariant_of-self : goal.invariant_of-self
invariant_of-self c =
    let chunk : ChunkId = record { page = c.args.page; index = c.args.index } in
    let first = lowest chunk _ _ (same_state c.self.view_is) c.requires in
    let is = (c.self.invariant.order.uncut chunk first).owned in
    let at = c.class_place-place.ensures ∙ ap (place_in chunk) (sym (same_state c.self.view_is)) in
    let kept = AreKept-lists c.self.inside c.cut.new.self (class_of_page (slabs_of c.self.inside) c.args.page) _ (λ class. with_cut class chunk) c.self.invariant is at c.cut.ensures.cut refl in
    record {
      order = subst (λ (s : SlabState). AreSlabsInOrder s c.self.inside.granted) (sym (cut_is c)) (IsInOrder-after_cut (slabs_of c.self.inside) c.self.inside.granted chunk c.self.invariant.order first);
      ledger = c.self.invariant.ledger;
      base = c.self.invariant.base;
      pool = c.self.invariant.pool;
      classes = kept.classes;
      linked = kept.linked;
      ordinary = c.self.invariant.ordinary;
      aged = HasAges-cut c.self.inside.rows _ c.self.inside.ages _ chunk c.cut.ensures.cut c.self.invariant.aged;
      rows = kept.rows;
    }

pub returns-clause-cut : goal.returns-clause-cut
returns-clause-cut c = cut_is c ∙ ap (λ (s : SlabState). after_cut s (record { page = c.args.page; index = c.args.index })) (same_state c.self.view_is)

pub returns-clause-accounted : goal.returns-clause-accounted
returns-clause-accounted c = (invariant_of-self c).order.accounted
