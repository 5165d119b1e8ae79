use Rattle.std.proofs.Common.{List, slice_get, refl, sym, ap, ◌∙◌, subst}
use Rattle.mc_pages.specs.declared.ids.ChunkId.{ChunkId}
use Rattle.mc_pages.specs.SlabState.{SlabState, HasClass, class_at}
use Rattle.mc_pages.proofs.RoomySlabs.{IsPlace-class, lists_at}
use Rattle.mc_pages.proofs.Roomy.{same_state, accounted_there}
use Rattle.mc_pages.proofs.slabs.Slabs.first_free.Goals as goal

pub first-requires-clause-list : goal.first-requires-clause-list
first-requires-clause-list c =
    let is = subst (λ (s : SlabState). HasClass s c.args.class) (sym (same_state c.self.view_is)) c.requires in
    (IsPlace-class c.self.inside c.args.class _ c.self.invariant is refl).0

pub returns-clause-chunk : goal.returns-clause-chunk
returns-clause-chunk c =
    let is = subst (λ (s : SlabState). HasClass s c.args.class) (sym (same_state c.self.view_is)) c.requires in
    c.first.ensures ∙ (ap (λ (chunks : List ChunkId). slice_get chunks 0) (lists_at c.self.inside c.args.class _ is refl).0
    ∙ ap (λ (s : SlabState). slice_get (class_at s c.args.class).free 0) (same_state c.self.view_is))

pub returns-clause-accounted : goal.returns-clause-accounted
returns-clause-accounted c = accounted_there c.self.inside c.self.view_is c.self.invariant
