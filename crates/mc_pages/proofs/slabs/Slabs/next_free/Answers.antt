use Rattle.std.proofs.Common.{ℕ, ◌-◌, List, Contains, sym, ap, ◌∙◌, subst, arith}
use Rattle.mc_pages.specs.declared.ids.ChunkId.{ChunkId}
use Rattle.mc_pages.specs.ClassState.{behind}
use Rattle.mc_pages.specs.SlabState.{SlabState, HasClass, class_of_page, class_of_chunk}
use Rattle.mc_pages.specs.Accounted.{IsAccounted}
use Rattle.mc_pages.specs.InOrder.{slabs_of}
use Rattle.mc_pages.proofs.Chunks.{times_from_Contains}
use Rattle.mc_pages.proofs.HandedOut.{IsClass-placed}
use Rattle.mc_pages.proofs.RoomySlabs.{lists_at}
use Rattle.mc_pages.proofs.Roomy.{same_state, accounted_there}
use Rattle.mc_pages.proofs.slabs.Slabs.next_free.Goals as goal

-- the chunk is in the list
abbrev IsThere : ChunkId → SlabState → Type 0
IsThere chunk slabs = Contains (class_of_chunk slabs chunk).free chunk

-- where its class stands
abbrev place_in : ChunkId → SlabState → ℕ
place_in chunk slabs = class_of_page slabs chunk.page - 1

-- its class is one of the classes
is_class : (slabs : SlabState) (chunk : ChunkId) → IsAccounted slabs → IsThere chunk slabs → HasClass slabs (class_of_page slabs chunk.page)
is_class slabs chunk all there = IsClass-placed slabs chunk all (omega (arith, times_from_Contains chunk (class_of_chunk slabs chunk).free there))

pub class_place-requires : goal.class_place-requires
class_place-requires c =
    let there = subst (IsThere c.args.chunk) (sym (same_state c.self.view_is)) c.requires in
    subst (λ (slabs : SlabState). HasClass slabs (class_of_page slabs c.args.chunk.page)) (same_state c.self.view_is)
    (is_class (slabs_of c.self.inside) c.args.chunk c.self.invariant.order.accounted there)

pub next-requires-clause-there : goal.next-requires-clause-there
next-requires-clause-there c =
    let slabs = slabs_of c.self.inside in
    let there = subst (IsThere c.args.chunk) (sym (same_state c.self.view_is)) c.requires in
    let is = is_class slabs c.args.chunk c.self.invariant.order.accounted there in
    let at = c.class_place.ensures ∙ ap (place_in c.args.chunk) (sym (same_state c.self.view_is)) in
    subst (λ (chunks : List ChunkId). Contains chunks c.args.chunk) (sym (lists_at c.self.inside (class_of_page slabs c.args.chunk.page) _ is at).0) there

pub returns-clause-chunk : goal.returns-clause-chunk
returns-clause-chunk c =
    let slabs = slabs_of c.self.inside in
    let there = subst (IsThere c.args.chunk) (sym (same_state c.self.view_is)) c.requires in
    let is = is_class slabs c.args.chunk c.self.invariant.order.accounted there in
    let at = c.class_place.ensures ∙ ap (place_in c.args.chunk) (sym (same_state c.self.view_is)) in
    c.next.ensures ∙ (ap (behind c.args.chunk) (lists_at c.self.inside (class_of_page slabs c.args.chunk.page) _ is at).0
    ∙ ap (λ (s : SlabState). behind c.args.chunk (class_of_chunk s c.args.chunk).free) (same_state c.self.view_is))

pub returns-clause-accounted : goal.returns-clause-accounted
returns-clause-accounted c = accounted_there c.self.inside c.self.view_is c.self.invariant
