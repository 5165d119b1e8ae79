use Rattle.std.proofs.Common.{◌≡◌, ◌<◌, ℕ, get_or, map, List, Some, length, reverse, Contains, position, ap, ◌∙◌, Vec, Global, arith}
use Rattle.std.proofs.lemmas.List.{length-map, length-reverse, length-set}
use Rattle.std.specs.Vec.{with_item}
use Rattle.mc_pages.specs.declared.ids.ChunkId.{ChunkId}
use Rattle.mc_pages.specs.Accounted.{truth}
use Rattle.mc_pages.specs.ClassState.{is_chunk, without}
use Rattle.mc_pages.proofs.Chunks.{is_chunk-same}
use Rattle.mc_serial_spec.specs.Holds.{held_by, without_hold}
use Rattle.mc_serial_parts.specs.HoldsKept.{stored_holds}
use Rattle.mc_serial_parts.proofs.CountedHolds.{counted_without, few_without}
use Rattle.mc_serial_parts.proofs.FoundHolds.{found_held, position_is, remove-found}
use Rattle.mc_serial_parts.proofs.HoldLists.{held_now, view_set}
use Rattle.mc_serial_parts.proofs.holds.Holds.give_back.Goals as goal

-- the hold stands at its place in the worker's vector, read from its end
stands : (by_worker : List (Vec ChunkId Global)) (worker : ℕ) (row : Vec ChunkId Global) (chunk : ChunkId) (place : ℕ) → worker < length by_worker
    → row ≡ get_or by_worker worker row → position (λ c. is_chunk c chunk) (held_by (map (λ v. reverse v.items) by_worker) worker) ≡ Some place
    → position (λ c. is_chunk c chunk) (reverse row.items) ≡ Some place
stands by_worker worker row chunk place inside is found =
    ap (λ (chunks : List ChunkId). position (λ c. is_chunk c chunk) chunks) (held_now (λ (v : Vec ChunkId Global). reverse v.items) by_worker worker row row inside is) ∙ found

pub take_out-requires : goal.take_out-requires
take_out-requires c =
    let inside : c.args.worker < length c.self.inside.by_worker.items = omega (arith, c.self.invariant.of_each, c.requires.worker) in
    let found = stands c.self.inside.by_worker.items c.args.worker c.index_mut.result.now c.args.chunk c.args.place inside c.index_mut.ensures.value (rw c.self.view_is c.requires.first) in
    omega (arith, length-reverse c.index_mut.result.now.items, (position_is c.args.chunk (reverse c.index_mut.result.now.items) c.args.place found).1)

pub decrement-requires : goal.decrement-requires
decrement-requires c =
    let inside : c.args.worker < length c.self.inside.by_worker.items = omega (arith, c.self.invariant.of_each, c.requires.worker) in
    let within : c.args.worker < length (stored_holds c.self.inside) = omega (arith, inside, length-map c.self.inside.by_worker.items (λ (v : Vec ChunkId Global). reverse v.items)) in
    let held : Contains (held_by (stored_holds c.self.inside) c.args.worker) c.args.chunk = found_held c.args.chunk (held_by (stored_holds c.self.inside) c.args.worker) c.args.place (rw c.self.view_is c.requires.first) in
    omega (arith, c.self.invariant.counted c.args.chunk, counted_without (stored_holds c.self.inside) c.args.worker c.args.chunk within held c.args.chunk, ap truth (is_chunk-same c.args.chunk))

pub invariant_of-self : goal.invariant_of-self
invariant_of-self c =
    let inside : c.args.worker < length c.self.inside.by_worker.items = omega (arith, c.self.invariant.of_each, c.requires.worker) in
    let within : c.args.worker < length (stored_holds c.self.inside) = omega (arith, inside, length-map c.self.inside.by_worker.items (λ (v : Vec ChunkId Global). reverse v.items)) in
    let held : Contains (held_by (stored_holds c.self.inside) c.args.worker) c.args.chunk = found_held c.args.chunk (held_by (stored_holds c.self.inside) c.args.worker) c.args.place (rw c.self.view_is c.requires.first) in
    let found = stands c.self.inside.by_worker.items c.args.worker c.index_mut.result.now c.args.chunk c.args.place inside c.index_mut.ensures.value (rw c.self.view_is c.requires.first) in
    let taken : reverse c.take_out.new.chunks.items ≡ without c.args.chunk (reverse c.index_mut.result.now.items)
    = c.take_out.ensures.removed ∙ remove-found c.args.chunk (reverse c.index_mut.result.now.items) c.args.place found in
    let new : stored_holds (record { by_worker = with_item c.self.inside.by_worker c.args.worker c.take_out.new.chunks; counts = c.decrement.new.self })
    ≡ without_hold (stored_holds c.self.inside) c.args.worker c.args.chunk
    = view_set (λ (v : Vec ChunkId Global). reverse v.items) c.self.inside.by_worker.items c.args.worker c.index_mut.result.now c.take_out.new.chunks inside
    c.index_mut.ensures.value (λ (l : List ChunkId). without c.args.chunk l) taken in
    record {
      of_each = length-set c.self.inside.by_worker.items c.args.worker c.take_out.new.chunks ∙ c.self.invariant.of_each;
      within_limit = rw new (few_without (stored_holds c.self.inside) c.args.worker c.args.chunk within held c.self.invariant.within_limit);
      counted = λ chunk.
          rw new (omega (
            arith,
            c.decrement.ensures.decremented chunk,
            c.self.invariant.counted chunk,
            counted_without (stored_holds c.self.inside) c.args.worker c.args.chunk within held chunk,
          ));
    }

pub returns : goal.returns
returns c =
    let inside : c.args.worker < length c.self.inside.by_worker.items = omega (arith, c.self.invariant.of_each, c.requires.worker) in
    let found = stands c.self.inside.by_worker.items c.args.worker c.index_mut.result.now c.args.chunk c.args.place inside c.index_mut.ensures.value (rw c.self.view_is c.requires.first) in
    let taken : reverse c.take_out.new.chunks.items ≡ without c.args.chunk (reverse c.index_mut.result.now.items)
    = c.take_out.ensures.removed ∙ remove-found c.args.chunk (reverse c.index_mut.result.now.items) c.args.place found in
    rw (← c.self.view_is) (record {
      given_back = view_set (λ (v : Vec ChunkId Global). reverse v.items) c.self.inside.by_worker.items c.args.worker c.index_mut.result.now c.take_out.new.chunks inside
          c.index_mut.ensures.value (λ (l : List ChunkId). without c.args.chunk l) taken;
    })
