use Rattle.std.proofs.Common.{◌≡◌, ◌<◌, ◌∷◌, false, List, length, reverse, ap, ◌∙◌, Vec, Global, arith}
use Rattle.std.proofs.lemmas.List.{length-map, length-set}
use Rattle.std.proofs.lemmas.Result.{err_from_is_err_and}
use Rattle.std.specs.Vec.{with_item}
use Rattle.mc_pages.specs.declared.ids.ChunkId.{ChunkId}
use Rattle.mc_serial_spec.specs.Holds.{is_full, with_hold}
use Rattle.mc_serial_parts.specs.HoldsKept.{stored_holds}
use Rattle.mc_serial_parts.proofs.CountedHolds.{counted_with, few_with, holds_few}
use Rattle.mc_serial_parts.proofs.HoldLists.{view_set, view_same, reverse-push}
use Rattle.mc_serial_parts.proofs.holds.Holds.take.Goals as goal

pub returns-in_err-push-clause-err : goal.returns-in_err-push-clause-err
returns-in_err-push-clause-err c =
    let inside : c.args.worker < length c.self.inside.by_worker.items = omega (arith, c.self.invariant.of_each, c.requires.worker) in
    let p = err_from_is_err_and c.from_residual-in_err-push.result c.from_residual-in_err-push.ensures.1 in
    rw (p.1, ← c.self.view_is) (view_same (λ (v : Vec ChunkId Global). reverse v.items) c.self.inside.by_worker.items c.args.worker c.index_mut.result.now c.push.new.list inside
    c.index_mut.ensures.value (ap (λ (l : List ChunkId). reverse l) c.in_err-push.ensures.items))

pub invariant_of-self-in_err-push : goal.invariant_of-self-in_err-push
invariant_of-self-in_err-push c =
    let inside : c.args.worker < length c.self.inside.by_worker.items = omega (arith, c.self.invariant.of_each, c.requires.worker) in
    let same : stored_holds (record { by_worker = with_item c.self.inside.by_worker c.args.worker c.push.new.list; counts = c.reach.new.self }) ≡ stored_holds c.self.inside
    = view_same (λ (v : Vec ChunkId Global). reverse v.items) c.self.inside.by_worker.items c.args.worker c.index_mut.result.now c.push.new.list inside
    c.index_mut.ensures.value (ap (λ (l : List ChunkId). reverse l) c.in_err-push.ensures.items) in
    record {
      of_each = length-set c.self.inside.by_worker.items c.args.worker c.push.new.list ∙ c.self.invariant.of_each;
      within_limit = rw same c.self.invariant.within_limit;
      counted = λ chunk. c.reach.ensures.same chunk ∙ rw same (c.self.invariant.counted chunk);
    }

pub increment-requires-clause-within_limit : goal.increment-requires-clause-within_limit
increment-requires-clause-within_limit c =
    let of_each : length (stored_holds c.self.inside) ≡ 64 = length-map c.self.inside.by_worker.items (λ (v : Vec ChunkId Global). reverse v.items) ∙ c.self.invariant.of_each in
    omega (arith, c.reach.ensures.same c.args.chunk, c.self.invariant.counted c.args.chunk, holds_few (stored_holds c.self.inside) c.args.chunk of_each c.self.invariant.within_limit)

pub invariant_of-self-2 : goal.invariant_of-self-2
invariant_of-self-2 c =
    let inside : c.args.worker < length c.self.inside.by_worker.items = omega (arith, c.self.invariant.of_each, c.requires.worker) in
    let within : c.args.worker < length (stored_holds c.self.inside) = omega (arith, inside, length-map c.self.inside.by_worker.items (λ (v : Vec ChunkId Global). reverse v.items)) in
    let room : is_full (stored_holds c.self.inside) c.args.worker ≡ false = rw c.self.view_is c.requires.room in
    let new : stored_holds (record { by_worker = with_item c.self.inside.by_worker c.args.worker c.push.new.list; counts = c.increment.new.self }) ≡ with_hold (stored_holds c.self.inside) c.args.worker c.args.chunk
    = view_set (λ (v : Vec ChunkId Global). reverse v.items) c.self.inside.by_worker.items c.args.worker c.index_mut.result.now c.push.new.list inside
    c.index_mut.ensures.value (λ (l : List ChunkId). c.args.chunk ∷ l)
    (ap (λ (l : List ChunkId). reverse l) c.in_ok-push.ensures.items ∙ reverse-push c.index_mut.result.now.items c.args.chunk) in
    record {
      of_each = length-set c.self.inside.by_worker.items c.args.worker c.push.new.list ∙ c.self.invariant.of_each;
      within_limit = rw new (few_with (stored_holds c.self.inside) c.args.worker c.args.chunk within room c.self.invariant.within_limit);
      counted = λ chunk.
          rw new (omega (
            arith,
            c.increment.ensures.incremented chunk,
            c.reach.ensures.same chunk,
            c.self.invariant.counted chunk,
            counted_with (stored_holds c.self.inside) c.args.worker c.args.chunk within chunk,
          ));
    }

pub returns-clause-ok : goal.returns-clause-ok
returns-clause-ok c =
    let inside : c.args.worker < length c.self.inside.by_worker.items = omega (arith, c.self.invariant.of_each, c.requires.worker) in
    rw (← c.self.view_is) (view_set (λ (v : Vec ChunkId Global). reverse v.items) c.self.inside.by_worker.items c.args.worker c.index_mut.result.now c.push.new.list inside
    c.index_mut.ensures.value (λ (l : List ChunkId). c.args.chunk ∷ l)
    (ap (λ (l : List ChunkId). reverse l) c.in_ok-push.ensures.items ∙ reverse-push c.index_mut.result.now.items c.args.chunk))
