use Rattle.std.proofs.Common.{◌≡◌, ◌∙◌, true, List, ap, sym, subst, inl, inr}
use Rattle.std.specs.Prelude.{Contains}
use Rattle.std.proofs.lemmas.List.Sorted.{Contains-permutation, IsPermutation-sym}
use Rattle.mc_pages.specs.declared.ids.ChunkId.{ChunkId}
use Rattle.mc_pages.specs.SlabState.{SlabState, class_at, class_of_chunk}
use Rattle.mc_pages.proofs.Chunks.{times_from_Contains}
use Rattle.mc_core.specs.model.Looks.{is_found_alive}
use Rattle.mc_core.specs.model.State.{is_class}
use Rattle.mc_words.specs.hand.Arenas.{setup_of}
use Rattle.mc_words.specs.chunk.Dead.{ShareAnOrder}
use Rattle.mc_words.specs.chunk.Sweeps.{SweepsEach, is_in_sequence}
use Rattle.mc_words.specs.hand.View.{Setup}
use Rattle.mc_words.proofs.Chunks.DeadOrders.{in_order_of}
use Rattle.mc_words.proofs.Chunks.FewDead.{IsAliveBut, contains_from_times, each_alive, follows_all, is_alive, passes_one}
use Rattle.mc_words.proofs.Pages.Judged.{shared_order}
use Rattle.mc_words.proofs.Chunks.SweepViews.{class_here, order_once}
use Rattle.mc_words.proofs.arena.Arena.put_back_dead.Goals as goal

pub put_in_order-requires : goal.put_in_order-requires
put_in_order-requires c = record {
  order = subst (λ (x : SlabState). ShareAnOrder x c.args.dead.now.chunks) (sym c.slabs.ensures.slabs) (shared_order (setup_of c.args.self.now).table c.args.held.now.shared c.args.class c.args.dead.now c.requires.out);
}

pub put_back_each-requires-clause-in_range : goal.put_back_each-requires-clause-in_range
put_back_each-requires-clause-in_range c chunk there =
    let chunks = c.args.dead.now.chunks in
    let now = c.put_in_order.new.self.chunks in
    let back = IsPermutation-sym chunks now c.put_in_order.ensures.same in
    (c.requires.out chunk (Contains-permutation now chunks chunk back (subst (λ (cs : List ChunkId). Contains cs chunk) c.as_slice.ensures.chunks there))).in_range

pub returns-then-put_in_order-clause-each : goal.returns-then-put_in_order-clause-each
returns-then-put_in_order-clause-each c =
    let slabs = c.args.held.now.shared in
    let now = c.put_in_order.new.self.chunks in
    let oldest_first = in_order_of (setup_of c.args.self.now).table slabs c.args.class c.args.dead.now now c.requires.out c.put_in_order.ensures.same
    (subst (λ (x : SlabState). (chunk : ChunkId) → Contains now chunk → is_in_sequence (class_of_chunk x chunk).order now ≡ true) c.slabs.ensures.slabs (c.put_in_order.ensures.in_order c.if-put_in_order.true)) in
    let each = subst (λ (cs : List ChunkId). SweepsEach cs c.args.hand.now.seat.me.0 slabs c.put_back_each.new.hand.seat.me.0 c.put_back_each.new.held.shared) c.as_slice.ensures.chunks c.put_back_each.ensures.each in
    (now, oldest_first, each)

pub returns-then-put_in_order-clause-alive : goal.returns-then-put_in_order-clause-alive
returns-then-put_in_order-clause-alive c chunk judged out =
    let slabs = c.args.held.now.shared in
    let class = c.args.class in
    let view = c.args.hand.now.seat.me.0 in
    let was = c.requires.arena.lawful in
    let held = c.requires.held in
    let left = c.put_back_each.new.held.shared in
    let end = c.put_back_each.new.hand.seat.me.0 in
    let chunks = c.args.dead.now.chunks in
    let now = c.put_in_order.new.self.chunks in
    let same = c.put_in_order.ensures.same in
    let back = IsPermutation-sym chunks now same in
    let is = ap (λ (s : Setup). is_class s.table class) c.requires.arena.setup ∙ c.requires.class in
    let within_limit = c.put_in_order.ensures.within_limit c.if-put_in_order.true in
    let but : IsAliveBut class now chunk slabs view.row.looks = λ there. elim (judged (contains_from_times chunk (class_at slabs class).order there) within_limit) [
      | inl alive ↦ inl alive
      | inr among ↦ inr (Contains-permutation chunks now chunk same among)
    ] in
    let own = λ (a : ChunkId) (there : Contains now a). (c.requires.out a (Contains-permutation now chunks a back there)).own in
    let each = subst (λ (cs : List ChunkId). SweepsEach cs view slabs end left) c.as_slice.ensures.chunks c.put_back_each.ensures.each in
    is_alive class chunk left end.row.looks (each_alive class now chunk view slabs end left held (class_here view was slabs held class is) own (order_once view was slabs held class is) but each) out

pub returns-else-put_in_order-clause-each : goal.returns-else-put_in_order-clause-each
returns-else-put_in_order-clause-each c =
    let order = (class_at c.args.held.now.shared c.args.class).order in (order, follows_all order, c.walk.ensures.each)

pub returns-else-put_in_order-clause-alive : goal.returns-else-put_in_order-clause-alive
returns-else-put_in_order-clause-alive c chunk judged out =
    let order = (class_at c.walk.new.held.shared c.args.class).order in
    passes_one (is_found_alive c.walk.new.hand.seat.me.0.row.looks) order chunk c.walk.ensures.alive (times_from_Contains chunk order out)
