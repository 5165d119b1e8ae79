use Rattle.std.proofs.Common.{◌≡◌, ◌++◌, ◌<◌, ℕ, true, List, [], ◌∷◌, length, slice_get, Some, None, refl, sym, ap, subst, ◌∙◌, append-nil, append_assoc, arith}
use Rattle.std.specs.Prelude.{Contains}
use Rattle.mc_pages.specs.declared.ids.ChunkId.{ChunkId}
use Rattle.mc_pages.specs.ClassState.{behind}
use Rattle.mc_pages.specs.SlabState.{SlabState, class_at, class_of_chunk}
use Rattle.mc_pages.proofs.RestOfList.{rest_from}
use Rattle.mc_core.specs.model.State.{has_chunk, is_class}
use Rattle.mc_words.specs.hand.View.{Setup, View}
use Rattle.mc_words.specs.rule.Happens.{LawfulView}
use Rattle.mc_words.specs.chunk.Sweeps.{SweepsEach}
use Rattle.mc_words.proofs.Chunks.Sweeps.{IsSweptTo, is_empty, stands_there, sweep_ends, sweep_left, swept_at}
use Rattle.mc_words.proofs.Chunks.SweepViews.{StandsOut, class_here, order_once, stands_out, swept_again, swept_on, swept_one}
use Rattle.mc_words.proofs.arena.Arena.walk.Goals as goal

-- what holds of the chunk that the walk is at
at_chunk : (view : View) (setup : Setup) (slabs : SlabState) (class : ℕ) (chunk : ChunkId) → LawfulView view → view.setup ≡ setup → is_class setup.table class ≡ true → view.slabs ≡ Some slabs → IsSweptTo slabs view.row.looks class (Some chunk) → StandsOut view slabs class chunk
at_chunk view setup slabs class chunk was of is mine swept =
    let is' = ap (λ (s : Setup). is_class s.table class) of ∙ is in
    stands_out view was slabs mine class is' chunk (stands_there slabs view.row.looks class chunk swept (order_once view was slabs mine class is'))

pub loop-next-init : goal.loop-next-init
loop-next-init c =
    let first = c.first_out-next.ensures.chunk ∙ ap (λ (x : SlabState). slice_get (class_at x c.args.class).order 0) c.slabs.ensures.slabs in record {
      arena = c.requires.arena;
      locks = refl;
      held = c.requires.held;
      swept = record { before = []; rest = (class_at c.args.held.now.shared c.args.class).order; split = refl; at = first; alive = refl };
      done = [];
      split = refl;
      so_far = (refl, refl);
    }

pub next_out-next-requires : goal.next_out-next-requires
next_out-next-requires c =
    let inv = c.loop-next.invariant in
    let chunk = c.in-Some.chunk in
    let slabs = c.loop-next.held.shared in
    let out = at_chunk c.loop-next.hand.seat.me.0 _ slabs c.args.class chunk inv.arena.lawful inv.arena.setup c.requires.class inv.held (swept_at inv.swept (Some chunk) c.in-Some.is) in
    subst (λ (x : SlabState). Contains (class_of_chunk x chunk).order chunk) (sym c.slabs-in-Some.ensures.slabs) out.listed

pub put_back-requires-clause-in_range : goal.put_back-requires-clause-in_range
put_back-requires-clause-in_range c =
    let inv = c.loop-next.invariant in
    let chunk = c.in-Some.chunk in
    let out = at_chunk c.loop-next.hand.seat.me.0 _ c.loop-next.held.shared c.args.class chunk inv.arena.lawful inv.arena.setup c.requires.class inv.held (swept_at inv.swept (Some chunk) c.in-Some.is) in
    subst (λ (s : Setup). has_chunk s.table chunk ≡ true) inv.arena.setup out.in_range

pub loop-next-preserved : goal.loop-next-preserved
loop-next-preserved c =
    let inv = c.loop-next.invariant in
    let class = c.args.class in
    let chunk = c.in-Some.chunk in
    let slabs = c.loop-next.held.shared in
    let between = c.put_back.new.held.shared in
    let view = c.loop-next.hand.seat.me.0 in
    let next = c.put_back.new.hand.seat.me.0 in
    let is = ap (λ (s : Setup). is_class s.table class) inv.arena.setup ∙ c.requires.class in
    let swept = swept_at inv.swept (Some chunk) c.in-Some.is in
    let out = at_chunk view _ slabs class chunk inv.arena.lawful inv.arena.setup c.requires.class inv.held swept in
    let one = swept_one c.put_back.result c.put_back.ensures.back c.put_back.ensures.moved in
    let on = swept_on view next slabs between inv.held class chunk swept (order_once view inv.arena.lawful slabs inv.held class is) (class_here view inv.arena.lawful slabs inv.held class is) out.own one in
    let at : c.next_out-next.result ≡ behind chunk (class_at slabs class).order =
    c.next_out-next.ensures.chunk ∙ (ap (λ (x : SlabState). behind chunk (class_of_chunk x chunk).order) c.slabs-in-Some.ensures.slabs ∙ ap (λ (n : ℕ). behind chunk (class_at slabs n).order) out.own) in record {
      arena = c.put_back.ensures.arena;
      locks = c.put_back.ensures.locks ∙ inv.locks;
      held = c.put_back.ensures.held;
      swept = swept_at on.0 c.next_out-next.result (sym at);
      done = inv.done ++ chunk ∷ [];
      split = inv.split ∙ (ap (λ (rest : List ChunkId). inv.done ++ rest) on.1 ∙ sym (append_assoc inv.done (chunk ∷ []) on.0.rest));
      so_far = swept_again chunk view next slabs between inv.done c.args.hand.now.seat.me.0 c.args.held.now.shared inv.so_far one;
    }

pub loop-next-smaller : goal.loop-next-smaller
loop-next-smaller c =
    let inv = c.loop-next.invariant in
    let class = c.args.class in
    let chunk = c.in-Some.chunk in
    let slabs = c.loop-next.held.shared in
    let between = c.put_back.new.held.shared in
    let view = c.loop-next.hand.seat.me.0 in
    let next = c.put_back.new.hand.seat.me.0 in
    let is = ap (λ (s : Setup). is_class s.table class) inv.arena.setup ∙ c.requires.class in
    let then_is = ap (λ (s : Setup). is_class s.table class) c.put_back.ensures.arena.setup ∙ c.requires.class in
    let swept = swept_at inv.swept (Some chunk) c.in-Some.is in
    let once = order_once view inv.arena.lawful slabs inv.held class is in
    let out = at_chunk view _ slabs class chunk inv.arena.lawful inv.arena.setup c.requires.class inv.held swept in
    let one = swept_one c.put_back.result c.put_back.ensures.back c.put_back.ensures.moved in
    let on = swept_on view next slabs between inv.held class chunk swept once (class_here view inv.arena.lawful slabs inv.held class is) out.own one in
    let at : c.next_out-next.result ≡ behind chunk (class_at slabs class).order =
    c.next_out-next.ensures.chunk ∙ (ap (λ (x : SlabState). behind chunk (class_of_chunk x chunk).order) c.slabs-in-Some.ensures.slabs ∙ ap (λ (n : ℕ). behind chunk (class_at slabs n).order) out.own) in
    let long : length (rest_from c.loop-next.next (class_at slabs class).order) ≡ length inv.swept.rest = ap length (sweep_left slabs view.row.looks class c.loop-next.next inv.swept once) in
    let short : length (rest_from c.next_out-next.result (class_at between class).order) ≡ length on.0.rest =
    ap length (sweep_left between next.row.looks class c.next_out-next.result (swept_at on.0 c.next_out-next.result (sym at)) (order_once next c.put_back.ensures.arena.lawful between c.put_back.ensures.held class then_is)) in
    let less = ap length on.1 in
    let smaller : length (rest_from c.next_out-next.result (class_at between class).order) < length (rest_from c.loop-next.next (class_at slabs class).order) = omega arith in
    smaller

pub returns-clause-each : goal.returns-clause-each
returns-clause-each c =
    let inv = c.loop-next.invariant in
    let whole : (class_at c.args.held.now.shared c.args.class).order ≡ inv.done = inv.split ∙ (ap (λ (rest : List ChunkId). inv.done ++ rest) (is_empty inv.swept.rest (sym c.in_default.is ∙ inv.swept.at)) ∙ append-nil inv.done) in
    subst (λ (chunks : List ChunkId). SweepsEach chunks c.args.hand.now.seat.me.0 c.args.held.now.shared c.loop-next.hand.seat.me.0 c.loop-next.held.shared) (sym whole) inv.so_far

pub returns-clause-alive : goal.returns-clause-alive
returns-clause-alive c =
    let inv = c.loop-next.invariant in
    sweep_ends c.loop-next.held.shared c.loop-next.hand.seat.me.0.row.looks c.args.class (swept_at inv.swept None c.in_default.is)
