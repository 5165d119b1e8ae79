use Rattle.std.proofs.Common.{◌∙◌, List, get_or, take, sym, subst}
use Rattle.std.proofs.lemmas.List.{take_more}
use Rattle.std.proofs.lemmas.List.Elements.{Contains-get_or}
use Rattle.mc_pages.specs.declared.ids.ChunkId.{ChunkId}
use Rattle.mc_words.specs.chunk.Sweeps.{SweepsEach}
use Rattle.mc_words.proofs.Chunks.SweepViews.{swept_again, swept_one}
use Rattle.mc_words.proofs.arena.Arena.put_back_each.Goals as goal

pub loop-chunk-preserved : goal.loop-chunk-preserved
loop-chunk-preserved c =
    let inv = c.loop-chunk.invariant in
    let chunks = c.args.chunks.now in
    let place = c.loop-chunk.chunk-index in
    let blank : ChunkId = record { page = 0; index = 0 } in
    let chunk = get_or chunks place blank in
    let view = c.args.hand.now.seat.me.0 in
    let slabs = c.args.held.now.shared in
    let next = c.put_back.new.hand.seat.me.0 in
    let between = c.put_back.new.held.shared in
    let one = swept_one c.put_back.result c.put_back.ensures.back c.put_back.ensures.moved in record {
      arena = c.put_back.ensures.arena;
      locks = c.put_back.ensures.locks ∙ inv.locks;
      held = c.put_back.ensures.held;
      each = subst (λ (cs : List ChunkId). SweepsEach cs view slabs next between) (sym (take_more chunks place blank c.loop-chunk-test.true))
          (swept_again chunk c.loop-chunk.hand.seat.me.0 next c.loop-chunk.held.shared between (take place chunks) view slabs inv.each one);
    }

pub put_back-requires-clause-in_range : goal.put_back-requires-clause-in_range
put_back-requires-clause-in_range c =
    let blank : ChunkId = record { page = 0; index = 0 } in
    c.requires.in_range (get_or c.args.chunks.now c.loop-chunk.chunk-index blank) (Contains-get_or c.args.chunks.now c.loop-chunk.chunk-index blank c.loop-chunk-test.true)
