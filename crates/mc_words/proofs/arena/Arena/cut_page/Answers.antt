use Rattle.std.proofs.Common.{◌∙◌, List, ap, sym, subst}
use Rattle.mc_pages.specs.declared.ids.ChunkId.{ChunkId}
use Rattle.mc_pages.specs.SlabState.{SlabState}
use Rattle.mc_pages.proofs.Cuts.{chunk_at, cuts_more, next_after_cut}
use Rattle.mc_words.specs.hand.View.{View}
use Rattle.mc_words.specs.page.Cuts.{CutsEach}
use Rattle.mc_words.proofs.Pages.WholeCuts.{cut_seen, cuts_on, first_more}
use Rattle.mc_words.proofs.arena.Arena.cut_page.Goals as goal

pub loop-index-preserved : goal.loop-index-preserved
loop-index-preserved c =
    let inv = c.loop-index.invariant in
    let index = c.loop-index.index in
    let view : View = c.args.hand.now.seat.me.0 in
    let now : View = c.loop-index.hand.seat.me.0 in
    let next : View = c.cut.new.hand.seat.me.0 in
    let slabs = c.args.held.now.shared in
    let left = c.loop-index.held.shared in
    let on = cuts_on (chunk_at c.args.page index) now next left (Rattle.mc_pages.specs.Accounted.first_chunks c.args.page index) view slabs inv.cuts c.cut.ensures.cut in record {
      arena = c.cut.ensures.arena;
      locks = c.cut.ensures.locks ∙ inv.locks;
      held = c.cut.ensures.held;
      cuts = subst (λ (p : List ChunkId × SlabState). CutsEach p.0 view slabs next p.1) (λ k. (sym (first_more c.args.page index) k, sym c.cut.ensures.shared k)) on;
      shared = c.cut.ensures.shared ∙ cuts_more slabs left c.args.page index inv.shared;
      next = ap (λ (s : SlabState). s.uncut) c.cut.ensures.shared ∙ next_after_cut slabs left c.args.page c.args.per_page index inv.shared c.requires.chunks;
      seen = cut_seen view now next left (chunk_at c.args.page index) inv.seen c.cut.ensures.cut;
    }
