use Rattle.std.proofs.Common.{◌∙◌, ap, arith}
use Rattle.std.proofs.lemmas.Bool.Decides.{nat_tests}
use Rattle.mc_pages.specs.SlabState.{SlabState}
use Rattle.mc_pages.proofs.Cuts.{cuts_more, next_after_cut}
use Rattle.mc_keeper.proofs.keeper.pages.cut_page.Goals as goal

pub cut-requires : goal.cut-requires
cut-requires c = grind (arith, nat_tests, c.loop-index.invariant.next)

pub loop-index-preserved : goal.loop-index-preserved
loop-index-preserved c = record {
  cut = c.cut.ensures.cut ∙ cuts_more c.args.slabs.now.state c.loop-index.slabs.state c.args.page c.loop-index.index c.loop-index.invariant.cut;
  next = ap (λ (s : SlabState). s.uncut) c.cut.ensures.cut
      ∙ next_after_cut c.args.slabs.now.state c.loop-index.slabs.state c.args.page c.args.per_page c.loop-index.index c.loop-index.invariant.cut c.requires.chunks;
  accounted = c.cut.ensures.accounted;
}
