use Rattle.std.proofs.Common.{◌≡◌}
use Rattle.std.specs.Prelude.{fold}
use Rattle.mc_pages.specs.Changes.{after_cut}
use Rattle.mc_pages.specs.Accounted.{IsAccounted, first_chunks}
use Rattle.mc_pages.proofs.Cuts.{next_cut}
use Rattle.mc_keeper.proofs.keeper.pages.cut_page.Given as goal

-- the chunks below are cut, and the next one is the lowest that isn't
abbrev pub invariant-loop-index : goal.invariant-loop-index
invariant-loop-index l = record {
  cut : l.slabs.state ≡ fold after_cut l.initial.slabs.state (first_chunks l.page l.index);
  next : l.slabs.state.uncut ≡ next_cut l.page l.per_page l.index;
  accounted : IsAccounted l.slabs.state;
}
