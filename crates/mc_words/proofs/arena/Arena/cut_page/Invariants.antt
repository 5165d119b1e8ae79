use Rattle.std.proofs.Common.{◌≡◌, Some}
use Rattle.std.specs.Prelude.{fold}
use Rattle.mc_pages.specs.Accounted.{first_chunks}
use Rattle.mc_pages.specs.Changes.{after_cut}
use Rattle.mc_pages.proofs.Cuts.{next_cut}
use Rattle.mc_words.specs.hand.Arenas.{IsHandOf, view}
use Rattle.mc_words.specs.chunk.Sweeps.{with_seen}
use Rattle.mc_words.specs.page.Cuts.{CutsEach}
use Rattle.mc_words.proofs.arena.Arena.cut_page.Given as goal

-- the chunks below are cut, and the next one is the lowest that isn't
abbrev pub invariant-loop-index : goal.invariant-loop-index
invariant-loop-index l = record {
  arena : IsHandOf l.self l.hand;
  locks : l.hand.locks ≡ l.fn.hand.locks;
  held : (view l.hand).slabs ≡ Some l.held.shared;
  cuts : CutsEach (first_chunks l.page l.index) (view l.fn.hand) l.fn.held.shared (view l.hand) l.held.shared;
  shared : l.held.shared ≡ fold after_cut l.fn.held.shared (first_chunks l.page l.index);
  next : l.held.shared.uncut ≡ next_cut l.page l.per_page l.index;
  seen : view l.hand ≡ with_seen (view l.fn.hand) (view l.hand);
}
