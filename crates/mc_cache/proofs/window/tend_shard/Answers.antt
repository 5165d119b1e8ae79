use Rattle.std.proofs.Common.{ℕ, ap, ◌∙◌}
use Rattle.mc_cache.specs.Windows.{found_by}
use Rattle.mc_cache.proofs.window.tend_shard.Goals as goal

pub returns-clause-tends : goal.returns-clause-tends
returns-clause-tends g c = record {
  first = c.in_ok-first.first;
  asked = c.end_window.new.hand;
  window = c.in_ok-first.ensures.ends;
  counts = c.in_ok-done.done;
  turned = c.do_turns.new.hand;
  turns = c.in_ok-done.ensures.does;
  trims = c.trim_ledger.ensures.trims;
  counted = ap (λ (n : ℕ). record c.in_ok-done.done { found = n; began = c.count_begun.result }) c.count_found.ensures.found ∙ ap (λ (n : ℕ). record c.in_ok-done.done { found = found_by c.in_ok-first.first.running; began = n }) c.count_begun.ensures.begun;
}
