use Rattle.std.proofs.Common.{refl}
use Rattle.mc_stats.specs.Counts.{no_calls}
use Rattle.mc_stats.specs.declared.counts.Counts.{Counts}
use Rattle.mc_stats.proofs.Sums.{number_of_sum}
use Rattle.mc_stats.proofs.laws.sums_add_each_number.Goals as goal

pub returns : goal.returns
returns c = λ all. record {
  get_hits = number_of_sum (λ (c : Counts). c.get_hits) (λ a b. refl) all no_calls 0 refl;
  get_misses = number_of_sum (λ (c : Counts). c.get_misses) (λ a b. refl) all no_calls 0 refl;
  sets_stored = number_of_sum (λ (c : Counts). c.sets_stored) (λ a b. refl) all no_calls 0 refl;
  sets_unmet = number_of_sum (λ (c : Counts). c.sets_unmet) (λ a b. refl) all no_calls 0 refl;
  store_too_large = number_of_sum (λ (c : Counts). c.store_too_large) (λ a b. refl) all no_calls 0 refl;
  store_no_memory = number_of_sum (λ (c : Counts). c.store_no_memory) (λ a b. refl) all no_calls 0 refl;
  delete_hits = number_of_sum (λ (c : Counts). c.delete_hits) (λ a b. refl) all no_calls 0 refl;
  delete_misses = number_of_sum (λ (c : Counts). c.delete_misses) (λ a b. refl) all no_calls 0 refl;
  touch_hits = number_of_sum (λ (c : Counts). c.touch_hits) (λ a b. refl) all no_calls 0 refl;
  touch_misses = number_of_sum (λ (c : Counts). c.touch_misses) (λ a b. refl) all no_calls 0 refl;
}
