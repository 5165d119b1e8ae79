use Rattle.std.proofs.Common.{ap, ◌∙◌, drop, List}
use Rattle.mc_stripe.specs.declared.history.Call.{Call}
use Rattle.mc_stripe.specs.StripeState.{stamps_of, trimmed_of}
use Rattle.mc_stripe.proofs.Tails.{drop-beginning, filter-behind, replay-behind}
use Rattle.mc_stripe.proofs.laws.records_go_on.Goals as goal

pub returns : goal.returns
returns c = record {
  replayed = λ stripe legal. replay-behind (trimmed_of stripe) (stamps_of stripe) stripe.history legal.replayed;
  chosen = λ stripe test. filter-behind test (trimmed_of stripe) stripe.history;
  seen = λ stripe seen more is within_limit. ap (λ (history : List Call). drop (trimmed_of stripe) history) is ∙ drop-beginning (trimmed_of stripe) seen more within_limit;
}
