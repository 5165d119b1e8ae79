use Rattle.std.proofs.Common.{All}
use Rattle.mc_cache.specs.Belonging.{BelongsTo}
use Rattle.mc_cache.specs.Tending.{IsTenderOf}
use Rattle.example_cache.proofs.rounds.play_rounds.Given as goal

abbrev pub invariant-loop-round : goal.invariant-loop-round
invariant-loop-round g l = record {
  clients : All (λ client. BelongsTo l.cache client.worker) l.clients;
  tender : IsTenderOf l.cache l.tender;
}
