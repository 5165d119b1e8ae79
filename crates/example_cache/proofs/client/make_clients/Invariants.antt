use Rattle.std.proofs.Common.{All}
use Rattle.mc_cache.specs.Belonging.{BelongsTo}
use Rattle.example_cache.proofs.client.make_clients.Given as goal

abbrev pub invariant-loop-number : goal.invariant-loop-number
invariant-loop-number l = record {
  workers : All (BelongsTo l.cache) l.workers.items;
  clients : All (λ client. BelongsTo l.cache client.worker) l.clients.items;
}
