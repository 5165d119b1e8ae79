use Rattle.mc_cache.specs.Belonging.{BelongsTo}
use Rattle.mc_shard.specs.Listing.{bytes_of_keys}
use Rattle.example_calls.specs.Walked.{ListsFirstParts}
use Rattle.example_calls.proofs.cache.walked.keys_of_shard.Given as goal

-- the parts so far were listed
abbrev pub invariant-loop-stripe : goal.invariant-loop-stripe
invariant-loop-stripe g l = record {
  belongs : BelongsTo l.cache l.worker;
  listed : ListsFirstParts l.cache l.shard l.stripe (bytes_of_keys l.fn.into.items) (bytes_of_keys l.into.items) l.fn.worker l.worker;
}
