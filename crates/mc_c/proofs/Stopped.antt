-- A clear that stopped.
use Rattle.std.proofs.Common.{◌≡◌, ℕ, arith, inl, inr, subst, sym}
use Rattle.mc_shard.specs.declared.clearing.ClearWithinError.{ClearWithinError}
use Rattle.mc_shard.specs.declared.clearing.ClearWithinError.TheVariants.{Held, NoMemory}
use Rattle.mc_cache.specs.Walking.{MissesClearingCache, StopsClearingWithin}
use Rattle.mc_c.specs.declared.client.WorkerClient.{WorkerClient}
use Rattle.mc_c.specs.Calls.{cache_of}
use Rattle.mc_c.specs.Walks.{ClearsAs, WritesStop}

-- by its error
pub stopped_as : (error : ClearWithinError) (code tries before now : ℕ) (client after : WorkerClient) → StopsClearingWithin (cache_of client) tries error client.worker after.worker → WritesStop error code before now → cache_of after ≡ cache_of client → after.spare.items ≡ client.spare.items → ClearsAs code tries before now client after
stopped_as (NoMemory refused) code tries before now client after stops writes cache spare = record {
  codes = inr (inr writes.0);
  clears = λ is. absurd (omega (arith, is, writes.0));
  gone = λ is. absurd (omega (arith, is, writes.0));
  held = λ is. absurd (omega (arith, is, writes.0));
  refused = λ is. stops;
  kept = λ is. writes.1;
  cache = cache;
  spare = spare;
}
stopped_as (Held deleted) code tries before now client after stops writes cache spare = record {
  codes = inr (inl writes.0);
  clears = λ is. absurd (omega (arith, is, writes.0));
  gone = λ is. absurd (omega (arith, is, writes.0));
  held = λ is. subst (λ (n : ℕ). MissesClearingCache (cache_of client) tries n client.worker after.worker) (sym writes.1) stops;
  refused = λ is. absurd (omega (arith, is, writes.0));
  kept = λ is. absurd (omega (arith, is, writes.0));
  cache = cache;
  spare = spare;
}
