-- Another worker of a client's cache.
use Rattle.std.specs.Prelude.{◌≡◌, ◌⊎◌, ◌++◌, ◌∷◌, [], ℕ, Some}
use Rattle.mc_c.specs.declared.client.WorkerClient.{WorkerClient}
use Rattle.mc_c.specs.declared.handle.Handle.{Handle}
use Rattle.mc_c.specs.Calls.{cache_of}
use Rattle.mc_c.specs.Handles.{worker_of}

-- the client kept its cache and its worker
pub record KeepsWorker (before now : WorkerClient) : Type 0 where
  pub cache : cache_of now ≡ cache_of before
  pub worker : now.worker ≡ before.worker

-- the last of the spare workers joined the client's cache, as a client of its own
pub record Joins (joined before now : WorkerClient) : Type 0 where
  pub spare : before.spare.items ≡ now.spare.items ++ joined.worker ∷ []
  pub cache : cache_of joined ≡ cache_of before

-- another worker's handle was filled, or no worker was left, or no memory, and then all spare workers stay
pub record JoinsAs (code : ℕ) (out_before out_now : Handle) (client after : WorkerClient) : Type 0 where
  pub codes : (code ≡ 0) ⊎ (code ≡ 6) ⊎ (code ≡ 8)
  pub joins : code ≡ 0 → (joined : WorkerClient) × (worker_of out_now ≡ Some joined) × Joins joined client after
  pub kept : (code ≡ 0 → ⊥) → (out_now ≡ out_before) × (after.spare.items ≡ client.spare.items)
  pub none : code ≡ 8 → client.spare.items ≡ []
  pub keeps : KeepsWorker client after
