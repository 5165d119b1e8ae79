use Rattle.std.proofs.Common.{◌++◌, ◌∷◌, [], All, subst, sym}
use Rattle.mc_cache.specs.declared.cache.Cache.{Cache}
use Rattle.mc_cache.specs.Resting.{RestsIn}
use Rattle.mc_cache.proofs.Dealt.{each_front, each_last}
use Rattle.mc_c.proofs.Opened.{opened_by}
use Rattle.mc_c.specs.Configs.{config_for, hash_key_in}
use Rattle.mc_c.proofs.opening.open.Goals as goal

pub invariant_of-first : goal.invariant_of-first
invariant_of-first c =
    let cache : Cache = c.in-Ok.made.0 in
    let all : All (RestsIn cache) (c.pop.new.self.items ++ c.in-Some.worker ∷ []) = subst (All (RestsIn cache)) c.in-Some.ensures.items c.in-Ok.ensures.rests in
    record {
      rests = subst (λ (of : Cache). RestsIn of c.in-Some.worker) (sym c.in-Ok-new.ensures.ok) (each_last (RestsIn cache) c.pop.new.self.items c.in-Some.worker all);
      spares = subst (λ (of : Cache). All (RestsIn of) c.pop.new.self.items) (sym c.in-Ok-new.ensures.ok) (each_front (RestsIn cache) c.pop.new.self.items c.in-Some.worker all);
    }

pub returns-clause-opens : goal.returns-clause-opens
returns-clause-opens c = record {
  one_cache = c.in-Ok-try_clone.ensures;
  opened = opened_by c.for_workers-own.result (config_for c.args.config.now c.args.workers) c.hash_key.result (hash_key_in c.args.config.now) c.in-Ok.made.0 _ c.in-Ok.made.1.items (c.pop.new.self.items ++ c.in-Some.worker ∷ []) c.in-Ok.made.2 c.for_workers-own.ensures c.hash_key.ensures c.in-Ok-new.ensures.ok c.in-Some.ensures.items (record {
    accepted = c.in-Ok.ensures.refused;
    shards = c.in-Ok.ensures.shards;
    hashed_by = c.in-Ok.ensures.hashing;
    arenas = c.in-Ok.ensures.arenas;
    bytes = c.in-Ok.ensures.bytes;
    worker_count = c.in-Ok.ensures.workers;
    unused = c.in-Ok.ensures.empty.0;
    tender_unused = c.in-Ok.ensures.empty.1;
    deciders = c.in-Ok.ensures.deciders;
  });
}
