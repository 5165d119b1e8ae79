use Rattle.std.proofs.Common.{ℕ, Option, ap, arith, inr, refl, subst, ◌<◌, ◌∙◌}
use Rattle.mc_cache.specs.declared.cache.Cache.{Cache}
use Rattle.mc_cache.specs.Observers.{shard_count}
use Rattle.mc_cache.specs.TendingWithin.{ReassignsOn}
use Rattle.mc_c.specs.TenderCalls.{cache_of, source_of}
use Rattle.mc_c.proofs.tending.reassign.Goals as goal

pub returns-in-Ok : goal.returns-in-Ok
returns-in-Ok c =
    let near : c.args.shard < shard_count (cache_of c.args.client.now) = subst (λ (n : ℕ). c.args.shard < n) (c.shards.ensures.shards ∙ ap shard_count c.deref.ensures) c.if-shard-shards.false in
    record {
      no_shard = λ from. absurd (omega (arith, near, from));
      asks = λ there. inr (
        c.in-Ok.answer,
        c.code_of_reassign.ensures,
        subst (λ (cache : Cache). ReassignsOn cache c.args.shard (source_of c.args.src) c.args.dst c.in-Ok.answer c.args.client.now.tender c.reassign_within.new.self) c.deref-2.ensures
            (subst (λ (src : Option ℕ). ReassignsOn c.deref-2.result.now c.args.shard src c.args.dst c.in-Ok.answer c.args.client.now.tender c.reassign_within.new.self) c.source_of.ensures c.in-Ok.ensures.reassigns),
      );
      cache = refl;
    }
