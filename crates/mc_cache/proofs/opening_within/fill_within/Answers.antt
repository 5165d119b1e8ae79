use Rattle.std.proofs.Common.{◌+◌, ◌∙◌, ℕ, Ok, ap}
use Rattle.mc_cache.proofs.opening_within.fill_within.Goals as goal

pub loop-preserved : goal.loop-preserved
loop-preserved c =
    let added = c.in_ok-add_shard_within.ensures in
    let was = ap Ok c.if-not-branch.false in
    record {
      shards = added.arenas was ∙ ap (λ (n : ℕ). n + 1) c.loop.invariant.shards;
      count = added.count was;
      hands = added.hands was;
      new = added.new was;
    }
