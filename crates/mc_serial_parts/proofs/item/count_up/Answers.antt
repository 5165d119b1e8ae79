use Rattle.std.proofs.Common.{◌≡◌, ℕ, ◌+◌, ◌%◌, ◌^◌, length, arith}
use Rattle.std.proofs.lemmas.List.FromFn.{fill_by_all}
use Rattle.mc_serial_parts.proofs.item.count_up.Goals as goal

pub returns : goal.returns
returns c =
    let same : length c.loop-word.all ≡ length c.args.all.now = search (arith, c.loop-word.auto.all) in
    record {
      words = fill_by_all (λ (k : ℕ). (c.args.base + k) % 2 ^ 64) c.loop-word.all (length c.args.all.now) 0 same
          (λ k below. c.loop-word.invariant.written k (omega (arith, below, c.loop-word-test.false, same)));
    }
