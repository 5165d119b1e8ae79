use Rattle.std.proofs.Common.{◌≡◌, ℕ, ◌+◌, ◌%◌, ◌^◌, length, arith}
use Rattle.std.proofs.lemmas.List.FromFn.{fill_by_all}
use Rattle.mc_map.proofs.player.count_up.Goals as goal

pub returns : goal.returns
returns c =
    let same : length c.loop-word.words ≡ length c.args.words.now = search (arith, c.loop-word.auto.words) in
    record {
      words = fill_by_all (λ (k : ℕ). (c.args.base + k) % 2 ^ 64) c.loop-word.words (length c.args.words.now) 0 same
          (λ k below. c.loop-word.invariant.written k (omega (arith, below, c.loop-word-test.false, same)));
    }
