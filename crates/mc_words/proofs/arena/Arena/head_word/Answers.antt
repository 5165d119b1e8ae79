use Rattle.std.proofs.Common.{◌≡◌, ℕ, ◌*◌, true, ap, arith, subst}
use Rattle.mc_core.specs.model.State.{has_chunk}
use Rattle.mc_words.specs.hand.View.{Setup}
use Rattle.mc_words.proofs.Chunks.Heads.{head_word_near}
use Rattle.mc_words.proofs.arena.Arena.head_word.Goals as goal

pub returns-clause-in_range : goal.returns-clause-in_range
returns-clause-in_range c =
    let a = c.args.self.now in
    let plan : Setup = a.plan in
    let in_range = subst (λ (s : Setup). has_chunk s.table c.args.chunk ≡ true) a.planned c.requires.in_range in
    let below = head_word_near plan c.args.chunk in_range in
    let first = a.places.1 in
    let count = a.words in
    let most = ap (λ (n : ℕ). c.args.chunk.page * n) a.counts.0 in
    omega arith
