use Rattle.std.proofs.Common.{◌≡◌, None}
use Rattle.mc_words.proofs.arena.Arena.refer.Goals as goal

pub returns-clause-none : goal.returns-clause-none
returns-clause-none c e =
    let is : c.refer_within.result ≡ None = cc in
    c.refer_within.ensures.none is
