use Rattle.std.proofs.Common.{ℕ, ap, bit_xor, ◌∙◌}
use Rattle.std.specs.declared.hash.DefaultHasher.{DefaultHasher}
use Rattle.std.specs.Hash.DefaultHasher.{finish, round}
use Rattle.mc_cache.proofs.sip.Lanes.finish.Goals as goal

-- what is mixed in before the last three rounds
abbrev turned : DefaultHasher → DefaultHasher
turned s = record { v0 = s.v0; v1 = s.v1; v2 = bit_xor s.v2 255; v3 = s.v3; tail = s.tail; length = s.length }

-- the four numbers as one
abbrev joined : DefaultHasher → ℕ
joined s = bit_xor (bit_xor (bit_xor s.v0 s.v1) s.v2) s.v3

pub returns : goal.returns
unfolding finish
returns c =
    let tail = c.args.tail in
    let count = c.args.count in
    ap joined (c.round-end.ensures tail count)
    ∙ (ap (λ (s : DefaultHasher). joined (round s)) (c.round-2.ensures tail count)
    ∙ (ap (λ (s : DefaultHasher). joined (round (round s))) (c.round.ensures tail count)
    ∙ ap (λ (s : DefaultHasher). joined (round (round (round (turned s))))) (c.with_word-last.ensures tail count)))
