use Rattle.std.proofs.Common.{ℕ, ap, bit_xor}
use Rattle.std.specs.declared.hash.DefaultHasher.{DefaultHasher}
use Rattle.std.specs.Hash.DefaultHasher.{write_word}
use Rattle.mc_cache.proofs.sip.Lanes.with_word.Goals as goal

-- the word is mixed into the first number, too
abbrev mixed : ℕ → DefaultHasher → DefaultHasher
mixed word s = record { v0 = bit_xor s.v0 word; v1 = s.v1; v2 = s.v2; v3 = s.v3; tail = s.tail; length = s.length }

pub returns : goal.returns
unfolding write_word
returns c tail count = ap (mixed c.args.word) (c.round-after.ensures tail count)
