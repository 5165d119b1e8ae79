use Rattle.std.proofs.Common.{◌≡◌, ℕ, zero, suc, ◌/◌, ◌%◌, ◌<◌, nat_eq, refl, arith}
use Rattle.mc_core.specs.model.Head.{decode, is_out, tag_of}
use Rattle.mc_words.proofs.header.is_out.Goals as goal

zero_out : (n : ℕ) → n < 4 → nat_eq n 0 ≡ is_out (tag_of n)
zero_out zero in_range = refl
zero_out (suc zero) in_range = refl
zero_out (suc (suc zero)) in_range = refl
zero_out (suc (suc (suc zero))) in_range = refl
zero_out (suc (suc (suc (suc n)))) in_range = absurd (omega arith)

word_out : (word : ℕ) → nat_eq (word / 65536 % 4) 0 ≡ is_out (decode word).tag
unfolding decode
word_out word = zero_out (word / 65536 % 4) (omega arith)

pub returns : goal.returns
returns c = record { out = word_out c.args.word }
