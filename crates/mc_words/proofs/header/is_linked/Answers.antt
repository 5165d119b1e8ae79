use Rattle.std.proofs.Common.{◌≡◌, ℕ, ◌/◌, ◌%◌, nat_eq, arith}
use Rattle.mc_core.specs.model.Head.{decode, is_linked}
use Rattle.mc_words.proofs.Items.Agains.{three_linked}
use Rattle.mc_words.proofs.header.is_linked.Goals as goal

word_linked : (word : ℕ) → nat_eq (word / 65536 % 4) 3 ≡ is_linked (decode word).tag
unfolding decode
word_linked word = three_linked (word / 65536 % 4) (omega arith)

pub returns : goal.returns
returns c = record { linked = word_linked c.args.word }
