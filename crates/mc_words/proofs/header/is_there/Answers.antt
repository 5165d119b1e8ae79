use Rattle.std.proofs.Common.{◌&&◌, ◌/◌, ◌%◌, Bool, nat_eq, sym, ap, ◌∙◌, eq-eqb, ne_eqb}
use Rattle.mc_words.proofs.Items.Agains.{word_there}
use Rattle.mc_words.proofs.header.is_there.Goals as goal

pub returns-then-word-eq-LINKED_TAG : goal.returns-then-word-eq-LINKED_TAG
returns-then-word-eq-LINKED_TAG c =
    let word = c.args.word in
    record { there = ap (λ (b : Bool). b && nat_eq (word / 262144) c.args.issue) (sym (eq-eqb (word / 65536 % 4) 3 c.if-word-eq-LINKED_TAG.true)) ∙ sym (word_there word c.args.issue) }

pub returns-else-word-eq-LINKED_TAG : goal.returns-else-word-eq-LINKED_TAG
returns-else-word-eq-LINKED_TAG c =
    let word = c.args.word in
    let other = ne_eqb (word / 65536 % 4) 3 c.if-word-eq-LINKED_TAG.false in
    record { there = other ∙ (ap (λ (b : Bool). b && nat_eq (word / 262144) c.args.issue) (sym other) ∙ sym (word_there word c.args.issue)) }
