use Rattle.std.proofs.Common.{◌≡◌, ◌/◌, ◌%◌, true, false, nat_eq, sym, ◌∙◌, eq-eqb, inl, inr, eqb-true}
use Rattle.std.proofs.lemmas.Bool.{cases_Bool}
use Rattle.mc_core.specs.model.Head.{decode}
use Rattle.mc_words.proofs.Chunks.Clears.{neither_unused, or_dead, word_free}
use Rattle.mc_words.proofs.Chunks.Judging.{word_alive, word_dead}
use Rattle.mc_words.proofs.header.is_unused.Goals as goal

pub returns-then-word-eq-FREE_TAG : goal.returns-then-word-eq-FREE_TAG
returns-then-word-eq-FREE_TAG c =
    let word = c.args.word in
    record { unused = eq-eqb (word / 65536 % 4) 1 c.if-word-eq-FREE_TAG.true ∙ sym (word_free word c.if-word-eq-FREE_TAG.true) }

pub returns-else-word-eq-FREE_TAG : goal.returns-else-word-eq-FREE_TAG
returns-else-word-eq-FREE_TAG c =
    let word = c.args.word in
    elim (cases_Bool (nat_eq (word % 262144) 131072)) [
      | inl is ↦ record { unused = is ∙ sym (or_dead (decode word) (word_dead word (eqb-true (word % 262144) 131072 is))) }
      | inr isnt ↦ record { unused = isnt ∙ sym (neither_unused word c.if-word-eq-FREE_TAG.false (word_alive word (λ is. let never : true ≡ false = sym (eq-eqb (word % 262144) 131072 is) ∙ isnt in cc))) }
    ]
