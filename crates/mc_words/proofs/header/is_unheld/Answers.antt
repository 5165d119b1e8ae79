use Rattle.std.proofs.Common.{◌≡◌, ◌%◌, true, false, nat_eq, sym, ◌∙◌, eq-eqb, inl, inr, eqb-true}
use Rattle.std.proofs.lemmas.Bool.{cases_Bool}
use Rattle.mc_words.proofs.Items.CondemnCalls.{word_held, word_unheld}
use Rattle.mc_words.proofs.header.is_unheld.Goals as goal

pub returns : goal.returns
returns c =
    let word = c.args.word in
    elim (cases_Bool (nat_eq (word % 262144) 196609)) [
      | inl is ↦ record { unheld = is ∙ sym (word_unheld word (eqb-true (word % 262144) 196609 is)) }
      | inr isnt ↦ record { unheld = isnt ∙ sym (word_held word (λ is. let never : true ≡ false = sym (eq-eqb (word % 262144) 196609 is) ∙ isnt in cc)) }
    ]
