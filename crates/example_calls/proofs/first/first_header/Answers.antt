use Rattle.std.proofs.Common.{◌≡◌, ◌∙◌, ℕ, Option, Some, ap}
use Rattle.mc_core.specs.model.Head.{code}
use Rattle.example_calls.specs.Preparing.{first_out}
use Rattle.example_calls.proofs.Popped.{first_word, if_ok}
use Rattle.example_calls.proofs.first.first_header.Goals as goal

pub returns-clause-header : goal.returns-clause-header
returns-clause-header c =
    if_ok c.header_from.result (λ (found : Option ℕ). found ≡ Some (code (first_out 0))) (λ found. found ≡ Some 393217) (λ found is. is ∙ ap (λ (n : ℕ). Some n) first_word) c.header_from.ensures.header
