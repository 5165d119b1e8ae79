use Rattle.std.proofs.Common.{◌≡◌, ℕ, List, [], ◌∷◌, length, Some, ap, sym, ◌∙◌}
use Rattle.std.proofs.lemmas.List.Elements.{Contains-append_left}
use Rattle.std.proofs.lemmas.Result.{err_from_is_err_and}
use Rattle.mc_classes.specs.Classes.{class_of}
use Rattle.mc_serial_spec.specs.Item.{item_bytes}
use Rattle.mc_serial_spec.specs.Lines.{set_outcome_of}
use Rattle.mc_serial_spec.specs.Machine.{Machine}
use Rattle.mc_serial_parts.specs.NewWords.{words_of_new}
use Rattle.mc_keeper.specs.Stages.{store_stages}
use Rattle.mc_keeper.proofs.keeper.Keeper.set_words.Goals as goal

pub returns-in_err-stored-in-Some-clause-refused : goal.returns-in_err-stored-in-Some-clause-refused
returns-in_err-stored-in-Some-clause-refused c =
    let p = err_from_is_err_and c.from_residual.result c.from_residual.ensures.1 in
    let words : List ℕ = words_of_new c.args.words in
    let class : class_of c.args.self.now.table (item_bytes (length words)) ≡ Some c.in-Some.class
    = ap (λ (m : Machine). class_of m.table (item_bytes (length words))) (sym c.self.view_is)
    ∙ ap (λ n. class_of c.self.inside.table (item_bytes n)) (sym c.count.ensures.count) ∙ sym c.in-Some.ensures.class in
    rw (p.1, class)
    (Contains-append_left (store_stages c.args.self.now c.in-Some.class c.args.key words) ((set_outcome_of c.args.self.now (Some c.in-Some.class) c.args.key words).machine ∷ [])
    c.store.new.self c.in_err-stored-in-Some.ensures.refused)
