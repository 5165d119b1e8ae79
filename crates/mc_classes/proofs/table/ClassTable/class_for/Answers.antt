use Rattle.std.proofs.Common.{ℕ, nat_le, position, List, ap, sym, ◌∙◌}
use Rattle.mc_classes.specs.Classes.{Classes}
use Rattle.mc_classes.proofs.ClassOf.{place_fits}
use Rattle.mc_classes.proofs.table.ClassTable.class_for.Goals as goal

pub returns-clause-fits : goal.returns-clause-fits
returns-clause-fits c =
    let same = c.deref.ensures.value ∙ ap (λ (t : Classes). t.sizes) c.self.view_is in
    place_fits c.args.self.now c.args.bytes c.in_ok-place.place (ap (λ (sizes : List ℕ). position (λ size. nat_le c.args.bytes size) sizes) (sym same) ∙ sym c.in_ok-place.ensures)
