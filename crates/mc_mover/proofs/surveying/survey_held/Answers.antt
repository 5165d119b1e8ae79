use Rattle.std.proofs.Common.{length, ap, sym, ◌∙◌}
use Rattle.mc_classes.specs.Classes.{Classes}
use Rattle.mc_pages.specs.SlabState.{SlabState}
use Rattle.mc_words.specs.hand.View.{Setup, View}
use Rattle.mc_mover.proofs.Surveys.{classes_here}
use Rattle.mc_mover.proofs.surveying.survey_held.Goals as goal

pub read_slabs-requires-clause-count : goal.read_slabs-requires-clause-count
read_slabs-requires-clause-count c =
    let swept = c.sweep_classes in
    let now : View = swept.new.hand.seat.me.0 in
    let here = classes_here now swept.ensures.arena.lawful swept.new.held.shared swept.ensures.held ∙ ap (λ (s : Setup). length s.table.sizes) swept.ensures.arena.setup in
    c.count.ensures.count ∙ (ap (λ (t : Classes). length t.sizes) c.classes.ensures.classes ∙ (sym here ∙ ap (λ (s : SlabState). length s.classes) (sym c.slabs.ensures.slabs)))
