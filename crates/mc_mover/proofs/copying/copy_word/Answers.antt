use Rattle.std.proofs.Common.{◌≤◌, ◌+◌, ap, sym, subst, ◌∙◌}
use Rattle.mc_core.specs.model.Looks.{was_linked}
use Rattle.mc_words.specs.hand.View.{View}
use Rattle.mc_mover.proofs.Copied.{linked_read}
use Rattle.mc_mover.proofs.copying.copy_word.Goals as goal

pub returns-clause-linked : goal.returns-clause-linked
returns-clause-linked c =
    let linked = λ (v : View). was_linked v.row.looks c.args.chunk in
    ap linked c.fill.ensures.filled ∙ (ap linked c.word_held-word.ensures.view ∙ (linked_read c.args.chunk c.args.chunk c.args.place c.word_held-word.result c.args.hand.now.seat.me.0 ∙ c.requires.linked))

pub returns-clause-fits : goal.returns-clause-fits
returns-clause-fits c = λ second. subst (λ room. 3 + c.word_held-word.result ≤ room) (sym c.requires.room) (c.word_held-word.ensures.fits second)
