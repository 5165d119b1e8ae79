use Rattle.std.proofs.Common.{[], ap, sym, ◌∙◌}
use Rattle.std.proofs.lemmas.Option.{same_Some}
use Rattle.mc_serial_laws.specs.Answered.{answers}
use Rattle.mc_serial_spec.specs.Lines.{Outcome, release_outcome, last_hold}
use Rattle.mc_serial_spec.specs.Machine.{fresh_machine}
use Rattle.mc_serial_laws.proofs.ToldRuns.{told_run}
use Rattle.mc_serial_laws.proofs.ToldWords.{drop_tells}
use Rattle.mc_serial_laws.proofs.laws.dropped_were_held.Goals as goal

pub returns : goal.returns
returns c = λ table bulk mode commands sound valid m worker key served after is.
    sym (ap (λ (s : Outcome). s.reply) (same_Some (release_outcome m worker key (last_hold m worker key)) served is))
    ∙ drop_tells m (answers (fresh_machine table bulk mode) commands []) (told_run table bulk mode commands m sound valid after) worker key
