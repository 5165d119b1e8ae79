use Rattle.std.proofs.Common.{[]}
use Rattle.mc_serial_laws.specs.Answered.{answers}
use Rattle.mc_serial_spec.specs.Machine.{fresh_machine}
use Rattle.mc_serial_laws.proofs.KnownRuns.{gets_words, known_run}
use Rattle.mc_serial_laws.proofs.ToldRuns.{told_run}
use Rattle.mc_serial_laws.proofs.laws.held_items_stay.Goals as goal

pub returns : goal.returns
returns c = λ table bulk mode commands sound valid m holder key after holding.
    let known = known_run table bulk mode commands m sound valid after in
    gets_words m (answers (fresh_machine table bulk mode) commands []) (told_run table bulk mode commands m sound valid after) key (known.held holder key holding).has
