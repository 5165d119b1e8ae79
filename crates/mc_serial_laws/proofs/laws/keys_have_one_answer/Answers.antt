use Rattle.std.proofs.Common.{[]}
use Rattle.mc_serial_laws.specs.Answered.{answers}
use Rattle.mc_serial_spec.specs.Machine.{fresh_machine}
use Rattle.mc_serial_laws.proofs.ToldPresent.{one_item}
use Rattle.mc_serial_laws.proofs.ToldRuns.{told_run}
use Rattle.mc_serial_laws.proofs.laws.keys_have_one_answer.Goals as goal

pub returns : goal.returns
returns c = λ table bulk mode commands sound valid m key after.
    one_item m (answers (fresh_machine table bulk mode) commands []) (told_run table bulk mode commands m sound valid after) key
