use Rattle.std.proofs.Common.{[]}
use Rattle.mc_serial_spec.specs.Machine.{Machine, fresh_machine}
use Rattle.mc_serial_laws.proofs.Accounts.{accounted_in_mode}
use Rattle.mc_serial_laws.proofs.GrownRuns.{grown_run, lawful_run}
use Rattle.mc_serial_laws.proofs.ToldRuns.{told_fresh}
use Rattle.mc_serial_laws.proofs.laws.machines_are_accounted.Goals as goal

pub returns : goal.returns
returns c = λ table bulk mode commands sound most valid m after.
    let fresh : Machine = fresh_machine table bulk mode in
    accounted_in_mode m (lawful_run commands fresh m [] (told_fresh table bulk mode sound) valid after)
    ((grown_run commands fresh m [] (told_fresh table bulk mode sound) valid after).mode most)
