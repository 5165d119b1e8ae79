use Rattle.std.proofs.Common.{◌≡◌, [], ◌∙◌, subst}
use Rattle.std.proofs.lemmas.Option.{same_Some}
use Rattle.mc_serial_spec.specs.Lines.{Outcome, slabs_text_of, reply_only}
use Rattle.mc_serial_spec.specs.Machine.{Machine, all_swept, fresh_machine}
use Rattle.mc_serial_laws.specs.Accounts.{PrintsGranted}
use Rattle.mc_serial_laws.specs.Answered.{answers}
use Rattle.mc_serial_laws.proofs.Accounts.{bytes_grow}
use Rattle.mc_serial_laws.proofs.GrownRuns.{Grows, grown_run, lawful_run}
use Rattle.mc_serial_laws.proofs.Told.{AreTold}
use Rattle.mc_serial_laws.proofs.ToldRuns.{told_fresh, told_run}
use Rattle.mc_serial_laws.proofs.laws.granted_bytes_stay.Goals as goal

pub returns : goal.returns
returns c = λ table bulk mode commands more sound valid valid_more m last first then after later asked asked_again.
    let fresh : Machine = fresh_machine table bulk mode in
    let told_so_far : AreTold m (answers fresh commands []) = told_run table bulk mode commands m sound valid after in
    let before : Grows fresh m = grown_run commands fresh m [] (told_fresh table bulk mode sound) valid after in
    let goes : Grows m last = grown_run more m last (answers fresh commands []) told_so_far valid_more later in
    let one : reply_only (all_swept m) (slabs_text_of (all_swept m)) ≡ first = same_Some (reply_only (all_swept m) (slabs_text_of (all_swept m))) first asked in
    let two : reply_only (all_swept last) (slabs_text_of (all_swept last)) ≡ then = same_Some (reply_only (all_swept last) (slabs_text_of (all_swept last))) then asked_again in
    let grown = bytes_grow table m last told_so_far.lawful (lawful_run more m last (answers fresh commands []) told_so_far valid_more later)
    before.table (goes.table ∙ before.table) goes.granted in (
      grown.0,
      grown.1,
      subst (λ (s : Outcome). PrintsGranted table grown.0 s.reply) one grown.2,
      subst (λ (s : Outcome). PrintsGranted table grown.1 s.reply) two grown.3,
      grown.4,
    )
