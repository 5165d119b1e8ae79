use Rattle.std.proofs.Common.{◌≡◌, ℕ, ◌*◌, List, [], ap, ◌∙◌, subst}
use Rattle.std.proofs.lemmas.Option.{same_Some}
use Rattle.mc_classes.specs.Classes.{Classes}
use Rattle.mc_pages.specs.SlabState.{granted_count}
use Rattle.mc_serial_spec.specs.Lines.{Outcome, general_text_of, slabs_text_of, reply_only}
use Rattle.mc_serial_spec.specs.Machine.{Machine, all_swept, fresh_machine}
use Rattle.mc_serial_laws.specs.Accounts.{AddUp}
use Rattle.mc_serial_laws.proofs.Accounts.{add_up}
use Rattle.mc_serial_laws.proofs.GrownRuns.{grown_run, lawful_run}
use Rattle.mc_serial_laws.proofs.Lawful.{IsLawful, Proceeds}
use Rattle.mc_serial_laws.proofs.ProceedSweeps.{proceeds_all_swept}
use Rattle.mc_serial_laws.proofs.ToldRuns.{told_fresh}
use Rattle.mc_serial_laws.proofs.laws.statistics_add_up.Goals as goal

pub returns : goal.returns
returns c = λ table bulk mode commands sound valid m first second after asked behind.
    let fresh : Machine = fresh_machine table bulk mode in
    let swept : Machine = all_swept m in
    let lawful : IsLawful m = lawful_run commands fresh m [] (told_fresh table bulk mode sound) valid after in
    let goes : Proceeds m swept = proceeds_all_swept m lawful in
    let same : swept.table ≡ table = goes.table ∙ (grown_run commands fresh m [] (told_fresh table bulk mode sound) valid after).table in
    let one : reply_only swept (slabs_text_of swept) ≡ first = same_Some (reply_only swept (slabs_text_of swept)) first asked in
    let two : reply_only first.machine (general_text_of first.machine) ≡ second = same_Some (reply_only first.machine (general_text_of first.machine)) second behind in
    let general : general_text_of swept ≡ second.reply
    = ap (λ (s : Outcome). general_text_of s.machine) one ∙ ap (λ (s : Outcome). s.reply) two in
    let sums : AddUp swept.table (granted_count swept.slabs * swept.slabs.page) first.reply second.reply
    = subst (λ (text : List ℕ). AddUp swept.table (granted_count swept.slabs * swept.slabs.page) text second.reply) (ap (λ (s : Outcome). s.reply) one)
    (subst (λ (text : List ℕ). AddUp swept.table (granted_count swept.slabs * swept.slabs.page) (slabs_text_of swept) text) general (add_up swept goes.lawful)) in (
      granted_count swept.slabs * swept.slabs.page,
      subst (λ (t : Classes). AddUp t (granted_count swept.slabs * swept.slabs.page) first.reply second.reply) same sums,
    )
