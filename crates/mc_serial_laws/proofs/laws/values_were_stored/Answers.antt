use Rattle.std.proofs.Common.{[], subst}
use Rattle.std.proofs.lemmas.Option.{same_Some}
use Rattle.mc_serial_laws.specs.Answered.{answers, last_words}
use Rattle.mc_serial_spec.specs.Lines.{Outcome, lookup_outcome}
use Rattle.mc_serial_spec.specs.Machine.{fresh_machine}
use Rattle.mc_serial_laws.specs.Words.{IsReplyToGet}
use Rattle.mc_serial_laws.proofs.ToldRuns.{told_run}
use Rattle.mc_serial_laws.proofs.ToldWords.{get_tells}
use Rattle.mc_serial_laws.proofs.laws.values_were_stored.Goals as goal

pub returns : goal.returns
returns c = λ table bulk mode commands sound valid m worker key served after is.
    subst (λ (s : Outcome). IsReplyToGet key (last_words key (answers (fresh_machine table bulk mode) commands [])) s.reply)
    (same_Some (lookup_outcome m worker key) served is)
    (get_tells m (answers (fresh_machine table bulk mode) commands []) (told_run table bulk mode commands m sound valid after) worker key)
