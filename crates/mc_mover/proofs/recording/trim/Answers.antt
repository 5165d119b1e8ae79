use Rattle.std.proofs.Common.{◌∙◌}
use Rattle.mc_core.specs.declared.event.StripeChange.TheVariants.{Trim}
use Rattle.mc_words.specs.hand.Arenas.{view}
use Rattle.mc_mover.proofs.GivenBack.{given_behind, given_up_to, on_err}
use Rattle.mc_mover.proofs.Recorded.{each_keeps, holdings_kept, ledger_keeps, refs_kept}
use Rattle.mc_mover.proofs.Refusals.{as_error, no_ok}
use Rattle.mc_mover.proofs.recording.trim.Goals as goal

pub returns-clause-holdings : goal.returns-clause-holdings
returns-clause-holdings g c =
    let before = c.args.hand.now in
    let between = c.trim_stripes.new.hand in
    let now = c.trim_ledger.new.hand in
    let kept = ledger_keeps between.number (view between) (view now) c.trim_ledger.ensures.trims
    ∙ each_keeps Trim before.number _ (view before) (view between) c.in_ok-trim_stripes.ensures.trims in
    record { same = holdings_kept before now kept; references = refs_kept before now kept }

pub returns-clause-given : goal.returns-clause-given
returns-clause-given g c =
    given_behind Trim c.args.hand.now.number c.trim_stripes.new.hand.number _ (view c.args.hand.now) (view c.trim_stripes.new.hand) (view c.trim_ledger.new.hand) c.in_ok-trim_stripes.ensures.trims c.trim_ledger.ensures.trims

pub returns-in_err-trim_stripes-clause-same : goal.returns-in_err-trim_stripes-clause-same
returns-in_err-trim_stripes-clause-same g c =
    on_err c.from_residual.result (given_up_to c.args.hand.now.number (view c.args.hand.now) (view c.trim_stripes.new.hand) c.in_err-trim_stripes.ensures.stops)

pub returns-in_err-trim_stripes-clause-trims : goal.returns-in_err-trim_stripes-clause-trims
returns-in_err-trim_stripes-clause-trims g c = no_ok _ c.from_residual.result c.from_residual.ensures.0

pub returns-in_err-trim_stripes-clause-given : goal.returns-in_err-trim_stripes-clause-given
returns-in_err-trim_stripes-clause-given g c = no_ok _ c.from_residual.result c.from_residual.ensures.0

pub returns-in_err-trim_stripes-clause-stops : goal.returns-in_err-trim_stripes-clause-stops
returns-in_err-trim_stripes-clause-stops g c = as_error c.from_residual.result c.in_err-trim_stripes.ensures.stops
