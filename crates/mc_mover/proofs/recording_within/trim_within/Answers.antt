use Rattle.std.proofs.Common.{ℕ, inl, inr, subst, ◌∙◌}
use Rattle.mc_core.specs.declared.event.StripeChange.TheVariants.{Trim}
use Rattle.mc_words.specs.hand.Arenas.{view}
use Rattle.mc_words.specs.lock.Doing.{HoldsSlabs}
use Rattle.mc_mover.specs.Recording.{TrimsLedger}
use Rattle.mc_mover.proofs.GivenBack.{given_behind, given_up_to}
use Rattle.mc_mover.proofs.Missed.{holdings_so, if_refused, missed_keeps}
use Rattle.mc_mover.proofs.Recorded.{each_keeps, ledger_keeps}
use Rattle.mc_mover.proofs.recording_within.trim_within.Goals as goal

pub returns-in-Err-clause-missed : goal.returns-in-Err-clause-missed
returns-in-Err-clause-missed c is = inl (c.in-Err.ensures.missed is)

pub returns-in-Err-clause-same : goal.returns-in-Err-clause-same
returns-in-Err-clause-same c =
    if_refused c.in-Err.error _ _ (given_up_to c.args.hand.now.number (view c.args.hand.now) (view c.trim_stripes_within.new.hand)) c.in-Err.ensures.stops

pub returns-in-Ok-clause-trims : goal.returns-in-Ok-clause-trims
returns-in-Ok-clause-trims c =
    let between = c.trim_stripes_within.new.hand in
    record {
      between = view between;
      stripes = c.in_default.ensures.trims;
      unfull = c.in_default.ensures.unfull;
      ledger = subst (λ (n : ℕ). HoldsSlabs (TrimsLedger n) (view between) (view c.trim_ledger_within.new.hand)) c.trim_stripes_within.ensures.hand.number c.in-Ok.ensures.trims;
    }

pub returns-in-Ok-clause-holdings : goal.returns-in-Ok-clause-holdings
returns-in-Ok-clause-holdings c =
    let before = c.args.hand.now in
    let between = c.trim_stripes_within.new.hand in
    let now = c.trim_ledger_within.new.hand in
    holdings_so before now (ledger_keeps between.number (view between) (view now) c.in-Ok.ensures.trims ∙ each_keeps Trim before.number _ (view before) (view between) c.in_default.ensures.trims)

pub returns-in-Ok-clause-given : goal.returns-in-Ok-clause-given
returns-in-Ok-clause-given c =
    given_behind Trim c.args.hand.now.number c.trim_stripes_within.new.hand.number _ (view c.args.hand.now) (view c.trim_stripes_within.new.hand) (view c.trim_ledger_within.new.hand) c.in_default.ensures.trims c.in-Ok.ensures.trims

pub returns-in-Err-trim_ledger_within-clause-missed : goal.returns-in-Err-trim_ledger_within-clause-missed
returns-in-Err-trim_ledger_within-clause-missed c is = inr (record {
  between = view c.trim_stripes_within.new.hand;
  stripes = c.in_default.ensures.trims;
  misses = c.in-Err-trim_ledger_within.ensures.missed;
})

pub returns-in-Err-trim_ledger_within-clause-holdings : goal.returns-in-Err-trim_ledger_within-clause-holdings
returns-in-Err-trim_ledger_within-clause-holdings c =
    let before = c.args.hand.now in
    let between = c.trim_stripes_within.new.hand in
    let now = c.trim_ledger_within.new.hand in
    holdings_so before now (missed_keeps c.args.tries (view between) (view now) c.in-Err-trim_ledger_within.ensures.missed ∙ each_keeps Trim before.number _ (view before) (view between) c.in_default.ensures.trims)
