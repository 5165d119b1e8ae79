use Rattle.std.proofs.Common.{Some, None, ◌∙◌}
use Rattle.mc_watch.proofs.RememberedRules.{free_rule}
use Rattle.mc_watch.proofs.decider.Decider.by_free_pages.Goals as goal

pub returns-in_err-src : goal.returns-in_err-src
returns-in_err-src c =
    c.from_residual.ensures
    ∙ free_rule c.self.inside.classes.items c.self.inside.leaders c.self.inside.fed.windows c.self.invariant c.deref.result.now c.args.self.now None (c.in_err-src.ensures)
    c.deref.ensures.value c.self.view_is

pub returns : goal.returns
returns c =
    free_rule c.self.inside.classes.items c.self.inside.leaders c.self.inside.fed.windows c.self.invariant c.deref.result.now c.args.self.now (Some c.in_ok-src.src)
    (c.in_ok-src.ensures) c.deref.ensures.value c.self.view_is
