use Rattle.std.proofs.Common.{Some, None, refl, ◌∙◌}
use Rattle.mc_watch.proofs.RememberedRules.{evictions_rule}
use Rattle.mc_watch.proofs.decider.Decider.by_evictions.Goals as goal

pub returns-in_err-dst : goal.returns-in_err-dst
returns-in_err-dst c =
    c.from_residual.ensures
    ∙ evictions_rule c.self.inside.classes.items c.self.inside.leaders c.self.inside.fed.windows c.self.invariant c.self.inside.classes.items c.args.self.now _ None refl
    (c.in_err-dst.ensures) refl c.self.view_is

pub returns-in_err-src : goal.returns-in_err-src
returns-in_err-src c =
    c.from_residual-in_err-src.ensures
    ∙ evictions_rule c.self.inside.classes.items c.self.inside.leaders c.self.inside.fed.windows c.self.invariant c.deref.result.now c.args.self.now None (Some c.in_ok-dst.dst)
    (c.in_err-src.ensures) (c.in_ok-dst.ensures) c.deref.ensures.value c.self.view_is

pub returns : goal.returns
returns c =
    evictions_rule c.self.inside.classes.items c.self.inside.leaders c.self.inside.fed.windows c.self.invariant c.deref.result.now c.args.self.now (Some c.in_ok-src.src)
    (Some c.in_ok-dst.dst) (c.in_ok-src.ensures) (c.in_ok-dst.ensures) c.deref.ensures.value c.self.view_is
