use Rattle.std.proofs.Common.{ℕ, Vec, Global, ap, ◌∙◌}
use Rattle.mc_keeper.proofs.keeper.Keeper.push_totals.Goals as goal

pub returns-in-Ok-clause-reply : goal.returns-in-Ok-clause-reply
returns-in-Ok-clause-reply g c =
    rw (← c.self.view_is)
    (ap (λ (v : Vec ℕ Global). v.items) c.put_back.ensures.text
    ∙ (rw (c.totals-totals.ensures.totals, c.is_some-running.ensures, c.moving.ensures.moving, c.take-sink.ensures.text) at c.in-Ok.ensures.bytes))
