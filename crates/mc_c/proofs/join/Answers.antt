use Rattle.std.proofs.Common.{Option, ap, arith, inl, refl, ◌∙◌}
use Rattle.std.specs.Option.{option_and_then}
use Rattle.mc_c.specs.declared.client.Client.{Client}
use Rattle.mc_c.specs.Handles.{worker_in}
use Rattle.mc_c.proofs.join.Goals as goal

pub returns-in-Ok : goal.returns-in-Ok
returns-in-Ok c =
    let joined = c.in-Ok.ensures.joins in record {
      codes = inl refl;
      joins = λ code. (joined.0, ap (λ (client : Option Client). option_and_then worker_in client) c.of.ensures ∙ ap worker_in joined.1, joined.2);
      kept = λ other. absurd (other refl);
      none = λ code. absurd (omega (arith, code));
      keeps = c.in-Ok.ensures.keeps;
    }
