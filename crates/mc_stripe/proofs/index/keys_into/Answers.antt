use Rattle.std.proofs.Common.{ℕ, List, ◌++◌, ap, ◌∙◌}
use Rattle.std.specs.Map.{keys_of}
use Rattle.mc_stripe.specs.Keys.{keys_but}
use Rattle.mc_stripe.proofs.Asides.{keys_put_but}
use Rattle.mc_stripe.proofs.index.keys_into.Goals as goal

pub returns-clause-keys : goal.returns-clause-keys
returns-clause-keys c =
    keys_put_but c.args.index.now.entries c.args.aside c.args.into.now.items c.push_keys.new.into.items c.len.ensures.unique
    (c.push_keys.ensures ∙ ap (λ (l : List ℕ). l ++ keys_but c.args.aside (keys_of c.args.index.now.entries)) c.in_ok-reserve.ensures.items)
