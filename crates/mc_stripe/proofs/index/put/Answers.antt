use Rattle.std.proofs.Common.{◌≡◌, Result, Ok, Err, OnOk}
use Rattle.mc_stripe.proofs.Tables.{by_key_put}
use Rattle.mc_stripe.proofs.index.put.Goals as goal

-- what is so at an Ok
at_ok : {T E : Type 0} (result : Result T E) (value : T) (P : Type 0) → result ≡ Ok value → OnOk result P → P
at_ok (Ok _) value P is holds = holds
at_ok (Err _) value P is holds = absurd cc

pub returns : goal.returns
returns c =
    by_key_put c.args.index.now.entries c.insert-put.new.self.entries c.args.key c.args.place
    (λ q. (at_ok c.insert-put.result _ _ c.unwrap.ensures c.insert-put.ensures.updates).0 q)
