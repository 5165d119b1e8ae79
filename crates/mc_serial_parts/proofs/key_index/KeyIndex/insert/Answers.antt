use Rattle.std.proofs.Common.{◌≡◌, ◌∙◌, ap, cond, Option, Some, Result, Ok, Err, OnOk, nat_eq}
use Rattle.mc_pages.specs.declared.ids.ChunkId.{ChunkId}
use Rattle.mc_serial_parts.proofs.LeadsByKey.{led}
use Rattle.mc_serial_parts.proofs.key_index.KeyIndex.insert.Goals as goal

-- what is so at an Ok
at_ok : {T E : Type 0} (result : Result T E) (value : T) (P : Type 0) → result ≡ Ok value → OnOk result P → P
at_ok (Ok _) value P is holds = holds
at_ok (Err _) value P is holds = absurd cc

pub returns-clause-led : goal.returns-clause-led
returns-clause-led c =
    let updates = (at_ok c.insert-before.result _ _ c.unwrap.ensures c.insert-before.ensures.updates).0 in
    rw (← c.self.view_is) (led c.self.inside.chunks.entries c.insert-before.new.self.entries c.args.key (Some c.args.chunk)
    (λ other.
    updates other
    ∙ ap (λ (o : Option ChunkId). cond (nat_eq c.args.key other) (Some c.args.chunk) o) (c.reserve_entries.ensures.entries.2 other)))
