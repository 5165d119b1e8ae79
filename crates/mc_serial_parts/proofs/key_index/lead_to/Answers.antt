use Rattle.std.proofs.Common.{◌≡◌, sym, rules}
use Rattle.mc_serial_parts.proofs.LeadsByKey.{set_none}
use Rattle.mc_serial_parts.proofs.key_index.lead_to.Goals as goal

pub returns-in_default : goal.returns-in_default
returns-in_default c =
    let none = set_none c.args.key c.args.chunk c.args.chunks.now.entries (sym c.in_default.ensures.value) in
    let same : c.get_mut.follows.lender-at-none ≡ c.args.chunks.now = search rules in
    rw same (record { led = sym none })
