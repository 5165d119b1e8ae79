use Rattle.std.proofs.Common.{◌<◌, ◌++◌, ◌∙◌, ℕ, List, ap, arith, length}
use Rattle.mc_c.specs.Listing.{entry_of}
use Rattle.mc_c.proofs.Listed.{one_more_entry}
use Rattle.mc_c.proofs.listing.push_entries.Goals as goal

pub loop-key-preserved : goal.loop-key-preserved
loop-key-preserved c =
    let in_range : c.loop-key.key-index < length c.args.keys.now = omega (arith, c.loop-key-test.true) in
    one_more_entry c.args.keys.now c.loop-key.key-index c.key-item.result c.args.into.now.items c.loop-key.into.items c.push_entry.new.into.items in_range c.key-item.is c.loop-key.invariant
    (c.in-Ok.ensures ∙ ap (λ (key : List ℕ). c.loop-key.into.items ++ entry_of key) c.as_slice.ensures.value)
