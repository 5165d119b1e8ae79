use Rattle.std.proofs.Common.{◌+◌, rules}
use Rattle.std.specs.Prelude.{false, slice_index_or}
use Rattle.mc_pages.specs.declared.ledger.Entry.TheVariants.{Granted}
use Rattle.mc_picture.specs.Lines.{entry_line}
use Rattle.mc_picture.proofs.Ranges.{written_next}
use Rattle.mc_picture.proofs.ledger.write_entries.Goals as goal

pub loop-place-preserved : goal.loop-place-preserved
loop-place-preserved c =
    written_next (λ place. entry_line (place + 1) (slice_index_or c.args.ledger.now place (Granted 0 0 false))) c.loop-place.place _ _ _ _ c.loop-place.invariant c.in_ok-write_entry.ensures.line
    (search rules)
