use Rattle.std.proofs.Common.{arith}
use Rattle.mc_cache.specs.Stats.{no_statistics}
use Rattle.std.proofs.Common.{get_or}
use Rattle.mc_c.proofs.Written.{none_written, one_written, row_is}
use Rattle.mc_c.proofs.tending.write_classes.Goals as goal

pub loop-place-init : goal.loop-place-init
loop-place-init c = record { written = none_written c.args.table.now c.args.rows.now c.args.into.now }

pub returns : goal.returns
returns c =
    let w = c.loop-place.invariant.written in record {
      length_is = w.length_is;
      written = λ place row near_class near_row near. w.first place row (omega (arith, c.loop-place-test.false, c.min-count.ensures, c.min.ensures, c.count.ensures.count, near_class, near_row, near));
      others = λ place row from. w.others place row (omega (arith, c.loop-place.auto.place-end, c.min-count.ensures, c.min.ensures, c.count.ensures.count, from));
    }

pub loop-place-preserved : goal.loop-place-preserved
loop-place-preserved c = record {
  written = one_written c.loop-place.place c.args.table.now c.args.rows.now c.args.into.now c.loop-place.into _ (omega (arith, c.loop-place-test.true, c.min-count.ensures, c.loop-place.auto.into))
      (row_is c.args.table.now c.loop-place.place (get_or c.args.rows.now c.loop-place.place no_statistics) c.size.result c.per_page.result c.size.ensures.size c.per_page.ensures.chunks) c.loop-place.invariant.written;
}
