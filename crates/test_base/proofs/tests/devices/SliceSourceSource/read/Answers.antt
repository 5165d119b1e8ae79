use Rattle.std.proofs.Common.{rules}
use Rattle.mc_streams.proofs.OfSlice.{given_more, left_behind}
use Rattle.test_base.proofs.tests.devices.SliceSourceSource.read.Goals as goal

pub returns-clause-gave : goal.returns-clause-gave
returns-clause-gave c = given_more _ c.min-count.result c.args.self.now.bytes.now c.copy_from_slice.new.self _ (search rules) c.copy_from_slice.ensures.after

pub returns-clause-bytes : goal.returns-clause-bytes
returns-clause-bytes c = left_behind _ c.min-count.result c.args.self.now.bytes.now c.copy_from_slice.new.self _ (search rules) c.copy_from_slice.ensures.after
