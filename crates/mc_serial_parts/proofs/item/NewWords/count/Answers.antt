use Rattle.std.proofs.Common.{sym}
use Rattle.mc_serial_parts.proofs.NewWordsCount.{length-words_from}
use Rattle.mc_serial_parts.proofs.item.NewWords.count.Goals as goal

pub returns-in-Counted : goal.returns-in-Counted
returns-in-Counted c = rw c.in-Counted.is (record { count = sym (length-words_from c.in-Counted.base c.in-Counted.count) })
