use Rattle.mc_words.proofs.Rules.Peeks.{shows}
use Rattle.mc_words.proofs.Rules.Quiet.{has_number}
use Rattle.mc_words.proofs.arena.Arena.peek.Goals as goal

pub load-requires : goal.load-requires
load-requires c =
    let seat = c.requires.seat in
    (seat.same_table, c.requires.in_range, shows c.args.self.now.table.shared.key _ _ c.args.seat.now.me (has_number _ seat.lawful) seat.setup c.args.word 0 0)
