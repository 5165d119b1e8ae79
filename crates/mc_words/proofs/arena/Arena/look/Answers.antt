use Rattle.mc_words.proofs.Rules.Quiet.{finds, has_number}
use Rattle.mc_words.proofs.arena.Arena.look.Goals as goal

pub load-requires : goal.load-requires
load-requires g c =
    let (is, (still, (in_range, (seat, may)))) = c.requires in (
      seat.same_table,
      in_range,
      finds c.args.self.now.table.shared.key _ _ c.args.seat.now.me (has_number _ seat.lawful) seat.setup g.told still c.args.word (λ found. found) may 0 0,
    )
