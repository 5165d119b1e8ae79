use Rattle.mc_words.proofs.Rules.Quiet.{tells_looking, has_number}
use Rattle.mc_words.proofs.arena.Arena.tell.Goals as goal

pub load-requires : goal.load-requires
load-requires g c =
    let (is, (still, (in_range, (seat, may)))) = c.requires in (
      seat.same_table,
      in_range,
      tells_looking c.args.self.now.table.shared.key _ _ c.args.seat.now.me (has_number _ seat.lawful) seat.setup g.told.0 g.told.1 still c.args.word 0 0 may,
    )
