use Rattle.mc_words.proofs.Rules.Quiet.{writes, has_number}
use Rattle.mc_words.proofs.arena.Arena.write.Goals as goal

pub store-requires : goal.store-requires
store-requires g c =
    let (is, (still, (in_range, (seat, may)))) = c.requires in (
      seat.same_table,
      in_range,
      writes c.args.self.now.table.shared.key _ _ c.args.seat.now.me (has_number _ seat.lawful) seat.setup g.told still c.args.word (λ found. c.args.new) may c.args.new c.args.new,
    )
