use Rattle.mc_words.proofs.Rules.Quiet.{exchanges, has_number}
use Rattle.mc_words.proofs.arena.Arena.exchange.Goals as goal

pub compare_exchange-requires : goal.compare_exchange-requires
compare_exchange-requires g c =
    let (is, (still, (in_range, (seat, (may, may_look))))) = c.requires in (
      seat.same_table,
      in_range,
      exchanges c.args.self.now.table.shared.key _ _ c.args.seat.now.me (has_number _ seat.lawful) seat.setup g.told.0 g.told.1 still.0 still.1 c.args.word c.args.expected c.args.new may may_look,
    )
