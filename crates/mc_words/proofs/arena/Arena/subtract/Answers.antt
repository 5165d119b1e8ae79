use Rattle.mc_core.specs.model.Codes.{word_minus}
use Rattle.mc_words.proofs.Rules.Quiet.{changes, has_number}
use Rattle.mc_words.proofs.arena.Arena.subtract.Goals as goal

pub fetch_sub-requires : goal.fetch_sub-requires
fetch_sub-requires g c =
    let (is, (still, (in_range, (seat, may)))) = c.requires in (
      seat.same_table,
      in_range,
      changes c.args.self.now.table.shared.key _ _ c.args.seat.now.me (has_number _ seat.lawful) seat.setup g.told still c.args.word (word_minus c.args.less) may c.args.less 0,
    )
