use Rattle.std.proofs.Common.{Bool, Ok, rules}
use Rattle.mc_replay.proofs.Played.{written}
use Rattle.mc_replay.proofs.run.played.Goals as goal

pub returns : goal.returns
returns c = written {E = Bool} (λ bytes. bytes.items) _ _ _ _ _ (Ok c.in_ok-in_lines.field-0) c.in_ok-text.ensures (search rules)
