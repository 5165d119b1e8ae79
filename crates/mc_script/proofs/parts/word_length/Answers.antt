use Rattle.std.proofs.Common.{ap, ◌∙◌, length}
use Rattle.std.specs.Option.{unwrap_or}
use Rattle.mc_script.proofs.FirstParts.{length_is}
use Rattle.mc_script.proofs.parts.word_length.Goals as goal

pub returns-clause-first : goal.returns-clause-first
returns-clause-first c = c.unwrap_or.ensures ∙ ap (λ found. unwrap_or found (length c.args.line.now)) c.first_space.ensures ∙ length_is c.args.line.now
