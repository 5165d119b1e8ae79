use Rattle.std.proofs.Common.{ap, ◌∙◌}
use Rattle.mc_script.specs.Forms.{command_of}
use Rattle.mc_script.specs.Words.{line_words}
use Rattle.mc_script.proofs.FewWords.{command_of_six}
use Rattle.mc_script.proofs.script.command_on.Goals as goal

pub returns : goal.returns
returns c = c.command.ensures ∙ ap command_of c.first_words-count.ensures.words ∙ command_of_six (line_words c.args.line.now)
