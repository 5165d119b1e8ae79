use Rattle.std.proofs.Common.{◌∙◌, ◌≡◌, true, rules}
use Rattle.mc_options.specs.Options.{is_short_number}
use Rattle.mc_options.proofs.OptionDigits.{short_number_from_parse}
use Rattle.mc_options.proofs.command_line.short_number.Goals as goal

pub returns-then-is_short_number : goal.returns-then-is_short_number
returns-then-is_short_number c =
    let short : is_short_number c.args.text.now ≡ true = search rules in
    c.ok.ensures.value ∙ short_number_from_parse c.args.text.now c.parse.result c.parse.ensures.value.0 short
