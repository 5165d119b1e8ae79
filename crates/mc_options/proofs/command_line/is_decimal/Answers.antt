use Rattle.std.proofs.Common.{◌∙◌, rules, tests}
use Rattle.std.proofs.lemmas.Iterator.{YieldsList-from_slice}
use Rattle.std.proofs.lemmas.Iterator.Search.{all_from_yields_List}
use Rattle.std.specs.Char.{is_ascii_digit}
use Rattle.mc_options.proofs.OptionDigits.{list_all_digits}
use Rattle.mc_options.proofs.command_line.is_decimal.Goals as goal

pub returns : goal.returns
returns c =
    all_from_yields_List is_ascii_digit _ _ c.all.result c.all.ensures.ran (YieldsList-from_slice c.args.digits.now cc) (λ x b q k. search (rules, tests))
    ∙ list_all_digits c.args.digits.now
