use Rattle.std.proofs.Common.{◌≡◌, ap, sym, ◌∙◌, rules, tests}
use Rattle.mc_script.proofs.FirstWord.{skips, skipped_by_first}
use Rattle.mc_script.proofs.line.is_skipped.Goals as goal

pub returns : goal.returns
returns c = (let told : c.is_none_or.result ≡ skips c.first_byte.result = search (rules, tests) in told) ∙ ap skips c.first_byte.ensures ∙ sym (skipped_by_first c.args.line.now)
