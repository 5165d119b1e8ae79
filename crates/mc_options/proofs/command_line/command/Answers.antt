use Rattle.std.proofs.Common.{◌≡◌, ◌∙◌, ap, List, [], ◌∷◌, codes, subst, sym}
use Rattle.clap.specs.Walk.{Rule}
use Rattle.clap.specs.Simple.{app_of_fields}
use Rattle.clap.specs.Words.{app_of, new_app}
use Rattle.mc_options.specs.CommandLine.{automove_rule, factor_rule, number_rule, threads_rule}
use Rattle.mc_options.proofs.OptionAdded.{HaveRules, all_added}
use Rattle.mc_options.proofs.command_line.command.Goals as goal

-- the rules in the order of the options
abbrev rules_in_order : List Rule
rules_in_order = number_rule (codes "page") ∷ number_rule (codes "limit") ∷ number_rule (codes "first") ∷ factor_rule ∷ number_rule (codes "max") ∷ number_rule (codes "stripes") ∷ number_rule (codes "bulk") ∷ automove_rule
    ∷ threads_rule ∷ []

-- the options are added in turn, each by its own rule
pub returns : goal.returns
returns c =
    let have : HaveRules (c.number_option.result ∷ c.number_option-2.result ∷ c.number_option-3.result ∷ c.factor_option.result ∷ c.number_option-4.result ∷ c.number_option-5.result ∷ c.number_option-6.result ∷ c.automove_option.result ∷ c.threads_option.result ∷ []) rules_in_order = (
      c.number_option.ensures.rule,
      c.number_option.ensures.local,
      (
        c.number_option-2.ensures.rule,
        c.number_option-2.ensures.local,
        (
          c.number_option-3.ensures.rule,
          c.number_option-3.ensures.local,
          (
            c.factor_option.ensures.rule,
            c.factor_option.ensures.local,
            (
              c.number_option-4.ensures.rule,
              c.number_option-4.ensures.local,
              (
                c.number_option-5.ensures.rule,
                c.number_option-5.ensures.local,
                (
                  c.number_option-6.ensures.rule,
                  c.number_option-6.ensures.local,
                  (
                    c.automove_option.ensures.rule,
                    c.automove_option.ensures.local,
                    (c.threads_option.ensures.rule, c.threads_option.ensures.local, tt),
                  ),
                ),
              ),
            ),
          ),
        ),
      ),
    ) in
    let empty : app_of c.about.result ≡ new_app (codes "mcslab") = ap app_of_fields c.about.ensures ∙ c.new.ensures.app in
    all_added _ rules_in_order _ _ _ (subst (λ options. HaveRules options rules_in_order) (sym c.in_ok-options.ensures.items) have) empty c.args-2.ensures
