-- Options that are added to a command in turn.
use Rattle.std.proofs.Common.{◌≡◌, ◌∙◌, ap, ap₂, sym, false, List, [], ◌∷◌, Err, IfOk, Ok, Result}
use Rattle.clap.specs.Words.{AddsArg, AddsInTurn, App, app_of, rule_of, with_rule}
use Rattle.clap.specs.Walk.{Rule}
use Rattle.clap.specs.declared.builder.arg.Arg.{Arg}
use Rattle.clap.specs.declared.builder.command.Command.{Command}

-- the options have the rules, each in its place, and are the command's own
abbrev pub HaveRules : List Arg → List Rule → Type 0
HaveRules [] [] = Unit {0}
HaveRules (option ∷ options) (rule ∷ rules) = (rule_of option ≡ rule) × (option.global ≡ false) × HaveRules options rules
HaveRules [] (rule ∷ rules) = ⊥
HaveRules (option ∷ options) [] = ⊥

-- the rules in turn
abbrev pub with_rules : App → List Rule → App
with_rules app [] = app
with_rules app (rule ∷ rules) = with_rules (with_rule app rule) rules

added : (options : List Arg) (rules : List Rule) (app : App) (before after : Command) → HaveRules options rules → app_of before ≡ app → AddsInTurn AddsArg before options after
    → app_of after ≡ with_rules app rules
added [] [] app before after have is adds = ap app_of (sym adds) ∙ is
added [] (rule ∷ rules) app before after have is adds = absurd have
added (option ∷ options) [] app before after have is adds = absurd have
added (option ∷ options) (rule ∷ rules) app before after have is adds =
    added options rules (with_rule app rule) adds.0 after have.2 (adds.1.shape have.1 ∙ ap₂ with_rule is have.0) adds.2

pub all_added : {E : Type 0} (options : List Arg) (rules : List Rule) (app : App) (before : Command) (result : Result Command E) → HaveRules options rules → app_of before ≡ app
    → IfOk result (λ after. AddsInTurn AddsArg before options after) → IfOk result (λ after. app_of after ≡ with_rules app rules)
all_added options rules app before (Ok after) have is adds = added options rules app before after have is adds
all_added options rules app before (Err e) have is adds = tt
