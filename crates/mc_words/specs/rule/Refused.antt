-- Why no arena is made.
use Rattle.std.specs.Prelude.{ℕ, nat_le, not, if◌then◌else◌, Option, Some, None}
use Rattle.mc_classes.specs.Limits.{most_hands}
use Rattle.mc_classes.specs.declared.config.Config.{Config}
use Rattle.mc_classes.specs.declared.config.ConfigError.{ConfigError}
use Rattle.mc_classes.specs.Refusals as classes
use Rattle.mc_core.specs.run.Chunks.{most_issue}
use Rattle.mc_words.specs.declared.arena.refusal.NewError.{NewError}
use Rattle.mc_words.specs.declared.arena.refusal.NewError.TheVariants as refused

-- why no arena is made: the configuration's refusal, which comes first, or another
abbrev pub or_refused : Option ConfigError → Option NewError → Option NewError
or_refused (Some error) others = Some (refused.Config error)
or_refused None others = others

-- the first test that the arguments fail: of the configuration, the number of hands, or the first issue number
abbrev pub arena_refusal : Config → ℕ → ℕ → Option NewError
arena_refusal config hands start =
    or_refused (classes.config_refusal config)
    (if not (classes.is_between 1 most_hands hands) then Some refused.Hands
    else if not (nat_le start most_issue) then Some refused.Issue
    else None)

-- the number of a refusal: 1 to 9 as for a configuration, 10 of the number of hands, and 11 of the first issue number
abbrev pub new_error_number : NewError → ℕ
new_error_number (refused.Config error) = classes.config_error_number error
new_error_number (refused.NoMemory _) = 9
new_error_number refused.Hands = 10
new_error_number refused.Issue = 11
