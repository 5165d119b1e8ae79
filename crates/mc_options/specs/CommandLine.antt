-- The command line as clap gets it.
use Rattle.std.specs.Prelude.{List, ℕ, codes, Some}
use Rattle.clap.specs.Words.{App, Rule, new_app, new_rule, with_rule}
use Rattle.clap.specs.declared.builder.action.ArgAction.TheVariants.{SetTrue}
use Rattle.clap.specs.declared.builder.value_parser.ValueParser.TheVariants as vp

-- an option whose value is a number
abbrev pub number_rule : List ℕ → Rule
number_rule name = record (new_rule name) {
  long = Some name;
  value_names = 1;
  parser = Some (vp.Unsigned 0 18446744073709551615);
}

-- the option of the growth factor
abbrev pub factor_rule : Rule
factor_rule = record (new_rule (codes "factor")) { long = Some (codes "factor"); value_names = 1 }

-- the option of the automover's mode: a number from 0 to 2
abbrev pub automove_rule : Rule
automove_rule = record (number_rule (codes "automove")) { parser = Some (vp.Unsigned 0 2) }

-- the flag of the threads, which takes no value
abbrev pub threads_rule : Rule
threads_rule = record (new_rule (codes "threads")) { long = Some (codes "threads"); action = Some SetTrue }

-- the options in their order
abbrev pub mcslab : App
mcslab = with_rule (with_rule (with_rule (with_rule (with_rule (with_rule (with_rule (with_rule (with_rule (new_app (codes "mcslab"))
    (number_rule (codes "page"))) (number_rule (codes "limit"))) (number_rule (codes "first"))) factor_rule)
    (number_rule (codes "max"))) (number_rule (codes "stripes"))) (number_rule (codes "bulk"))) automove_rule) threads_rule
