use Rattle.std.proofs.Common.{◌≡◌, ◌∙◌, ◌≤◌, ℕ, None, arith, List, [], ◌∷◌, IfSome, inl, inr, if◌then◌else◌, Bool, true, false, Option, Some, codes, drop, ap, refl, sym, subst}
use Rattle.clap.specs.Words.{HasKind, Kinds, kind_of, first_value, found_of, one_text, HasMatchesOf}
use Rattle.clap.specs.Faults.{fault_of, is_simple_and_free}
use Rattle.clap.specs.Walk.{Rule, arg_by_id}
use Rattle.clap.specs.Simple.{App}
use Rattle.clap.specs.Values.{IsUnsignedIn}
use Rattle.clap.specs.declared.builder.value_parser.ValueParser.TheVariants as vp
use Rattle.clap.specs.declared.parser.matches.ArgMatches.{ArgMatches}
use Rattle.std.proofs.lemmas.Result.{err_from_is_err_and}
use Rattle.clap.specs.declared.error.Error.{Error}
use Rattle.clap.specs.declared.error.kind.ErrorKind.TheVariants.{OutOfMemory}
use Rattle.mc_options.specs.CommandLine.{mcslab}
use Rattle.mc_options.specs.Options.{IsCommandLine, IsNumber, factor_or, number_or, option_value}
use Rattle.mc_options.proofs.OptionCut.{IsName}
use Rattle.mc_options.proofs.OptionParse.{HasValue, first_is, flag_is, no_fault, number_found, one_is, top}
use Rattle.mc_options.proofs.OptionTaken.{no_refusal}
use Rattle.mc_options.proofs.command_line.options.Goals as goal

named : (i : ℕ) (is : List ℕ) → i ∷ is ≡ [] → ⊥
named i is e = cc

-- a number's text passed clap's reader
is_up_to : (most : ℕ) (a : App) (words : List (List ℕ)) (m : ArgMatches) (id : List ℕ) (r : Rule) → a ≡ mcslab → HasMatchesOf a words m → (is_simple_and_free a ≡ true → fault_of a words ≡ []) → IsName id
    → HasValue id → arg_by_id top.rules id ≡ Some r → r.parser ≡ Some (vp.Unsigned 0 most) → IfSome (one_text (found_of m) id) (IsUnsignedIn 0 most)
is_up_to most a words m id r is h kinds n takes found parser =
    let q = no_fault a words is kinds in
    subst (λ (o : Option (List ℕ)). IfSome o (IsUnsignedIn 0 most)) (sym (one_is a words m id is h q n takes)) (number_found words id r most q n takes found parser)

-- so it is a number
is_number : (most : ℕ) (text : Option (List ℕ)) → IfSome text (IsUnsignedIn 0 most) → IfSome text IsNumber
is_number most None h = tt
is_number most (Some text) h = (h.0, h.1)

-- and at most the most
at_most : (most value : ℕ) (text : Option (List ℕ)) → IfSome text (IsUnsignedIn 0 most) → value ≡ number_or 0 text → value ≤ most
at_most most value None h e = rw e (omega arith)
at_most most value (Some text) h e = rw e h.3

-- and is what the words have
number_is : (a : App) (words : List (List ℕ)) (m : ArgMatches) (id : List ℕ) (default value : ℕ) → a ≡ mcslab → HasMatchesOf a words m → (is_simple_and_free a ≡ true → fault_of a words ≡ []) → IsName id
    → HasValue id → value ≡ number_or default (one_text (found_of m) id) → value ≡ number_or default (option_value id (drop 1 words))
number_is a words m id default value is h kinds n takes e = e ∙ ap (number_or default) (one_is a words m id is h (no_fault a words is kinds) n takes)

factor_is : (a : App) (words : List (List ℕ)) (m : ArgMatches) (id : List ℕ) (value : ℕ × ℕ) → a ≡ mcslab → HasMatchesOf a words m → (is_simple_and_free a ≡ true → fault_of a words ≡ []) → IsName id
    → HasValue id → value ≡ factor_or (first_value (found_of m) id) → value ≡ factor_or (option_value id (drop 1 words))
factor_is a words m id value is h kinds n takes e = e ∙ ap factor_or (first_is a words m id is h (no_fault a words is kinds) n takes)

-- the flag's value is whether the words have it
threads_are : (text : Option (List ℕ)) (value has : Bool) → (text ≡ Some (codes "true") → value ≡ true) → (text ≡ Some (codes "false") → value ≡ false)
    → text ≡ Some (if has then codes "true" else codes "false") → value ≡ has
threads_are text value true on off e = on e
threads_are text value false on off e = off e

pub number_or-requires : goal.number_or-requires
number_or-requires g c = is_number _ _ (is_up_to _ _ _ c.in_ok-matches.matches _ _ c.in_ok-command.ensures c.in_ok-matches.ensures.matches c.in_ok-matches.ensures.kinds (refl, named _ _) refl refl refl)

pub number_or-requires-2 : goal.number_or-requires-2
number_or-requires-2 g c = is_number _ _ (is_up_to _ _ _ c.in_ok-matches.matches _ _ c.in_ok-command.ensures c.in_ok-matches.ensures.matches c.in_ok-matches.ensures.kinds (refl, named _ _) refl refl refl)

pub number_or-requires-3 : goal.number_or-requires-3
number_or-requires-3 g c = is_number _ _ (is_up_to _ _ _ c.in_ok-matches.matches _ _ c.in_ok-command.ensures c.in_ok-matches.ensures.matches c.in_ok-matches.ensures.kinds (refl, named _ _) refl refl refl)

pub number_or-requires-4 : goal.number_or-requires-4
number_or-requires-4 g c = is_number _ _ (is_up_to _ _ _ c.in_ok-matches.matches _ _ c.in_ok-command.ensures c.in_ok-matches.ensures.matches c.in_ok-matches.ensures.kinds (refl, named _ _) refl refl refl)

pub number_or-requires-5 : goal.number_or-requires-5
number_or-requires-5 g c = is_number _ _ (is_up_to _ _ _ c.in_ok-matches.matches _ _ c.in_ok-command.ensures c.in_ok-matches.ensures.matches c.in_ok-matches.ensures.kinds (refl, named _ _) refl refl refl)

pub number_or-requires-6 : goal.number_or-requires-6
number_or-requires-6 g c = is_number _ _ (is_up_to _ _ _ c.in_ok-matches.matches _ _ c.in_ok-command.ensures c.in_ok-matches.ensures.matches c.in_ok-matches.ensures.kinds (refl, named _ _) refl refl refl)

pub number_or-requires-7 : goal.number_or-requires-7
number_or-requires-7 g c = is_number _ _ (is_up_to _ _ _ c.in_ok-matches.matches _ _ c.in_ok-command.ensures c.in_ok-matches.ensures.matches c.in_ok-matches.ensures.kinds (refl, named _ _) refl refl refl)

pub returns-clause-taken : goal.returns-clause-taken
returns-clause-taken g c =
    let page = number_is _ _ c.in_ok-matches.matches (codes "page") 1024 c.number_or.result c.in_ok-command.ensures c.in_ok-matches.ensures.matches c.in_ok-matches.ensures.kinds (refl, named _ _) refl c.number_or.ensures in
    let limit = number_is _ _ c.in_ok-matches.matches (codes "limit") 4096 c.number_or-2.result c.in_ok-command.ensures c.in_ok-matches.ensures.matches c.in_ok-matches.ensures.kinds (refl, named _ _) refl c.number_or-2.ensures in
    let first = number_is _ _ c.in_ok-matches.matches (codes "first") 48 c.number_or-3.result c.in_ok-command.ensures c.in_ok-matches.ensures.matches c.in_ok-matches.ensures.kinds (refl, named _ _) refl c.number_or-3.ensures in
    let max = number_is _ _ c.in_ok-matches.matches (codes "max") 512 c.number_or-4.result c.in_ok-command.ensures c.in_ok-matches.ensures.matches c.in_ok-matches.ensures.kinds (refl, named _ _) refl c.number_or-4.ensures in
    let stripes = number_is _ _ c.in_ok-matches.matches (codes "stripes") 4 c.number_or-5.result c.in_ok-command.ensures c.in_ok-matches.ensures.matches c.in_ok-matches.ensures.kinds (refl, named _ _) refl c.number_or-5.ensures in
    let bulk = number_is _ _ c.in_ok-matches.matches (codes "bulk") 64 c.number_or-6.result c.in_ok-command.ensures c.in_ok-matches.ensures.matches c.in_ok-matches.ensures.kinds (refl, named _ _) refl c.number_or-6.ensures in
    let automove = number_is _ _ c.in_ok-matches.matches (codes "automove") 0 c.number_or-7.result c.in_ok-command.ensures c.in_ok-matches.ensures.matches c.in_ok-matches.ensures.kinds (refl, named _ _) refl c.number_or-7.ensures in
    let factor = factor_is _ _ c.in_ok-matches.matches (codes "factor") c.factor_or_default-num.result c.in_ok-command.ensures c.in_ok-matches.ensures.matches c.in_ok-matches.ensures.kinds (refl, named _ _) refl c.factor_or_default-num.ensures in
    let threads = threads_are _ c.get_flag.result _ c.get_flag.ensures.value c.get_flag.ensures.other
    (flag_is _ _ c.in_ok-matches.matches c.in_ok-command.ensures c.in_ok-matches.ensures.matches (no_fault _ _ c.in_ok-command.ensures c.in_ok-matches.ensures.kinds)) in
    λ i. record {
      run = record {
        config = record { page = page i; limit = limit i; first = first i; num = (factor i).0; den = (factor i).1; max = max i; stripes = stripes i; bulk = bulk i };
        automove = automove i;
      };
      threads = threads i;
    }

pub returns-clause-mode : goal.returns-clause-mode
returns-clause-mode g c =
    let mode = is_up_to 2 _ _ c.in_ok-matches.matches (codes "automove") _ c.in_ok-command.ensures c.in_ok-matches.ensures.matches c.in_ok-matches.ensures.kinds (refl, named _ _) refl refl refl in
    at_most 2 c.number_or-7.result _ mode c.number_or-7.ensures

-- a command line fails for want of memory alone
memory_alone : (a : App) (words : List (List ℕ)) (e : Error) → a ≡ mcslab → (is_simple_and_free a ≡ true → HasKind (fault_of a words) e) → IsCommandLine (drop 1 words) → kind_of e ≡ OutOfMemory
memory_alone a words e is kinds line =
    let has : HasKind (fault_of mcslab words) e = subst (λ (b : App). is_simple_and_free b ≡ true → HasKind (fault_of b words) e) is kinds refl in
    let none : HasKind [] e = subst (λ (k : Kinds). HasKind k e) (no_refusal words line) has in
    elim none [ inl memory ↦ memory | inr other ↦ absurd other ]

pub returns-in_err-matches-clause-refused : goal.returns-in_err-matches-clause-refused
returns-in_err-matches-clause-refused g c =
    let p = err_from_is_err_and c.from_residual-in_err-matches.result c.from_residual-in_err-matches.ensures.1 in
    rw (p.1, p.2) (λ line. memory_alone _ _ c.in_err-matches.field-0.0 c.in_ok-command.ensures c.in_err-matches.ensures.kinds line)
