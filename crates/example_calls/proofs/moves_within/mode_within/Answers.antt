use Rattle.std.proofs.Common.{◌≡◌, ℕ, Result, Err, ap, arith, refl, sym, ◌∙◌}
use Rattle.mc_pages.specs.SlabState.{SlabState}
use Rattle.mc_words.specs.hand.Arenas.{view}
use Rattle.mc_words.specs.hand.View.{View}
use Rattle.mc_mover.specs.declared.numbers.Survey.{Survey}
use Rattle.mc_mover.specs.declared.within.SurveyWithin.{SurveyWithin}
use Rattle.mc_mover.specs.declared.within.SurveyWithin.TheVariants.{NoMemory, Held}
use Rattle.example_calls.proofs.Misses.{misses_slabs}
use Rattle.example_calls.proofs.moves_within.mode_within.Goals as goal

-- the lock was held at each try
abbrev SaysHeld : (T : Type 0) → Result T SurveyWithin → Type 0
SaysHeld T result = result ≡ Err Held

-- an error that is passed on says so, too
passed_on : (error : SurveyWithin) → SaysHeld ℕ (Err error) → SaysHeld Survey (Err error)
passed_on Held is = refl
passed_on (NoMemory refused) is = absurd (cc)

pub returns-in-Ok-clause-mode : goal.returns-in-Ok-clause-mode
returns-in-Ok-clause-mode c =
    let holds = c.in-Ok.ensures.surveys in
    holds.does.is.mode ∙ ap (λ (s : SlabState). s.automove) (sym (ap (λ (v : View). v.row.knows.hold.left) holds.given))

pub returns-in-Err-clause-missed : goal.returns-in-Err-clause-missed
returns-in-Err-clause-missed c is =
    let missed = c.in-Err.ensures.missed (passed_on c.in-Err.error is) in
    let more = misses_slabs missed.words (view c.args.hand.now) (view c.survey_within.new.hand) missed.misses in
    let count = missed.count in
    omega (arith, more, count)
