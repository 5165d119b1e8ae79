-- The text of a reply to a line of the mover.
use Rattle.std.specs.Prelude.{ℕ, List, [], ◌∷◌, ◌++◌, codes, Option, Some, None, Result, Ok, Err}
use Rattle.mc_classes.specs.Classes.{Classes}
use Rattle.mc_pages.specs.declared.moves.Reassign.{Reassign}
use Rattle.mc_pages.specs.Accounted.{truth}
use Rattle.mc_mover.specs.Surveying.{free_in, pages_in}
use Rattle.mc_mover.specs.declared.numbers.Survey.{Survey}
use Rattle.mc_watch.specs.Texts.{general_text, line, slabs_text}
use Rattle.mc_serial_spec.specs.Lines.{refusal_name}
use Rattle.mc_serial_spec.specs.Texts.{spaced_words, turn_line}
use Rattle.mc_workers.specs.declared.mover_reply.Acted.{Acted}
use Rattle.mc_workers.specs.declared.mover_reply.MoverReply.{MoverReply}
use Rattle.mc_workers.specs.declared.mover_reply.MoverReply.TheVariants.{Answer, Mode, Window, Turned, Totals, Classes as OfClasses}
use Rattle.mc_workers.specs.Surveyed.{ArePrintable, granted_in}

-- the word for whether a page began to move
abbrev pub reassign_word : Result (Unit {0}) Reassign → List ℕ
reassign_word (Ok began) = codes "OK"
reassign_word (Err refusal) = refusal_name refusal

-- what became of the decision at a window's end, if one was acted on
abbrev pub window_text : Option Acted → List ℕ
window_text None = line (codes "WINDOW none")
window_text (Some acted) =
    line (codes "WINDOW" ++ spaced_words (acted.decision.src ∷ acted.decision.dst ∷ []) ++ codes " " ++ reassign_word acted.answer)

-- the statistics of all classes together
abbrev pub totals_text : Survey → List ℕ
totals_text survey =
    let totals = survey.totals in
    general_text totals.pool (truth survey.running) totals.moved totals.rescues totals.evictions_nomem totals.busy

-- the statistics of the classes
abbrev pub class_statistics_text : Classes → Survey → List ℕ
class_statistics_text table survey = slabs_text table (pages_in survey) (free_in survey) (granted_in table survey)

-- the text of all statistics: those of the classes, and then the totals
abbrev pub statistics_text : Classes → Survey → List ℕ
statistics_text table survey = class_statistics_text table survey ++ totals_text survey

-- the lines of a reply, where the classes are those of the table
abbrev pub mover_text : Classes → MoverReply → List ℕ
mover_text table (Answer answer) = line (reassign_word answer)
mover_text table Mode = line (codes "OK")
mover_text table (Window acted trimmed) = window_text acted
mover_text table (Turned ending counts) = turn_line ending counts
mover_text table (Totals survey) = totals_text survey
mover_text table (OfClasses survey) = class_statistics_text table survey

-- a reply's survey of the classes, if it has one, can be printed
abbrev pub CanPrint : Classes → MoverReply → Type 0
CanPrint table (OfClasses survey) = ArePrintable table survey
CanPrint table other = Unit {0}
