-- What the statistics print of a survey.
use Rattle.std.specs.Prelude.{ℕ, ◌*◌, ◌^◌, ◌<◌}
use Rattle.mc_classes.specs.Classes.{Classes}
use Rattle.mc_watch.specs.Texts.{AreCounts}
use Rattle.mc_mover.specs.declared.numbers.Survey.{Survey}
use Rattle.mc_mover.specs.Surveying.{free_in, pages_in}

-- the bytes of all pages that were ever granted
abbrev pub granted_in : Classes → Survey → ℕ
granted_in table survey = survey.totals.granted * table.page

-- the statistics of the classes can be printed: the table has the survey's classes, with room for their chunks, and the bytes fit a number
pub record ArePrintable (table : Classes) (survey : Survey) : Type 0 where
  pub counts : AreCounts table (pages_in survey) (free_in survey)
  pub granted : granted_in table survey < 2 ^ 64
