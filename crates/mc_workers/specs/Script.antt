-- A whole script by threads, on an arena of its own.
use Rattle.std.specs.Prelude.{◌≡◌, ℕ, ◌+◌, true, List, ◌++◌, length}
use Rattle.mc_classes.specs.declared.config.Config.{Config}
use Rattle.mc_classes.specs.Classes.{Classes}
use Rattle.mc_core.specs.model.InOrder.{IsOfTable}
use Rattle.mc_words.specs.declared.arena.Arena.{Arena}
use Rattle.mc_words.specs.declared.hand.Hand.{Hand}
use Rattle.mc_words.specs.hand.Arenas.{setup_of}
use Rattle.mc_words.specs.lock.Doing.{SlabsDoing}
use Rattle.mc_words.specs.hand.Hands.{AreHandsFrom, IsMadeWith, IsNewHand}
use Rattle.mc_mover.specs.declared.numbers.Survey.{Survey}
use Rattle.mc_mover.specs.Acting.{ActsOnceByNumber}
use Rattle.mc_mover.specs.Reassigning.{SetsMode}
use Rattle.mc_mover.specs.Surveying.{Surveys}
use Rattle.mc_script.specs.declared.command.Command.{Command}
use Rattle.mc_workers.specs.declared.threads.Joined.{Joined}
use Rattle.mc_workers.specs.Asking.{greatest_worker}
use Rattle.mc_workers.specs.MoverReplies.{statistics_text}
use Rattle.mc_workers.specs.Threads.{AreDone}

-- an arena was made with n hands; the mover's, the first, set the mode, and the others did nothing yet
pub record IsOpened (config : Config) (mode hands : ℕ) (arena : Arena) (mover : Hand) (workers : List Hand) : Type 0 where
  pub made : IsMadeWith config hands 0 (setup_of arena)
  pub first : Hand
  pub new : IsNewHand arena 0 first
  pub sets : ActsOnceByNumber (λ number. SetsMode number mode) first mover
  pub others : AreHandsFrom arena 1 workers
  pub count : 1 + length workers ≡ hands

-- the dead chunks of all classes were put back, and the survey is of what was left then: pages and lists of this table
abbrev pub SurveysWhole : Classes → Survey → SlabsDoing
SurveysWhole table survey view slabs now left = Surveys true survey view slabs now left × IsOfTable table left

-- the text has the workers' replies, then the mover's, and then the statistics of a survey that the one hand of all made last
pub record PrintsAll (arena : Arena) (joined : Joined) (text : List ℕ) : Type 0 where
  pub survey : Survey
  pub last : Hand
  pub surveys : ActsOnceByNumber (λ number. SurveysWhole (setup_of arena).table survey) joined.hand last
  pub told : text ≡ joined.workers.items ++ joined.mover.items ++ statistics_text (setup_of arena).table survey

-- the script's lines were done on a new arena, with a hand for the mover and one for each worker. The text has their replies
pub record ServesScript (config : Config) (mode : ℕ) (commands : List Command) (text : List ℕ) : Type 0 where
  pub arena : Arena
  pub mover : Hand
  pub workers : List Hand
  pub opened : IsOpened config mode (1 + greatest_worker commands) arena mover workers
  pub joined : Joined
  pub done : AreDone arena 1 commands workers mover joined
  pub tells : PrintsAll arena joined text
