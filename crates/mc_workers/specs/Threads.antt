-- Workers in threads of their own beside the mover, and their replies when all had ended.
use Rattle.std.specs.Prelude.{◌≡◌, ◌⊎◌, ℕ, ◌+◌, true, List, [], ◌∷◌, ◌++◌}
use Rattle.mc_words.specs.declared.arena.Arena.{Arena}
use Rattle.mc_words.specs.declared.hand.Hand.{Hand}
use Rattle.mc_words.specs.hand.Arenas.{IsHandOf, setup_of, view}
use Rattle.mc_words.specs.hand.Idle.{is_idle}
use Rattle.mc_words.specs.rule.Joins.{KnowledgeAgrees}
use Rattle.mc_words.specs.hand.Ready.{IsReady}
use Rattle.mc_words.specs.hand.View.{Setup, both_views}
use Rattle.mc_script.specs.declared.command.Command.{Command}
use Rattle.mc_workers.specs.declared.threads.Joined.{Joined}
use Rattle.mc_workers.specs.declared.threads.Served.{Served}
use Rattle.mc_workers.specs.Lines.{DoesLines}
use Rattle.mc_workers.specs.Moves.{MovesLines}

-- the worker's thread did its lines by this hand: the hand is idle then, and the text has the replies
pub record LinesAreServed (arena : Arena) (worker : ℕ) (commands : List Command) (hand : Hand) (served : Served) : Type 0 where
  pub of_arena : IsHandOf arena served.hand
  pub idle : is_idle (view served.hand) ≡ true
  pub does : DoesLines (setup_of arena) worker commands hand served.text.items served.hand

-- the mover did its lines by this hand, and there are no replies of workers
pub record IsMoved (arena : Arena) (commands : List Command) (hand : Hand) (joined : Joined) : Type 0 where
  pub of_arena : IsHandOf arena joined.hand
  pub idle : is_idle (view joined.hand) ≡ true
  pub none : joined.workers.items ≡ []
  pub moves : MovesLines (setup_of arena).table commands hand joined.mover.items joined.hand

-- the first hand took the worker's over, and the worker's text is before that of the others
pub record JoinsBoth (arena : Arena) (own : Served) (others : Joined) (joined : Joined) : Type 0 where
  pub of_arena : IsHandOf arena joined.hand
  pub agree : KnowledgeAgrees (view joined.hand).row.knows
  pub both : view joined.hand ≡ both_views (view others.hand) (view own.hand)
  pub workers : joined.workers.items ≡ own.text.items ++ others.workers.items
  pub mover : joined.mover.items ≡ others.mover.items

-- the workers from this number on did their lines, each by a hand of its own. The text has their replies, one worker's behind the other's.
-- Then the first hand took the others over, the last worker's before all
abbrev pub RunsWorkers : Setup → List Command → ℕ → List Hand → Hand → List ℕ → Hand → Type 0
RunsWorkers setup commands worker [] first text last = (text ≡ []) × (last ≡ first)
RunsWorkers setup commands worker (hand ∷ hands) first text last =
    (own : List ℕ) × (others : List ℕ) × (done : Hand) × (taken : Hand)
    × DoesLines setup worker commands hand own done
    × RunsWorkers setup commands (worker + 1) hands first others taken
    × (text ≡ own ++ others)
    × (view last ≡ both_views (view taken) (view done))

-- all threads did their lines: the mover by this hand, and the workers from this number on by these; what each stored and knows agrees
pub record AreDone (arena : Arena) (worker : ℕ) (commands : List Command) (hands : List Hand) (mover : Hand) (joined : Joined) : Type 0 where
  pub of_arena : IsHandOf arena joined.hand
  pub idle : is_idle (view joined.hand) ≡ true
  pub ready : IsReady (view joined.hand)
  pub agree : (hands ≡ []) ⊎ KnowledgeAgrees (view joined.hand).row.knows
  pub moved : Hand
  pub moves : MovesLines (setup_of arena).table commands mover joined.mover.items moved
  pub runs : RunsWorkers (setup_of arena) commands worker hands moved joined.workers.items joined.hand
