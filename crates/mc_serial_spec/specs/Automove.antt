-- The automover: what a window feeds the decider, and what is done with the decision.
use Rattle.std.specs.Prelude.{ℕ, ◌==◌, if◌then◌else◌, List, length, map, Option, None, Result, Ok, Err}
use Rattle.mc_pages.specs.declared.moves.Reassign.{Reassign}
use Rattle.mc_pages.specs.SlabState.{SlabState}
use Rattle.mc_pages.specs.Moves.{after_begin}
use Rattle.mc_pages.specs.Answer.{answer_of}
use Rattle.mc_watch.specs.declared.decider.Decision.{Decision}
use Rattle.mc_watch.specs.Decider.{after_window, decision_of}
use Rattle.mc_serial_spec.specs.Machine.{Machine}

-- how many items of each class were ever evicted to make room
abbrev pub eviction_counts : SlabState → List ℕ
eviction_counts slabs = map (λ class. class.evictions) slabs.classes

-- how many pages each class has
abbrev pub class_page_counts : SlabState → List ℕ
class_page_counts slabs = map (λ class. length class.pages) slabs.classes

-- how many free chunks each class has
abbrev pub free_counts : SlabState → List ℕ
free_counts slabs = map (λ class. length class.free) slabs.classes

-- the machine after a page began to move, where the answer allows that
abbrev pub machine_after_begin : Machine → Option ℕ → ℕ → Result ℕ Reassign → Machine
machine_after_begin m src dst (Err refusal) = m
machine_after_begin m src dst (Ok source) = record m { slabs = after_begin m.slabs src source dst }

-- a page is asked for, from any class to this one; the answer doesn't matter
abbrev pub with_asked_page : Machine → ℕ → Machine
with_asked_page m class = machine_after_begin m None class (answer_of m.slabs None class)

-- the machine after a window ended, with its numbers fed to the automover
abbrev pub with_window : Machine → Machine
with_window m = record m { decider = after_window m.decider (eviction_counts m.slabs) (class_page_counts m.slabs) (free_counts m.slabs) }

-- the decision that is acted on: in mode 1 alone there may be one
abbrev pub decision : Machine → Option Decision
decision m = if m.slabs.automove == 1 then decision_of m.decider else None
