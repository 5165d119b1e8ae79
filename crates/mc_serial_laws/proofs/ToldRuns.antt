-- What is told after each command of a run.
use Rattle.std.proofs.Common.{◌≡◌, ℕ, List, [], ◌∷◌, length, zero, suc, Bool, true, false, Option, Some, None, Result, refl, ap, sym, ◌∙◌, subst, arith, All}
use Rattle.std.specs.Prelude.{if◌then◌else◌, replicate, codes}
use Rattle.std.specs.Option.{option_and_then, option_map, option_map_or}
use Rattle.std.proofs.lemmas.Option.{none-some, same_Some}
use Rattle.mc_classes.specs.Classes.{Classes, IsSound}
use Rattle.mc_pages.specs.declared.ids.ChunkId.{ChunkId}
use Rattle.mc_pages.specs.declared.moves.Reassign.{Reassign}
use Rattle.mc_pages.specs.ClassState.{times_in}
use Rattle.mc_pages.specs.SlabState.{fresh_slabs}
use Rattle.mc_pages.specs.Answer.{answer_of}
use Rattle.mc_pages.specs.InOrder.{AreSlabsInOrder}
use Rattle.mc_pages.proofs.Kept.{IsInOrder-fresh}
use Rattle.mc_script.specs.Command.{IsValid}
use Rattle.mc_script.specs.declared.command.Command.{Command}
use Rattle.mc_script.specs.declared.command.Command.TheVariants.{Set, Delete, Get, Hold, Drop, Touch, Reassign as ReassignPage, Automove, Window, Turn, Stats, StatsSlabs}
use Rattle.mc_serial_spec.specs.Item.{Item}
use Rattle.mc_serial_spec.specs.Items.{item_in_chunk, linked_chunk}
use Rattle.mc_serial_spec.specs.Holds.{held_by, is_full}
use Rattle.mc_watch.specs.declared.decider.Decision.{Decision}
use Rattle.mc_serial_spec.specs.Automove.{machine_after_begin, decision, with_window}
use Rattle.mc_serial_spec.specs.Lines.{Outcome, decision_outcome, after_all, after_turn, last_hold, lookup_outcome, touch_outcome, get_outcome, reassign_outcome, serve, reply_only}
use Rattle.mc_serial_spec.specs.Machine.{Machine, all_swept, fresh_machine}
use Rattle.mc_serial_spec.specs.Mover.{TurnsOfMover, after_turns, zero_counts}
use Rattle.mc_serial_spec.specs.declared.turn.Ending.TheVariants.{Idle}
use Rattle.mc_serial_spec.specs.Texts.{key_line}
use Rattle.mc_serial_laws.specs.Answered.{AnsweredCommand, answers}
use Rattle.mc_serial_spec.proofs.KeptChanges.{kept_fresh}
use Rattle.mc_serial_laws.proofs.Lawful.{off, proceeds_same, proceeds_then}
use Rattle.mc_serial_laws.proofs.ProceedCommands.{proceeds_acted, proceeds_asked, proceeds_fed, proceeds_touched}
use Rattle.mc_serial_laws.proofs.ProceedSweeps.{proceeds_all_swept}
use Rattle.mc_serial_laws.proofs.ProceedTurns.{proceeds_turns}
use Rattle.mc_serial_laws.proofs.Told.{AreTold, told_automove, told_on}
use Rattle.mc_serial_laws.proofs.ToldSets.{answered_by, told_delete, told_set}
use Rattle.mc_serial_laws.proofs.ToldHolds.{told_drop, told_hold}

-- nobody holds anything at first
none_held : (count worker : ℕ) → held_by (replicate count []) worker ≡ []
none_held zero worker = refl
none_held (suc count) zero = refl
none_held (suc count) (suc worker) = none_held count worker

pub told_fresh : (table : Classes) (bulk mode : ℕ) → IsSound table → AreTold (fresh_machine table bulk mode) []
told_fresh table bulk mode sound =
    let order : AreSlabsInOrder (off (fresh_slabs table)) 0 = IsInOrder-fresh table sound in
    record {
      lawful = record {
        kept = kept_fresh table 0 (off (fresh_slabs table)) [] sound refl order.accounted refl;
        granted = 0;
        order = order;
        workers = refl;
        within_limit = λ worker. omega (arith, ap (λ (cs : List ChunkId). length cs) (none_held 64 worker));
        stored = λ worker chunk held. absurd (omega (arith, held, ap (λ (cs : List ChunkId). times_in chunk cs) (none_held 64 worker)));
      };
      words = λ key chunk item at to. absurd (none-some item at);
      holds = λ worker. rw (none_held 64 worker) tt;
    }

-- the commands that leave words and holds as they are
module _ (m : Machine) (before : List AnsweredCommand) (all : AreTold m before) where
  told_touch : (worker key : ℕ) (found : Option ChunkId) → linked_chunk m.items key ≡ found
      → AreTold (touch_outcome m key found).machine (answered_by (Touch worker key) (touch_outcome m key found) ∷ before)
  told_touch worker key None is = told_on m m before _ all (proceeds_same m all.lawful) (λ q. refl) (λ w. refl)
  told_touch worker key (Some chunk) is =
      told_on m (touch_outcome m key (Some chunk)).machine before _ all (proceeds_touched m key chunk all.lawful is) (λ q. refl) (λ w. refl)

  told_reassign : (src : Option ℕ) (dst : ℕ) (answer : Result ℕ Reassign) → answer_of m.slabs src dst ≡ answer
      → AreTold (reassign_outcome m src dst answer).machine (answered_by (ReassignPage src dst) (reassign_outcome m src dst answer) ∷ before)
  told_reassign src dst answer is = told_on m (machine_after_begin m src dst answer) before _ all (proceeds_asked m src dst answer all.lawful is) (λ q. refl) (λ w. refl)

  -- the dead are put back, the decider learns the numbers, and a page may begin to move
  told_window : (found : Option Decision) → AreTold (decision_outcome (with_window (all_swept m)) found).machine
      (answered_by Window (decision_outcome (with_window (all_swept m)) found) ∷ before)
  told_window found =
      let fed : Machine = with_window (all_swept m) in
      told_on m (decision_outcome fed found).machine before _ all
      (proceeds_then m fed (decision_outcome fed found).machine (proceeds_fed m all.lawful) (proceeds_acted fed found (proceeds_fed m all.lawful).lawful))
      (λ q. refl) (λ w. refl)

  told_turns : (turns : ℕ) (served : Outcome) (found : Option TurnsOfMover) → after_turns m turns ≡ found → option_map after_turn found ≡ Some served
      → AreTold served.machine (answered_by (Turn turns) served ∷ before)
  told_turns turns served None is done = absurd (none-some served done)
  told_turns turns served (Some t) is done =
      subst (λ (s : Outcome). AreTold s.machine (answered_by (Turn turns) s ∷ before)) (same_Some (after_turn t) served done)
      (told_on m t.machine before _ all (proceeds_turns turns (record { machine = m; counts = zero_counts; ending = Idle }) t all.lawful is)
      (λ q. refl) (λ w. refl))

  told_get : (worker key : ℕ) (served : Outcome) → served.machine ≡ m → AreTold served.machine (answered_by (Get worker key) served ∷ before)
  told_get worker key served same =
      rw same (told_on m m before (answered_by (Get worker key) served) all (proceeds_same m all.lawful) (λ q. refl) (λ w. refl))

-- a look-up changes nothing
pub looked_way : (full : Bool) (m : Machine) (key : ℕ) (found : Option Item)
    → (if full then reply_only m (key_line (codes "TOO_MANY_REFS") key) else get_outcome m key found).machine ≡ m
looked_way true m key found = refl
looked_way false m key None = refl
looked_way false m key (Some item) = refl

-- a command of a run
pub told_serve : (m : Machine) (before : List AnsweredCommand) (command : Command) (served : Outcome) → AreTold m before → IsValid command → serve m command ≡ Some served
    → AreTold served.machine (answered_by command served ∷ before)
told_serve m before (Set worker key count base) served all valid is =
    subst (λ (s : Outcome). AreTold s.machine (answered_by (Set worker key count base) s ∷ before)) (same_Some _ served is)
    (told_set before worker key count base m all)
told_serve m before (Delete worker key) served all valid is =
    subst (λ (s : Outcome). AreTold s.machine (answered_by (Delete worker key) s ∷ before)) (same_Some _ served is)
    (told_delete m before worker key (linked_chunk m.items key) all refl)
told_serve m before (Get worker key) served all valid is =
    let one : lookup_outcome m worker key ≡ served = same_Some _ served is in
    let same : served.machine ≡ m
    = ap (λ (s : Outcome). s.machine) (sym one) ∙ looked_way (is_full m.holds worker) m key (option_and_then (item_in_chunk m.items) (linked_chunk m.items key)) in
    told_get m before all worker key served same
told_serve m before (Hold worker key) served all valid is =
    subst (λ (s : Outcome). AreTold s.machine (answered_by (Hold worker key) s ∷ before)) (same_Some _ served is)
    (told_hold m before worker key (is_full m.holds worker) all valid.0.1 refl)
told_serve m before (Drop worker key) served all valid is =
    subst (λ (s : Outcome). AreTold s.machine (answered_by (Drop worker key) s ∷ before)) (same_Some _ served is)
    (told_drop m before worker key (last_hold m worker key) all valid.0.1 refl)
told_serve m before (Touch worker key) served all valid is =
    subst (λ (s : Outcome). AreTold s.machine (answered_by (Touch worker key) s ∷ before)) (same_Some _ served is)
    (told_touch m before all worker key (linked_chunk m.items key) refl)
told_serve m before (ReassignPage src dst) served all valid is =
    subst (λ (s : Outcome). AreTold s.machine (answered_by (ReassignPage src dst) s ∷ before)) (same_Some _ served is)
    (told_reassign m before all src dst (answer_of m.slabs src dst) refl)
told_serve m before (Automove mode) served all valid is =
    subst (λ (s : Outcome). AreTold s.machine (answered_by (Automove mode) s ∷ before)) (same_Some _ served is)
    (told_automove m mode _ (told_on m m before _ all (proceeds_same m all.lawful) (λ q. refl) (λ w. refl)))
told_serve m before Window served all valid is =
    subst (λ (s : Outcome). AreTold s.machine (answered_by Window s ∷ before)) (same_Some _ served is)
    (told_window m before all (decision (with_window (all_swept m))))
told_serve m before (Turn turns) served all valid is = told_turns m before all turns served (after_turns m turns) refl is
told_serve m before Stats served all valid is =
    subst (λ (s : Outcome). AreTold s.machine (answered_by Stats s ∷ before)) (same_Some _ served is)
    (told_on m m before _ all (proceeds_same m all.lawful) (λ q. refl) (λ w. refl))
told_serve m before StatsSlabs served all valid is =
    subst (λ (s : Outcome). AreTold s.machine (answered_by StatsSlabs s ∷ before)) (same_Some _ served is)
    (told_on m (all_swept m) before _ all (proceeds_all_swept m all.lawful) (λ q. refl) (λ w. refl))

-- and those behind it
served_way : (m last : Machine) (before : List AnsweredCommand) (command : Command) (commands : List Command) (found : Option Outcome) → serve m command ≡ found
    → AreTold m before → IsValid command → option_and_then (λ (next : Outcome). after_all next.machine commands) found ≡ Some last
    → ((next : Outcome) → AreTold next.machine (answered_by command next ∷ before) → after_all next.machine commands ≡ Some last
    → AreTold last (answers next.machine commands (answered_by command next ∷ before)))
    → AreTold last (option_map_or (λ (next : Outcome). answers next.machine commands (answered_by command next ∷ before)) found before)
served_way m last before command commands None is all valid after more = absurd (none-some last after)
served_way m last before command commands (Some next) is all valid after more = more next (told_serve m before command next all valid is) after

-- all commands of a run
told_all : (commands : List Command) (m last : Machine) (before : List AnsweredCommand) → AreTold m before → All IsValid commands → after_all m commands ≡ Some last
    → AreTold last (answers m commands before)
told_all [] m last before all valid is = subst (λ (n : Machine). AreTold n before) (same_Some m last is) all
told_all (command ∷ commands) m last before all valid is =
    served_way m last before command commands (serve m command) refl all (valid 0 command (omega arith)) is
    (λ next told_next after. told_all commands next.machine last (answered_by command next ∷ before) told_next (λ k d within. valid (suc k) d (omega (arith, within))) after)

pub told_run : (table : Classes) (bulk mode : ℕ) (commands : List Command) (last : Machine) → IsSound table → All IsValid commands
    → after_all (fresh_machine table bulk mode) commands ≡ Some last → AreTold last (answers (fresh_machine table bulk mode) commands [])
told_run table bulk mode commands last sound valid is = told_all commands (fresh_machine table bulk mode) last [] (told_fresh table bulk mode sound) valid is
