-- What is known after each command of a run.
use Rattle.std.proofs.Common.{◌≡◌, ℕ, List, [], ◌∷◌, suc, Option, Some, None, refl, ap, sym, ◌∙◌, subst, arith, All}
use Rattle.std.specs.Option.{option_and_then, option_map, option_map_or}
use Rattle.std.proofs.lemmas.Bool.{false≢true}
use Rattle.std.proofs.lemmas.Option.{none-some, same_Some}
use Rattle.mc_classes.specs.Classes.{Classes, IsSound, class_of}
use Rattle.mc_pages.specs.Answer.{answer_of}
use Rattle.mc_script.specs.Command.{IsValid}
use Rattle.mc_script.specs.declared.command.Command.{Command}
use Rattle.mc_script.specs.declared.command.Command.TheVariants.{Set, Delete, Get, Hold, Drop, Touch, Reassign, Automove, Window, Turn, Stats, StatsSlabs}
use Rattle.mc_serial_spec.specs.Item.{item_bytes}
use Rattle.mc_serial_spec.specs.Items.{item_in_chunk, linked_chunk}
use Rattle.mc_serial_spec.specs.Holds.{is_full}
use Rattle.mc_watch.specs.declared.decider.Decision.{Decision}
use Rattle.mc_serial_spec.specs.Automove.{decision, with_window}
use Rattle.mc_serial_spec.specs.Lines.{Outcome, decision_outcome, after_all, after_turn, last_hold, lookup_outcome, reassign_outcome, serve}
use Rattle.mc_serial_spec.specs.Machine.{Machine, all_swept, fresh_machine}
use Rattle.mc_serial_spec.specs.Mover.{TurnsOfMover, after_turns, zero_counts}
use Rattle.mc_serial_spec.specs.declared.turn.Ending.TheVariants.{Idle}
use Rattle.mc_serial_laws.specs.Answered.{AnsweredCommand, answers}
use Rattle.mc_serial_laws.specs.Stays.{GetsWords}
use Rattle.mc_serial_laws.proofs.Known.{AreKnown, HasItem, known_after, known_on, leads_there}
use Rattle.mc_serial_laws.proofs.KnownHolds.{known_drop, known_get, known_hold, known_touch}
use Rattle.mc_serial_laws.proofs.KnownSets.{known_delete, known_set, spares_begun}
use Rattle.mc_serial_laws.proofs.Lawful.{proceeds_same, proceeds_then}
use Rattle.mc_serial_laws.proofs.ProceedCommands.{proceeds_acted, proceeds_asked, proceeds_fed}
use Rattle.mc_serial_laws.proofs.ProceedSweeps.{proceeds_all_swept}
use Rattle.mc_serial_laws.proofs.ProceedTurns.{proceeds_turns}
use Rattle.mc_serial_laws.proofs.Spares.{Spares, spares_all_swept, spares_items, spares_then}
use Rattle.mc_serial_laws.proofs.Told.{AreTold}
use Rattle.mc_serial_laws.proofs.ToldPresent.{get_found}
use Rattle.mc_serial_laws.proofs.ToldRuns.{looked_way, told_fresh, told_serve}
use Rattle.mc_serial_laws.proofs.ToldSets.{answered_by}

-- nothing was answered yet
known_fresh : (table : Classes) (bulk mode : ℕ) → AreKnown (fresh_machine table bulk mode) []
known_fresh table bulk mode = record {
  seen = λ key is. absurd (false≢true is);
  held = λ worker key some. absurd (omega (arith, some));
}

module _ (m : Machine) (before : List AnsweredCommand) (all : AreTold m before) (known : AreKnown m before) where
  -- the dead are put back, the decider learns the numbers, and a page may begin to move
  spares_acted : (fed : Machine) (found : Option Decision) → Spares fed (decision_outcome fed found).machine
  spares_acted fed None = spares_items fed fed refl
  spares_acted fed (Some d) = spares_begun fed (Some d.src) d.dst (answer_of fed.slabs (Some d.src) d.dst)

  known_window : (found : Option Decision) → AreKnown (decision_outcome (with_window (all_swept m)) found).machine
      (answered_by Window (decision_outcome (with_window (all_swept m)) found) ∷ before)
  known_window found =
      let fed : Machine = with_window (all_swept m) in
      known_on m (decision_outcome fed found).machine before (answered_by Window (decision_outcome fed found)) known
      (proceeds_then m fed (decision_outcome fed found).machine (proceeds_fed m all.lawful) (proceeds_acted fed found (proceeds_fed m all.lawful).lawful))
      (spares_then m (all_swept m) (decision_outcome fed found).machine (spares_all_swept m all.lawful)
      (spares_then (all_swept m) fed (decision_outcome fed found).machine (spares_items (all_swept m) fed refl) (spares_acted fed found)))
      (λ q bad. absurd (false≢true bad)) (λ w q. refl)

  known_turns : (turns : ℕ) (served : Outcome) (found : Option TurnsOfMover) → after_turns m turns ≡ found → option_map after_turn found ≡ Some served
      → AreKnown served.machine (answered_by (Turn turns) served ∷ before)
  known_turns turns served None is done = absurd (none-some served done)
  known_turns turns served (Some t) is done =
      subst (λ (s : Outcome). AreKnown s.machine (answered_by (Turn turns) s ∷ before)) (same_Some (after_turn t) served done)
      (known_after m t.machine before (answered_by (Turn turns) (after_turn t)) known
      (proceeds_turns turns (record { machine = m; counts = zero_counts; ending = Idle }) t all.lawful is)
      (λ q bad. absurd (false≢true bad)) (λ w q. refl))

-- a command of a run
known_serve : (m : Machine) (before : List AnsweredCommand) (command : Command) (served : Outcome) → AreTold m before → AreKnown m before → IsValid command
    → serve m command ≡ Some served → AreKnown served.machine (answered_by command served ∷ before)
known_serve m before (Set worker key count base) served all known valid is =
    subst (λ (s : Outcome). AreKnown s.machine (answered_by (Set worker key count base) s ∷ before)) (same_Some _ served is)
    (known_set before worker key count base m (class_of m.table (item_bytes count)) all.lawful known refl)
known_serve m before (Delete worker key) served all known valid is =
    subst (λ (s : Outcome). AreKnown s.machine (answered_by (Delete worker key) s ∷ before)) (same_Some _ served is)
    (known_delete m before worker key (linked_chunk m.items key) all.lawful known refl)
known_serve m before (Get worker key) served all known valid is =
    let one : lookup_outcome m worker key ≡ served = same_Some _ served is in
    let same : (lookup_outcome m worker key).machine ≡ m
    = looked_way (is_full m.holds worker) m key (option_and_then (item_in_chunk m.items) (linked_chunk m.items key)) in
    subst (λ (s : Outcome). AreKnown s.machine (answered_by (Get worker key) s ∷ before)) one
    (subst (λ (n : Machine). AreKnown n (answered_by (Get worker key) (lookup_outcome m worker key) ∷ before)) (sym same) (known_get m before all known worker key))
known_serve m before (Hold worker key) served all known valid is =
    subst (λ (s : Outcome). AreKnown s.machine (answered_by (Hold worker key) s ∷ before)) (same_Some _ served is)
    (known_hold m before worker key (is_full m.holds worker) (linked_chunk m.items key) all known valid.0.1 refl)
known_serve m before (Drop worker key) served all known valid is =
    subst (λ (s : Outcome). AreKnown s.machine (answered_by (Drop worker key) s ∷ before)) (same_Some _ served is)
    (known_drop m before worker key (last_hold m worker key) all known valid.0.1 refl)
known_serve m before (Touch worker key) served all known valid is =
    subst (λ (s : Outcome). AreKnown s.machine (answered_by (Touch worker key) s ∷ before)) (same_Some _ served is)
    (known_touch m before all known worker key (linked_chunk m.items key) refl)
known_serve m before (Reassign src dst) served all known valid is =
    let answered : Outcome = reassign_outcome m src dst (answer_of m.slabs src dst) in
    subst (λ (s : Outcome). AreKnown s.machine (answered_by (Reassign src dst) s ∷ before)) (same_Some answered served is)
    (known_on m answered.machine before (answered_by (Reassign src dst) answered) known (proceeds_asked m src dst (answer_of m.slabs src dst) all.lawful refl)
    (spares_begun m src dst (answer_of m.slabs src dst)) (λ q bad. absurd (false≢true bad)) (λ w q. refl))
known_serve m before (Automove mode) served all known valid is =
    subst (λ (s : Outcome). AreKnown s.machine (answered_by (Automove mode) s ∷ before)) (same_Some _ served is)
    (record {
      seen = λ q seen. known.seen q seen;
      held = λ w q some. let holds = known.held w q some in record { has = holds.has; at_limit = holds.at_limit };
    })
known_serve m before Window served all known valid is =
    subst (λ (s : Outcome). AreKnown s.machine (answered_by Window s ∷ before)) (same_Some _ served is)
    (known_window m before all known (decision (with_window (all_swept m))))
known_serve m before (Turn turns) served all known valid is = known_turns m before all known turns served (after_turns m turns) refl is
known_serve m before Stats served all known valid is =
    subst (λ (s : Outcome). AreKnown s.machine (answered_by Stats s ∷ before)) (same_Some _ served is)
    (known_on m m before _ known (proceeds_same m all.lawful) (spares_items m m refl) (λ q bad. absurd (false≢true bad)) (λ w q. refl))
known_serve m before StatsSlabs served all known valid is =
    subst (λ (s : Outcome). AreKnown s.machine (answered_by StatsSlabs s ∷ before)) (same_Some _ served is)
    (known_on m (all_swept m) before _ known (proceeds_all_swept m all.lawful) (spares_all_swept m all.lawful) (λ q bad. absurd (false≢true bad)) (λ w q. refl))

-- and those behind it
served_way : (m last : Machine) (before : List AnsweredCommand) (command : Command) (commands : List Command) (found : Option Outcome) → serve m command ≡ found
    → AreTold m before → AreKnown m before → IsValid command → option_and_then (λ (next : Outcome). after_all next.machine commands) found ≡ Some last
    → ((next : Outcome) → AreTold next.machine (answered_by command next ∷ before) → AreKnown next.machine (answered_by command next ∷ before)
    → after_all next.machine commands ≡ Some last → AreKnown last (answers next.machine commands (answered_by command next ∷ before)))
    → AreKnown last (option_map_or (λ (next : Outcome). answers next.machine commands (answered_by command next ∷ before)) found before)
served_way m last before command commands None is all known valid after more = absurd (none-some last after)
served_way m last before command commands (Some next) is all known valid after more =
    more next (told_serve m before command next all valid is) (known_serve m before command next all known valid is) after

known_all : (commands : List Command) (m last : Machine) (before : List AnsweredCommand) → AreTold m before → AreKnown m before → All IsValid commands
    → after_all m commands ≡ Some last → AreKnown last (answers m commands before)
known_all [] m last before all known valid is = subst (λ (n : Machine). AreKnown n before) (same_Some m last is) known
known_all (command ∷ commands) m last before all known valid is =
    served_way m last before command commands (serve m command) refl all known (valid 0 command (omega arith)) is
    (λ next told_next known_next after. known_all commands next.machine last (answered_by command next ∷ before) told_next known_next
    (λ k d within. valid (suc k) d (omega (arith, within))) after)

pub known_run : (table : Classes) (bulk mode : ℕ) (commands : List Command) (last : Machine) → IsSound table → All IsValid commands
    → after_all (fresh_machine table bulk mode) commands ≡ Some last → AreKnown last (answers (fresh_machine table bulk mode) commands [])
known_run table bulk mode commands last sound valid is =
    known_all commands (fresh_machine table bulk mode) last [] (told_fresh table bulk mode sound) (known_fresh table bulk mode) valid is

-- a key that has an item has its last words
pub gets_words : (m : Machine) (answers : List AnsweredCommand) → AreTold m answers → (key : ℕ) → HasItem m.items key → GetsWords m answers key
gets_words m answers all key has =
    let leads : linked_chunk m.items key ≡ Some has.chunk
    = leads_there has.chunk has.item key m.items has.there has.linked (all.lawful.kept.one_link key) in
    λ worker served is. (
      has.item.words,
      all.words key has.chunk has.item has.there has.linked,
      ap (λ (s : Outcome). s.reply) (sym (same_Some (lookup_outcome m worker key) served is))
          ∙ get_found m answers all worker key (Some has.item) (ap (option_and_then (item_in_chunk m.items)) leads ∙ has.there),
    )
