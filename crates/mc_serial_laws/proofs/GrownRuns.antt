-- What every run keeps: the class table, a known mode of the automover, and the pages that were granted.
use Rattle.std.proofs.Common.{◌≡◌, ℕ, ◌≤◌, List, [], ◌∷◌, suc, Bool, true, false, Option, Some, None, refl, sym, ◌∙◌, subst, arith, All}
use Rattle.std.specs.Prelude.{if◌then◌else◌, codes}
use Rattle.std.specs.Option.{option_and_then, option_map}
use Rattle.std.proofs.lemmas.Option.{none-some, same_Some}
use Rattle.mc_classes.specs.Classes.{class_of}
use Rattle.mc_classes.proofs.ClassOf.{class_fits}
use Rattle.mc_pages.specs.declared.ids.ChunkId.{ChunkId}
use Rattle.mc_pages.specs.SlabState.{HasClass, granted_count}
use Rattle.mc_pages.specs.Answer.{answer_of}
use Rattle.mc_script.specs.Command.{IsValid}
use Rattle.mc_script.specs.declared.command.Command.{Command}
use Rattle.mc_script.specs.declared.command.Command.TheVariants.{Set, Delete, Get, Hold, Drop, Touch, Reassign, Automove, Window, Turn, Stats, StatsSlabs}
use Rattle.mc_serial_spec.specs.Item.{Item, item_bytes, counting_words}
use Rattle.mc_serial_spec.specs.Items.{item_in_chunk, linked_chunk, unlinked_items}
use Rattle.mc_serial_spec.specs.Holds.{is_full}
use Rattle.mc_serial_spec.specs.Automove.{decision, with_asked_page, with_window}
use Rattle.mc_serial_spec.specs.Lines.{Outcome, decision_outcome, after_all, after_turn, delete_outcome, release_outcome, hold_outcome_at, hold_outcome, last_hold, release_outcome_at, lookup_outcome, touch_outcome, reassign_outcome, serve, set_outcome_of, set_outcome, reply_only, machine_with_item}
use Rattle.mc_serial_spec.specs.Machine.{Machine, all_swept}
use Rattle.mc_serial_spec.specs.Mover.{TurnsOfMover, after_turns, zero_counts}
use Rattle.mc_serial_spec.specs.Texts.{key_line}
use Rattle.mc_serial_spec.specs.Supply.{asks_for_page, machine_after_supply, supply}
use Rattle.mc_serial_spec.specs.declared.turn.Ending.TheVariants.{Idle}
use Rattle.mc_serial_spec.proofs.Stocks.{IsClass-supplied, nowhere-unlinked}
use Rattle.mc_serial_laws.specs.Answered.{AnsweredCommand}
use Rattle.mc_serial_laws.proofs.Lawful.{IsLawful, Proceeds, proceeds_then}
use Rattle.mc_serial_laws.proofs.ProceedCommands.{lawful_unlinked, proceeds_acted, proceeds_asked, proceeds_fed}
use Rattle.mc_serial_laws.proofs.ProceedPages.{proceeds_supplied}
use Rattle.mc_serial_laws.proofs.ProceedSweeps.{proceeds_all_swept}
use Rattle.mc_serial_laws.proofs.ProceedTurns.{proceeds_turns}
use Rattle.mc_serial_laws.proofs.Told.{AreTold, lawful_stored}
use Rattle.mc_serial_laws.proofs.ToldRuns.{looked_way, told_serve}
use Rattle.mc_serial_laws.proofs.ToldSets.{answered_by}

pub record Grows (old new : Machine) : Type 0 where
  pub table : new.table ≡ old.table
  pub mode : old.slabs.automove ≤ 2 → new.slabs.automove ≤ 2
  pub granted : granted_count old.slabs ≤ granted_count new.slabs

grows_same : (m : Machine) → Grows m m
grows_same m = record { table = refl; mode = λ most. most; granted = omega arith }

grows_then : (a b c : Machine) → Grows a b → Grows b c → Grows a c
grows_then a b c first next = record {
  table = next.table ∙ first.table;
  mode = λ most. next.mode (first.mode most);
  granted = omega (arith, first.granted, next.granted);
}

grows_on : (old new : Machine) → Proceeds old new → Grows old new
grows_on old new goes = record { table = goes.table; mode = λ most. rw goes.mode most; granted = goes.grows }

-- ---- each command

grows_held : (m : Machine) (worker key : ℕ) (full : Bool) (found : Option ChunkId)
    → Grows m (if full then reply_only m (key_line (codes "TOO_MANY_REFS") key) else hold_outcome_at m worker key found).machine
grows_held m worker key true found = grows_same m
grows_held m worker key false None = grows_same m
grows_held m worker key false (Some chunk) = record { table = refl; mode = λ most. most; granted = omega arith }

grows_let_go : (m : Machine) (worker key : ℕ) (chunk : ChunkId) (found : Option Item) → Grows m (release_outcome_at m worker key chunk found).machine
grows_let_go m worker key chunk None = grows_same m
grows_let_go m worker key chunk (Some item) = record { table = refl; mode = λ most. most; granted = omega arith }

grows_dropped : (m : Machine) (worker key : ℕ) (found : Option ChunkId) → Grows m (release_outcome m worker key found).machine
grows_dropped m worker key None = grows_same m
grows_dropped m worker key (Some chunk) = grows_let_go m worker key chunk (item_in_chunk m.items chunk)

grows_deleted : (m : Machine) (key : ℕ) (found : Option ChunkId) → Grows m (delete_outcome m key found).machine
grows_deleted m key None = grows_same m
grows_deleted m key (Some chunk) = record { table = refl; mode = λ most. most; granted = omega arith }

grows_touched : (m : Machine) (key : ℕ) (found : Option ChunkId) → Grows m (touch_outcome m key found).machine
grows_touched m key None = grows_same m
grows_touched m key (Some chunk) = record { table = refl; mode = λ most. most; granted = omega arith }

-- a set, and the page that it may ask for
grows_asked : (m : Machine) (class : ℕ) (asks : Bool) → IsLawful m → Grows m (if asks then with_asked_page m class else m)
grows_asked m class true lawful = grows_on m (with_asked_page m class) (proceeds_asked m None class (answer_of m.slabs None class) lawful refl)
grows_asked m class false lawful = grows_same m

grows_stored : (m : Machine) (class key : ℕ) (words : List ℕ) (asks : Bool) (found : Option ChunkId) → IsLawful m → HasClass m.slabs class → supply m class ≡ found
    → Grows m (set_outcome (machine_after_supply m class) class key words asks found).machine
grows_stored m class key words asks None lawful valid is = grows_on m (machine_after_supply m class) (proceeds_supplied m class lawful valid)
grows_stored m class key words asks (Some chunk) lawful valid is =
    let ready : Machine = machine_after_supply m class in
    let goes : Proceeds m ready = proceeds_supplied m class lawful valid in
    let free : Machine = record ready { items = unlinked_items ready.items key } in
    let now : Machine = machine_with_item ready class key words chunk in
    let lawful_now : IsLawful now
    = lawful_stored free class key words chunk (lawful_unlinked ready key goes.lawful) (IsClass-supplied m class valid) is (nowhere-unlinked ready.items key) in
    grows_then m ready (set_outcome ready class key words asks (Some chunk)).machine (grows_on m ready goes)
    (grows_then ready now (set_outcome ready class key words asks (Some chunk)).machine (record { table = refl; mode = λ most. most; granted = omega arith })
    (grows_asked now class asks lawful_now))

grows_set : (m : Machine) (count key : ℕ) (words : List ℕ) (class : Option ℕ) → IsLawful m → class_of m.table (item_bytes count) ≡ class
    → Grows m (set_outcome_of m class key words).machine
grows_set m count key words None lawful is = grows_same m
grows_set m count key words (Some class) lawful is =
    let there = (class_fits m.table (item_bytes count) class is).0 in
    let valid : HasClass m.slabs class = (there.0, omega (arith, there.1, lawful.kept.classes)) in
    grows_stored m class key words (asks_for_page m class) (supply m class) lawful valid refl

grows_turns : (m : Machine) (turns : ℕ) (served : Outcome) (found : Option TurnsOfMover) → IsLawful m → after_turns m turns ≡ found
    → option_map after_turn found ≡ Some served → Grows m served.machine
grows_turns m turns served None lawful is done = absurd (none-some served done)
grows_turns m turns served (Some t) lawful is done =
    subst (λ (s : Outcome). Grows m s.machine) (same_Some (after_turn t) served done)
    (grows_on m t.machine (proceeds_turns turns (record { machine = m; counts = zero_counts; ending = Idle }) t lawful is))

-- the commands of a run
grows_serve : (m : Machine) (command : Command) (served : Outcome) → IsLawful m → IsValid command → serve m command ≡ Some served → Grows m served.machine
grows_serve m (Set worker key count base) served lawful valid is =
    subst (λ (s : Outcome). Grows m s.machine) (same_Some _ served is)
    (grows_set m count key (counting_words base count) (class_of m.table (item_bytes count)) lawful refl)
grows_serve m (Delete worker key) served lawful valid is =
    subst (λ (s : Outcome). Grows m s.machine) (same_Some _ served is) (grows_deleted m key (linked_chunk m.items key))
grows_serve m (Get worker key) served lawful valid is =
    let same : (lookup_outcome m worker key).machine ≡ m
    = looked_way (is_full m.holds worker) m key (option_and_then (item_in_chunk m.items) (linked_chunk m.items key)) in
    subst (λ (s : Outcome). Grows m s.machine) (same_Some (lookup_outcome m worker key) served is) (subst (λ (n : Machine). Grows m n) (sym same) (grows_same m))
grows_serve m (Hold worker key) served lawful valid is =
    subst (λ (s : Outcome). Grows m s.machine) (same_Some (hold_outcome m worker key) served is)
    (grows_held m worker key (is_full m.holds worker) (linked_chunk m.items key))
grows_serve m (Drop worker key) served lawful valid is =
    subst (λ (s : Outcome). Grows m s.machine) (same_Some _ served is) (grows_dropped m worker key (last_hold m worker key))
grows_serve m (Touch worker key) served lawful valid is =
    subst (λ (s : Outcome). Grows m s.machine) (same_Some _ served is) (grows_touched m key (linked_chunk m.items key))
grows_serve m (Reassign src dst) served lawful valid is =
    let answered : Outcome = reassign_outcome m src dst (answer_of m.slabs src dst) in
    subst (λ (s : Outcome). Grows m s.machine) (same_Some answered served is)
    (grows_on m answered.machine (proceeds_asked m src dst (answer_of m.slabs src dst) lawful refl))
grows_serve m (Automove mode) served lawful valid is =
    subst (λ (s : Outcome). Grows m s.machine) (same_Some _ served is) (record { table = refl; mode = λ most. valid; granted = omega arith })
grows_serve m Window served lawful valid is =
    let fed : Machine = with_window (all_swept m) in
    let goes : Proceeds m fed = proceeds_fed m lawful in
    subst (λ (s : Outcome). Grows m s.machine) (same_Some _ served is)
    (grows_on m (decision_outcome fed (decision fed)).machine (proceeds_then m fed (decision_outcome fed (decision fed)).machine goes (proceeds_acted fed (decision fed) goes.lawful)))
grows_serve m (Turn turns) served lawful valid is = grows_turns m turns served (after_turns m turns) lawful refl is
grows_serve m Stats served lawful valid is = subst (λ (s : Outcome). Grows m s.machine) (same_Some _ served is) (grows_same m)
grows_serve m StatsSlabs served lawful valid is =
    subst (λ (s : Outcome). Grows m s.machine) (same_Some _ served is) (grows_on m (all_swept m) (proceeds_all_swept m lawful))

-- a machine that was told of, and what it has from the one before
record IsLater (old new : Machine) : Type 0 where
  told_so_far : List AnsweredCommand
  told : AreTold new told_so_far
  grows : Grows old new

later_way : (m last : Machine) (before : List AnsweredCommand) (command : Command) (commands : List Command) (found : Option Outcome) → serve m command ≡ found
    → AreTold m before → IsValid command → option_and_then (λ (next : Outcome). after_all next.machine commands) found ≡ Some last
    → ((next : Outcome) → AreTold next.machine (answered_by command next ∷ before) → after_all next.machine commands ≡ Some last → IsLater next.machine last)
    → IsLater m last
later_way m last before command commands None is told valid after more = absurd (none-some last after)
later_way m last before command commands (Some next) is told valid after more =
    let rest : IsLater next.machine last = more next (told_serve m before command next told valid is) after in
    record {
      told_so_far = rest.told_so_far;
      told = rest.told;
      grows = grows_then m next.machine last (grows_serve m command next told.lawful valid is) rest.grows;
    }

later_all : (commands : List Command) (m last : Machine) (before : List AnsweredCommand) → AreTold m before → All IsValid commands → after_all m commands ≡ Some last
    → IsLater m last
later_all [] m last before told valid is =
    subst (λ (n : Machine). IsLater m n) (same_Some m last is) (record { told_so_far = before; told = told; grows = grows_same m })
later_all (command ∷ commands) m last before told valid is =
    later_way m last before command commands (serve m command) refl told (valid 0 command (omega arith)) is
    (λ next told_next after. later_all commands next.machine last (answered_by command next ∷ before) told_next
    (λ k d within. valid (suc k) d (omega (arith, within))) after)

-- a machine after some commands of a lawful one is lawful, and has what that one has
pub grown_run : (commands : List Command) (m last : Machine) (before : List AnsweredCommand) → AreTold m before → All IsValid commands → after_all m commands ≡ Some last
    → Grows m last
grown_run commands m last before told valid is = (later_all commands m last before told valid is).grows

pub lawful_run : (commands : List Command) (m last : Machine) (before : List AnsweredCommand) → AreTold m before → All IsValid commands → after_all m commands ≡ Some last
    → IsLawful last
lawful_run commands m last before told valid is = (later_all commands m last before told valid is).told.lawful
