-- What is told after a set and after a delete.
use Rattle.std.proofs.Common.{◌≡◌, ℕ, List, ◌∷◌, Bool, true, false, Option, Some, None, refl, arith}
use Rattle.std.specs.Prelude.{if◌then◌else◌, ◌==◌, ◌&&◌, codes}
use Rattle.std.specs.Str.{bytes_eq}
use Rattle.std.proofs.lemmas.Slice.Eq.{bytes_eq-Decides}
use Rattle.std.proofs.Common.{eq-eqb}
use Rattle.mc_classes.specs.Classes.{class_of}
use Rattle.mc_classes.proofs.ClassOf.{class_fits}
use Rattle.mc_pages.specs.declared.ids.ChunkId.{ChunkId}
use Rattle.mc_pages.specs.SlabState.{HasClass}
use Rattle.mc_script.specs.declared.command.Command.{Command}
use Rattle.mc_script.specs.declared.command.Command.TheVariants.{Set, Delete}
use Rattle.mc_serial_spec.specs.Item.{item_bytes, counting_words}
use Rattle.mc_serial_spec.specs.Items.{linked_chunk, unlinked_items}
use Rattle.mc_pages.specs.Answer.{answer_of}
use Rattle.mc_serial_spec.specs.Automove.{with_asked_page}
use Rattle.mc_serial_spec.specs.Lines.{Outcome, delete_outcome, set_outcome_of, set_outcome, machine_with_item}
use Rattle.mc_serial_spec.specs.Machine.{Machine}
use Rattle.mc_serial_spec.specs.Supply.{asks_for_page, machine_after_supply, supply}
use Rattle.mc_serial_spec.specs.Texts.{key_line}
use Rattle.mc_serial_laws.specs.Answered.{AnsweredCommand, last_words}
use Rattle.mc_serial_spec.proofs.Stocks.{IsClass-supplied, nowhere-unlinked}
use Rattle.mc_serial_laws.proofs.Lawful.{proceeds_same}
use Rattle.mc_serial_laws.proofs.ProceedCommands.{proceeds_asked}
use Rattle.mc_serial_laws.proofs.ProceedPages.{proceeds_supplied}
use Rattle.mc_serial_laws.proofs.Told.{AreTold, told_on, told_still, told_stored, told_unlinked}

-- a text is itself
pub same_text : (text : List ℕ) → bytes_eq text text ≡ true
same_text text = (bytes_eq-Decides text text).1 refl

-- of two tests the second fails, or the first, or none
pub second_fails : {X : Type 0} (b : Bool) (x y : X) → (if b && false then x else y) ≡ y
second_fails true x y = refl
second_fails false x y = refl

pub first_fails : {X : Type 0} (b c : Bool) (x y : X) → b ≡ false → (if b && c then x else y) ≡ y
first_fails b c x y fails = rw fails refl

pub both_pass : {X : Type 0} (b c : Bool) (x y : X) → b ≡ true → c ≡ true → (if b && c then x else y) ≡ x
both_pass b c x y first second = rw (first, second) refl

-- an answer as a run has it
abbrev pub answered_by : Command → Outcome → AnsweredCommand
answered_by command served = record { command = command; reply = served.reply }

module _ (answers : List AnsweredCommand) (worker key count base : ℕ) where
  -- a set that found a chunk
  -- and a page that may be asked for
  set_asked : (m : Machine) (class : ℕ) (asks : Bool) (told_so_far : List AnsweredCommand) → AreTold m told_so_far
      → AreTold (if asks then with_asked_page m class else m) told_so_far
  set_asked m class true told_so_far told =
      told_still m (with_asked_page m class) told_so_far told (proceeds_asked m None class (answer_of m.slabs None class) told.lawful refl)
  set_asked m class false told_so_far told = told

  set_stored : (m : Machine) (class : ℕ) (asks : Bool) (found : Option ChunkId) → AreTold m answers → HasClass m.slabs class → supply m class ≡ found
      → let served : Outcome = set_outcome (machine_after_supply m class) class key (counting_words base count) asks found in
      AreTold served.machine (answered_by (Set worker key count base) served ∷ answers)
  set_stored m class asks None told valid is =
      told_on m (machine_after_supply m class) answers _ told (proceeds_supplied m class told.lawful valid) (λ q. second_fails (key == q) _ _) (λ w. refl)
  set_stored m class asks (Some chunk) told valid is =
      let ready : Machine = machine_after_supply m class in
      let free : Machine = record ready { items = unlinked_items ready.items key } in
      let served : Outcome = set_outcome ready class key (counting_words base count) asks (Some chunk) in
      let all : AreTold free (answered_by (Set worker key count base) served ∷ answers)
      = told_unlinked ready answers (answered_by (Set worker key count base) served) key
      (told_still m ready answers told (proceeds_supplied m class told.lawful valid))
      (λ q other. first_fails (key == q) _ _ _ other) (λ w. refl) in
      let new_words : last_words key (answered_by (Set worker key count base) served ∷ answers) ≡ Some (counting_words base count)
      = both_pass (key == key) _ _ _ (eq-eqb key key refl) (same_text (key_line (codes "STORED") key)) in
      set_asked (machine_with_item ready class key (counting_words base count) chunk) class asks (answered_by (Set worker key count base) served ∷ answers)
      (told_stored free class key (counting_words base count) chunk all.lawful (IsClass-supplied m class valid) is (nowhere-unlinked ready.items key)
      (answered_by (Set worker key count base) served ∷ answers) all new_words)

  set_class : (m : Machine) (class : Option ℕ) → AreTold m answers → class_of m.table (item_bytes count) ≡ class
      → let served : Outcome = set_outcome_of m class key (counting_words base count) in
      AreTold served.machine (answered_by (Set worker key count base) served ∷ answers)
  set_class m None told is =
      told_on m m answers _ told (proceeds_same m told.lawful) (λ q. second_fails (key == q) _ _) (λ w. refl)
  set_class m (Some class) told is =
      let there = (class_fits m.table (item_bytes count) class is).0 in
      let valid : HasClass m.slabs class = (there.0, omega (arith, there.1, told.lawful.kept.classes)) in
      set_stored m class (asks_for_page m class) (supply m class) told valid refl

  pub told_set : (m : Machine) → AreTold m answers
      → let served : Outcome = set_outcome_of m (class_of m.table (item_bytes count)) key (counting_words base count) in
      AreTold served.machine (answered_by (Set worker key count base) served ∷ answers)
  told_set m told = set_class m (class_of m.table (item_bytes count)) told refl

-- a delete
pub told_delete : (m : Machine) (answers : List AnsweredCommand) (worker key : ℕ) (found : Option ChunkId) → AreTold m answers → linked_chunk m.items key ≡ found
    → let served : Outcome = delete_outcome m key found in
    AreTold served.machine (answered_by (Delete worker key) served ∷ answers)
told_delete m answers worker key None told is =
    told_on m m answers _ told (proceeds_same m told.lawful) (λ q. second_fails (key == q) _ _) (λ w. refl)
told_delete m answers worker key (Some chunk) told is =
    told_unlinked m answers _ key told (λ q other. first_fails (key == q) _ _ _ other) (λ w. refl)
