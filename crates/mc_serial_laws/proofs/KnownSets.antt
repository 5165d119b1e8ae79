-- What is known after a set and after a delete.
use Rattle.std.proofs.Common.{◌≡◌, ℕ, ◌≤◌, List, ◌∷◌, Bool, true, false, Option, Some, None, refl, ap, sym, ◌∙◌, arith, inl, inr, eqb-true, Result, Ok, Err}
use Rattle.std.specs.Prelude.{if◌then◌else◌, ◌==◌, ◌&&◌, codes}
use Rattle.std.specs.Option.{option_map}
use Rattle.std.specs.Str.{bytes_eq}
use Rattle.std.proofs.lemmas.Bool.{and_parts, false≢true}
use Rattle.std.proofs.lemmas.Bool.Decides.{nat_tests}
use Rattle.mc_classes.specs.Classes.{class_of}
use Rattle.mc_classes.proofs.ClassOf.{class_fits}
use Rattle.mc_pages.specs.declared.ids.ChunkId.{ChunkId}
use Rattle.mc_pages.specs.ClassState.{first_free, times_in}
use Rattle.mc_pages.specs.SlabState.{HasClass, class_at}
use Rattle.mc_pages.specs.declared.moves.Reassign.{Reassign}
use Rattle.mc_pages.specs.Answer.{answer_of}
use Rattle.mc_script.specs.declared.command.Command.TheVariants.{Set, Delete}
use Rattle.mc_serial_spec.specs.Automove.{machine_after_begin, with_asked_page}
use Rattle.mc_serial_spec.specs.Item.{Item, is_linked_to, item_bytes, new_item, item_after_unlink, counting_words}
use Rattle.mc_serial_spec.specs.Holds.{held_by}
use Rattle.mc_serial_spec.specs.Items.{Items, item_in_chunk, linked_chunk, unlinked_items}
use Rattle.mc_serial_spec.specs.Lines.{Outcome, delete_outcome, set_outcome_of, set_outcome, machine_with_item}
use Rattle.mc_serial_spec.specs.Machine.{Machine}
use Rattle.mc_serial_spec.specs.Supply.{asks_for_page, machine_after_supply, supply}
use Rattle.mc_serial_spec.specs.Texts.{key_line}
use Rattle.mc_serial_spec.proofs.Stocks.{IsClass-supplied, nowhere-unlinked}
use Rattle.mc_serial_laws.specs.Answered.{AnsweredCommand}
use Rattle.mc_serial_laws.specs.Stays.{holds_now, is_seen, may_take, is_item_shown}
use Rattle.mc_serial_laws.proofs.FoundItems.{item_at-unlinked_items, unlinked_from}
use Rattle.mc_serial_laws.proofs.Known.{AreKnown, HasItem, HoldsItem, has_still, holds_still, known_on, seen_either}
use Rattle.mc_serial_laws.proofs.Lawful.{IsLawful, Proceeds, proceeds_same}
use Rattle.mc_serial_laws.proofs.ProceedCommands.{lawful_unlinked, proceeds_asked}
use Rattle.mc_serial_laws.proofs.ProceedPages.{proceeds_supplied}
use Rattle.mc_serial_laws.proofs.Spares.{Spares, spares_items, spares_refused}
use Rattle.mc_serial_laws.proofs.Told.{held_stored, item_stored, lawful_stored}
use Rattle.mc_serial_laws.proofs.ToldSets.{answered_by, same_text, second_fails}

-- of a test whose second part fails nothing follows
pub never_both : {X : Type 0} (b : Bool) → (b && false) ≡ true → X
never_both true is = absurd (false≢true is)
never_both false is = absurd (false≢true is)

-- nothing is left where both tests pass, so where the first brings the second, the first failed
pub some_left : (b c : Bool) (n : ℕ) → (b ≡ true → c ≡ true) → 1 ≤ (if b && c then 0 else n) → (b ≡ false) × ((if b && c then 0 else n) ≡ n)
some_left true true n brings some = absurd (omega (arith, some))
some_left true false n brings some = absurd (false≢true (brings refl))
some_left false c n brings some = (refl, refl)

one_failed : (b c : Bool) → (b ≡ true → c ≡ true) → (b && c) ≡ false → b ≡ false
one_failed true c brings fails = absurd (false≢true (sym fails ∙ brings refl))
one_failed false c brings fails = refl

-- the answers about one key are one
pub one_text : (word : List ℕ) (key q : ℕ) → (key == q) ≡ true → bytes_eq (key_line word key) (key_line word q) ≡ true
one_text word key q same = rw (eqb-true key q same) (same_text (key_line word q))

-- an item of another key is as it was after a key was unlinked
pub other_unlinked : (key q : ℕ) (items : Items) (chunk : ChunkId) (item : Item) → (key == q) ≡ false → item_in_chunk items chunk ≡ Some item
    → is_linked_to q item ≡ true → item_in_chunk (unlinked_items items key) chunk ≡ Some item
other_unlinked key q items chunk item other there linked =
    let tests = and_parts item.linked (item.key == q) linked in
    let apart : is_linked_to key item ≡ false = grind (arith, nat_tests, tests.0, tests.1, other) in
    item_at-unlinked_items key items chunk ∙ ap (option_map (unlinked_from key)) there
    ∙ ap (λ (b : Bool). Some (if b then item_after_unlink item else item)) apart

-- more is known of no machine that went on by itself, and nothing less where no item was taken away
pub known_still : (m new : Machine) (answers : List AnsweredCommand) → AreKnown m answers → Proceeds m new → Spares m new → AreKnown new answers
known_still m new answers known goes spares = record {
  seen = λ key is. has_still m new key spares (known.seen key is);
  held = λ worker key some. holds_still m new worker key (holds_now worker key answers) goes some (known.held worker key some);
}

-- a page that is asked for changes no item
pub spares_begun : (m : Machine) (src : Option ℕ) (dst : ℕ) (answer : Result ℕ Reassign) → Spares m (machine_after_begin m src dst answer)
spares_begun m src dst (Err refusal) = spares_items m m refl
spares_begun m src dst (Ok source) = spares_items m (machine_after_begin m src dst (Ok source)) refl

known_asked : (m : Machine) (class : ℕ) (asks : Bool) (answers : List AnsweredCommand) → IsLawful m → AreKnown m answers
    → AreKnown (if asks then with_asked_page m class else m) answers
known_asked m class true answers lawful known =
    known_still m (with_asked_page m class) answers known (proceeds_asked m None class (answer_of m.slabs None class) lawful refl)
    (spares_begun m None class (answer_of m.slabs None class))
known_asked m class false answers lawful known = known

-- a key was unlinked, and an item of it was stored in a chunk that nobody holds
module _ (m : Machine) (answers : List AnsweredCommand) (worker key count base class : ℕ) (chunk : ChunkId) (lawful : IsLawful m)
    (held : (w q : ℕ) → 1 ≤ holds_now w q answers → HoldsItem m w q (holds_now w q answers)) (valid : HasClass m.slabs class) (next : first_free (class_at m.slabs class) ≡ Some chunk) where
  free : Machine
  free = record m { items = unlinked_items m.items key }

  abbrev now : Machine
  now = machine_with_item m class key (counting_words base count) chunk

  lawful_free : IsLawful free
  unfolding free
  lawful_free = lawful_unlinked m key lawful

  there : item_in_chunk now.items chunk ≡ Some (new_item key (counting_words base count))
  unfolding free
  there = item_stored free class key (counting_words base count) chunk lawful_free valid next (nowhere-unlinked m.items key)

  elsewhere : (w : ℕ) (c : ChunkId) → 1 ≤ times_in c (held_by m.holds w) → item_in_chunk now.items c ≡ item_in_chunk (unlinked_items m.items key) c
  unfolding free
  elsewhere w c holding = held_stored free class key (counting_words base count) chunk lawful_free valid next (nowhere-unlinked m.items key) w c holding

  answered : AnsweredCommand
  answered = record { command = Set worker key count base; reply = key_line (codes "STORED") key }

  seen_stored : (q : ℕ) → is_seen q (answered ∷ answers) ≡ true → HasItem now.items q
  unfolding answered
  seen_stored q is =
      elim (seen_either (is_item_shown q (Set worker key count base) (key_line (codes "STORED") key)) (may_take q (Set worker key count base) (key_line (codes "STORED") key)) (is_seen q answers) is) [
        | inl here ↦
            let same : (key == q) ≡ true = (and_parts (key == q) _ here).0 in
            record { chunk = chunk; item = new_item key (counting_words base count); there = there; linked = same }
        | inr before ↦ absurd (false≢true (sym before.0 ∙ same_text (key_line (codes "STORED") key)))
      ]

  held_then : (w q : ℕ) → 1 ≤ holds_now w q (answered ∷ answers) → HoldsItem now w q (holds_now w q (answered ∷ answers))
  unfolding answered
  held_then w q some =
      let left = some_left (key == q) (bytes_eq (key_line (codes "STORED") key) (key_line (codes "STORED") q)) (holds_now w q answers) (one_text (codes "STORED") key q) some in
      let before : HoldsItem m w q (holds_now w q answers) = held w q (rw (← left.1) some) in
      let holding : 1 ≤ times_in before.has.chunk (held_by m.holds w) = omega (arith, before.at_limit, ap (λ (n : ℕ). n) left.1, some) in
      rw left.1 (record {
        has = record {
          chunk = before.has.chunk;
          item = before.has.item;
          there = elsewhere w before.has.chunk holding ∙ other_unlinked key q m.items before.has.chunk before.has.item left.0 before.has.there before.has.linked;
          linked = before.has.linked;
        };
        at_limit = before.at_limit;
      })

  pub known_stored : AreKnown now (record { command = Set worker key count base; reply = key_line (codes "STORED") key } ∷ answers)
  unfolding answered
  known_stored = record { seen = seen_stored; held = held_then }

  pub lawful_then : IsLawful now
  unfolding free
  lawful_then = lawful_stored free class key (counting_words base count) chunk lawful_free valid next (nowhere-unlinked m.items key)

module _ (answers : List AnsweredCommand) (worker key count base : ℕ) where
  set_known : (m : Machine) (class : ℕ) (asks : Bool) (found : Option ChunkId) → IsLawful m → AreKnown m answers → HasClass m.slabs class → supply m class ≡ found
      → let served : Outcome = set_outcome (machine_after_supply m class) class key (counting_words base count) asks found in
      AreKnown served.machine (answered_by (Set worker key count base) served ∷ answers)
  set_known m class asks None lawful known valid is =
      known_on m (machine_after_supply m class) answers _ known (proceeds_supplied m class lawful valid) (spares_refused m class lawful valid is)
      (λ q both. never_both (key == q) both) (λ w q. second_fails (key == q) _ _)
  set_known m class asks (Some chunk) lawful known valid is =
      let ready : Machine = machine_after_supply m class in
      let goes : Proceeds m ready = proceeds_supplied m class lawful valid in
      let there : HasClass ready.slabs class = IsClass-supplied m class valid in
      let held : (w q : ℕ) → 1 ≤ holds_now w q answers → HoldsItem ready w q (holds_now w q answers)
      = λ w q some. holds_still m ready w q (holds_now w q answers) goes some (known.held w q some) in
      known_asked (machine_with_item ready class key (counting_words base count) chunk) class asks
      (record { command = Set worker key count base; reply = key_line (codes "STORED") key } ∷ answers)
      (lawful_then ready answers worker key count base class chunk goes.lawful held there is)
      (known_stored ready answers worker key count base class chunk goes.lawful held there is)

  pub known_set : (m : Machine) (class : Option ℕ) → IsLawful m → AreKnown m answers → class_of m.table (item_bytes count) ≡ class
      → let served : Outcome = set_outcome_of m class key (counting_words base count) in
      AreKnown served.machine (answered_by (Set worker key count base) served ∷ answers)
  known_set m None lawful known is =
      known_on m m answers _ known (proceeds_same m lawful) (spares_items m m refl) (λ q both. never_both (key == q) both) (λ w q. second_fails (key == q) _ _)
  known_set m (Some class) lawful known is =
      let there = (class_fits m.table (item_bytes count) class is).0 in
      let valid : HasClass m.slabs class = (there.0, omega (arith, there.1, lawful.kept.classes)) in
      set_known m class (asks_for_page m class) (supply m class) lawful known valid refl

-- a delete
pub known_delete : (m : Machine) (answers : List AnsweredCommand) (worker key : ℕ) (found : Option ChunkId) → IsLawful m → AreKnown m answers → linked_chunk m.items key ≡ found
    → let served : Outcome = delete_outcome m key found in
    AreKnown served.machine (answered_by (Delete worker key) served ∷ answers)
known_delete m answers worker key None lawful known is =
    known_on m m answers _ known (proceeds_same m lawful) (spares_items m m refl) (λ q bad. absurd (false≢true bad)) (λ w q. second_fails (key == q) _ _)
known_delete m answers worker key (Some chunk) lawful known is = record {
  seen = λ q seen. elim (seen_either false ((key == q) && bytes_eq (key_line (codes "DELETED") key) (key_line (codes "DELETED") q)) (is_seen q answers) seen) [
    | inl bad ↦ absurd (false≢true bad)
    | inr before ↦
        let other : (key == q) ≡ false = one_failed (key == q) _ (one_text (codes "DELETED") key q) before.0 in
        let has : HasItem m.items q = known.seen q before.1 in
        record { chunk = has.chunk; item = has.item; there = other_unlinked key q m.items has.chunk has.item other has.there has.linked; linked = has.linked }
  ];
  held = λ w q some.
      let left = some_left (key == q) (bytes_eq (key_line (codes "DELETED") key) (key_line (codes "DELETED") q)) (holds_now w q answers) (one_text (codes "DELETED") key q) some in
      let before : HoldsItem m w q (holds_now w q answers) = known.held w q (rw (← left.1) some) in
      let has : HasItem m.items q = before.has in
      rw left.1 (record {
        has = record { chunk = has.chunk; item = has.item; there = other_unlinked key q m.items has.chunk has.item left.0 has.there has.linked; linked = has.linked };
        at_limit = before.at_limit;
      });
}
