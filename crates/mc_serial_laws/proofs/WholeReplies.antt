-- Each reply is one or more whole lines.
use Rattle.std.proofs.Common.{◌≡◌, ℕ, ◌≤◌, List, [], ◌∷◌, ◌++◌, length, Bool, true, false, Option, Some, None, Ok, Err, refl, sym, subst, arith, length-append, append_assoc}
use Rattle.std.specs.Prelude.{if◌then◌else◌, codes, count_by, decimal, ◌*◌, ◌==◌, ◌||◌, nat_lt}
use Rattle.std.specs.Option.{is_some, option_and_then, option_map}
use Rattle.std.proofs.lemmas.Option.{none-some, same_Some}
use Rattle.mc_classes.specs.Classes.{Classes, class_of}
use Rattle.mc_pages.specs.declared.ids.ChunkId.{ChunkId}
use Rattle.mc_pages.specs.declared.ids.Moving.{Moving}
use Rattle.mc_pages.specs.declared.moves.Reassign.TheVariants.{Same, BadClass, NoSpare}
use Rattle.mc_pages.specs.SlabState.{SlabState, class_at, granted_count}
use Rattle.mc_pages.specs.Accounted.{truth}
use Rattle.mc_pages.specs.Answer.{answer_from, answer_if, answer_of, is_same, chosen_source}
use Rattle.mc_script.specs.declared.command.Command.{Command}
use Rattle.mc_script.specs.declared.command.Command.TheVariants as command
use Rattle.mc_watch.specs.declared.decider.Decision.{Decision}
use Rattle.mc_watch.specs.Texts.{classes_lines, general_text, line, slabs_text, stat_line}
use Rattle.mc_serial_spec.specs.Automove.{decision, free_counts, class_page_counts, with_window}
use Rattle.mc_serial_spec.specs.Item.{Item, item_bytes, counting_words}
use Rattle.mc_serial_spec.specs.Items.{item_in_chunk, linked_chunk}
use Rattle.mc_serial_spec.specs.Holds.{is_full}
use Rattle.mc_serial_spec.specs.Lines.{Outcome, decision_outcome, after_turn, answer_name, delete_outcome, release_outcome, hold_outcome_at, hold_outcome, last_hold, release_outcome_at, lookup_outcome, touch_outcome, move_outcome, general_text_of, get_outcome, reassign_outcome, serve, set_outcome_of, slabs_text_of, set_outcome, reply_only}
use Rattle.mc_serial_spec.specs.Machine.{Machine, all_swept}
use Rattle.mc_serial_spec.specs.Mover.{TurnsOfMover, after_turns}
use Rattle.mc_serial_spec.specs.Supply.{asks_for_page, machine_after_supply, supply}
use Rattle.mc_serial_spec.specs.Texts.{key_line, spaced_words, turn_line, ending_word, words_line}
use Rattle.mc_serial_laws.specs.Replies.{IsWhole}

-- a line of some text
whole : (text : List ℕ) → 1 ≤ length text → IsWhole (line text)
whole text some = record { text = text; ends = refl; some = some }

-- more lines before one that is whole
behind : (before text : List ℕ) → 1 ≤ length text → IsWhole (before ++ line text)
behind before text some = record {
  text = before ++ text;
  ends = sym (append_assoc before text (codes "\r\n"));
  some = omega (arith, some, length-append before text);
}

-- an answer about a key, and one with words
key_whole : (answer : List ℕ) (key : ℕ) → 1 ≤ length answer → IsWhole (key_line answer key)
key_whole answer key some =
    whole (answer ++ codes " " ++ decimal key) (omega (arith, some, length-append (answer ++ codes " ") (decimal key), length-append answer (codes " ")))

words_whole : (answer : List ℕ) (key : ℕ) (words : List ℕ) → 1 ≤ length answer → IsWhole (words_line answer key words)
words_whole answer key words some =
    let start : List ℕ = answer ++ codes " " ++ decimal key ++ codes " " ++ decimal (length words) in
    whole (start ++ spaced_words words) (omega (
      arith,
      some,
      length-append start (spaced_words words),
      length-append (answer ++ codes " " ++ decimal key ++ codes " ") (decimal (length words)),
      length-append (answer ++ codes " " ++ decimal key) (codes " "),
      length-append (answer ++ codes " ") (decimal key),
      length-append answer (codes " "),
    ))

-- the answer to whoever wants a page moved has a name
ok_named : (b : Bool) (src : ℕ) → 1 ≤ length (answer_name (if b then Err NoSpare else Ok src))
ok_named true src = omega arith
ok_named false src = omega arith

class_named : (b d : Bool) (src : ℕ) → 1 ≤ length (answer_name (if b then Err BadClass else if d then Err NoSpare else Ok src))
class_named true d src = omega arith
class_named false d src = ok_named d src

from_named : (slabs : SlabState) (dst : ℕ) (source : Option ℕ) → 1 ≤ length (answer_name (answer_from slabs dst source))
from_named slabs dst None = omega arith
from_named slabs dst (Some src) =
    class_named (src == 0 || nat_lt (length slabs.classes) src || nat_lt (length slabs.classes) dst) (nat_lt (length (class_at slabs src).pages) 2) src

rest_named : (same : Bool) (slabs : SlabState) (dst : ℕ) (source : Option ℕ)
    → 1 ≤ length (answer_name (if same then Err Same else answer_from slabs dst source))
rest_named true slabs dst source = omega arith
rest_named false slabs dst source = from_named slabs dst source

if_named : (slabs : SlabState) (src : Option ℕ) (dst : ℕ) (moving : Option Moving) → 1 ≤ length (answer_name (answer_if slabs src dst moving))
if_named slabs src dst (Some move) = omega arith
if_named slabs src dst None = rest_named (is_same src dst) slabs dst (chosen_source slabs src dst)

-- ---- each command
decided_whole : (d : Decision) (answer : List ℕ) → IsWhole (line (codes "WINDOW" ++ spaced_words (d.src ∷ d.dst ∷ []) ++ codes " " ++ answer))
decided_whole d answer =
    let start : List ℕ = codes "WINDOW" ++ spaced_words (d.src ∷ d.dst ∷ []) ++ codes " " in
    whole (start ++ answer) (omega (
      arith,
      length-append start answer,
      length-append (codes "WINDOW" ++ spaced_words (d.src ∷ d.dst ∷ [])) (codes " "),
      length-append (codes "WINDOW") (spaced_words (d.src ∷ d.dst ∷ [])),
    ))

turn_whole : (t : TurnsOfMover) → IsWhole (turn_line t.ending t.counts)
turn_whole t =
    let numbers : List ℕ = spaced_words (t.counts.cleared ∷ t.counts.rescued ∷ t.counts.evicted ∷ t.counts.busy ∷ t.counts.locked ∷ []) in
    whole (codes "TURN " ++ ending_word t.ending ++ numbers)
    (omega (arith, length-append (codes "TURN " ++ ending_word t.ending) numbers, length-append (codes "TURN ") (ending_word t.ending)))

general_whole : (pool running moved rescues evictions busy : ℕ) → IsWhole (general_text pool running moved rescues evictions busy)
general_whole pool running moved rescues evictions busy =
    behind (
    stat_line (codes "slab_global_page_pool") pool
    ++ stat_line (codes "slab_reassign_running") running
    ++ stat_line (codes "slabs_moved") moved
    ++ stat_line (codes "slab_reassign_rescues") rescues
    ++ stat_line (codes "slab_reassign_evictions_nomem") evictions
    ++ stat_line (codes "slab_reassign_busy_items") busy
    ) (codes "END") (omega arith)

slabs_whole : (table : Classes) (pages free : List ℕ) (malloced : ℕ) → IsWhole (slabs_text table pages free malloced)
slabs_whole table pages free malloced =
    let classes : List ℕ = classes_lines table 1 pages free in
    let totals : List ℕ = stat_line (codes "active_slabs") (count_by (λ n. nat_lt 0 n) pages) ++ stat_line (codes "total_malloced") malloced in
    subst IsWhole (append_assoc classes totals (line (codes "END"))) (behind (classes ++ totals) (codes "END") (omega arith))

stored_whole : (ready : Machine) (class key : ℕ) (words : List ℕ) (asks : Bool) (found : Option ChunkId) → IsWhole (set_outcome ready class key words asks found).reply
stored_whole ready class key words asks None = key_whole (codes "NO_ROOM") key (omega arith)
stored_whole ready class key words asks (Some chunk) = key_whole (codes "STORED") key (omega arith)

module _ (m : Machine) where
  class_whole : (class : Option ℕ) (key : ℕ) (words : List ℕ) → IsWhole (set_outcome_of m class key words).reply
  class_whole None key words = key_whole (codes "TOO_LARGE") key (omega arith)
  class_whole (Some class) key words = stored_whole (machine_after_supply m class) class key words (asks_for_page m class) (supply m class)

  get_whole : (full : Bool) (key : ℕ) (found : Option Item) → IsWhole (if full then reply_only m (key_line (codes "TOO_MANY_REFS") key) else get_outcome m key found).reply
  get_whole true key found = key_whole (codes "TOO_MANY_REFS") key (omega arith)
  get_whole false key None = key_whole (codes "NOT_FOUND") key (omega arith)
  get_whole false key (Some item) = words_whole (codes "VALUE") key item.words (omega arith)

  hold_whole : (full : Bool) (worker key : ℕ) (found : Option ChunkId)
      → IsWhole (if full then reply_only m (key_line (codes "TOO_MANY_REFS") key) else hold_outcome_at m worker key found).reply
  hold_whole true worker key found = key_whole (codes "TOO_MANY_REFS") key (omega arith)
  hold_whole false worker key None = key_whole (codes "NOT_FOUND") key (omega arith)
  hold_whole false worker key (Some chunk) = key_whole (codes "HELD") key (omega arith)

  let_go_whole : (worker key : ℕ) (chunk : ChunkId) (found : Option Item) → IsWhole (release_outcome_at m worker key chunk found).reply
  let_go_whole worker key chunk None = key_whole (codes "NOT_HELD") key (omega arith)
  let_go_whole worker key chunk (Some item) = words_whole (codes "DROPPED") key item.words (omega arith)

  drop_whole : (worker key : ℕ) (found : Option ChunkId) → IsWhole (release_outcome m worker key found).reply
  drop_whole worker key None = key_whole (codes "NOT_HELD") key (omega arith)
  drop_whole worker key (Some chunk) = let_go_whole worker key chunk (item_in_chunk m.items chunk)

  delete_whole : (key : ℕ) (found : Option ChunkId) → IsWhole (delete_outcome m key found).reply
  delete_whole key None = key_whole (codes "NOT_FOUND") key (omega arith)
  delete_whole key (Some chunk) = key_whole (codes "DELETED") key (omega arith)

  touch_whole : (key : ℕ) (found : Option ChunkId) → IsWhole (touch_outcome m key found).reply
  touch_whole key None = key_whole (codes "NOT_FOUND") key (omega arith)
  touch_whole key (Some chunk) = key_whole (codes "TOUCHED") key (omega arith)

  window_whole : (found : Option Decision) → IsWhole (decision_outcome m found).reply
  window_whole None = whole (codes "WINDOW none") (omega arith)
  window_whole (Some d) = decided_whole d (answer_name (answer_of m.slabs (Some d.src) d.dst))

  turns_whole : (served : Outcome) (found : Option TurnsOfMover) → option_map after_turn found ≡ Some served → IsWhole served.reply
  turns_whole served None is = absurd (none-some served is)
  turns_whole served (Some t) is =
      subst (λ (s : Outcome). IsWhole s.reply) (same_Some (after_turn t) served is) (turn_whole t)

pub reply_whole : (m : Machine) (asked : Command) (served : Outcome) → serve m asked ≡ Some served → IsWhole served.reply
reply_whole m (command.Set worker key words base) served is =
    subst (λ (s : Outcome). IsWhole s.reply) (same_Some _ served is) (class_whole m (class_of m.table (item_bytes words)) key (counting_words base words))
reply_whole m (command.Get worker key) served is =
    subst (λ (s : Outcome). IsWhole s.reply) (same_Some (lookup_outcome m worker key) served is)
    (get_whole m (is_full m.holds worker) key (option_and_then (item_in_chunk m.items) (linked_chunk m.items key)))
reply_whole m (command.Hold worker key) served is =
    subst (λ (s : Outcome). IsWhole s.reply) (same_Some (hold_outcome m worker key) served is) (hold_whole m (is_full m.holds worker) worker key (linked_chunk m.items key))
reply_whole m (command.Drop worker key) served is =
    subst (λ (s : Outcome). IsWhole s.reply) (same_Some _ served is) (drop_whole m worker key (last_hold m worker key))
reply_whole m (command.Delete worker key) served is =
    subst (λ (s : Outcome). IsWhole s.reply) (same_Some _ served is) (delete_whole m key (linked_chunk m.items key))
reply_whole m (command.Touch worker key) served is =
    subst (λ (s : Outcome). IsWhole s.reply) (same_Some _ served is) (touch_whole m key (linked_chunk m.items key))
reply_whole m (command.Reassign src dst) served is =
    subst (λ (s : Outcome). IsWhole s.reply) (same_Some (reassign_outcome m src dst (answer_of m.slabs src dst)) served is)
    (whole (answer_name (answer_of m.slabs src dst)) (if_named m.slabs src dst m.slabs.moving))
reply_whole m (command.Automove mode) served is = subst (λ (s : Outcome). IsWhole s.reply) (same_Some _ served is) (whole (codes "OK") (omega arith))
reply_whole m command.Window served is =
    let fed : Machine = with_window (all_swept m) in
    subst (λ (s : Outcome). IsWhole s.reply) (same_Some (decision_outcome fed (decision fed)) served is) (window_whole fed (decision fed))
reply_whole m (command.Turn turns) served is = turns_whole m served (after_turns m turns) is
reply_whole m command.Stats served is = subst (λ (s : Outcome). IsWhole s.reply) (same_Some (reply_only m (general_text_of m)) served is)
    (general_whole (length m.slabs.pool) (truth (is_some m.slabs.moving)) m.slabs.moved m.slabs.rescues m.slabs.evictions_nomem m.slabs.busy)
reply_whole m command.StatsSlabs served is = subst (λ (s : Outcome). IsWhole s.reply) (same_Some (reply_only (all_swept m) (slabs_text_of (all_swept m))) served is)
    (slabs_whole (all_swept m).table (class_page_counts (all_swept m).slabs) (free_counts (all_swept m).slabs) (granted_count (all_swept m).slabs * (all_swept m).slabs.page))
