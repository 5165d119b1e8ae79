use Rattle.std.proofs.Common.{◌≡◌, ℕ, ◌+◌, ◌%◌, ◌^◌, List, length, ap, ap₂, ◌∙◌}
use Rattle.std.proofs.lemmas.List.FromFn.{length-map-range_with_len}
use Rattle.mc_classes.specs.Classes.{class_of}
use Rattle.mc_serial_spec.specs.Item.{item_bytes, counting_words}
use Rattle.mc_serial_spec.specs.Lines.{set_outcome_of}
use Rattle.mc_serial_spec.specs.Machine.{Machine}
use Rattle.mc_map.proofs.player.store_words.Goals as goal

-- the words that count up are as many as they are to be
stored_is : (m after : Machine) (key base words : ℕ) (counted : List ℕ) → counted ≡ counting_words base words
    → after ≡ (set_outcome_of m (class_of m.table (item_bytes (length counted))) key counted).machine
    → after ≡ (set_outcome_of m (class_of m.table (item_bytes words)) key (counting_words base words)).machine
stored_is m after key base words counted is done =
    done ∙ ap₂ (λ (n : ℕ) (ws : List ℕ). (set_outcome_of m (class_of m.table (item_bytes n)) key ws).machine)
    (ap length is ∙ length-map-range_with_len (λ (i : ℕ). (base + i) % 2 ^ 64) 0 words) is

pub returns : goal.returns
returns c = stored_is c.args.keeper.now c.set.new.self c.args.key c.args.base c.args.words c.deref.result.now (c.deref.ensures.value ∙ c.in_ok-counted.ensures) c.in_ok-stored.ensures.after
