use Rattle.std.proofs.Common.{ℕ, ◌<◌, ap, subst, length, arith}
use Rattle.mc_words.specs.declared.arena.Arena.{Arena}
use Rattle.mc_words.specs.declared.hand.Hand.{Hand}
use Rattle.mc_words.specs.declared.item.refs.Ref.{Ref}
use Rattle.mc_words.specs.hand.Arenas.{IsHandOf, setup_of, view}
use Rattle.mc_words.specs.hand.View.{Setup}
use Rattle.mc_words.specs.item.Items.{held_item}
use Rattle.mc_words.specs.item.Refs.{IsRefOf}
use Rattle.mc_words.specs.rule.Layout.{data_word, config_from, word_count}
use Rattle.mc_words.proofs.Items.WordReads.{item_found, word_near}
use Rattle.mc_words.proofs.arena.Arena.word_from.Goals as goal

-- the place of a word of an item lies before the configuration
before_config : (arena : Arena) (hand : Hand) (reference : Ref) (place : ℕ) → IsHandOf arena hand → IsRefOf (view hand) reference.chunk reference.room → place < length (held_item (view hand) reference.chunk)
    → data_word (setup_of arena) reference.room reference.chunk place < config_from (setup_of arena)
before_config arena hand reference place of ref within =
    let near = subst (λ (n : ℕ). place < n) (ap length (item_found (view hand) reference.chunk ref.holding ref.found)) within in
    subst (λ (s : Setup). data_word s reference.room reference.chunk place < config_from s) of.setup (word_near (view hand) reference.chunk reference.room ref of.lawful place near)

pub overflow_add-first : goal.overflow_add-first
overflow_add-first c =
    let in_range = before_config c.args.self.now c.args.hand.now c.args.reference.now c.args.place c.requires.arena c.requires.reference c.requires.in_range in
    omega (arith, in_range, c.requires.first, c.args.self.now.words, c.args.self.now.small, ap word_count c.args.self.now.planned)

pub word_at-requires-clause-inside : goal.word_at-requires-clause-inside
word_at-requires-clause-inside c =
    let in_range = before_config c.args.self.now c.args.hand.now c.args.reference.now c.args.place c.requires.arena c.requires.reference c.requires.in_range in
    omega (arith, in_range, c.requires.first, c.args.self.now.words, ap word_count c.args.self.now.planned)
