use Rattle.std.proofs.Common.{List, ap, arith, subst, sym, ◌∙◌, ℕ}
use Rattle.std.proofs.lemmas.List.{get_or-drop}
use Rattle.mc_words.specs.hand.View.{View}
use Rattle.mc_words.specs.item.Items.{held_item}
use Rattle.mc_items.specs.Keeping.{WordsWereStored}
use Rattle.mc_words.specs.item.Items.{item_with}
use Rattle.mc_items.proofs.Chains.{holdings_stay, kept_refs_keep_items, words_said}
use Rattle.mc_items.proofs.Words.{place_small}
use Rattle.mc_items.proofs.reading.word_from.Goals as goal

pub overflow_add-place : goal.overflow_add-place
overflow_add-place c = let small = place_small c.args.arena.now c.args.hand.now c.args.item.now c.args.place c.requires.arena c.requires.item c.requires.in_range in omega arith

pub word_from-requires-clause-in_range : goal.word_from-requires-clause-in_range
word_from-requires-clause-in_range c = let len = c.requires.item.len in omega (arith, c.requires.in_range)

pub returns-clause-word : goal.returns-clause-word
returns-clause-word c = c.word_from.ensures.word ∙ sym (get_or-drop 3 (held_item c.args.hand.now.seat.me.0 c.args.item.now.reference.chunk) c.args.place 0)

pub returns-clause-holdings : goal.returns-clause-holdings
returns-clause-holdings c =
    let same = c.word_from.ensures.view in
    holdings_stay c.args.hand.now.seat.me.0 c.word_from.new.hand.seat.me.0 (ap (λ (v : View). v.row.holdings) same) (ap (λ (v : View). v.row.knows.known) same)

pub returns-clause-item : goal.returns-clause-item
returns-clause-item c = (kept_refs_keep_items c.args.hand.now.seat.me.0 c.word_from.new.hand.seat.me.0 c.args.item.now (returns-clause-holdings c).references c.requires.item).refers

pub returns-clause-words : goal.returns-clause-words
returns-clause-words c = (kept_refs_keep_items c.args.hand.now.seat.me.0 c.word_from.new.hand.seat.me.0 c.args.item.now (returns-clause-holdings c).references c.requires.item).words

pub returns-clause-stores_words : goal.returns-clause-stores_words
returns-clause-stores_words c =
    let item = c.args.item.now in
    let now : View = c.word_from.new.hand.seat.me.0 in
    subst (λ (l : List ℕ). WordsWereStored now item.stamp (item_with item.key item.stamp l)) (returns-clause-words c) (words_said now c.word_from.ensures.arena.lawful item (returns-clause-item c))
