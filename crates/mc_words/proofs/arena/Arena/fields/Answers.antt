use Rattle.std.proofs.Common.{ℕ, List, [], ap, slice_index, ◌∙◌, arith}
use Rattle.std.specs.Option.{option_map_or}
use Rattle.mc_pages.specs.declared.ids.ChunkId.{ChunkId}
use Rattle.mc_core.specs.model.Holdings.{holding_of, item_of}
use Rattle.mc_core.specs.model.Views.{Row}
use Rattle.mc_words.specs.hand.View.{View}
use Rattle.mc_words.proofs.Items.References.{ref_whole}
use Rattle.mc_words.proofs.arena.Arena.fields.Goals as goal

-- the item in a chunk, as the row has it
abbrev item_in_row : Row → ChunkId → List ℕ
item_in_row row chunk = option_map_or item_of (holding_of chunk row.holdings) []

pub word_from-key-requires-clause-in_range : goal.word_from-key-requires-clause-in_range
word_from-key-requires-clause-in_range c =
    let whole = ref_whole c.args.hand.now.seat.me.0 c.requires.arena.lawful c.args.reference.now.chunk c.args.reference.now.room c.requires.reference in
    omega arith

pub word_from-stamp-requires-clause-in_range : goal.word_from-stamp-requires-clause-in_range
word_from-stamp-requires-clause-in_range c =
    let whole = ref_whole c.word_from-key.new.hand.seat.me.0 c.word_from-key.ensures.arena.lawful c.args.reference.now.chunk c.args.reference.now.room c.word_from-key.ensures.reference in
    omega arith

pub word_from-len-requires-clause-in_range : goal.word_from-len-requires-clause-in_range
word_from-len-requires-clause-in_range c =
    let whole = ref_whole c.word_from-stamp.new.hand.seat.me.0 c.word_from-stamp.ensures.arena.lawful c.args.reference.now.chunk c.args.reference.now.room c.word_from-stamp.ensures.reference in
    omega arith

pub returns-clause-len : goal.returns-clause-len
returns-clause-len c =
    let chunk = c.args.reference.now.chunk in
    let first = ap (λ (v : View). v.row) c.word_from-key.ensures.view in
    let second = ap (λ (v : View). v.row) c.word_from-stamp.ensures.view in
    let whole = ref_whole c.args.hand.now.seat.me.0 c.requires.arena.lawful chunk c.args.reference.now.room c.requires.reference in
    let two = ap (λ (r : Row). slice_index (item_in_row r chunk) 2) (second ∙ first) in
    let said = c.word_from-len.ensures.word in
    omega arith
