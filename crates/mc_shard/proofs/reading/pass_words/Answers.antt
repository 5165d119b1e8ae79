use Rattle.std.proofs.Common.{◌+◌, List, arith, ℕ}
use Rattle.mc_words.specs.hand.Arenas.{view}
use Rattle.mc_items.specs.ItemRefs.{item_words}
use Rattle.mc_shard.proofs.WordsRead.{all_fit, fit_more, reads_on, word_still, words_len}
use Rattle.mc_shard.proofs.reading.pass_words.Goals as goal

pub loop-place-preserved : goal.loop-place-preserved
loop-place-preserved c =
    let ws : List ℕ = item_words (view c.args.hand.now) c.args.item.now in
    let at : ℕ = c.args.begin + c.loop-place.place in
    let word = word_still c.args.arena.now c.args.item.now c.args.hand.now c.loop-place.hand at c.read_word-word.result c.loop-place.invariant.reads c.read_word-word.ensures.word in
    record {
      reads = reads_on c.args.arena.now c.args.item.now c.args.hand.now c.loop-place.hand c.read_word-word.new.hand c.loop-place.invariant.reads c.read_word-word.ensures.reads;
      fit = fit_more c.args.begin ws c.loop-place.place c.read_word-word.result c.read_word-word.type_inv word c.loop-place.invariant.fit;
    }

pub returns-clause-words : goal.returns-clause-words
returns-clause-words c =
    let ws : List ℕ = item_words (view c.args.hand.now) c.args.item.now in
    all_fit c.args.begin ws c.loop-place.place (omega (arith, words_len (view c.args.hand.now) c.args.item.now c.requires.item.refers, c.loop-place-test.false, c.requires.in_range, c.len.ensures.len)) c.loop-place.invariant.fit
