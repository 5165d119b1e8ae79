use Rattle.std.proofs.Common.{◌+◌, ◌≤◌, List, arith, length, sym, ◌∙◌, ℕ}
use Rattle.mc_packing.specs.Packing.{word_count_for}
use Rattle.mc_words.specs.hand.Arenas.{view}
use Rattle.mc_items.specs.ItemRefs.{item_words}
use Rattle.mc_shard.proofs.WordsRead.{all_same, next_same, not_same, reads_on, word_still, words_len}
use Rattle.mc_shard.proofs.reading.has_key.Goals as goal

pub returns-then-word-first_word-clause-other : goal.returns-then-word-first_word-clause-other
returns-then-word-first_word-clause-other c = λ is same.
    let ws : List ℕ = item_words (view c.args.hand.now) c.args.item.now in
    let key : List ℕ = c.args.key.now in
    let long : 2 + word_count_for (length key) ≤ length ws = omega (arith, words_len (view c.args.hand.now) c.args.item.now c.requires.item.refers, c.requires.in_range) in
    let word = word_still c.args.arena.now c.args.item.now c.args.hand.now c.loop-place.hand (2 + c.loop-place.place) c.read_word-word.result c.loop-place.invariant.reads c.read_word-word.ensures.word in
    not_same key ws long c.loop-place.place c.read_word-word.result c.loop-place.rest.now (omega (arith, c.loop-place-test.true, c.words_for_bytes-place-end.ensures.words)) word (λ e. c.if-word-first_word.true (e ∙ sym c.first_word.ensures)) c.loop-place.invariant.same same

pub loop-place-preserved : goal.loop-place-preserved
loop-place-preserved c =
    let ws : List ℕ = item_words (view c.args.hand.now) c.args.item.now in
    let key : List ℕ = c.args.key.now in
    let long : 2 + word_count_for (length key) ≤ length ws = omega (arith, words_len (view c.args.hand.now) c.args.item.now c.requires.item.refers, c.requires.in_range) in
    let word = word_still c.args.arena.now c.args.item.now c.args.hand.now c.loop-place.hand (2 + c.loop-place.place) c.read_word-word.result c.loop-place.invariant.reads c.read_word-word.ensures.word in
    record {
      reads = reads_on c.args.arena.now c.args.item.now c.args.hand.now c.loop-place.hand c.read_word-word.new.hand c.loop-place.invariant.reads c.read_word-word.ensures.reads;
      same = next_same key ws long c.loop-place.place c.read_word-word.result c.loop-place.rest.now c.after_word-rest.result.now (omega (arith, c.loop-place-test.true, c.words_for_bytes-place-end.ensures.words)) word (c.if-word-first_word.false ∙ c.first_word.ensures) c.after_word-rest.ensures c.loop-place.invariant.same;
    }

pub returns-clause-same : goal.returns-clause-same
returns-clause-same c = λ is.
    let ws : List ℕ = item_words (view c.args.hand.now) c.args.item.now in
    let key : List ℕ = c.args.key.now in
    let long : 2 + word_count_for (length key) ≤ length ws = omega (arith, words_len (view c.args.hand.now) c.args.item.now c.requires.item.refers, c.requires.in_range) in
    all_same key ws long c.loop-place.place c.loop-place.rest.now (omega (arith, c.loop-place-test.false, c.words_for_bytes-place-end.ensures.words)) c.loop-place.invariant.same
