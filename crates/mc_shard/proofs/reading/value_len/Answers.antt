use Rattle.std.proofs.Common.{◌+◌, ◌<◌, List, ap, arith, length, sym, ◌∙◌, ℕ}
use Rattle.mc_packing.specs.Packing.{key_words, word_count_for}
use Rattle.mc_words.specs.hand.Arenas.{view}
use Rattle.mc_items.specs.ItemRefs.{item_words}
use Rattle.mc_shard.proofs.WordsRead.{filled_of, not_filled, not_key_len, not_long, not_own, reads_on, word_still, words_len}
use Rattle.mc_shard.proofs.reading.value_len.Goals as goal

pub returns-then-len-begin-clause-other : goal.returns-then-len-begin-clause-other
returns-then-len-begin-clause-other c = λ is.
    let ws : List ℕ = item_words (view c.args.hand.now) c.args.item.now in
    let short : length ws < 2 + word_count_for (length c.args.key.now) = omega (arith, words_len (view c.args.hand.now) c.args.item.now c.requires.item.refers, c.len.ensures.len, c.value_place-begin.ensures.place, c.if-len-begin.true) in
    not_long c.args.key.now ws short

pub returns-then-key_len-key-clause-other : goal.returns-then-key_len-key-clause-other
returns-then-key_len-key-clause-other c = λ is. not_key_len c.args.key.now (item_words (view c.args.hand.now) c.args.item.now) (λ e. c.if-key_len-key.true (c.read_word-key_len.ensures.word ∙ e))

pub returns-then-not-is_filled_from-clause-other : goal.returns-then-not-is_filled_from-clause-other
returns-then-not-is_filled_from-clause-other c = λ is.
    let ws : List ℕ = item_words (view c.args.hand.now) c.args.item.now in
    let reads = reads_on c.args.arena.now c.args.item.now c.args.hand.now c.read_word-key_len.new.hand c.read_word-count.new.hand c.read_word-key_len.ensures.reads c.read_word-count.ensures.reads in
    let count = word_still c.args.arena.now c.args.item.now c.args.hand.now c.read_word-key_len.new.hand 1 c.read_word-count.result c.read_word-key_len.ensures.reads c.read_word-count.ensures.word in
    not_filled c.args.key.now ws c.read_word-count.result count
    (λ filled. c.is_filled_from.ensures.other c.if-not-is_filled_from.true (filled_of (item_words (view c.read_word-count.new.hand) c.args.item.now) ws (2 + word_count_for (length c.args.key.now)) c.value_place-begin.result c.read_word-count.result (sym reads.words) (sym c.value_place-begin.ensures.place) filled))

pub returns-then-not-has_key-clause-other : goal.returns-then-not-has_key-clause-other
returns-then-not-has_key-clause-other c = λ is.
    let ws : List ℕ = item_words (view c.args.hand.now) c.args.item.now in
    let key : List ℕ = c.args.key.now in
    let first = reads_on c.args.arena.now c.args.item.now c.args.hand.now c.read_word-key_len.new.hand c.read_word-count.new.hand c.read_word-key_len.ensures.reads c.read_word-count.ensures.reads in
    let reads = reads_on c.args.arena.now c.args.item.now c.args.hand.now c.read_word-count.new.hand c.is_filled_from.new.hand first c.is_filled_from.ensures.reads in
    not_own key ws (λ own. c.has_key.ensures.other c.if-not-has_key.true (ap (λ (l : List ℕ). key_words key l) reads.words ∙ own))

pub returns-clause-looks : goal.returns-clause-looks
returns-clause-looks c =
    let ws : List ℕ = item_words (view c.args.hand.now) c.args.item.now in
    let key : List ℕ = c.args.key.now in
    let first = reads_on c.args.arena.now c.args.item.now c.args.hand.now c.read_word-key_len.new.hand c.read_word-count.new.hand c.read_word-key_len.ensures.reads c.read_word-count.ensures.reads in
    let reads = reads_on c.args.arena.now c.args.item.now c.args.hand.now c.read_word-count.new.hand c.is_filled_from.new.hand first c.is_filled_from.ensures.reads in
    let count = word_still c.args.arena.now c.args.item.now c.args.hand.now c.read_word-key_len.new.hand 1 c.read_word-count.result c.read_word-key_len.ensures.reads c.read_word-count.ensures.word in
    record {
      key_len = sym c.read_word-key_len.ensures.word ∙ c.if-key_len-key.false;
      value_len = sym count;
      own = sym (ap (λ (l : List ℕ). key_words key l) reads.words) ∙ c.has_key.ensures.same c.if-not-has_key.false;
      value = filled_of ws (item_words (view c.read_word-count.new.hand) c.args.item.now) c.value_place-begin.result (2 + word_count_for (length key)) c.read_word-count.result first.words c.value_place-begin.ensures.place (c.is_filled_from.ensures.fills c.if-not-is_filled_from.false);
    }
