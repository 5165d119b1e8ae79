use Rattle.std.proofs.Common.{◌≡◌, ◌-◌, ◌%◌, List, ap, arith, get_or, length, subst, ◌∙◌, ℕ}
use Rattle.mc_packing.specs.Packing.{EndsInZeros}
use Rattle.mc_words.specs.hand.Arenas.{view}
use Rattle.mc_items.specs.ItemRefs.{item_words}
use Rattle.mc_shard.proofs.WordsRead.{words_len}
use Rattle.mc_shard.proofs.reading.is_filled_from.Goals as goal

pub returns-then-part-eq0-clause-fills : goal.returns-then-part-eq0-clause-fills
returns-then-part-eq0-clause-fills c = λ is. record {
  len = omega (arith, words_len (view c.args.hand.now) c.args.item.now c.requires.item.refers, c.requires.in_range, c.len.ensures.len, c.words_for_bytes.ensures.words, c.if-len-place.false);
  zeros = λ some. absurd (omega (arith, c.if-part-eq0.true));
}

pub returns-clause-fills : goal.returns-clause-fills
returns-clause-fills c = λ is.
    let ws : List ℕ = item_words (view c.args.hand.now) c.args.item.now in
    let len : length ws ≡ c.args.item.now.len = words_len (view c.args.hand.now) c.args.item.now c.requires.item.refers in
    let place : c.len-2.result - 1 ≡ length ws - 1 = omega (arith, c.len-2.ensures.len) in
    let last : c.read_word-last.result ≡ get_or ws (length ws - 1) 0 = c.read_word-last.ensures.word ∙ ap (λ (k : ℕ). get_or ws k 0) place in
    record {
      len = omega (arith, c.requires.in_range, c.len.ensures.len, c.words_for_bytes.ensures.words, c.if-len-place.false);
      zeros = λ some. subst (λ (w : ℕ). EndsInZeros (c.args.count % 8) w) last (c.ends_in_zeros.ensures.0 is);
    }

pub returns-then-len-place-clause-other : goal.returns-then-len-place-clause-other
returns-then-len-place-clause-other c = λ is fills. c.if-len-place.true (omega (arith, fills.len, words_len (view c.args.hand.now) c.args.item.now c.requires.item.refers, c.requires.in_range, c.len.ensures.len, c.words_for_bytes.ensures.words))
