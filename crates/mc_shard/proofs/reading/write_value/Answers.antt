use Rattle.std.proofs.Common.{◌≡◌, ◌+◌, ◌-◌, ◌*◌, ◌/◌, ◌^◌, ◌<◌, ◌≤◌, List, [], arith, drop, get_or, length, refl, subst, take, ◌∙◌, ℕ}
use Rattle.mc_packing.specs.Packing.{word_count_for}
use Rattle.mc_packing.proofs.Loops.{ArePut}
use Rattle.mc_words.specs.hand.Arenas.{view}
use Rattle.mc_items.specs.ItemRefs.{item_words}
use Rattle.mc_items.proofs.Words.{place_small}
use Rattle.mc_shard.proofs.WordsRead.{all_fit, fit_more, reads_on, word_still, words_len, write_all, write_last, write_next}
use Rattle.mc_shard.proofs.reading.write_value.Goals as goal

pub overflow_add-begin : goal.overflow_add-begin
overflow_add-begin c =
    let at : ℕ = c.args.begin + c.loop-place.place in
    let in_range : at < c.args.item.now.len = omega (arith, c.requires.len, c.loop-place-test.true) in
    let small = place_small c.args.arena.now c.args.hand.now c.args.item.now at c.requires.item.of_arena c.requires.item.refers in_range in
    omega arith

pub overflow_add-begin-then-full-room : goal.overflow_add-begin-then-full-room
overflow_add-begin-then-full-room c =
    let at : ℕ = c.args.begin + length c.args.room.now / 8 in
    let in_range : at < c.args.item.now.len = omega (arith, c.requires.len, c.if-full-room.true, c.loop-place.auto.room) in
    let small = place_small c.args.arena.now c.args.hand.now c.args.item.now at c.requires.item.of_arena c.requires.item.refers in_range in
    omega arith

pub loop-place-preserved : goal.loop-place-preserved
loop-place-preserved c =
    let ws : List ℕ = item_words (view c.args.hand.now) c.args.item.now in
    let at : ℕ = c.args.begin + c.loop-place.place in
    let count : ℕ = length c.args.room.now in
    let len : length ws ≡ c.args.begin + word_count_for count = words_len (view c.args.hand.now) c.args.item.now c.requires.item.refers ∙ c.requires.len in
    let word = word_still c.args.arena.now c.args.item.now c.args.hand.now c.loop-place.hand at c.read_word-word.result c.loop-place.invariant.reads c.read_word-word.ensures.word in
    record {
      reads = reads_on c.args.arena.now c.args.item.now c.args.hand.now c.loop-place.hand c.read_word-word.new.hand c.loop-place.invariant.reads c.read_word-word.ensures.reads;
      put = write_next c.args.begin ws count c.loop-place.room c.write_word.new.into c.loop-place.place c.read_word-word.result len c.loop-place.auto.room (omega (arith, c.loop-place-test.true)) word c.write_word.ensures c.loop-place.invariant.put;
      fit = fit_more c.args.begin ws c.loop-place.place c.read_word-word.result c.read_word-word.type_inv word c.loop-place.invariant.fit;
    }

pub returns-then-full-room-clause-bytes : goal.returns-then-full-room-clause-bytes
returns-then-full-room-clause-bytes c =
    let ws : List ℕ = item_words (view c.args.hand.now) c.args.item.now in
    let count : ℕ = length c.args.room.now in
    let full : ℕ = count / 8 in
    let len : length ws ≡ c.args.begin + word_count_for count = words_len (view c.args.hand.now) c.args.item.now c.requires.item.refers ∙ c.requires.len in
    let same : c.loop-place.place ≡ full = omega (arith, c.loop-place-test.false, c.loop-place.auto.place-end) in
    let put = subst (λ (p : ℕ). ArePut [] count (drop c.args.begin ws) (take (8 * p) c.loop-place.room) (count - 8 * p) p) same c.loop-place.invariant.put in
    let word = word_still c.args.arena.now c.args.item.now c.args.hand.now c.loop-place.hand (c.args.begin + full) c.read_word-last.result c.loop-place.invariant.reads c.read_word-last.ensures.word in
    write_last c.args.begin ws count c.loop-place.room c.write_part.new.into full c.read_word-last.result len c.loop-place.auto.room refl (omega (arith, c.if-full-room.true, c.loop-place.auto.room)) word c.write_part.ensures put

pub returns-then-full-room-clause-words : goal.returns-then-full-room-clause-words
returns-then-full-room-clause-words c =
    let ws : List ℕ = item_words (view c.args.hand.now) c.args.item.now in
    let count : ℕ = length c.args.room.now in
    let full : ℕ = count / 8 in
    let len : length ws ≡ c.args.begin + word_count_for count = words_len (view c.args.hand.now) c.args.item.now c.requires.item.refers ∙ c.requires.len in
    let same : c.loop-place.place ≡ full = omega (arith, c.loop-place-test.false, c.loop-place.auto.place-end) in
    let fit = subst (λ (p : ℕ). (k : ℕ) → k < p → get_or (drop c.args.begin ws) k 0 < 2 ^ 64) same c.loop-place.invariant.fit in
    let word = word_still c.args.arena.now c.args.item.now c.args.hand.now c.loop-place.hand (c.args.begin + full) c.read_word-last.result c.loop-place.invariant.reads c.read_word-last.ensures.word in
    all_fit c.args.begin ws (full + 1) (omega arith) (fit_more c.args.begin ws full c.read_word-last.result c.read_word-last.type_inv word fit)

pub returns-else-full-room-clause-bytes : goal.returns-else-full-room-clause-bytes
returns-else-full-room-clause-bytes c =
    let ws : List ℕ = item_words (view c.args.hand.now) c.args.item.now in
    let count : ℕ = length c.args.room.now in
    let len : length ws ≡ c.args.begin + word_count_for count = words_len (view c.args.hand.now) c.args.item.now c.requires.item.refers ∙ c.requires.len in
    let same : c.loop-place.place ≡ count / 8 = omega (arith, c.loop-place-test.false, c.loop-place.auto.place-end) in
    write_all c.args.begin ws count c.loop-place.room c.loop-place.place len c.loop-place.auto.room same (omega (arith, c.if-full-room.false, c.loop-place.auto.room)) c.loop-place.invariant.put

pub returns-else-full-room-clause-words : goal.returns-else-full-room-clause-words
returns-else-full-room-clause-words c =
    let ws : List ℕ = item_words (view c.args.hand.now) c.args.item.now in
    let count : ℕ = length c.args.room.now in
    let len : length ws ≡ c.args.begin + word_count_for count = words_len (view c.args.hand.now) c.args.item.now c.requires.item.refers ∙ c.requires.len in
    let same : c.loop-place.place ≡ count / 8 = omega (arith, c.loop-place-test.false, c.loop-place.auto.place-end) in
    let none : count ≤ 8 * c.loop-place.place = omega (arith, c.if-full-room.false, c.loop-place.auto.room) in
    all_fit c.args.begin ws c.loop-place.place (omega arith) c.loop-place.invariant.fit
