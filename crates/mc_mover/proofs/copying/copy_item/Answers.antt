use Rattle.std.proofs.Common.{◌≡◌, ℕ, ◌+◌, ◌≤◌, List, [], ◌∷◌, ◌++◌, length, Option, Some, IfSome, refl, sym, ap, subst, ◌∙◌, arith, if◌then◌else◌, Bool}
use Rattle.mc_pages.specs.declared.ids.ChunkId.{ChunkId}
use Rattle.mc_words.specs.item.Removal.{key_read}
use Rattle.mc_words.specs.item.Items.{word_read}
use Rattle.mc_words.specs.hand.View.{View}
use Rattle.mc_mover.specs.Copying.{words_copied}
use Rattle.mc_mover.proofs.Copied.{copied_more, not_first, not_second, one_longer, read_copied, three_places, word_copied}
use Rattle.mc_mover.proofs.copying.copy_item.Goals as goal

pub copy_word-requires-clause-inside : goal.copy_word-requires-clause-inside
copy_word-requires-clause-inside c =
    let view : View = c.args.hand.now.seat.me.0 in
    let room : ℕ = c.args.fresh.now.room in
    let (three, most) = three_places view c.args.arena.now.table.shared.key c.requires.arena.lawful c.requires.arena.setup c.args.held.now.shared c.requires.held c.args.chunk c.requires.in_range c.requires.linked room c.requires.room in
    omega arith

pub copy_word-requires-2-clause-inside : goal.copy_word-requires-2-clause-inside
copy_word-requires-2-clause-inside c =
    let view : View = c.args.hand.now.seat.me.0 in
    let room : ℕ = c.args.fresh.now.room in
    let (three, most) = three_places view c.args.arena.now.table.shared.key c.requires.arena.lawful c.requires.arena.setup c.args.held.now.shared c.requires.held c.args.chunk c.requires.in_range c.requires.linked room c.requires.room in
    let same : c.copy_word.new.fresh.room ≡ room = c.copy_word.ensures.same.1 in
    omega arith

pub copy_word-words-requires-clause-inside : goal.copy_word-words-requires-clause-inside
copy_word-words-requires-clause-inside c =
    let view : View = c.args.hand.now.seat.me.0 in
    let room : ℕ = c.args.fresh.now.room in
    let (three, most) = three_places view c.args.arena.now.table.shared.key c.requires.arena.lawful c.requires.arena.setup c.args.held.now.shared c.requires.held c.args.chunk c.requires.in_range c.requires.linked room c.requires.room in
    let same : c.copy_word-2.new.fresh.room ≡ room = c.copy_word-2.ensures.same.1 ∙ c.copy_word.ensures.same.1 in
    omega arith

pub overflow_add-place-end : goal.overflow_add-place-end
overflow_add-place-end c =
    let fits : 3 + c.copy_word-words.result ≤ c.copy_word-2.new.fresh.room = c.copy_word-words.ensures.fits refl in
    let view : View = c.args.hand.now.seat.me.0 in
    let room : ℕ = c.args.fresh.now.room in
    let (three, most) = three_places view c.args.arena.now.table.shared.key c.requires.arena.lawful c.requires.arena.setup c.args.held.now.shared c.requires.held c.args.chunk c.requires.in_range c.requires.linked room c.requires.room in
    let same : c.copy_word-2.new.fresh.room ≡ room = c.copy_word-2.ensures.same.1 ∙ c.copy_word.ensures.same.1 in
    omega (arith, fits, same, most)

pub loop-place-init : goal.loop-place-init
loop-place-init c =
    let chunk = c.args.chunk in
    let copy : ChunkId = c.args.fresh.now.chunk in
    let view : View = c.args.hand.now.seat.me.0 in
    let one : View = c.copy_word.new.hand.seat.me.0 in
    let two : View = c.copy_word-2.new.hand.seat.me.0 in
    let three : View = c.copy_word-words.new.hand.seat.me.0 in
    let first = c.copy_word.ensures in
    let second = c.copy_word-2.ensures in
    let third = c.copy_word-words.ensures in
    let chunks : c.copy_word-2.new.fresh.chunk ≡ copy = second.same.0 ∙ first.same.0 in
    let rooms : c.copy_word-2.new.fresh.room ≡ c.args.fresh.now.room = second.same.1 ∙ first.same.1 in
    let key : c.copy_word-words.new.fresh.key ≡ c.copy_word.result = third.key ∙ (second.key ∙ first.key) in
    let stamp : c.copy_word-words.new.fresh.stamp ≡ c.copy_word-2.result = third.stamp ∙ second.stamp in
    let count : ℕ = c.copy_word-words.result in
    let fits : 3 + count ≤ c.copy_word-2.new.fresh.room = third.fits refl in
    let two_is : two ≡ word_copied chunk copy 1 c.copy_word-2.result one = second.copied ∙ ap (λ (at : ChunkId). word_copied chunk at 1 c.copy_word-2.result one) first.same.0 in
    let three_is : three ≡ word_copied chunk copy 2 count two = third.copied ∙ ap (λ (at : ChunkId). word_copied chunk at 2 count two) chunks in
    let all : three ≡ words_copied chunk copy 0 (c.copy_word.result ∷ c.copy_word-2.result ∷ count ∷ []) view =
    three_is ∙ (ap (word_copied chunk copy 2 count) two_is ∙ ap (λ (v : View). word_copied chunk copy 2 count (word_copied chunk copy 1 c.copy_word-2.result v)) first.copied) in (
      third.arena,
      third.locks ∙ (second.locks ∙ first.locks),
      third.held,
      third.linked,
      third.same.0 ∙ chunks,
      third.same.1 ∙ rooms,
      third.fresh,
      omega (arith, fits, rooms),
      omega arith,
      subst (λ (k : ℕ). IfSome (key_read view chunk) (λ before. k ≡ before)) (sym key) first.again,
      ([], refl, all ∙ (λ k. words_copied chunk copy 0 (sym key k ∷ sym stamp k ∷ count ∷ []) view)),
    )

pub loop-place-preserved : goal.loop-place-preserved
loop-place-preserved c =
    let (arena, locks, held, linked, chunks, rooms, fresh, fits, most, same_key, (words, long, is)) = c.loop-place.invariant in
    let chunk = c.args.chunk in
    let copy : ChunkId = c.args.fresh.now.chunk in
    let view : View = c.args.hand.now.seat.me.0 in
    let now : View = c.loop-place.hand.seat.me.0 in
    let next : View = c.copy_word-in-loop-place.new.hand.seat.me.0 in
    let place = c.loop-place.place in
    let below = c.loop-place-test.true in
    let step = c.copy_word-in-loop-place.ensures in
    let word : ℕ = c.copy_word-in-loop-place.result in
    let count : ℕ = c.copy_word-words.result in
    let behind : 3 ≤ place = omega (arith, long) in
    let key : c.copy_word-in-loop-place.new.fresh.key ≡ c.loop-place.fresh.key = step.key ∙ ap (λ (b : Bool). if b then word else c.loop-place.fresh.key) (not_first place behind) in
    let stamp : c.copy_word-in-loop-place.new.fresh.stamp ≡ c.loop-place.fresh.stamp = step.stamp ∙ ap (λ (b : Bool). if b then word else c.loop-place.fresh.stamp) (not_second place behind) in
    let next_is : next ≡ word_copied chunk copy place word now = step.copied ∙ ap (λ (at : ChunkId). word_copied chunk at place word now) chunks in
    let more = copied_more chunk copy word place 0 (c.loop-place.fresh.key ∷ c.loop-place.fresh.stamp ∷ count ∷ words) view (omega (arith, long)) in
    let all : next ≡ words_copied chunk copy 0 (c.loop-place.fresh.key ∷ c.loop-place.fresh.stamp ∷ count ∷ (words ++ word ∷ [])) view = next_is ∙ (ap (word_copied chunk copy place word) is ∙ sym more) in (
      step.arena,
      step.locks ∙ locks,
      step.held,
      step.linked,
      step.same.0 ∙ chunks,
      step.same.1 ∙ rooms,
      step.fresh,
      fits,
      omega (arith, below),
      subst (λ (k : ℕ). IfSome (key_read view chunk) (λ before. k ≡ before)) (sym key) same_key,
      (words ++ word ∷ [], omega (arith, long, one_longer words word), all ∙ (λ k. words_copied chunk copy 0 (sym key k ∷ sym stamp k ∷ count ∷ (words ++ word ∷ [])) view)),
    )

pub returns-clause-fits : goal.returns-clause-fits
returns-clause-fits c =
    let (arena, locks, held, linked, chunks, rooms, fresh, fits, most, same_key, (words, long, is)) = c.loop-place.invariant in
    let chunk = c.args.chunk in
    let copy : ChunkId = c.args.fresh.now.chunk in
    let view : View = c.args.hand.now.seat.me.0 in
    let count : ℕ = c.copy_word-words.result in
    let item : List ℕ = c.loop-place.fresh.key ∷ c.loop-place.fresh.stamp ∷ count ∷ words in
    let read : word_read c.loop-place.hand.seat.me.0 chunk 2 ≡ Some count = ap (λ (v : View). word_read v chunk 2) is ∙ read_copied chunk copy 2 2 0 item view (omega arith) refl in
    subst (λ (o : Option ℕ). IfSome o (λ n. 3 + n ≤ c.args.fresh.now.room)) (sym read) fits

pub returns-clause-copied : goal.returns-clause-copied
returns-clause-copied c =
    let (arena, locks, held, linked, chunks, rooms, fresh, fits, most, same_key, (words, long, is)) = c.loop-place.invariant in
    let past = c.loop-place-test.false in
    let count : c.copy_word-words.result ≡ length words = omega (arith, long, most, past) in
    record { words = words; is = is ∙ ap (λ (n : ℕ). words_copied c.args.chunk c.args.fresh.now.chunk 0 (c.loop-place.fresh.key ∷ c.loop-place.fresh.stamp ∷ n ∷ words) c.args.hand.now.seat.me.0) count }
