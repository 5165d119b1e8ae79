use Rattle.std.proofs.Common.{◌≡◌, ℕ, ◌+◌, List, [], ◌∷◌, length, take, refl, ap, sym, subst, ◌∙◌, arith, slice_index, length-take-le, take_all, if◌then◌else◌, Bool}
use Rattle.std.proofs.lemmas.List.{take_more}
use Rattle.mc_pages.specs.declared.ids.ChunkId.{ChunkId}
use Rattle.mc_core.specs.model.Holdings.{words_of_item}
use Rattle.mc_words.specs.hand.View.{View}
use Rattle.mc_words.specs.item.Items.{issue_in, item_with, known_words_in}
use Rattle.mc_words.specs.item.Links.{IsItemFilled}
use Rattle.mc_words.specs.hand.Views.{word_filled}
use Rattle.mc_items.specs.Storing.{item_filled}
use Rattle.mc_items.proofs.Fills.{filled_item, filled_more, filled_none, filled_words, long_enough, not_first, not_second}
use Rattle.mc_items.proofs.filling.fill_item.Goals as goal

pub loop-place-init : goal.loop-place-init
loop-place-init c =
    let chunk = c.args.fresh.now.chunk in
    let view : View = c.args.hand.now.seat.me.0 in
    let one : View = c.fill.new.hand.seat.me.0 in
    let two : View = c.fill-2.new.hand.seat.me.0 in
    let three : View = c.fill-3.new.hand.seat.me.0 in
    let same = c.fill.ensures.same.0 in
    let same2 = c.fill-2.ensures.same.0 ∙ same in
    let first = filled_more chunk [] c.args.key 0 view view one (filled_none chunk view) refl c.fill.ensures.filled in
    let second = filled_more chunk (c.args.key ∷ []) c.args.stamp 1 view one two first refl (c.fill-2.ensures.filled ∙ ap (λ (at : ChunkId). word_filled at 1 c.args.stamp one) same) in
    let third = filled_more chunk (c.args.key ∷ c.args.stamp ∷ []) (length c.args.words.now) 2 view two three second refl (c.fill-3.ensures.filled ∙ ap (λ (at : ChunkId). word_filled at 2 (length c.args.words.now) two) same2) in (
      c.fill-3.ensures.arena,
      c.fill-3.ensures.locks ∙ (c.fill-2.ensures.locks ∙ c.fill.ensures.locks),
      c.fill-3.ensures.same.0 ∙ same2,
      c.fill-3.ensures.same.1 ∙ (c.fill-2.ensures.same.1 ∙ c.fill.ensures.same.1),
      c.fill-3.ensures.key ∙ (c.fill-2.ensures.key ∙ c.fill.ensures.key),
      c.fill-3.ensures.stamp ∙ c.fill-2.ensures.stamp,
      c.fill-3.ensures.fresh,
      third,
    )

pub loop-place-preserved : goal.loop-place-preserved
loop-place-preserved c =
    let (arena, locks, chunks, rooms, key, stamp, fresh, filled) = c.loop-place.invariant in
    let chunk = c.args.fresh.now.chunk in
    let view : View = c.args.hand.now.seat.me.0 in
    let now : View = c.loop-place.hand.seat.me.0 in
    let next : View = c.fill_from.new.hand.seat.me.0 in
    let place = c.loop-place.place in
    let item = c.args.words.now in
    let below = c.loop-place-test.true in
    let word = slice_index item place in
    let long = length-take-le place item (omega arith) in
    let step = c.fill_from in (
      step.ensures.arena,
      step.ensures.locks ∙ locks,
      chunks,
      rooms,
      key,
      stamp,
      step.ensures.fresh,
      filled_more chunk (c.args.key ∷ c.args.stamp ∷ length item ∷ take place item) word (3 + place) view now next filled (omega arith)
          (step.ensures.filled ∙ ap (λ (at : ChunkId). word_filled at (3 + place) word now) chunks)
          ∙ ap (λ (l : List ℕ). item_filled chunk (c.args.key ∷ c.args.stamp ∷ length item ∷ l) view) (sym (take_more item place 0 (omega arith))),
    )

pub returns-clause-filled : goal.returns-clause-filled
returns-clause-filled c =
    let filled = c.loop-place.invariant.7 in
    let past = c.loop-place-test.false in
    filled ∙ ap (λ (l : List ℕ). item_filled c.args.fresh.now.chunk (c.args.key ∷ c.args.stamp ∷ length c.args.words.now ∷ l) c.args.hand.now.seat.me.0) (take_all c.loop-place.place c.args.words.now (omega arith))

pub returns-clause-item : goal.returns-clause-item
returns-clause-item c =
    let view : View = c.args.hand.now.seat.me.0 in
    let now : View = c.loop-place.hand.seat.me.0 in
    let chunk = c.args.fresh.now.chunk in
    let chunks = c.loop-place.invariant.2 in
    let filled = c.loop-place.invariant.7 in
    let past = c.loop-place-test.false in
    let is : now ≡ item_filled chunk (item_with c.args.key c.args.stamp c.args.words.now) view = filled ∙ ap (λ (l : List ℕ). item_filled chunk (c.args.key ∷ c.args.stamp ∷ length c.args.words.now ∷ l) view) (take_all c.loop-place.place c.args.words.now (omega arith)) in
    let long = long_enough view chunk c.args.fresh.now.room (3 + length c.args.words.now) c.requires.fresh c.requires.room in
    subst (λ (at : ChunkId). IsItemFilled now at (issue_in now at) (known_words_in now at) c.args.key c.args.stamp) (sym chunks) (filled_item chunk c.args.key c.args.stamp c.args.words.now view now c.requires.own long is)

pub returns-clause-words : goal.returns-clause-words
returns-clause-words c =
    let view : View = c.args.hand.now.seat.me.0 in
    let now : View = c.loop-place.hand.seat.me.0 in
    let chunk = c.args.fresh.now.chunk in
    let chunks = c.loop-place.invariant.2 in
    let filled = c.loop-place.invariant.7 in
    let past = c.loop-place-test.false in
    let is : now ≡ item_filled chunk (item_with c.args.key c.args.stamp c.args.words.now) view = filled ∙ ap (λ (l : List ℕ). item_filled chunk (c.args.key ∷ c.args.stamp ∷ length c.args.words.now ∷ l) view) (take_all c.loop-place.place c.args.words.now (omega arith)) in
    let long = long_enough view chunk c.args.fresh.now.room (3 + length c.args.words.now) c.requires.fresh c.requires.room in
    ap (λ (at : ChunkId). words_of_item (known_words_in now at)) chunks ∙ filled_words chunk c.args.key c.args.stamp c.args.words.now view now c.requires.own long is
