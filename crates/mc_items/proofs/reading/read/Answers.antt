use Rattle.std.proofs.Common.{◌≡◌, ◌+◌, ◌<◌, ◌≤◌, ℕ, List, [], ◌∷◌, ◌++◌, ap, sym, subst, ◌∙◌, arith, drop, length}
use Rattle.std.proofs.lemmas.List.{length-take}
use Rattle.mc_words.specs.hand.View.{View}
use Rattle.mc_words.specs.item.Items.{held_item, item_with}
use Rattle.mc_words.specs.hand.Views.{word_seen}
use Rattle.mc_items.specs.Reading.{words_seen}
use Rattle.mc_items.specs.Keeping.{WordsWereStored}
use Rattle.mc_items.proofs.Chains.{holdings_stay, kept_refs_keep_items, words_said}
use Rattle.mc_items.proofs.Freed.{no_value}
use Rattle.mc_items.proofs.Words.{one_more, one_read, all_read}
use Rattle.mc_items.proofs.reading.read.Goals as goal

pub push_reserved-requires : goal.push_reserved-requires
push_reserved-requires c =
    let (arena, locks, same, room, words) = c.loop-place.invariant in
    let in_range = c.loop-place-test.true in
    let read = ap length words ∙ length-take c.loop-place.place (drop 3 (held_item c.args.hand.now.seat.me.0 c.args.item.now.reference.chunk)) in
    omega (arith, room, in_range, read)

pub returns-in_err-words-clause-view : goal.returns-in_err-words-clause-view
returns-in_err-words-clause-view c = no_value _ c.from_residual.result c.from_residual.ensures.0

pub returns-in_err-words-clause-words : goal.returns-in_err-words-clause-words
returns-in_err-words-clause-words c = no_value _ c.from_residual.result c.from_residual.ensures.0

pub returns-in_err-words-clause-stores_words : goal.returns-in_err-words-clause-stores_words
returns-in_err-words-clause-stores_words c = no_value _ c.from_residual.result c.from_residual.ensures.0

pub loop-place-preserved : goal.loop-place-preserved
loop-place-preserved c =
    let chunk = c.args.item.now.reference.chunk in
    let (arena, locks, same, room, words) = c.loop-place.invariant in
    let len = c.requires.item.len in
    let below = c.loop-place-test.true in
    let now : held_item c.loop-place.hand.seat.me.0 chunk ≡ held_item c.args.hand.now.seat.me.0 chunk = ap (λ (v : View). held_item v chunk) same in (
      c.word.ensures.arena,
      c.word.ensures.locks ∙ locks,
      c.word.ensures.view ∙ (ap (word_seen chunk (3 + c.loop-place.place)) same ∙ one_read chunk 3 c.loop-place.place c.args.hand.now.seat.me.0),
      (omega (arith, c.push_reserved.ensures.capacity, room)),
      c.push_reserved.ensures.items
          ∙ (ap (λ (l : List ℕ). l ++ c.word.result ∷ []) words
          ∙ one_more (held_item c.args.hand.now.seat.me.0 chunk) c.loop-place.place c.word.result (omega arith) (c.word.ensures.word ∙ ap (λ (i : List ℕ). Rattle.std.proofs.Common.slice_index i (3 + c.loop-place.place)) now)),
    )

pub returns-clause-view : goal.returns-clause-view
returns-clause-view c =
    let chunk = c.args.item.now.reference.chunk in
    let (arena, locks, same, room, words) = c.loop-place.invariant in
    let all : c.loop-place.place ≡ c.args.item.now.len = omega arith in
    same ∙ ap (λ n. words_seen chunk 3 n c.args.hand.now.seat.me.0) all

pub returns-clause-words : goal.returns-clause-words
returns-clause-words c =
    let chunk = c.args.item.now.reference.chunk in
    let (arena, locks, same, room, words) = c.loop-place.invariant in
    let len = c.requires.item.len in
    let past = c.loop-place-test.false in
    words ∙ all_read (held_item c.args.hand.now.seat.me.0 chunk) c.loop-place.place (omega arith)

pub returns-clause-holdings : goal.returns-clause-holdings
returns-clause-holdings c =
    let (arena, locks, same, room, words) = c.loop-place.invariant in
    holdings_stay c.args.hand.now.seat.me.0 c.loop-place.hand.seat.me.0 (ap (λ (v : View). v.row.holdings) same) (ap (λ (v : View). v.row.knows.known) same)

pub returns-clause-stores_words : goal.returns-clause-stores_words
returns-clause-stores_words c =
    let item = c.args.item.now in
    let now : View = c.loop-place.hand.seat.me.0 in
    let (arena, locks, same, room, words) = c.loop-place.invariant in
    let stays = kept_refs_keep_items c.args.hand.now.seat.me.0 now item (returns-clause-holdings c).references c.requires.item in
    subst (λ (l : List ℕ). WordsWereStored now item.stamp (item_with item.key item.stamp l)) (stays.words ∙ sym (returns-clause-words c)) (words_said now arena.lawful item stays.refers)

pub returns-clause-item : goal.returns-clause-item
returns-clause-item c = (kept_refs_keep_items c.args.hand.now.seat.me.0 c.loop-place.hand.seat.me.0 c.args.item.now (returns-clause-holdings c).references c.requires.item).refers
