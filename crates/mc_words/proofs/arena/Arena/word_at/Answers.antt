use Rattle.std.proofs.Common.{◌≡◌, ℕ, ◌<◌, refl, ap, sym, subst, length, slice_index, ◌∙◌}
use Rattle.mc_words.specs.hand.View.{View, Setup}
use Rattle.mc_words.specs.rule.Layout.{data_word}
use Rattle.mc_words.specs.item.Refs.{IsRefOf}
use Rattle.mc_words.proofs.Items.WordReads.{item_found, word_is, may_read, read_word}
use Rattle.mc_words.proofs.Locks.Locked.{noted_same}
use Rattle.mc_words.proofs.Hands.Tallies.{tallied_same}
use Rattle.mc_words.proofs.arena.Arena.word_at.Goals as goal

pub look-requires : goal.look-requires
look-requires c =
    let ref = c.requires.reference in
    let view = c.args.hand.now.seat.me.0 in
    let chunk = c.args.reference.now.chunk in
    let in_range = subst (λ (n : ℕ). c.args.place < n) (ap length (item_found view chunk ref.holding ref.found)) c.requires.in_range in
    (refl, (refl, (c.requires.inside, (c.requires.arena, may_read view chunk c.args.reference.now.room c.args.place ref in_range c.args.at))))

pub invariant_of-hand : goal.invariant_of-hand
invariant_of-hand c =
    let a = c.args.hand.now in
    let is = read_word a.seat.me.0 c.look.new.seat.me.0 c.args.reference.now.chunk c.args.place c.look.ensures.happens.0 in
    record { noted = noted_same a.seat.me c.look.new.seat.me a.number a.chunks a.chunks a.locks a.noted c.look.ensures.out c.look.ensures.hand (a.noted.2 ∙ ap (λ (v : View). length v.row.holdings) (sym is)); tallied = tallied_same a.seat.me c.look.new.seat.me a.stamps a.fresh a.tallied (ap (λ (v : View). v.row.ids) is) (ap (λ (v : View). v.row.holdings) is) }

pub returns-clause-happens : goal.returns-clause-happens
returns-clause-happens c = c.look.ensures.happens.0

pub returns-clause-word : goal.returns-clause-word
returns-clause-word c =
    let ref = c.requires.reference in
    let arena = c.requires.arena in
    let view = c.args.hand.now.seat.me.0 in
    let chunk = c.args.reference.now.chunk in
    let room = c.args.reference.now.room in
    let same = item_found view chunk ref.holding ref.found in
    let in_range = subst (λ (n : ℕ). c.args.place < n) (ap length same) c.requires.in_range in
    let happens = c.look.ensures.happens in
    let place : c.args.at ≡ data_word view.setup room chunk c.args.place = c.requires.at ∙ ap (λ (s : Setup). data_word s room chunk c.args.place) (sym arena.setup) in
    sym happens.1 ∙ (ap (slice_index happens.0.was.words) place ∙ (word_is view chunk room ref happens.0.was c.args.place in_range ∙ ap (λ item. slice_index item c.args.place) (sym same)))

pub returns-clause-view : goal.returns-clause-view
returns-clause-view c = read_word c.args.hand.now.seat.me.0 c.look.new.seat.me.0 c.args.reference.now.chunk c.args.place c.look.ensures.happens.0

pub returns-clause-reference : goal.returns-clause-reference
returns-clause-reference c =
    let is = read_word c.args.hand.now.seat.me.0 c.look.new.seat.me.0 c.args.reference.now.chunk c.args.place c.look.ensures.happens.0 in
    subst (λ (v : View). IsRefOf v c.args.reference.now.chunk c.args.reference.now.room) (sym is) c.requires.reference
