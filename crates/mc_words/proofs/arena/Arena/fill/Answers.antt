use Rattle.std.proofs.Common.{◌≡◌, ◌<◌, ℕ, refl, ap, sym, subst, length, ◌∙◌}
use Rattle.mc_pages.specs.declared.ids.ChunkId.{ChunkId}
use Rattle.mc_core.specs.model.Holdings.{holding_words}
use Rattle.mc_core.specs.declared.event.Step.TheVariants as core
use Rattle.mc_words.specs.hand.View.{View, Setup}
use Rattle.mc_words.specs.rule.Layout.{data_word, config_from}
use Rattle.mc_words.specs.rule.Happens.{MayWrite}
use Rattle.mc_words.specs.item.Fresh.{IsFreshOf}
use Rattle.mc_words.specs.hand.Tallies.{fresh_count}
use Rattle.mc_words.proofs.Pages.Owners.{may_fill, fill_near}
use Rattle.mc_words.proofs.Pages.OwnerViews.{filled_word}
use Rattle.mc_words.proofs.Items.Filled.{fill_holds, still_fresh}
use Rattle.mc_words.proofs.Locks.Locked.{noted_same}
use Rattle.mc_words.proofs.Hands.Tallies.{fresh_filled, tallied_fresh}
use Rattle.mc_words.proofs.arena.Arena.fill.Goals as goal

pub data_word-at-requires : goal.data_word-at-requires
data_word-at-requires c =
    let fresh = c.requires.fresh in
    let arena = c.requires.arena in
    let chunk = c.args.fresh.now.chunk in
    let in_range = subst (λ (n : ℕ). c.args.place < n) (sym fresh.room_is) c.requires.in_range in
    let below = fill_near c.args.hand.now.seat.me.0 chunk fresh.holding c.args.place fresh.found fresh.fresh in_range arena.lawful in
    record { in_range = subst (λ (p : Setup × ℕ). data_word p.0 p.1 chunk c.args.place < config_from p.0) (λ k. (arena.setup k, fresh.room_is k)) below }

pub write-requires : goal.write-requires
write-requires c =
    let fresh = c.requires.fresh in
    let arena = c.requires.arena in
    let view = c.args.hand.now.seat.me.0 in
    let chunk = c.args.fresh.now.chunk in
    let in_range = subst (λ (n : ℕ). c.args.place < n) (sym fresh.room_is) c.requires.in_range in
    let place : c.data_word-at.result ≡ data_word view.setup (length (holding_words fresh.holding)) chunk c.args.place =
    c.data_word-at.ensures.word ∙ (λ k. data_word (sym arena.setup k) (sym fresh.room_is k) chunk c.args.place) in
    (refl, (refl, (c.data_word-at.ensures.in_range, (arena, subst (λ (n : ℕ). MayWrite view (core.Fill chunk c.args.place c.args.word) n (λ found. c.args.word)) (sym place) (may_fill view chunk fresh.holding c.args.place c.args.word fresh.found fresh.fresh in_range)))))

pub invariant_of-hand : goal.invariant_of-hand
invariant_of-hand c =
    let a = c.args.hand.now in
    let is = filled_word a.seat.me.0 c.write.new.seat.me.0 c.args.fresh.now.chunk c.args.place c.args.word c.write.ensures.happens in
    record { noted = noted_same a.seat.me c.write.new.seat.me a.number a.chunks a.chunks a.locks a.noted c.write.ensures.out c.write.ensures.hand (a.noted.2 ∙ (sym (fill_holds c.args.fresh.now.chunk c.args.place c.args.word a.seat.me.0.row.holdings) ∙ ap (λ (v : View). length v.row.holdings) (sym is))); tallied = tallied_fresh a.seat.me c.write.new.seat.me a.stamps a.fresh a.fresh a.tallied (ap (λ (v : View). v.row.ids) is) (a.tallied.1 ∙ (sym (fresh_filled c.args.fresh.now.chunk c.args.place c.args.word a.seat.me.0.row.holdings) ∙ ap (λ (v : View). fresh_count v.row.holdings) (sym is))) }

pub returns-clause-filled : goal.returns-clause-filled
returns-clause-filled c = filled_word c.args.hand.now.seat.me.0 c.write.new.seat.me.0 c.args.fresh.now.chunk c.args.place c.args.word c.write.ensures.happens

pub returns-clause-fresh : goal.returns-clause-fresh
returns-clause-fresh c =
    let view = c.args.hand.now.seat.me.0 in
    let chunk = c.args.fresh.now.chunk in
    let is = filled_word view c.write.new.seat.me.0 chunk c.args.place c.args.word c.write.ensures.happens in
    let still = subst (λ (v : View). IsFreshOf v chunk c.args.fresh.now.room) (sym is) (still_fresh chunk c.args.place c.args.word view c.args.fresh.now.room c.requires.fresh) in
    subst (λ (p : ChunkId × ℕ). IsFreshOf c.write.new.seat.me.0 p.0 p.1) (λ k. (sym c.note.ensures.same.0 k, sym c.note.ensures.same.1 k)) still
