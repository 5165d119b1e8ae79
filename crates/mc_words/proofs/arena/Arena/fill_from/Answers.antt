use Rattle.std.proofs.Common.{◌≡◌, ◌+◌, ◌<◌, ℕ, refl, ap, sym, subst, length, ◌∙◌, arith}
use Rattle.mc_core.specs.model.Holdings.{holding_words}
use Rattle.mc_core.specs.declared.event.Step.TheVariants as core
use Rattle.mc_words.specs.declared.arena.Arena.{Arena}
use Rattle.mc_words.specs.declared.hand.Hand.{Hand}
use Rattle.mc_words.specs.declared.hand.held.Fresh.{Fresh}
use Rattle.mc_words.specs.hand.Arenas.{IsHandOf, setup_of, view}
use Rattle.mc_words.specs.hand.View.{View, Setup}
use Rattle.mc_words.specs.rule.Layout.{data_word, config_from, word_count}
use Rattle.mc_words.specs.rule.Happens.{MayWrite}
use Rattle.mc_words.specs.item.Fresh.{IsFreshOf}
use Rattle.mc_words.specs.hand.Tallies.{fresh_count}
use Rattle.mc_words.proofs.Pages.Owners.{may_fill, fill_near}
use Rattle.mc_words.proofs.Pages.OwnerViews.{filled_word}
use Rattle.mc_words.proofs.Items.Filled.{fill_holds, still_fresh}
use Rattle.mc_words.proofs.Locks.Locked.{noted_same}
use Rattle.mc_words.proofs.Hands.Tallies.{fresh_filled, tallied_fresh}
use Rattle.mc_words.proofs.arena.Arena.fill_from.Goals as goal

-- the place of a word of a fresh chunk lies before the configuration
before_config : (arena : Arena) (hand : Hand) (fresh : Fresh) (place : ℕ) → IsHandOf arena hand → IsFreshOf (view hand) fresh.chunk fresh.room → place < fresh.room
    → data_word (setup_of arena) fresh.room fresh.chunk place < config_from (setup_of arena)
before_config arena hand fresh place of is within =
    let in_range = subst (λ (n : ℕ). place < n) (sym is.room_is) within in
    let below = fill_near (view hand) fresh.chunk is.holding place is.found is.fresh in_range of.lawful in
    subst (λ (p : Setup × ℕ). data_word p.0 p.1 fresh.chunk place < config_from p.0) (λ k. (of.setup k, is.room_is k)) below

pub overflow_add-first : goal.overflow_add-first
overflow_add-first c =
    let in_range = before_config c.args.self.now c.args.hand.now c.args.fresh.now c.args.place c.requires.arena c.requires.fresh c.requires.in_range in
    omega (arith, in_range, c.requires.first, c.args.self.now.words, c.args.self.now.small, ap word_count c.args.self.now.planned)

pub write-requires : goal.write-requires
write-requires c =
    let fresh = c.requires.fresh in
    let arena = c.requires.arena in
    let view = c.args.hand.now.seat.me.0 in
    let chunk = c.args.fresh.now.chunk in
    let room = c.args.fresh.now.room in
    let before = before_config c.args.self.now c.args.hand.now c.args.fresh.now c.args.place arena fresh c.requires.in_range in
    let inside : c.args.first + c.args.place < c.args.self.now.table.shared.table_id.words = omega (arith, before, c.requires.first, c.args.self.now.words, ap word_count c.args.self.now.planned) in
    let in_range = subst (λ (n : ℕ). c.args.place < n) (sym fresh.room_is) c.requires.in_range in
    let here : c.args.first + c.args.place ≡ data_word (setup_of c.args.self.now) room chunk c.args.place = omega (arith, c.requires.first) in
    let place : c.args.first + c.args.place ≡ data_word view.setup (length (holding_words fresh.holding)) chunk c.args.place =
    here ∙ (λ k. data_word (sym arena.setup k) (sym fresh.room_is k) chunk c.args.place) in
    (refl, (refl, (inside, (arena, subst (λ (n : ℕ). MayWrite view (core.Fill chunk c.args.place c.args.word) n (λ found. c.args.word)) (sym place) (may_fill view chunk fresh.holding c.args.place c.args.word fresh.found fresh.fresh in_range)))))

pub invariant_of-hand : goal.invariant_of-hand
invariant_of-hand c =
    let a = c.args.hand.now in
    let is = filled_word a.seat.me.0 c.write.new.seat.me.0 c.args.fresh.now.chunk c.args.place c.args.word c.write.ensures.happens in
    record { noted = noted_same a.seat.me c.write.new.seat.me a.number a.chunks a.chunks a.locks a.noted c.write.ensures.out c.write.ensures.hand (a.noted.2 ∙ (sym (fill_holds c.args.fresh.now.chunk c.args.place c.args.word a.seat.me.0.row.holdings) ∙ ap (λ (v : View). length v.row.holdings) (sym is))); tallied = tallied_fresh a.seat.me c.write.new.seat.me a.stamps a.fresh a.fresh a.tallied (ap (λ (v : View). v.row.ids) is) (a.tallied.1 ∙ (sym (fresh_filled c.args.fresh.now.chunk c.args.place c.args.word a.seat.me.0.row.holdings) ∙ ap (λ (v : View). fresh_count v.row.holdings) (sym is))) }

pub returns-clause-filled : goal.returns-clause-filled
returns-clause-filled c = filled_word c.args.hand.now.seat.me.0 c.write.new.seat.me.0 c.args.fresh.now.chunk c.args.place c.args.word c.write.ensures.happens

pub returns-clause-fresh : goal.returns-clause-fresh
returns-clause-fresh c =
    let view = c.args.hand.now.seat.me.0 in
    let chunk = c.args.fresh.now.chunk in
    let is = filled_word view c.write.new.seat.me.0 chunk c.args.place c.args.word c.write.ensures.happens in
    subst (λ (v : View). IsFreshOf v chunk c.args.fresh.now.room) (sym is) (still_fresh chunk c.args.place c.args.word view c.args.fresh.now.room c.requires.fresh)
