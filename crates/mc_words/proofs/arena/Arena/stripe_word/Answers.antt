use Rattle.std.proofs.Common.{◌≡◌, ◌<◌, ℕ, suc, refl, ap, sym, subst, ◌∙◌, length, arith, []}
use Rattle.mc_core.specs.declared.event.Step.TheVariants as core
use Rattle.mc_core.specs.declared.look.Look.TheVariants.{SawStripe}
use Rattle.mc_core.specs.past.Past.{stripe_word}
use Rattle.mc_words.specs.hand.View.{View, Setup}
use Rattle.mc_words.specs.rule.Layout.{lock_address}
use Rattle.mc_words.specs.rule.Happens.{MayWrite, HappensAt}
use Rattle.mc_words.specs.hand.Views.{view_after_sight}
use Rattle.mc_words.proofs.Locks.Locked.{noted_same}
use Rattle.mc_words.proofs.Locks.LockViews.{look_holds, missed_stripe}
use Rattle.mc_words.proofs.Hands.Tallies.{tallied_same}
use Rattle.mc_words.proofs.Locks.Waits.{may_look_at_stripe}
use Rattle.mc_words.proofs.arena.Arena.stripe_word.Goals as goal

pub word-word-requires : goal.word-word-requires
word-word-requires c =
    let a = c.args.self.now in
    let in_range = c.requires.in_range in
    let setup = ap (λ (s : Setup). s.config.stripes) a.planned in
    let within_limit = a.within_limit in
    record { within_limit = omega arith }

pub look-requires : goal.look-requires
look-requires c =
    let a = c.args.self.now in
    let view = c.args.hand.now.seat.me.0 in
    let in_range = subst (λ (s : Setup). c.args.stripe < s.config.stripes) (sym c.requires.arena.setup) c.requires.in_range in
    let planned = ap (λ (s : Setup). s.config.stripes) (c.requires.arena.setup ∙ a.planned) in
    let count = a.words in
    let place : c.word-word.result ≡ lock_address (suc c.args.stripe) = c.word-word.ensures.word in
    (refl, (refl, ((omega arith), (c.requires.arena, subst (λ (n : ℕ). MayWrite view (core.MissStripe c.args.stripe) n (λ found. found)) (sym place) (may_look_at_stripe view c.args.stripe in_range)))))

pub invariant_of-hand : goal.invariant_of-hand
invariant_of-hand c =
    let a = c.args.hand.now in
    let view = a.seat.me.0 in
    let in_range = subst (λ (s : Setup). c.args.stripe < s.config.stripes) (sym c.requires.arena.setup) c.requires.in_range in
    let at = subst (λ (n : ℕ). HappensAt n c.look.result view [] (core.MissStripe c.args.stripe) c.look.new.seat.me.0) c.word-word.ensures.word c.look.ensures.happens in
    let is = missed_stripe view c.look.new.seat.me.0 c.args.stripe c.look.result in_range at in
    let held = ap (λ (v : View). v.row.holdings) is ∙ look_holds (SawStripe c.args.stripe c.look.result) (view_after_sight (stripe_word c.args.stripe c.look.result) view) in
    record { noted = noted_same a.seat.me c.look.new.seat.me a.number a.chunks a.chunks a.locks a.noted c.look.ensures.out c.look.ensures.hand (a.noted.2 ∙ ap length (sym held)); tallied = tallied_same a.seat.me c.look.new.seat.me a.stamps a.fresh a.tallied (ap (λ (v : View). v.row.ids) is) (ap (λ (v : View). v.row.holdings) is) }

pub returns-clause-happens : goal.returns-clause-happens
returns-clause-happens c = c.look.ensures.happens.0

pub returns-clause-seen : goal.returns-clause-seen
returns-clause-seen c =
    let view = c.args.hand.now.seat.me.0 in
    let in_range = subst (λ (s : Setup). c.args.stripe < s.config.stripes) (sym c.requires.arena.setup) c.requires.in_range in
    missed_stripe view c.look.new.seat.me.0 c.args.stripe c.look.result in_range (subst (λ (n : ℕ). HappensAt n c.look.result view [] (core.MissStripe c.args.stripe) c.look.new.seat.me.0) c.word-word.ensures.word c.look.ensures.happens)
