use Rattle.std.proofs.Common.{◌≡◌, ℕ, suc, ◌+◌, refl, ap, sym, subst, ◌∙◌, length, arith, slice_index_or, None}
use Rattle.mc_core.specs.declared.event.Change.TheVariants.{OfStripe}
use Rattle.mc_core.specs.declared.event.Step.TheVariants as core
use Rattle.mc_core.specs.declared.look.Look.TheVariants.{SawStripe}
use Rattle.mc_core.specs.past.Past.{stripe_word}
use Rattle.mc_core.specs.run.Silent.{stripe_after}
use Rattle.mc_words.specs.hand.View.{View, Setup}
use Rattle.mc_words.specs.rule.Layout.{lock_address}
use Rattle.mc_words.specs.rule.Happens.{AllowsStep}
use Rattle.mc_words.specs.lock.Lent.{lent_stripe}
use Rattle.mc_words.specs.hand.Views.{view_after_sight}
use Rattle.mc_words.proofs.Locks.Locked.{noted_same}
use Rattle.mc_words.proofs.Locks.LockViews.{look_holds}
use Rattle.mc_words.proofs.Locks.StripeChanges.{stripe_near, may_change, made, changed_stripe, set_found}
use Rattle.mc_words.proofs.Hands.Tallies.{tallied_same}
use Rattle.mc_words.proofs.arena.Arena.tell_change.Goals as goal

pub word-word-requires : goal.word-word-requires
word-word-requires c =
    let a = c.args.self.now in
    let in_range = stripe_near c.args.hand.now.seat.me.0 c.args.stripe (lent_stripe c.args.hand.now.seat.me.0 c.args.stripe) c.requires.held c.requires.arena.lawful in
    let setup = ap (λ (s : Setup). s.config.stripes) (c.requires.arena.setup ∙ a.planned) in
    let within_limit = a.within_limit in
    record { within_limit = omega arith }

pub tell-requires : goal.tell-requires
tell-requires c =
    let a = c.args.self.now in
    let number = c.args.stripe in
    let in_range = stripe_near c.args.hand.now.seat.me.0 number (lent_stripe c.args.hand.now.seat.me.0 c.args.stripe) c.requires.held c.requires.arena.lawful in
    let setup = ap (λ (s : Setup). s.config.stripes) (c.requires.arena.setup ∙ a.planned) in
    let count = a.words in
    let place : c.word-word.result ≡ lock_address (suc number) = c.word-word.ensures.word in
    (refl, (refl, ((omega arith), (c.requires.arena, subst (λ (n : ℕ). AllowsStep c.args.hand.now.seat.me.0 (OfStripe number c.args.how) (core.MissStripe number) n (λ found. found)) (sym place) (may_change c.args.hand.now.seat.me.0 number (lent_stripe c.args.hand.now.seat.me.0 c.args.stripe) c.requires.held c.args.how c.requires.may)))))

pub invariant_of-hand : goal.invariant_of-hand
invariant_of-hand c =
    let a = c.args.hand.now in
    let number = c.args.stripe in
    let is = changed_stripe a.seat.me.0 number (lent_stripe c.args.hand.now.seat.me.0 c.args.stripe) c.requires.held c.args.how c.requires.may c.tell.new.seat.me.0 a.number a.noted.0 c.tell.ensures.happens in
    let held = ap (λ (v : View). v.row.holdings) is ∙ look_holds (SawStripe number (a.number + 1)) (view_after_sight (stripe_word number (a.number + 1)) (made a.seat.me.0 number (lent_stripe c.args.hand.now.seat.me.0 c.args.stripe) c.requires.held c.args.how c.requires.may)) in
    record { noted = noted_same a.seat.me c.tell.new.seat.me a.number a.chunks a.chunks a.locks a.noted c.tell.ensures.out c.tell.ensures.hand (a.noted.2 ∙ ap length (sym held)); tallied = tallied_same a.seat.me c.tell.new.seat.me a.stamps a.fresh a.tallied (ap (λ (v : View). v.row.ids) is) (ap (λ (v : View). v.row.holdings) is) }

pub returns-clause-view : goal.returns-clause-view
returns-clause-view c = changed_stripe c.args.hand.now.seat.me.0 c.args.stripe (lent_stripe c.args.hand.now.seat.me.0 c.args.stripe) c.requires.held c.args.how c.requires.may c.tell.new.seat.me.0 c.args.hand.now.number c.args.hand.now.noted.0 c.tell.ensures.happens

pub returns-clause-held : goal.returns-clause-held
returns-clause-held c =
    let view = c.args.hand.now.seat.me.0 in
    ap (λ (v : View). slice_index_or v.stripes c.args.stripe None) (returns-clause-view c)
    ∙ set_found view.stripes c.args.stripe (lent_stripe c.args.hand.now.seat.me.0 c.args.stripe) (stripe_after c.args.how (lent_stripe c.args.hand.now.seat.me.0 c.args.stripe)) c.requires.held
