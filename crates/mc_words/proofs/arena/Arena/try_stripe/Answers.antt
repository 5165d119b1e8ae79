use Rattle.std.proofs.Common.{◌≡◌, ◌<◌, Some, None, length, slice_index_or, refl, sym, ap, subst, arith, ◌∙◌, lt-ltb}
use Rattle.mc_words.specs.declared.lock.locks.Lock.TheVariants.{StripeLock}
use Rattle.mc_core.specs.declared.look.Look.TheVariants.{SawStripe}
use Rattle.mc_core.specs.past.Past.{stripe_word}
use Rattle.mc_words.specs.hand.View.{View, Setup}
use Rattle.mc_words.specs.hand.Views.{view_after_sight}
use Rattle.mc_words.specs.lock.Out.{IsNoted}
use Rattle.mc_words.specs.lock.Tries.{HasValue}
use Rattle.mc_words.proofs.Locks.Lent.{begins_with_seen, lent_stripe}
use Rattle.mc_words.proofs.Locks.Unlocked.{no_stripe_from}
use Rattle.mc_words.proofs.Locks.Locked.{noted_stripe, noted_same}
use Rattle.mc_words.proofs.Locks.LockViews.{taken_stripe, missed_stripe, look_holds}
use Rattle.mc_words.proofs.Hands.Tallies.{tallied_same}
use Rattle.mc_words.proofs.arena.Arena.try_stripe.Goals as goal

pub invariant_of-hand : goal.invariant_of-hand
invariant_of-hand c =
    let told = c.in-Some-OfStripe.ensures in
    let value = c.in-Some-OfStripe.value in
    let has : slice_index_or c.take.new.seat.me.0.stripes c.args.stripe None ≡ Some value = subst (HasValue c.take.new.seat.me.0 (StripeLock c.args.stripe)) c.in-Some-OfStripe.field-0-is told.value in
    let is = taken_stripe c.args.hand.now.seat.me.0 c.take.new.seat.me.0 c.args.stripe value told.taken has in
    let a = c.args.hand.now in
    let in_range : c.args.stripe < a.seat.me.0.setup.config.stripes = let same = ap (λ (s : Setup). s.config.stripes) c.requires.arena.setup in let in_range = c.requires.in_range in omega arith in
    let noted = noted_stripe a.seat.me c.take.new.seat.me a.number a.chunks c.args.stripe a.locks (no_stripe_from a.seat.me.0 a.locks a.noted.4 c.requires.one) (lt-ltb c.args.stripe a.seat.me.0.setup.config.stripes in_range) a.noted c.take.ensures.hand told.gains told.out (ap (λ (v : View). v.row.holdings) is) in
    record { noted = subst (IsNoted c.take.new.seat.me a.number a.chunks) (sym c.add_stripe.ensures.locks) noted; tallied = tallied_same a.seat.me c.take.new.seat.me a.stamps a.fresh a.tallied (ap (λ (v : View). v.row.ids) is) (ap (λ (v : View). v.row.holdings) is) }

pub invariant_of-hand-in-None : goal.invariant_of-hand-in-None
invariant_of-hand-in-None c =
    let a = c.args.hand.now in
    let stays = c.in-None.ensures.stays refl in
    let in_range : c.args.stripe < a.seat.me.0.setup.config.stripes = let same = ap (λ (s : Setup). s.config.stripes) c.requires.arena.setup in let in_range = c.requires.in_range in omega arith in
    let (word, busy, at) = c.in-None.ensures.missed refl in
    let is = missed_stripe a.seat.me.0 c.take.new.seat.me.0 c.args.stripe word in_range at in
    record { noted = noted_same a.seat.me c.take.new.seat.me a.number a.chunks a.chunks a.locks a.noted stays.0 stays.1 (a.noted.2 ∙ ap length (sym (ap (λ (v : View). v.row.holdings) is ∙ look_holds (SawStripe c.args.stripe word) (view_after_sight (stripe_word c.args.stripe word) a.seat.me.0)))); tallied = tallied_same a.seat.me c.take.new.seat.me a.stamps a.fresh a.tallied (ap (λ (v : View). v.row.ids) is) (ap (λ (v : View). v.row.holdings) is) }

pub returns-in-Some-OfStripe-clause-lent : goal.returns-in-Some-OfStripe-clause-lent
returns-in-Some-OfStripe-clause-lent c =
    let told = c.in-Some-OfStripe.ensures in
    taken_stripe c.args.hand.now.seat.me.0 c.take.new.seat.me.0 c.args.stripe c.in-Some-OfStripe.value told.taken (subst (HasValue c.take.new.seat.me.0 (StripeLock c.args.stripe)) c.in-Some-OfStripe.field-0-is told.value)

pub returns-in-Some-OfStripe-clause-whole : goal.returns-in-Some-OfStripe-clause-whole
returns-in-Some-OfStripe-clause-whole c =
    let told = c.in-Some-OfStripe.ensures in
    lent_stripe c.args.hand.now.seat.me.0 c.take.new.seat.me.0 c.args.stripe c.in-Some-OfStripe.value told.taken (subst (HasValue c.take.new.seat.me.0 (StripeLock c.args.stripe)) c.in-Some-OfStripe.field-0-is told.value)

pub returns-in-Some-OfStripe-clause-seen : goal.returns-in-Some-OfStripe-clause-seen
returns-in-Some-OfStripe-clause-seen c =
    let told = c.in-Some-OfStripe.ensures in
    begins_with_seen c.args.hand.now.seat.me.0 c.take.new.seat.me.0 c.args.stripe c.in-Some-OfStripe.value told.taken (subst (HasValue c.take.new.seat.me.0 (StripeLock c.args.stripe)) c.in-Some-OfStripe.field-0-is told.value)

pub returns-in-None-clause-missed : goal.returns-in-None-clause-missed
returns-in-None-clause-missed c = (c.in-None.ensures.missed refl).2.0

pub returns-in-None-clause-held : goal.returns-in-None-clause-held
returns-in-None-clause-held c =
    let (word, busy, at) = c.in-None.ensures.missed refl in
    let in_range : c.args.stripe < c.args.hand.now.seat.me.0.setup.config.stripes = let same = ap (λ (s : Setup). s.config.stripes) c.requires.arena.setup in let in_range = c.requires.in_range in omega arith in
    (word, busy, missed_stripe c.args.hand.now.seat.me.0 c.take.new.seat.me.0 c.args.stripe word in_range at)
