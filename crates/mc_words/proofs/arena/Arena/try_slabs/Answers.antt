use Rattle.std.proofs.Common.{◌≡◌, Some, refl, sym, ap, subst}
use Rattle.mc_words.specs.declared.lock.locks.Lock.TheVariants.{SlabsLock}
use Rattle.mc_words.specs.hand.View.{View}
use Rattle.mc_words.specs.lock.Out.{IsNoted}
use Rattle.mc_words.specs.lock.Tries.{HasValue}
use Rattle.mc_words.proofs.Locks.Locked.{noted_slabs}
use Rattle.mc_words.proofs.Locks.Lent.{lent_slabs}
use Rattle.mc_words.proofs.Locks.LockViews.{taken_slabs, missed_slabs}
use Rattle.mc_words.proofs.Hands.Tallies.{tallied_same}
use Rattle.mc_words.proofs.arena.Arena.try_slabs.Goals as goal

pub invariant_of-hand : goal.invariant_of-hand
invariant_of-hand c =
    let told = c.in-Some-OfSlabs.ensures in
    let has : c.take.new.seat.me.0.slabs ≡ Some c.in-Some-OfSlabs.shared = subst (HasValue c.take.new.seat.me.0 SlabsLock) c.in-Some-OfSlabs.field-0-is told.value in
    let is = taken_slabs c.args.hand.now.seat.me.0 c.take.new.seat.me.0 told.taken c.in-Some-OfSlabs.shared has in
    let a = c.args.hand.now in
    let noted = noted_slabs a.seat.me c.take.new.seat.me a.number a.chunks a.locks a.noted c.take.ensures.hand told.gains told.out (ap (λ (v : View). v.row.holdings) is) in
    record { noted = subst (IsNoted c.take.new.seat.me a.number a.chunks) (sym c.with_slabs-hand.ensures.locks) noted; tallied = tallied_same a.seat.me c.take.new.seat.me a.stamps a.fresh a.tallied (ap (λ (v : View). v.row.ids) is) (ap (λ (v : View). v.row.holdings) is) }

pub returns-in-Some-OfSlabs-clause-lent : goal.returns-in-Some-OfSlabs-clause-lent
returns-in-Some-OfSlabs-clause-lent c =
    let told = c.in-Some-OfSlabs.ensures in
    taken_slabs c.args.hand.now.seat.me.0 c.take.new.seat.me.0 told.taken c.in-Some-OfSlabs.shared (subst (HasValue c.take.new.seat.me.0 SlabsLock) c.in-Some-OfSlabs.field-0-is told.value)

pub returns-in-Some-OfSlabs-clause-whole : goal.returns-in-Some-OfSlabs-clause-whole
returns-in-Some-OfSlabs-clause-whole c =
    let told = c.in-Some-OfSlabs.ensures in
    lent_slabs c.args.hand.now.seat.me.0 c.take.new.seat.me.0 c.in-Some-OfSlabs.shared told.taken (subst (HasValue c.take.new.seat.me.0 SlabsLock) c.in-Some-OfSlabs.field-0-is told.value)

pub returns-in-None-clause-missed : goal.returns-in-None-clause-missed
returns-in-None-clause-missed c = (c.in-None.ensures.missed refl).2.0

pub returns-in-None-clause-held : goal.returns-in-None-clause-held
returns-in-None-clause-held c =
    let (word, busy, at) = c.in-None.ensures.missed refl in
    (word, busy, missed_slabs c.args.hand.now.seat.me.0 c.take.new.seat.me.0 word at)
