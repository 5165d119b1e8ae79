use Rattle.std.proofs.Common.{◌≡◌, ◌<◌, ℕ, refl, ap, subst, sym, ◌∙◌}
use Rattle.mc_core.specs.model.Holdings.{has_fresh}
use Rattle.mc_words.specs.hand.View.{Setup, View}
use Rattle.mc_words.specs.lock.Out.{without_stripe}
use Rattle.mc_words.proofs.Hands.HandNumbers.{number_stays}
use Rattle.mc_items.specs.Clearing.{ClearsBehind, ClearsStripe, StopsBehind, StopsClearing}
use Rattle.mc_items.proofs.Chains.{hand_still, holdings_stay}
use Rattle.mc_items.proofs.Clears.{clears_stripe, deletes_keep, deletes_leave_slabs, empty_if_cleared, in_one_hold, stops_clearing}
use Rattle.mc_items.proofs.Deletes.{err_map, ok_map}
use Rattle.mc_items.proofs.Left.{Kept, kept_of}
use Rattle.mc_items.proofs.Locks.{locks_back, waits_keep}
use Rattle.mc_items.proofs.clearing.clear_stripe.Goals as goal

pub clear_at-requires-clause-fresh : goal.clear_at-requires-clause-fresh
clear_at-requires-clause-fresh g c =
    let held = c.lock_stripe-held in
    ap has_fresh (waits_keep (λ (v : View). v.row.holdings) c.args.stripe (λ word v. refl) (λ value v. refl) c.args.hand.now.seat.me.0 held.result.stripe held.new.hand.seat.me.0 held.ensures.waits) ∙ c.requires.ready.unfilled

pub returns-clause-clears : goal.returns-clause-clears
returns-clause-clears g c =
    let hand = c.args.hand.now in
    let held = c.lock_stripe-held in
    let before : View = hand.seat.me.0 in
    let taken : View = held.new.hand.seat.me.0 in
    let now : View = c.clear_at.new.hand.seat.me.0 in
    let stripe = c.args.stripe in
    let number : held.new.hand.number ≡ hand.number = number_stays hand held.new.hand (waits_keep (λ (v : View). v.row.ids) stripe (λ word v. refl) (λ value v. refl) before held.result.stripe taken held.ensures.waits) in
    let in_range : stripe < before.setup.config.stripes = subst (λ (s : Setup). stripe < s.config.stripes) (sym c.requires.arena.setup) c.requires.in_range in
    ok_map (λ count. ClearsBehind held.new.hand.number held.result.number held.result.stripe count taken now) (λ count. ClearsStripe hand.number stripe count before now) c.clear_at.result
    (λ count done. clears_stripe hand.number stripe count held.result.stripe before taken now held.ensures.waits held.ensures.whole
    (subst (λ (p : ℕ × ℕ). ClearsBehind p.0 p.1 held.result.stripe count taken now) (λ k. (number k, held.ensures.number k)) done) in_range) c.clear_at.ensures.done

pub returns-clause-stops : goal.returns-clause-stops
returns-clause-stops g c =
    let hand = c.args.hand.now in
    let held = c.lock_stripe-held in
    let before : View = hand.seat.me.0 in
    let taken : View = held.new.hand.seat.me.0 in
    let now : View = c.clear_at.new.hand.seat.me.0 in
    let stripe = c.args.stripe in
    let number : held.new.hand.number ≡ hand.number = number_stays hand held.new.hand (waits_keep (λ (v : View). v.row.ids) stripe (λ word v. refl) (λ value v. refl) before held.result.stripe taken held.ensures.waits) in
    err_map (StopsBehind held.new.hand.number held.result.number held.result.stripe taken now) (StopsClearing hand.number stripe before now) c.clear_at.result
    (λ done. stops_clearing hand.number stripe held.result.stripe before taken now held.ensures.waits held.ensures.whole
    (subst (λ (p : ℕ × ℕ). StopsBehind p.0 p.1 held.result.stripe taken now) (λ k. (number k, held.ensures.number k)) done)) c.clear_at.ensures.stops

pub returns-clause-empty : goal.returns-clause-empty
returns-clause-empty g c =
    empty_if_cleared c.args.hand.now.number c.args.stripe c.args.hand.now.seat.me.0 c.clear_at.new.hand.seat.me.0 c.clear_at.result (returns-clause-clears g c)

pub returns-clause-slabs : goal.returns-clause-slabs
returns-clause-slabs g c =
    let before : View = c.args.hand.now.seat.me.0 in
    let now : View = c.clear_at.new.hand.seat.me.0 in
    let Same : Type 0 = now.row.knows.hold.count ≡ before.row.knows.hold.count in
    in_one_hold {P = Same} c.args.hand.now.number c.args.stripe before now c.clear_at.result (λ keys holds. deletes_leave_slabs c.args.hand.now.number c.args.stripe keys before now holds) (returns-clause-clears g c) (returns-clause-stops g c)

pub returns-clause-stores_nothing : goal.returns-clause-stores_nothing
returns-clause-stores_nothing g c =
    let before : View = c.args.hand.now.seat.me.0 in
    let now : View = c.clear_at.new.hand.seat.me.0 in
    let Same : Type 0 = kept_of now ≡ kept_of before in
    ap (λ (k : Kept). k.2) (in_one_hold {P = Same} c.args.hand.now.number c.args.stripe before now c.clear_at.result (λ keys holds. deletes_keep c.args.hand.now.number c.args.stripe keys before now holds) (returns-clause-clears g c) (returns-clause-stops g c))

pub returns-clause-holdings : goal.returns-clause-holdings
returns-clause-holdings g c =
    let before : View = c.args.hand.now.seat.me.0 in
    let now : View = c.clear_at.new.hand.seat.me.0 in
    let Same : Type 0 = kept_of now ≡ kept_of before in
    let kept : Same = in_one_hold {P = Same} c.args.hand.now.number c.args.stripe before now c.clear_at.result (λ keys holds. deletes_keep c.args.hand.now.number c.args.stripe keys before now holds) (returns-clause-clears g c) (returns-clause-stops g c) in
    holdings_stay before now (ap (λ (k : Kept). k.0) kept) (ap (λ (k : Kept). k.1) kept)

pub returns-clause-hand : goal.returns-clause-hand
returns-clause-hand g c =
    let hand = c.args.hand.now in
    let last = c.clear_at.new.hand in
    let before : View = hand.seat.me.0 in
    let now : View = last.seat.me.0 in
    let Same : Type 0 = kept_of now ≡ kept_of before in
    let kept : Same = in_one_hold {P = Same} hand.number c.args.stripe before now c.clear_at.result (λ keys holds. deletes_keep hand.number c.args.stripe keys before now holds) (returns-clause-clears g c) (returns-clause-stops g c) in
    let locks = c.clear_at.ensures.locks ∙ (ap without_stripe c.lock_stripe-held.ensures.locks ∙ locks_back hand c.args.stripe c.requires.ready.unlocked) in
    hand_still c.args.arena.now hand last c.clear_at.ensures.arena locks (ap (λ (k : Kept). k.0) kept) (ap (λ (k : Kept). k.3) kept) c.requires.ready
