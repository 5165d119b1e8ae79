use Rattle.std.proofs.Common.{◌≡◌, ◌<◌, ℕ, refl, ap, subst, sym, ◌∙◌}
use Rattle.mc_core.specs.model.Holdings.{has_fresh}
use Rattle.mc_words.specs.hand.View.{Setup, View}
use Rattle.mc_words.specs.lock.Out.{without_stripe}
use Rattle.mc_words.proofs.Hands.HandNumbers.{number_stays}
use Rattle.mc_items.specs.Clearing.{ClearsBehind, StopsBehind}
use Rattle.mc_items.proofs.Chains.{hand_still, holdings_stay}
use Rattle.mc_items.proofs.Clears.{clears_stripe, deletes_keep, deletes_leave_slabs, gives_back_empty, stops_clearing}
use Rattle.mc_items.proofs.Left.{Kept}
use Rattle.mc_items.proofs.Listings.{missed_leaves_slabs}
use Rattle.mc_items.proofs.Locks.{locks_back, waits_keep}
use Rattle.mc_items.proofs.Missed.{stripe_missed_keeps}
use Rattle.mc_items.proofs.within.clearing.clear_stripe_within.Goals as goal

pub clear_at-requires-clause-fresh : goal.clear_at-requires-clause-fresh
clear_at-requires-clause-fresh c =
    ap has_fresh (waits_keep (λ (v : View). v.row.holdings) c.args.stripe (λ word v. refl) (λ value v. refl) c.args.hand.now.seat.me.0 c.in-Ok.held.stripe c.stripe_within.new.hand.seat.me.0 c.in-Ok.ensures.within.waits) ∙ c.requires.ready.unfilled

pub returns-in-Ok-clear_at-clause-clears : goal.returns-in-Ok-clear_at-clause-clears
returns-in-Ok-clear_at-clause-clears c =
    let hand = c.args.hand.now in
    let held = c.in-Ok.held in
    let before : View = hand.seat.me.0 in
    let taken : View = c.stripe_within.new.hand.seat.me.0 in
    let now : View = c.clear_at.new.hand.seat.me.0 in
    let stripe = c.args.stripe in
    let waits = c.in-Ok.ensures.within.waits in
    let number : c.stripe_within.new.hand.number ≡ hand.number = number_stays hand c.stripe_within.new.hand (waits_keep (λ (v : View). v.row.ids) stripe (λ word v. refl) (λ value v. refl) before held.stripe taken waits) in
    let in_range : stripe < before.setup.config.stripes = subst (λ (s : Setup). stripe < s.config.stripes) (sym c.requires.arena.setup) c.requires.in_range in
    clears_stripe hand.number stripe c.in-Ok-clear_at.count held.stripe before taken now waits c.in-Ok.ensures.whole
    (subst (λ (p : ℕ × ℕ). ClearsBehind p.0 p.1 held.stripe c.in-Ok-clear_at.count taken now) (λ k. (number k, c.in-Ok.ensures.number k)) c.in-Ok-clear_at.ensures.done) in_range

pub returns-in-Ok-clear_at-clause-empty : goal.returns-in-Ok-clear_at-clause-empty
returns-in-Ok-clear_at-clause-empty c = gives_back_empty c.args.hand.now.number c.args.stripe c.in-Ok-clear_at.count c.args.hand.now.seat.me.0 c.clear_at.new.hand.seat.me.0 (returns-in-Ok-clear_at-clause-clears c)

pub returns-in-Err-clause-stops : goal.returns-in-Err-clause-stops
returns-in-Err-clause-stops c _ =
    let hand = c.args.hand.now in
    let held = c.in-Ok.held in
    let before : View = hand.seat.me.0 in
    let taken : View = c.stripe_within.new.hand.seat.me.0 in
    let now : View = c.clear_at.new.hand.seat.me.0 in
    let stripe = c.args.stripe in
    let waits = c.in-Ok.ensures.within.waits in
    let number : c.stripe_within.new.hand.number ≡ hand.number = number_stays hand c.stripe_within.new.hand (waits_keep (λ (v : View). v.row.ids) stripe (λ word v. refl) (λ value v. refl) before held.stripe taken waits) in
    stops_clearing hand.number stripe held.stripe before taken now waits c.in-Ok.ensures.whole
    (subst (λ (p : ℕ × ℕ). StopsBehind p.0 p.1 held.stripe taken now) (λ k. (number k, c.in-Ok.ensures.number k)) c.in-Err.ensures.stops)

pub returns-in-Ok-clear_at-clause-slabs : goal.returns-in-Ok-clear_at-clause-slabs
returns-in-Ok-clear_at-clause-slabs c = deletes_leave_slabs c.args.hand.now.number c.args.stripe (returns-in-Ok-clear_at-clause-clears c).keys c.args.hand.now.seat.me.0 c.clear_at.new.hand.seat.me.0 (returns-in-Ok-clear_at-clause-clears c).holds

pub returns-in-Ok-clear_at-clause-stores_nothing : goal.returns-in-Ok-clear_at-clause-stores_nothing
returns-in-Ok-clear_at-clause-stores_nothing c = ap (λ (k : Kept). k.2) (deletes_keep c.args.hand.now.number c.args.stripe (returns-in-Ok-clear_at-clause-clears c).keys c.args.hand.now.seat.me.0 c.clear_at.new.hand.seat.me.0 (returns-in-Ok-clear_at-clause-clears c).holds)

pub returns-in-Ok-clear_at-clause-holdings : goal.returns-in-Ok-clear_at-clause-holdings
returns-in-Ok-clear_at-clause-holdings c =
    let before : View = c.args.hand.now.seat.me.0 in
    let now : View = c.clear_at.new.hand.seat.me.0 in
    let kept = deletes_keep c.args.hand.now.number c.args.stripe (returns-in-Ok-clear_at-clause-clears c).keys c.args.hand.now.seat.me.0 c.clear_at.new.hand.seat.me.0 (returns-in-Ok-clear_at-clause-clears c).holds in
    holdings_stay before now (ap (λ (k : Kept). k.0) kept) (ap (λ (k : Kept). k.1) kept)

pub returns-in-Ok-clear_at-clause-hand : goal.returns-in-Ok-clear_at-clause-hand
returns-in-Ok-clear_at-clause-hand c =
    let kept = deletes_keep c.args.hand.now.number c.args.stripe (returns-in-Ok-clear_at-clause-clears c).keys c.args.hand.now.seat.me.0 c.clear_at.new.hand.seat.me.0 (returns-in-Ok-clear_at-clause-clears c).holds in
    hand_still c.args.arena.now c.args.hand.now c.clear_at.new.hand c.clear_at.ensures.arena (c.clear_at.ensures.locks ∙ (ap without_stripe c.in-Ok.ensures.locks ∙ locks_back c.args.hand.now c.args.stripe c.requires.ready.unlocked)) (ap (λ (k : Kept). k.0) kept) (ap (λ (k : Kept). k.3) kept) c.requires.ready

pub returns-in-Err-clause-slabs : goal.returns-in-Err-clause-slabs
returns-in-Err-clause-slabs c = deletes_leave_slabs c.args.hand.now.number c.args.stripe (returns-in-Err-clause-stops c refl).keys c.args.hand.now.seat.me.0 c.clear_at.new.hand.seat.me.0 (returns-in-Err-clause-stops c refl).holds

pub returns-in-Err-clause-stores_nothing : goal.returns-in-Err-clause-stores_nothing
returns-in-Err-clause-stores_nothing c = ap (λ (k : Kept). k.2) (deletes_keep c.args.hand.now.number c.args.stripe (returns-in-Err-clause-stops c refl).keys c.args.hand.now.seat.me.0 c.clear_at.new.hand.seat.me.0 (returns-in-Err-clause-stops c refl).holds)

pub returns-in-Err-clause-holdings : goal.returns-in-Err-clause-holdings
returns-in-Err-clause-holdings c =
    let before : View = c.args.hand.now.seat.me.0 in
    let now : View = c.clear_at.new.hand.seat.me.0 in
    let kept = deletes_keep c.args.hand.now.number c.args.stripe (returns-in-Err-clause-stops c refl).keys c.args.hand.now.seat.me.0 c.clear_at.new.hand.seat.me.0 (returns-in-Err-clause-stops c refl).holds in
    holdings_stay before now (ap (λ (k : Kept). k.0) kept) (ap (λ (k : Kept). k.1) kept)

pub returns-in-Err-clause-hand : goal.returns-in-Err-clause-hand
returns-in-Err-clause-hand c =
    let kept = deletes_keep c.args.hand.now.number c.args.stripe (returns-in-Err-clause-stops c refl).keys c.args.hand.now.seat.me.0 c.clear_at.new.hand.seat.me.0 (returns-in-Err-clause-stops c refl).holds in
    hand_still c.args.arena.now c.args.hand.now c.clear_at.new.hand c.clear_at.ensures.arena (c.clear_at.ensures.locks ∙ (ap without_stripe c.in-Ok.ensures.locks ∙ locks_back c.args.hand.now c.args.stripe c.requires.ready.unlocked)) (ap (λ (k : Kept). k.0) kept) (ap (λ (k : Kept). k.3) kept) c.requires.ready

pub returns-in_default-clause-held : goal.returns-in_default-clause-held
returns-in_default-clause-held c _ = c.in_default.ensures.missed

pub returns-in_default-clause-slabs : goal.returns-in_default-clause-slabs
returns-in_default-clause-slabs c = missed_leaves_slabs c.args.tries c.args.stripe c.args.hand.now.seat.me.0 c.stripe_within.new.hand.seat.me.0 c.in_default.ensures.missed

pub returns-in_default-clause-stores_nothing : goal.returns-in_default-clause-stores_nothing
returns-in_default-clause-stores_nothing c = ap (λ (k : Kept). k.2) (stripe_missed_keeps c.args.tries c.args.stripe c.args.hand.now.seat.me.0 c.stripe_within.new.hand.seat.me.0 c.in_default.ensures.missed)

pub returns-in_default-clause-holdings : goal.returns-in_default-clause-holdings
returns-in_default-clause-holdings c =
    let before : View = c.args.hand.now.seat.me.0 in
    let now : View = c.stripe_within.new.hand.seat.me.0 in
    let kept = stripe_missed_keeps c.args.tries c.args.stripe c.args.hand.now.seat.me.0 c.stripe_within.new.hand.seat.me.0 c.in_default.ensures.missed in
    holdings_stay before now (ap (λ (k : Kept). k.0) kept) (ap (λ (k : Kept). k.1) kept)

pub returns-in_default-clause-hand : goal.returns-in_default-clause-hand
returns-in_default-clause-hand c =
    let kept = stripe_missed_keeps c.args.tries c.args.stripe c.args.hand.now.seat.me.0 c.stripe_within.new.hand.seat.me.0 c.in_default.ensures.missed in
    hand_still c.args.arena.now c.args.hand.now c.stripe_within.new.hand c.in_default.ensures.arena c.in_default.ensures.same (ap (λ (k : Kept). k.0) kept) (ap (λ (k : Kept). k.3) kept) c.requires.ready
