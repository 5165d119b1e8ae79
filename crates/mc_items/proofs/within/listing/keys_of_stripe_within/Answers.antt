use Rattle.std.proofs.Common.{ap, ◌∙◌}
use Rattle.mc_words.specs.hand.View.{View}
use Rattle.mc_words.specs.lock.Out.{without_stripe}
use Rattle.mc_items.specs.Listing.{IsAny}
use Rattle.mc_items.proofs.Chains.{hand_still, holdings_stay}
use Rattle.mc_items.proofs.Gets.{only_waits}
use Rattle.mc_items.proofs.Left.{Kept, only_keeps}
use Rattle.mc_items.proofs.Listings.{looked_leaves_slabs, missed_leaves_slabs}
use Rattle.mc_items.proofs.Locks.{locks_back}
use Rattle.mc_items.proofs.Missed.{stripe_missed_keeps, stripe_missed_tells}
use Rattle.mc_items.proofs.Tells.{told_none}
use Rattle.mc_items.proofs.within.listing.keys_of_stripe_within.Goals as goal

pub returns-in-Ok-keys_at-clause-calls : goal.returns-in-Ok-keys_at-clause-calls
returns-in-Ok-keys_at-clause-calls c =
    let held = c.in-Ok.held in
    let looks = only_waits {Is = IsAny} c.args.stripe held.number held.stripe c.args.hand.now.seat.me.0 c.stripe_within.new.hand.seat.me.0 c.keys_at.new.hand.seat.me.0 c.in-Ok.ensures.number c.in-Ok.ensures.within.waits c.in-Ok.ensures.whole tt c.keys_at.ensures.given in
    told_none {Is = IsAny} c.args.stripe c.args.hand.now.seat.me.0 c.keys_at.new.hand.seat.me.0 looks

pub returns-in-Ok-keys_at-clause-slabs : goal.returns-in-Ok-keys_at-clause-slabs
returns-in-Ok-keys_at-clause-slabs c =
    let held = c.in-Ok.held in
    let looks = only_waits {Is = IsAny} c.args.stripe held.number held.stripe c.args.hand.now.seat.me.0 c.stripe_within.new.hand.seat.me.0 c.keys_at.new.hand.seat.me.0 c.in-Ok.ensures.number c.in-Ok.ensures.within.waits c.in-Ok.ensures.whole tt c.keys_at.ensures.given in
    looked_leaves_slabs {Is = IsAny} c.args.stripe c.args.hand.now.seat.me.0 c.keys_at.new.hand.seat.me.0 looks

pub returns-in-Ok-keys_at-clause-stores_nothing : goal.returns-in-Ok-keys_at-clause-stores_nothing
returns-in-Ok-keys_at-clause-stores_nothing c =
    let held = c.in-Ok.held in
    let looks = only_waits {Is = IsAny} c.args.stripe held.number held.stripe c.args.hand.now.seat.me.0 c.stripe_within.new.hand.seat.me.0 c.keys_at.new.hand.seat.me.0 c.in-Ok.ensures.number c.in-Ok.ensures.within.waits c.in-Ok.ensures.whole tt c.keys_at.ensures.given in
    ap (λ (k : Kept). k.2) (only_keeps {Is = IsAny} c.args.stripe c.args.hand.now.seat.me.0 c.keys_at.new.hand.seat.me.0 looks)

pub returns-in-Ok-keys_at-clause-holdings : goal.returns-in-Ok-keys_at-clause-holdings
returns-in-Ok-keys_at-clause-holdings c =
    let held = c.in-Ok.held in
    let before : View = c.args.hand.now.seat.me.0 in
    let now : View = c.keys_at.new.hand.seat.me.0 in
    let looks = only_waits {Is = IsAny} c.args.stripe held.number held.stripe before c.stripe_within.new.hand.seat.me.0 now c.in-Ok.ensures.number c.in-Ok.ensures.within.waits c.in-Ok.ensures.whole tt c.keys_at.ensures.given in
    let kept = only_keeps {Is = IsAny} c.args.stripe before now looks in
    holdings_stay before now (ap (λ (k : Kept). k.0) kept) (ap (λ (k : Kept). k.1) kept)

pub returns-in-Ok-keys_at-clause-hand : goal.returns-in-Ok-keys_at-clause-hand
returns-in-Ok-keys_at-clause-hand c =
    let held = c.in-Ok.held in
    let hand = c.args.hand.now in
    let last = c.keys_at.new.hand in
    let looks = only_waits {Is = IsAny} c.args.stripe held.number held.stripe hand.seat.me.0 c.stripe_within.new.hand.seat.me.0 last.seat.me.0 c.in-Ok.ensures.number c.in-Ok.ensures.within.waits c.in-Ok.ensures.whole tt c.keys_at.ensures.given in
    let kept = only_keeps {Is = IsAny} c.args.stripe hand.seat.me.0 last.seat.me.0 looks in
    let locks = c.keys_at.ensures.locks ∙ (ap without_stripe c.in-Ok.ensures.locks ∙ locks_back hand c.args.stripe c.requires.ready.unlocked) in
    hand_still c.args.arena.now hand last c.keys_at.ensures.arena locks (ap (λ (k : Kept). k.0) kept) (ap (λ (k : Kept). k.3) kept) c.requires.ready

pub returns-in-Err-clause-calls : goal.returns-in-Err-clause-calls
returns-in-Err-clause-calls c =
    let held = c.in-Ok.held in
    let looks = only_waits {Is = IsAny} c.args.stripe held.number held.stripe c.args.hand.now.seat.me.0 c.stripe_within.new.hand.seat.me.0 c.keys_at.new.hand.seat.me.0 c.in-Ok.ensures.number c.in-Ok.ensures.within.waits c.in-Ok.ensures.whole tt c.keys_at.ensures.given in
    told_none {Is = IsAny} c.args.stripe c.args.hand.now.seat.me.0 c.keys_at.new.hand.seat.me.0 looks

pub returns-in-Err-clause-slabs : goal.returns-in-Err-clause-slabs
returns-in-Err-clause-slabs c =
    let held = c.in-Ok.held in
    let looks = only_waits {Is = IsAny} c.args.stripe held.number held.stripe c.args.hand.now.seat.me.0 c.stripe_within.new.hand.seat.me.0 c.keys_at.new.hand.seat.me.0 c.in-Ok.ensures.number c.in-Ok.ensures.within.waits c.in-Ok.ensures.whole tt c.keys_at.ensures.given in
    looked_leaves_slabs {Is = IsAny} c.args.stripe c.args.hand.now.seat.me.0 c.keys_at.new.hand.seat.me.0 looks

pub returns-in-Err-clause-stores_nothing : goal.returns-in-Err-clause-stores_nothing
returns-in-Err-clause-stores_nothing c =
    let held = c.in-Ok.held in
    let looks = only_waits {Is = IsAny} c.args.stripe held.number held.stripe c.args.hand.now.seat.me.0 c.stripe_within.new.hand.seat.me.0 c.keys_at.new.hand.seat.me.0 c.in-Ok.ensures.number c.in-Ok.ensures.within.waits c.in-Ok.ensures.whole tt c.keys_at.ensures.given in
    ap (λ (k : Kept). k.2) (only_keeps {Is = IsAny} c.args.stripe c.args.hand.now.seat.me.0 c.keys_at.new.hand.seat.me.0 looks)

pub returns-in-Err-clause-holdings : goal.returns-in-Err-clause-holdings
returns-in-Err-clause-holdings c =
    let held = c.in-Ok.held in
    let before : View = c.args.hand.now.seat.me.0 in
    let now : View = c.keys_at.new.hand.seat.me.0 in
    let looks = only_waits {Is = IsAny} c.args.stripe held.number held.stripe before c.stripe_within.new.hand.seat.me.0 now c.in-Ok.ensures.number c.in-Ok.ensures.within.waits c.in-Ok.ensures.whole tt c.keys_at.ensures.given in
    let kept = only_keeps {Is = IsAny} c.args.stripe before now looks in
    holdings_stay before now (ap (λ (k : Kept). k.0) kept) (ap (λ (k : Kept). k.1) kept)

pub returns-in-Err-clause-hand : goal.returns-in-Err-clause-hand
returns-in-Err-clause-hand c =
    let held = c.in-Ok.held in
    let hand = c.args.hand.now in
    let last = c.keys_at.new.hand in
    let looks = only_waits {Is = IsAny} c.args.stripe held.number held.stripe hand.seat.me.0 c.stripe_within.new.hand.seat.me.0 last.seat.me.0 c.in-Ok.ensures.number c.in-Ok.ensures.within.waits c.in-Ok.ensures.whole tt c.keys_at.ensures.given in
    let kept = only_keeps {Is = IsAny} c.args.stripe hand.seat.me.0 last.seat.me.0 looks in
    let locks = c.keys_at.ensures.locks ∙ (ap without_stripe c.in-Ok.ensures.locks ∙ locks_back hand c.args.stripe c.requires.ready.unlocked) in
    hand_still c.args.arena.now hand last c.keys_at.ensures.arena locks (ap (λ (k : Kept). k.0) kept) (ap (λ (k : Kept). k.3) kept) c.requires.ready

pub returns-in_default-clause-calls : goal.returns-in_default-clause-calls
returns-in_default-clause-calls c = stripe_missed_tells c.args.tries c.args.stripe c.args.hand.now.seat.me.0 c.stripe_within.new.hand.seat.me.0 c.in_default.ensures.missed

pub returns-in_default-clause-slabs : goal.returns-in_default-clause-slabs
returns-in_default-clause-slabs c = missed_leaves_slabs c.args.tries c.args.stripe c.args.hand.now.seat.me.0 c.stripe_within.new.hand.seat.me.0 c.in_default.ensures.missed

pub returns-in_default-clause-stores_nothing : goal.returns-in_default-clause-stores_nothing
returns-in_default-clause-stores_nothing c = ap (λ (k : Kept). k.2) (stripe_missed_keeps c.args.tries c.args.stripe c.args.hand.now.seat.me.0 c.stripe_within.new.hand.seat.me.0 c.in_default.ensures.missed)

pub returns-in_default-clause-holdings : goal.returns-in_default-clause-holdings
returns-in_default-clause-holdings c =
    let before : View = c.args.hand.now.seat.me.0 in
    let now : View = c.stripe_within.new.hand.seat.me.0 in
    let kept = stripe_missed_keeps c.args.tries c.args.stripe before now c.in_default.ensures.missed in
    holdings_stay before now (ap (λ (k : Kept). k.0) kept) (ap (λ (k : Kept). k.1) kept)

pub returns-in_default-clause-hand : goal.returns-in_default-clause-hand
returns-in_default-clause-hand c =
    let kept = stripe_missed_keeps c.args.tries c.args.stripe c.args.hand.now.seat.me.0 c.stripe_within.new.hand.seat.me.0 c.in_default.ensures.missed in
    hand_still c.args.arena.now c.args.hand.now c.stripe_within.new.hand c.in_default.ensures.arena c.in_default.ensures.same (ap (λ (k : Kept). k.0) kept) (ap (λ (k : Kept). k.3) kept) c.requires.ready
