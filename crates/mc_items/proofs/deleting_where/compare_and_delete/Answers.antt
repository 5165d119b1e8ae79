use Rattle.std.proofs.Common.{◌≡◌, ◌%◌, ℕ, Some, true, refl, ap, subst, ◌∙◌}
use Rattle.mc_classes.specs.declared.config.Config.{Config}
use Rattle.mc_core.specs.model.Holdings.{has_fresh}
use Rattle.mc_stripe.specs.StripeState.{stamp_of_key}
use Rattle.mc_stripe.specs.declared.history.Call.TheVariants.{Delete}
use Rattle.mc_words.specs.lock.Doing.{UsesRoomForCall}
use Rattle.mc_words.specs.lock.Lent.{IsLentStripe}
use Rattle.mc_words.specs.lock.Out.{without_stripe}
use Rattle.mc_words.specs.lock.Wait.{WaitsForStripe}
use Rattle.mc_words.specs.hand.View.{View}
use Rattle.mc_words.specs.hand.Views.{stripe_given}
use Rattle.mc_words.proofs.Hands.HandNumbers.{number_stays}
use Rattle.mc_items.specs.Calls.{Deletes, RecordsCall}
use Rattle.mc_items.specs.Deleting.{DeletesItem}
use Rattle.mc_items.proofs.Chains.{hand_still, holdings_stay}
use Rattle.mc_items.proofs.Gets.{only_waits}
use Rattle.mc_items.proofs.ItemDeletes.{at_refusal, item_delete_keeps, item_delete_tells, item_deleted, ok_both}
use Rattle.mc_items.proofs.Left.{Kept}
use Rattle.mc_items.proofs.Locks.{locks_back, waits_keep}
use Rattle.mc_items.proofs.Tells.{deleted_tells, told_on}
use Rattle.mc_items.proofs.deleting_where.compare_and_delete.Goals as goal

pub delete_item_at-requires-clause-fresh : goal.delete_item_at-requires-clause-fresh
delete_item_at-requires-clause-fresh g c =
    let held = c.lock_stripe-held in
    ap has_fresh (waits_keep (λ (v : View). v.row.holdings) (c.args.key % c.config.result.now.stripes) (λ word v. refl) (λ value v. refl) c.args.hand.now.seat.me.0 held.result.stripe held.new.hand.seat.me.0 held.ensures.waits) ∙ c.requires.ready.unfilled

pub returns-clause-deletes : goal.returns-clause-deletes
returns-clause-deletes g c =
    let hand = c.args.hand.now in
    let held = c.lock_stripe-held in
    let before : View = hand.seat.me.0 in
    let taken : View = held.new.hand.seat.me.0 in
    let now : View = c.delete_item_at.new.hand.seat.me.0 in
    let at : c.args.key % c.config.result.now.stripes ≡ c.args.key % c.args.arena.now.table.shared.key.config.stripes = ap (λ (f : Config). c.args.key % f.stripes) c.config.ensures.config in
    let number = number_stays hand held.new.hand (waits_keep (λ (v : View). v.row.ids) (c.args.key % c.config.result.now.stripes) (λ word v. refl) (λ value v. refl) before held.result.stripe taken held.ensures.waits) in
    let stripe = c.args.key % c.args.arena.now.table.shared.key.config.stripes in
    ok_both (UsesRoomForCall held.new.hand.number held.result.number held.result.stripe (Deletes held.new.hand.number held.result.number c.args.key true) taken now) (stamp_of_key held.result.stripe.state c.args.key ≡ Some c.args.expected)
    (DeletesItem hand.number stripe c.args.key c.args.expected before now) c.delete_item_at.result
    (item_deleted hand.number stripe c.args.key c.args.expected held.new.hand.number held.result.number held.result.stripe before taken now number (held.ensures.number ∙ at)
    (subst (λ (n : ℕ). WaitsForStripe n before held.result.stripe taken) at held.ensures.waits) (subst (λ (n : ℕ). IsLentStripe taken n held.result.stripe) at held.ensures.whole)) c.delete_item_at.ensures.done c.delete_item_at.ensures.met

pub returns-clause-calls : goal.returns-clause-calls
returns-clause-calls g c =
    let hand = c.args.hand.now in
    let held = c.lock_stripe-held in
    let before : View = hand.seat.me.0 in
    let taken : View = held.new.hand.seat.me.0 in
    let now : View = c.delete_item_at.new.hand.seat.me.0 in
    let at : c.args.key % c.config.result.now.stripes ≡ c.args.key % c.args.arena.now.table.shared.key.config.stripes = ap (λ (f : Config). c.args.key % f.stripes) c.config.ensures.config in
    let number = number_stays hand held.new.hand (waits_keep (λ (v : View). v.row.ids) (c.args.key % c.config.result.now.stripes) (λ word v. refl) (λ value v. refl) before held.result.stripe taken held.ensures.waits) in
    let stripe = c.args.key % c.args.arena.now.table.shared.key.config.stripes in
    ok_both (UsesRoomForCall held.new.hand.number held.result.number held.result.stripe (Deletes held.new.hand.number held.result.number c.args.key true) taken now) (stamp_of_key held.result.stripe.state c.args.key ≡ Some c.args.expected)
    (RecordsCall hand.number stripe (Delete hand.number c.args.key true) before now) c.delete_item_at.result
    (λ done met. told_on hand.number stripe held.new.hand.number held.result.number (λ number. Delete number c.args.key true) held.result.stripe before taken now number (held.ensures.number ∙ at)
    (subst (λ (n : ℕ). WaitsForStripe n before held.result.stripe taken) at held.ensures.waits) (deleted_tells held.new.hand.number held.result.number held.result.stripe c.args.key true taken now done)) c.delete_item_at.ensures.done c.delete_item_at.ensures.met

pub returns-clause-differs : goal.returns-clause-differs
returns-clause-differs g c found is =
    let held = c.lock_stripe-held in
    let before : View = c.args.hand.now.seat.me.0 in
    let taken : View = held.new.hand.seat.me.0 in
    let now : View = c.delete_item_at.new.hand.seat.me.0 in
    let at : c.args.key % c.config.result.now.stripes ≡ c.args.key % c.args.arena.now.table.shared.key.config.stripes = ap (λ (f : Config). c.args.key % f.stripes) c.config.ensures.config in
    only_waits _ held.result.number held.result.stripe before taken now (held.ensures.number ∙ at) (subst (λ (n : ℕ). WaitsForStripe n before held.result.stripe taken) at held.ensures.waits)
    (subst (λ (n : ℕ). IsLentStripe taken n held.result.stripe) at held.ensures.whole) (c.delete_item_at.ensures.differs found is) (at_refusal (now ≡ stripe_given held.result.number held.result.stripe taken) c.delete_item_at.result _ is c.delete_item_at.ensures.given)

pub returns-clause-no_memory : goal.returns-clause-no_memory
returns-clause-no_memory g c is =
    let held = c.lock_stripe-held in
    let before : View = c.args.hand.now.seat.me.0 in
    let taken : View = held.new.hand.seat.me.0 in
    let now : View = c.delete_item_at.new.hand.seat.me.0 in
    let at : c.args.key % c.config.result.now.stripes ≡ c.args.key % c.args.arena.now.table.shared.key.config.stripes = ap (λ (f : Config). c.args.key % f.stripes) c.config.ensures.config in
    only_waits _ held.result.number held.result.stripe before taken now (held.ensures.number ∙ at) (subst (λ (n : ℕ). WaitsForStripe n before held.result.stripe taken) at held.ensures.waits)
    (subst (λ (n : ℕ). IsLentStripe taken n held.result.stripe) at held.ensures.whole) (c.delete_item_at.ensures.full is) (at_refusal (now ≡ stripe_given held.result.number held.result.stripe taken) c.delete_item_at.result _ is c.delete_item_at.ensures.given)

pub returns-clause-refused : goal.returns-clause-refused
returns-clause-refused g c =
    let hand = c.args.hand.now in
    item_delete_tells c.delete_item_at.result hand.number (c.args.key % c.args.arena.now.table.shared.key.config.stripes) c.args.key c.args.expected hand.seat.me.0 c.delete_item_at.new.hand.seat.me.0 (returns-clause-no_memory g c) (returns-clause-differs g c)

pub returns-clause-stores_nothing : goal.returns-clause-stores_nothing
returns-clause-stores_nothing g c =
    let hand = c.args.hand.now in
    ap (λ (k : Kept). k.2) (item_delete_keeps c.delete_item_at.result hand.number (c.args.key % c.args.arena.now.table.shared.key.config.stripes) c.args.key c.args.expected hand.seat.me.0 c.delete_item_at.new.hand.seat.me.0 (returns-clause-no_memory g c) (returns-clause-differs g c) (returns-clause-deletes g c))

pub returns-clause-holdings : goal.returns-clause-holdings
returns-clause-holdings g c =
    let hand = c.args.hand.now in
    let now = c.delete_item_at.new.hand in
    let kept = item_delete_keeps c.delete_item_at.result hand.number (c.args.key % c.args.arena.now.table.shared.key.config.stripes) c.args.key c.args.expected hand.seat.me.0 now.seat.me.0 (returns-clause-no_memory g c) (returns-clause-differs g c) (returns-clause-deletes g c) in
    holdings_stay hand.seat.me.0 now.seat.me.0 (ap (λ (k : Kept). k.0) kept) (ap (λ (k : Kept). k.1) kept)

pub returns-clause-hand : goal.returns-clause-hand
returns-clause-hand g c =
    let hand = c.args.hand.now in
    let now = c.delete_item_at.new.hand in
    let kept = item_delete_keeps c.delete_item_at.result hand.number (c.args.key % c.args.arena.now.table.shared.key.config.stripes) c.args.key c.args.expected hand.seat.me.0 now.seat.me.0 (returns-clause-no_memory g c) (returns-clause-differs g c) (returns-clause-deletes g c) in
    let locks = c.delete_item_at.ensures.locks ∙ (ap without_stripe c.lock_stripe-held.ensures.locks ∙ locks_back hand (c.args.key % c.config.result.now.stripes) c.requires.ready.unlocked) in
    hand_still c.args.arena.now hand now c.delete_item_at.ensures.arena locks (ap (λ (k : Kept). k.0) kept) (ap (λ (k : Kept). k.3) kept) c.requires.ready
