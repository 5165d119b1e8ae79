use Rattle.std.proofs.Common.{◌≡◌, ◌%◌, ℕ, List, refl, ap, sym, subst, ◌∙◌}
use Rattle.std.specs.Option.{option_map_or}
use Rattle.mc_classes.specs.declared.config.Config.{Config}
use Rattle.mc_pages.specs.declared.ids.ChunkId.{ChunkId}
use Rattle.mc_core.specs.declared.holding.Holding.{Holding}
use Rattle.mc_core.specs.model.Holdings.{holding_of}
use Rattle.mc_words.specs.item.Fresh.{IsFreshIn}
use Rattle.mc_words.specs.lock.Lent.{IsLentStripe}
use Rattle.mc_words.specs.lock.Out.{without_stripe}
use Rattle.mc_words.specs.hand.Tallies.{next_stamp}
use Rattle.mc_words.specs.hand.View.{View}
use Rattle.mc_words.specs.hand.Views.{chunk_released, stripe_given}
use Rattle.mc_words.specs.lock.Wait.{WaitsForStripe}
use Rattle.mc_items.specs.Storing.{LeavesDead, RefusesStore, StoresItem}
use Rattle.mc_items.proofs.Gets.{only_waits, stored_on}
use Rattle.mc_words.proofs.Hands.HandNumbers.{number_stays}
use Rattle.mc_items.proofs.Locks.{locks_back, waits_keep}
use Rattle.mc_items.proofs.Stored.{dead_told, filled_still, stored_mine, stored_said}
use Rattle.mc_items.proofs.storing.store.Goals as goal

pub store_at-requires-clause-fresh : goal.store_at-requires-clause-fresh
store_at-requires-clause-fresh g c =
    let hand = c.args.hand.now in
    let held = c.lock_stripe-held in
    let before : View = hand.seat.me.0 in
    let taken : View = held.new.hand.seat.me.0 in
    let holdings = waits_keep (λ (v : View). v.row.holdings) c.stripe_of-stripe.result (λ word v. refl) (λ value v. refl) before held.result.stripe taken held.ensures.waits in
    subst (λ (hs : List Holding). IsFreshIn hs c.args.fresh.chunk c.args.fresh.room) (sym holdings) c.requires.fresh

pub store_at-requires-clause-item : goal.store_at-requires-clause-item
store_at-requires-clause-item g c =
    let hand = c.args.hand.now in
    let held = c.lock_stripe-held in
    let before : View = hand.seat.me.0 in
    let taken : View = held.new.hand.seat.me.0 in
    let holdings = waits_keep (λ (v : View). v.row.holdings) c.stripe_of-stripe.result (λ word v. refl) (λ value v. refl) before held.result.stripe taken held.ensures.waits in
    filled_still c.args.fresh.chunk c.args.key c.args.fresh.stamp before taken holdings c.requires.item

pub store_at-requires-clause-stamp : goal.store_at-requires-clause-stamp
store_at-requires-clause-stamp g c =
    let hand = c.args.hand.now in
    let held = c.lock_stripe-held in
    let before : View = hand.seat.me.0 in
    let taken : View = held.new.hand.seat.me.0 in
    ap next_stamp (waits_keep (λ (v : View). v.row.ids) c.stripe_of-stripe.result (λ word v. refl) (λ value v. refl) before held.result.stripe taken held.ensures.waits) ∙ c.requires.stamp

pub returns-in-Ok-clause-locks : goal.returns-in-Ok-clause-locks
returns-in-Ok-clause-locks g c =
    c.release.ensures.locks ∙ (c.store_at.ensures.locks ∙ (ap without_stripe c.lock_stripe-held.ensures.locks ∙ locks_back c.args.hand.now c.stripe_of-stripe.result c.requires.unlocked))

pub returns-in-Ok-clause-stores : goal.returns-in-Ok-clause-stores
returns-in-Ok-clause-stores g c =
    let hand = c.args.hand.now in
    let held = c.lock_stripe-held in
    let before : View = hand.seat.me.0 in
    let taken : View = held.new.hand.seat.me.0 in
    let at : c.stripe_of-stripe.result ≡ c.args.key % c.args.arena.now.table.shared.key.config.stripes = c.stripe_of-stripe.ensures ∙ ap (λ (f : Config). c.args.key % f.stripes) c.config.ensures.config in
    let stripe = c.args.key % c.args.arena.now.table.shared.key.config.stripes in
    let linked : View = c.store_at.new.hand.seat.me.0 in
    let now : View = c.release.new.hand.seat.me.0 in
    let number = number_stays hand held.new.hand (waits_keep (λ (v : View). v.row.ids) c.stripe_of-stripe.result (λ word v. refl) (λ value v. refl) before held.result.stripe taken held.ensures.waits) in
    let waits = subst (λ (n : ℕ). WaitsForStripe n before held.result.stripe taken) at held.ensures.waits in
    let lent = subst (λ (n : ℕ). IsLentStripe taken n held.result.stripe) at held.ensures.whole in
    let stored : StoresItem c.args.expected hand.number stripe c.args.key c.args.fresh.stamp c.args.fresh.chunk c.args.fresh.room before now =
    stored_on c.args.expected hand.number stripe c.args.key c.args.fresh.stamp c.args.fresh.chunk c.args.fresh.room held.new.hand.number held.result.number held.result.stripe before taken linked now number (held.ensures.number ∙ at) waits lent c.in-Ok.ensures.done c.in-Ok.ensures.met
    (c.release.ensures.dropped ∙ ap (λ (chunk : ChunkId). chunk_released chunk linked) c.in-Ok.ensures.same.0) in
    stored

pub returns-in-Ok-clause-calls : goal.returns-in-Ok-clause-calls
returns-in-Ok-clause-calls g c =
    let hand = c.args.hand.now in
    let held = c.lock_stripe-held in
    let before : View = hand.seat.me.0 in
    let taken : View = held.new.hand.seat.me.0 in
    let at : c.stripe_of-stripe.result ≡ c.args.key % c.args.arena.now.table.shared.key.config.stripes = c.stripe_of-stripe.ensures ∙ ap (λ (f : Config). c.args.key % f.stripes) c.config.ensures.config in
    let stripe = c.args.key % c.args.arena.now.table.shared.key.config.stripes in
    let linked : View = c.store_at.new.hand.seat.me.0 in
    let now : View = c.release.new.hand.seat.me.0 in
    let number = number_stays hand held.new.hand (waits_keep (λ (v : View). v.row.ids) c.stripe_of-stripe.result (λ word v. refl) (λ value v. refl) before held.result.stripe taken held.ensures.waits) in
    let waits = subst (λ (n : ℕ). WaitsForStripe n before held.result.stripe taken) at held.ensures.waits in
    let lent = subst (λ (n : ℕ). IsLentStripe taken n held.result.stripe) at held.ensures.whole in
    let stored : StoresItem c.args.expected hand.number stripe c.args.key c.args.fresh.stamp c.args.fresh.chunk c.args.fresh.room before now =
    stored_on c.args.expected hand.number stripe c.args.key c.args.fresh.stamp c.args.fresh.chunk c.args.fresh.room held.new.hand.number held.result.number held.result.stripe before taken linked now number (held.ensures.number ∙ at) waits lent c.in-Ok.ensures.done c.in-Ok.ensures.met
    (c.release.ensures.dropped ∙ ap (λ (chunk : ChunkId). chunk_released chunk linked) c.in-Ok.ensures.same.0) in
    stored_mine hand.number stripe c.args.key c.args.fresh.stamp c.args.fresh.chunk c.args.fresh.room before now stored

pub returns-in-Ok-clause-stores_words : goal.returns-in-Ok-clause-stores_words
returns-in-Ok-clause-stores_words g c =
    let hand = c.args.hand.now in
    let held = c.lock_stripe-held in
    let before : View = hand.seat.me.0 in
    let taken : View = held.new.hand.seat.me.0 in
    let at : c.stripe_of-stripe.result ≡ c.args.key % c.args.arena.now.table.shared.key.config.stripes = c.stripe_of-stripe.ensures ∙ ap (λ (f : Config). c.args.key % f.stripes) c.config.ensures.config in
    let stripe = c.args.key % c.args.arena.now.table.shared.key.config.stripes in
    let linked : View = c.store_at.new.hand.seat.me.0 in
    let now : View = c.release.new.hand.seat.me.0 in
    let number = number_stays hand held.new.hand (waits_keep (λ (v : View). v.row.ids) c.stripe_of-stripe.result (λ word v. refl) (λ value v. refl) before held.result.stripe taken held.ensures.waits) in
    let waits = subst (λ (n : ℕ). WaitsForStripe n before held.result.stripe taken) at held.ensures.waits in
    let lent = subst (λ (n : ℕ). IsLentStripe taken n held.result.stripe) at held.ensures.whole in
    let stored : StoresItem c.args.expected hand.number stripe c.args.key c.args.fresh.stamp c.args.fresh.chunk c.args.fresh.room before now =
    stored_on c.args.expected hand.number stripe c.args.key c.args.fresh.stamp c.args.fresh.chunk c.args.fresh.room held.new.hand.number held.result.number held.result.stripe before taken linked now number (held.ensures.number ∙ at) waits lent c.in-Ok.ensures.done c.in-Ok.ensures.met
    (c.release.ensures.dropped ∙ ap (λ (chunk : ChunkId). chunk_released chunk linked) c.in-Ok.ensures.same.0) in
    stored_said hand.number stripe c.args.key c.args.fresh.stamp c.args.fresh.chunk c.args.fresh.room before now stored

pub returns-in-Ok-clause-hint : goal.returns-in-Ok-clause-hint
returns-in-Ok-clause-hint g c =
    let held = c.lock_stripe-held in
    let before : View = c.args.hand.now.seat.me.0 in
    let taken : View = held.new.hand.seat.me.0 in
    let holdings = waits_keep (λ (v : View). v.row.holdings) c.stripe_of-stripe.result (λ word v. refl) (λ value v. refl) before held.result.stripe taken held.ensures.waits in
    (c.hint-hint.ensures.chunk ∙ c.in-Ok.ensures.same.0, c.hint-hint.ensures.issue ∙ (c.in-Ok.ensures.same.1 ∙ ap (λ (hs : List Holding). option_map_or (λ (h : Holding). h.issue) (holding_of c.args.fresh.chunk hs) 0) holdings))

pub returns-in-Err-clause-locks : goal.returns-in-Err-clause-locks
returns-in-Err-clause-locks g c =
    (c.store_at.ensures.locks ∙ (ap without_stripe c.lock_stripe-held.ensures.locks ∙ locks_back c.args.hand.now c.stripe_of-stripe.result c.requires.unlocked))

pub returns-in-Err-clause-lost : goal.returns-in-Err-clause-lost
returns-in-Err-clause-lost g c =
    let hand = c.args.hand.now in
    let held = c.lock_stripe-held in
    let before : View = hand.seat.me.0 in
    let taken : View = held.new.hand.seat.me.0 in
    let at : c.stripe_of-stripe.result ≡ c.args.key % c.args.arena.now.table.shared.key.config.stripes = c.stripe_of-stripe.ensures ∙ ap (λ (f : Config). c.args.key % f.stripes) c.config.ensures.config in
    let stripe = c.args.key % c.args.arena.now.table.shared.key.config.stripes in
    let given : View = stripe_given held.result.number held.result.stripe taken in
    record {
      given = given;
      waits = only_waits stripe held.result.number held.result.stripe before taken given (held.ensures.number ∙ at) (subst (λ (n : ℕ). WaitsForStripe n before held.result.stripe taken) at held.ensures.waits) (subst (λ (n : ℕ). IsLentStripe taken n held.result.stripe) at held.ensures.whole) c.in-Err.ensures.refused refl;
      dropped = c.in-Err.ensures.given;
    }

pub returns-in-Err-clause-refused : goal.returns-in-Err-clause-refused
returns-in-Err-clause-refused g c =
    let hand = c.args.hand.now in
    let held = c.lock_stripe-held in
    let before : View = hand.seat.me.0 in
    let taken : View = held.new.hand.seat.me.0 in
    let at : c.stripe_of-stripe.result ≡ c.args.key % c.args.arena.now.table.shared.key.config.stripes = c.stripe_of-stripe.ensures ∙ ap (λ (f : Config). c.args.key % f.stripes) c.config.ensures.config in
    let stripe = c.args.key % c.args.arena.now.table.shared.key.config.stripes in
    let given : View = stripe_given held.result.number held.result.stripe taken in
    let dead : LeavesDead (RefusesStore c.in-Err.error c.args.expected c.args.key) stripe c.args.fresh.chunk before c.store_at.new.hand.seat.me.0 = record {
      given = given;
      waits = only_waits stripe held.result.number held.result.stripe before taken given (held.ensures.number ∙ at) (subst (λ (n : ℕ). WaitsForStripe n before held.result.stripe taken) at held.ensures.waits) (subst (λ (n : ℕ). IsLentStripe taken n held.result.stripe) at held.ensures.whole) c.in-Err.ensures.refused refl;
      dropped = c.in-Err.ensures.given;
    } in
    dead_told stripe c.args.fresh.chunk before c.store_at.new.hand.seat.me.0 dead
