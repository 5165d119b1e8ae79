use Rattle.std.proofs.Common.{◌≡◌, ◌%◌, ℕ, List, Option, IfSome, is_some, refl, ap, sym, subst, ◌∙◌, arith, length}
use Rattle.mc_classes.specs.declared.config.Config.{Config}
use Rattle.mc_core.specs.declared.holding.Holding.{Holding}
use Rattle.mc_words.specs.lock.Doing.{UsesRoomForCall}
use Rattle.mc_words.specs.lock.Lent.{IsLentStripe}
use Rattle.mc_words.specs.lock.Out.{without_stripe}
use Rattle.mc_core.specs.model.Holdings.{key_of, stamp_in_words}
use Rattle.mc_words.specs.declared.item.refs.Ref.{Ref}
use Rattle.mc_words.specs.item.Items.{held_item}
use Rattle.mc_words.specs.item.Refs.{IsIssueOf, IsRefOf}
use Rattle.mc_words.specs.hand.View.{View}
use Rattle.mc_words.specs.lock.Wait.{WaitsForStripe}
use Rattle.mc_items.specs.Calls.{Finds, FindsNone, LooksUp}
use Rattle.std.specs.Option.{option_map}
use Rattle.mc_stripe.specs.declared.history.Call.TheVariants.{Get}
use Rattle.mc_stripe.specs.StripeState.{stamp_of_key as stripe_stamp}
use Rattle.mc_items.proofs.Chains.{counts_kept, hand_still, holdings_stay, ready_less}
use Rattle.mc_items.proofs.Left.{Kept, finds_one, none_keeps, only_keeps}
use Rattle.mc_items.proofs.Gets.{called_on, only_waits}
use Rattle.mc_items.proofs.Tells.{looked_tells, told_none, told_on}
use Rattle.mc_words.proofs.Hands.HandNumbers.{number_stays}
use Rattle.mc_items.proofs.Locks.{locks_back, still_unlocked, waits_keep}
use Rattle.mc_words.specs.item.Refs.{IsRefIn}
use Rattle.mc_words.specs.lock.Doing.{HoldsSlabs}
use Rattle.mc_items.specs.Calls.{Bumps}
use Rattle.mc_items.proofs.Left.{bumped_keeps, bumped_tells}
use Rattle.mc_items.proofs.Touched.{touch_fills_none, touch_holds_no_more, touch_keeps_counts, touch_keeps_ids, touch_says_nothing}
use Rattle.mc_items.proofs.touching.touch.Goals as goal

pub refer_at-requires-clause-within_limit : goal.refer_at-requires-clause-within_limit
refer_at-requires-clause-within_limit g c =
    let held = c.lock_stripe-held in
    let same = ap (λ (l : List Holding). length l) (waits_keep (λ (v : View). v.row.holdings) (c.args.key % c.config.result.now.stripes) (λ word v. refl) (λ value v. refl) c.args.hand.now.seat.me.0 held.result.stripe held.new.hand.seat.me.0 held.ensures.waits) in
    let within_limit = c.requires.ready.within_limit in
    omega arith

pub returns-in-Ok-None-clause-none : goal.returns-in-Ok-None-clause-none
returns-in-Ok-None-clause-none g c _ =
    let hand = c.args.hand.now in
    let held = c.lock_stripe-held in
    let before : View = hand.seat.me.0 in
    let taken : View = held.new.hand.seat.me.0 in
    let at : c.args.key % c.config.result.now.stripes ≡ c.args.key % c.args.arena.now.table.shared.key.config.stripes = ap (λ (f : Config). c.args.key % f.stripes) c.config.ensures.config in
    let number = number_stays hand held.new.hand (waits_keep (λ (v : View). v.row.ids) (c.args.key % c.config.result.now.stripes) (λ word v. refl) (λ value v. refl) before held.result.stripe taken held.ensures.waits) in
    called_on (λ number stripe. FindsNone number stripe c.args.key) hand.number _ held.new.hand.number held.result.number held.result.stripe before taken c.refer_at.new.hand.seat.me.0 number (held.ensures.number ∙ at)
    (subst (λ (n : ℕ). WaitsForStripe n before held.result.stripe taken) at held.ensures.waits) (subst (λ (n : ℕ). IsLentStripe taken n held.result.stripe) at held.ensures.whole)
    (subst (λ (o : Option Ref). UsesRoomForCall held.new.hand.number held.result.number held.result.stripe (LooksUp held.new.hand.number held.result.number c.args.key o) taken c.refer_at.new.hand.seat.me.0) c.in-Ok-None.field-0-is c.in-Ok-None.ensures.done)

pub returns-in-Ok-None-clause-calls : goal.returns-in-Ok-None-clause-calls
returns-in-Ok-None-clause-calls g c =
    let hand = c.args.hand.now in
    let held = c.lock_stripe-held in
    let before : View = hand.seat.me.0 in
    let taken : View = held.new.hand.seat.me.0 in
    let got : View = c.refer_at.new.hand.seat.me.0 in
    let at : c.args.key % c.config.result.now.stripes ≡ c.args.key % c.args.arena.now.table.shared.key.config.stripes = ap (λ (f : Config). c.args.key % f.stripes) c.config.ensures.config in
    let number = number_stays hand held.new.hand (waits_keep (λ (v : View). v.row.ids) (c.args.key % c.config.result.now.stripes) (λ word v. refl) (λ value v. refl) before held.result.stripe taken held.ensures.waits) in
    let waits = subst (λ (n : ℕ). WaitsForStripe n before held.result.stripe taken) at held.ensures.waits in
    let stamp = stripe_stamp held.result.stripe.state c.args.key in
    let tells = told_on hand.number _ held.new.hand.number held.result.number (λ number. Get number c.args.key stamp) held.result.stripe before taken got number (held.ensures.number ∙ at) waits
    (looked_tells held.new.hand.number held.result.number held.result.stripe c.args.key c.in-Ok-None.field-0 taken got c.in-Ok-None.ensures.done) in
    let there = c.in-Ok-None.ensures.stamp ∙ ap (option_map (λ (x : Ref). stamp_in_words (held_item got x.chunk))) c.in-Ok-None.field-0-is in
    (stamp, ap is_some there, tells)

pub returns-in-Ok-None-clause-holdings : goal.returns-in-Ok-None-clause-holdings
returns-in-Ok-None-clause-holdings g c =
    let hand = c.args.hand.now in
    let now = c.refer_at.new.hand in
    let kept = none_keeps hand.number (c.args.key % c.args.arena.now.table.shared.key.config.stripes) c.args.key hand.seat.me.0 now.seat.me.0 (returns-in-Ok-None-clause-none g c refl) in
    counts_kept hand.seat.me.0 now.seat.me.0 (holdings_stay hand.seat.me.0 now.seat.me.0 (ap (λ (k : Kept). k.0) kept) (ap (λ (k : Kept). k.1) kept))

pub returns-in-Ok-None-clause-hand : goal.returns-in-Ok-None-clause-hand
returns-in-Ok-None-clause-hand g c =
    let hand = c.args.hand.now in
    let now = c.refer_at.new.hand in
    let kept = none_keeps hand.number (c.args.key % c.args.arena.now.table.shared.key.config.stripes) c.args.key hand.seat.me.0 now.seat.me.0 (returns-in-Ok-None-clause-none g c refl) in
    let locks = c.refer_at.ensures.locks ∙ (ap without_stripe c.lock_stripe-held.ensures.locks ∙ locks_back hand (c.args.key % c.config.result.now.stripes) c.requires.ready.unlocked) in
    hand_still c.args.arena.now hand now c.refer_at.ensures.arena locks (ap (λ (k : Kept). k.0) kept) (ap (λ (k : Kept). k.3) kept) c.requires.ready

pub returns-in-Ok-None-clause-stores_nothing : goal.returns-in-Ok-None-clause-stores_nothing
returns-in-Ok-None-clause-stores_nothing g c =
    let hand = c.args.hand.now in
    let now = c.refer_at.new.hand in
    let kept = none_keeps hand.number (c.args.key % c.args.arena.now.table.shared.key.config.stripes) c.args.key hand.seat.me.0 now.seat.me.0 (returns-in-Ok-None-clause-none g c refl) in
    ap (λ (k : Kept). k.2) kept

pub returns-in-Err-clause-no_memory : goal.returns-in-Err-clause-no_memory
returns-in-Err-clause-no_memory g c =
    let hand = c.args.hand.now in
    let held = c.lock_stripe-held in
    let before : View = hand.seat.me.0 in
    let taken : View = held.new.hand.seat.me.0 in
    let got : View = c.refer_at.new.hand.seat.me.0 in
    let at : c.args.key % c.config.result.now.stripes ≡ c.args.key % c.args.arena.now.table.shared.key.config.stripes = ap (λ (f : Config). c.args.key % f.stripes) c.config.ensures.config in
    let waits = subst (λ (n : ℕ). WaitsForStripe n before held.result.stripe taken) at held.ensures.waits in
    only_waits _ held.result.number held.result.stripe before taken got (held.ensures.number ∙ at) waits (subst (λ (n : ℕ). IsLentStripe taken n held.result.stripe) at held.ensures.whole) c.in-Err.ensures.full c.in-Err.ensures.given

pub returns-in-Err-clause-refused : goal.returns-in-Err-clause-refused
returns-in-Err-clause-refused g c =
    told_none _ c.args.hand.now.seat.me.0 c.refer_at.new.hand.seat.me.0 (returns-in-Err-clause-no_memory g c)

pub returns-in-Err-clause-holdings : goal.returns-in-Err-clause-holdings
returns-in-Err-clause-holdings g c =
    let hand = c.args.hand.now in
    let now = c.refer_at.new.hand in
    let kept = only_keeps (c.args.key % c.args.arena.now.table.shared.key.config.stripes) hand.seat.me.0 now.seat.me.0 (returns-in-Err-clause-no_memory g c) in
    counts_kept hand.seat.me.0 now.seat.me.0 (holdings_stay hand.seat.me.0 now.seat.me.0 (ap (λ (k : Kept). k.0) kept) (ap (λ (k : Kept). k.1) kept))

pub returns-in-Err-clause-hand : goal.returns-in-Err-clause-hand
returns-in-Err-clause-hand g c =
    let hand = c.args.hand.now in
    let now = c.refer_at.new.hand in
    let kept = only_keeps (c.args.key % c.args.arena.now.table.shared.key.config.stripes) hand.seat.me.0 now.seat.me.0 (returns-in-Err-clause-no_memory g c) in
    let locks = c.refer_at.ensures.locks ∙ (ap without_stripe c.lock_stripe-held.ensures.locks ∙ locks_back hand (c.args.key % c.config.result.now.stripes) c.requires.ready.unlocked) in
    hand_still c.args.arena.now hand now c.refer_at.ensures.arena locks (ap (λ (k : Kept). k.0) kept) (ap (λ (k : Kept). k.3) kept) c.requires.ready

pub returns-in-Err-clause-stores_nothing : goal.returns-in-Err-clause-stores_nothing
returns-in-Err-clause-stores_nothing g c =
    let hand = c.args.hand.now in
    let now = c.refer_at.new.hand in
    let kept = only_keeps (c.args.key % c.args.arena.now.table.shared.key.config.stripes) hand.seat.me.0 now.seat.me.0 (returns-in-Err-clause-no_memory g c) in
    ap (λ (k : Kept). k.2) kept

pub bump_chunk-requires-clause-unlocked : goal.bump_chunk-requires-clause-unlocked
bump_chunk-requires-clause-unlocked g c =
    still_unlocked c.args.hand.now c.refer_at.new.hand c.requires.ready.unlocked (c.refer_at.ensures.locks ∙ (ap without_stripe c.lock_stripe-held.ensures.locks ∙ locks_back c.args.hand.now (c.args.key % c.config.result.now.stripes) c.requires.ready.unlocked))

pub bump_chunk-requires-clause-reference : goal.bump_chunk-requires-clause-reference
bump_chunk-requires-clause-reference g c =
    let got : View = c.refer_at.new.hand.seat.me.0 in
    (subst (λ (o : Option Ref). IfSome o (λ r. IsRefOf got r.chunk r.room × IsIssueOf got r.chunk r.issue × (key_of (held_item got r.chunk) ≡ c.args.key))) c.in-Ok-Some.field-0-is c.in-Ok-Some.ensures.reference).0

pub release-requires-clause-reference : goal.release-requires-clause-reference
release-requires-clause-reference g c =
    let r = c.in-Ok-Some.reference in
    let got : View = c.refer_at.new.hand.seat.me.0 in
    let ref = (subst (λ (o : Option Ref). IfSome o (λ r. IsRefOf got r.chunk r.room × IsIssueOf got r.chunk r.issue × (key_of (held_item got r.chunk) ≡ c.args.key))) c.in-Ok-Some.field-0-is c.in-Ok-Some.ensures.reference).0 in
    subst (λ (k : Kept). IsRefIn k.0 k.1 r.chunk r.room) (sym (bumped_keeps _ _ _ _ c.bump_chunk.ensures.bumps)) ref

pub returns-clause-touches : goal.returns-clause-touches
returns-clause-touches g c _ =
    let hand = c.args.hand.now in
    let r = c.in-Ok-Some.reference in
    let held = c.lock_stripe-held in
    let before : View = hand.seat.me.0 in
    let taken : View = held.new.hand.seat.me.0 in
    let got : View = c.refer_at.new.hand.seat.me.0 in
    let bumped : View = c.bump_chunk.new.hand.seat.me.0 in
    let at : c.args.key % c.config.result.now.stripes ≡ c.args.key % c.args.arena.now.table.shared.key.config.stripes = ap (λ (f : Config). c.args.key % f.stripes) c.config.ensures.config in
    let number = number_stays hand held.new.hand (waits_keep (λ (v : View). v.row.ids) (c.args.key % c.config.result.now.stripes) (λ word v. refl) (λ value v. refl) before held.result.stripe taken held.ensures.waits) in
    let gets = called_on (λ number stripe. Finds number stripe c.args.key r) hand.number _ held.new.hand.number held.result.number held.result.stripe before taken got number (held.ensures.number ∙ at)
    (subst (λ (n : ℕ). WaitsForStripe n before held.result.stripe taken) at held.ensures.waits) (subst (λ (n : ℕ). IsLentStripe taken n held.result.stripe) at held.ensures.whole)
    (subst (λ (o : Option Ref). UsesRoomForCall held.new.hand.number held.result.number held.result.stripe (LooksUp held.new.hand.number held.result.number c.args.key o) taken got) c.in-Ok-Some.field-0-is c.in-Ok-Some.ensures.done) in
    let same = number_stays hand c.refer_at.new.hand (ap (λ (k : Kept). k.3) (finds_one hand.number _ c.args.key r before got gets).kept) in record {
      reference = r;
      got = got;
      gets = gets;
      bumped = bumped;
      bumps = subst (λ (n : ℕ). HoldsSlabs (Bumps n r.chunk) got bumped) same c.bump_chunk.ensures.bumps;
      released = c.release.ensures.dropped;
    }

pub returns-clause-calls : goal.returns-clause-calls
returns-clause-calls g c =
    let hand = c.args.hand.now in
    let held = c.lock_stripe-held in
    let before : View = hand.seat.me.0 in
    let taken : View = held.new.hand.seat.me.0 in
    let got : View = c.refer_at.new.hand.seat.me.0 in
    let at : c.args.key % c.config.result.now.stripes ≡ c.args.key % c.args.arena.now.table.shared.key.config.stripes = ap (λ (f : Config). c.args.key % f.stripes) c.config.ensures.config in
    let number = number_stays hand held.new.hand (waits_keep (λ (v : View). v.row.ids) (c.args.key % c.config.result.now.stripes) (λ word v. refl) (λ value v. refl) before held.result.stripe taken held.ensures.waits) in
    let waits = subst (λ (n : ℕ). WaitsForStripe n before held.result.stripe taken) at held.ensures.waits in
    let stamp = stripe_stamp held.result.stripe.state c.args.key in
    let tells = told_on hand.number _ held.new.hand.number held.result.number (λ number. Get number c.args.key stamp) held.result.stripe before taken got number (held.ensures.number ∙ at) waits
    (looked_tells held.new.hand.number held.result.number held.result.stripe c.args.key c.in-Ok-Some.field-0 taken got c.in-Ok-Some.ensures.done) in
    let there = c.in-Ok-Some.ensures.stamp ∙ ap (option_map (λ (x : Ref). stamp_in_words (held_item got x.chunk))) c.in-Ok-Some.field-0-is in
    (stamp, ap is_some there, ap (λ (v : View). v.row.knows.mine) c.release.ensures.dropped ∙ (bumped_tells _ _ _ _ c.bump_chunk.ensures.bumps ∙ tells))

pub returns-clause-stores_nothing : goal.returns-clause-stores_nothing
returns-clause-stores_nothing g c = touch_says_nothing _ _ _ _ _ (returns-clause-touches g c refl)

pub returns-clause-holdings : goal.returns-clause-holdings
unfolding returns-clause-touches
returns-clause-holdings g c = touch_keeps_counts _ _ _ _ _ (returns-clause-touches g c refl) c.requires.ready.unfilled c.refer_at.ensures.arena.lawful

pub returns-clause-hand : goal.returns-clause-hand
returns-clause-hand g c =
    let hand = c.args.hand.now in
    let now = c.release.new.hand in
    let touches = returns-clause-touches g c refl in
    let locks = c.release.ensures.locks
    ∙ (c.bump_chunk.ensures.locks
    ∙ (c.refer_at.ensures.locks ∙ (ap without_stripe c.lock_stripe-held.ensures.locks ∙ locks_back hand (c.args.key % c.config.result.now.stripes) c.requires.ready.unlocked))) in record {
      arena = c.release.ensures.arena;
      ready = ready_less hand now locks (touch_fills_none _ _ _ _ _ touches c.requires.ready.unfilled) (touch_holds_no_more _ _ _ _ _ touches) c.requires.ready;
      locks = locks;
      number = number_stays hand now (touch_keeps_ids _ _ _ _ _ touches);
    }
