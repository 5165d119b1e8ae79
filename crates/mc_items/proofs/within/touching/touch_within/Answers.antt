use Rattle.std.proofs.Common.{◌≡◌, ◌%◌, ℕ, List, Option, IfSome, is_some, refl, ap, sym, subst, ◌∙◌, arith, inl, inr, length}
use Rattle.mc_classes.specs.declared.config.Config.{Config}
use Rattle.mc_core.specs.declared.holding.Holding.{Holding}
use Rattle.mc_words.specs.lock.Doing.{UsesRoomForCall}
use Rattle.mc_words.specs.lock.Lent.{IsLentStripe}
use Rattle.mc_words.specs.lock.Out.{without_stripe}
use Rattle.mc_core.specs.model.Holdings.{key_of, stamp_in_words}
use Rattle.mc_words.specs.declared.item.refs.Ref.{Ref}
use Rattle.mc_words.specs.item.Items.{held_item}
use Rattle.mc_words.specs.item.Refs.{IsIssueOf, IsRefOf}
use Rattle.mc_words.specs.hand.View.{View}
use Rattle.mc_words.specs.lock.Wait.{MissesStripeEachTime, WaitsForStripe}
use Rattle.mc_items.specs.Within.{LeavesUnmoved}
use Rattle.mc_items.proofs.Missed.{bump_keeps, slabs_missed_tells, stripe_missed_keeps, stripe_missed_tells}
use Rattle.mc_items.specs.Calls.{Finds, FindsNone, LooksUp}
use Rattle.std.specs.Option.{option_map}
use Rattle.mc_stripe.specs.declared.history.Call.TheVariants.{Get}
use Rattle.mc_stripe.specs.StripeState.{stamp_of_key as stripe_stamp}
use Rattle.mc_items.proofs.Chains.{counts_kept, hand_still, holdings_stay, ready_less}
use Rattle.mc_items.proofs.Left.{Kept, finds_one, none_keeps, only_keeps}
use Rattle.mc_items.proofs.Gets.{called_on, only_waits}
use Rattle.mc_items.proofs.Tells.{looked_tells, told_none, told_on}
use Rattle.mc_words.proofs.Hands.HandNumbers.{number_stays}
use Rattle.mc_items.proofs.Locks.{locks_back, still_unlocked, waits_keep}
use Rattle.mc_words.specs.item.Refs.{IsRefIn}
use Rattle.mc_words.specs.lock.Doing.{HoldsSlabs}
use Rattle.mc_items.specs.Calls.{Bumps}
use Rattle.mc_items.proofs.Left.{bumped_tells}
use Rattle.mc_items.proofs.Touched.{touch_fills_none, touch_holds_no_more, touch_keeps_counts, touch_keeps_ids, touch_says_nothing, unmoved_fills_none, unmoved_holds_no_more, unmoved_keeps_counts, unmoved_keeps_ids, unmoved_says_nothing}
use Rattle.mc_items.proofs.within.touching.touch_within.Goals as goal

pub refer_at-requires-clause-within_limit : goal.refer_at-requires-clause-within_limit
refer_at-requires-clause-within_limit c =
    let held = c.in-Ok in
    let same = ap (λ (l : List Holding). length l) (waits_keep (λ (v : View). v.row.holdings) (c.args.key % c.config.result.now.stripes) (λ word v. refl) (λ value v. refl) c.args.hand.now.seat.me.0 held.held.stripe c.stripe_within.new.hand.seat.me.0 held.ensures.within.waits) in
    let within_limit = c.requires.ready.within_limit in
    omega arith

pub returns-in-Ok-None-clause-none : goal.returns-in-Ok-None-clause-none
returns-in-Ok-None-clause-none c _ =
    let hand = c.args.hand.now in
    let held = c.in-Ok in
    let before : View = hand.seat.me.0 in
    let taken : View = c.stripe_within.new.hand.seat.me.0 in
    let at : c.args.key % c.config.result.now.stripes ≡ c.args.key % c.args.arena.now.table.shared.key.config.stripes = ap (λ (f : Config). c.args.key % f.stripes) c.config.ensures.config in
    let number = number_stays hand c.stripe_within.new.hand (waits_keep (λ (v : View). v.row.ids) (c.args.key % c.config.result.now.stripes) (λ word v. refl) (λ value v. refl) before held.held.stripe taken held.ensures.within.waits) in
    called_on (λ number stripe. FindsNone number stripe c.args.key) hand.number _ c.stripe_within.new.hand.number held.held.number held.held.stripe before taken c.refer_at.new.hand.seat.me.0 number (held.ensures.number ∙ at)
    (subst (λ (n : ℕ). WaitsForStripe n before held.held.stripe taken) at held.ensures.within.waits) (subst (λ (n : ℕ). IsLentStripe taken n held.held.stripe) at held.ensures.whole)
    (subst (λ (o : Option Ref). UsesRoomForCall c.stripe_within.new.hand.number held.held.number held.held.stripe (LooksUp c.stripe_within.new.hand.number held.held.number c.args.key o) taken c.refer_at.new.hand.seat.me.0) c.in-Ok-None.field-0-is c.in-Ok-None.ensures.done)

pub returns-in-Ok-None-clause-calls : goal.returns-in-Ok-None-clause-calls
returns-in-Ok-None-clause-calls c =
    let hand = c.args.hand.now in
    let held = c.in-Ok in
    let before : View = hand.seat.me.0 in
    let taken : View = c.stripe_within.new.hand.seat.me.0 in
    let got : View = c.refer_at.new.hand.seat.me.0 in
    let at : c.args.key % c.config.result.now.stripes ≡ c.args.key % c.args.arena.now.table.shared.key.config.stripes = ap (λ (f : Config). c.args.key % f.stripes) c.config.ensures.config in
    let number = number_stays hand c.stripe_within.new.hand (waits_keep (λ (v : View). v.row.ids) (c.args.key % c.config.result.now.stripes) (λ word v. refl) (λ value v. refl) before held.held.stripe taken held.ensures.within.waits) in
    let waits = subst (λ (n : ℕ). WaitsForStripe n before held.held.stripe taken) at held.ensures.within.waits in
    let stamp = stripe_stamp held.held.stripe.state c.args.key in
    let tells = told_on hand.number _ c.stripe_within.new.hand.number held.held.number (λ number. Get number c.args.key stamp) held.held.stripe before taken got number (held.ensures.number ∙ at) waits
    (looked_tells c.stripe_within.new.hand.number held.held.number held.held.stripe c.args.key c.in-Ok-None.field-0 taken got c.in-Ok-None.ensures.done) in
    let there = c.in-Ok-None.ensures.stamp ∙ ap (option_map (λ (x : Ref). stamp_in_words (held_item got x.chunk))) c.in-Ok-None.field-0-is in
    (stamp, ap is_some there, tells)

pub returns-in-Ok-None-clause-holdings : goal.returns-in-Ok-None-clause-holdings
returns-in-Ok-None-clause-holdings c =
    let hand = c.args.hand.now in
    let now = c.refer_at.new.hand in
    let kept = none_keeps hand.number (c.args.key % c.args.arena.now.table.shared.key.config.stripes) c.args.key hand.seat.me.0 now.seat.me.0 (returns-in-Ok-None-clause-none c refl) in
    counts_kept hand.seat.me.0 now.seat.me.0 (holdings_stay hand.seat.me.0 now.seat.me.0 (ap (λ (k : Kept). k.0) kept) (ap (λ (k : Kept). k.1) kept))

pub returns-in-Ok-None-clause-hand : goal.returns-in-Ok-None-clause-hand
returns-in-Ok-None-clause-hand c =
    let hand = c.args.hand.now in
    let now = c.refer_at.new.hand in
    let kept = none_keeps hand.number (c.args.key % c.args.arena.now.table.shared.key.config.stripes) c.args.key hand.seat.me.0 now.seat.me.0 (returns-in-Ok-None-clause-none c refl) in
    let locks = c.refer_at.ensures.locks ∙ (ap without_stripe c.in-Ok.ensures.locks ∙ locks_back hand (c.args.key % c.config.result.now.stripes) c.requires.ready.unlocked) in
    hand_still c.args.arena.now hand now c.refer_at.ensures.arena locks (ap (λ (k : Kept). k.0) kept) (ap (λ (k : Kept). k.3) kept) c.requires.ready

pub returns-in-Ok-None-clause-stores_nothing : goal.returns-in-Ok-None-clause-stores_nothing
returns-in-Ok-None-clause-stores_nothing c =
    let hand = c.args.hand.now in
    let now = c.refer_at.new.hand in
    let kept = none_keeps hand.number (c.args.key % c.args.arena.now.table.shared.key.config.stripes) c.args.key hand.seat.me.0 now.seat.me.0 (returns-in-Ok-None-clause-none c refl) in
    ap (λ (k : Kept). k.2) kept

pub returns-in-Err-clause-no_memory : goal.returns-in-Err-clause-no_memory
returns-in-Err-clause-no_memory c _ =
    let hand = c.args.hand.now in
    let held = c.in-Ok in
    let before : View = hand.seat.me.0 in
    let taken : View = c.stripe_within.new.hand.seat.me.0 in
    let got : View = c.refer_at.new.hand.seat.me.0 in
    let at : c.args.key % c.config.result.now.stripes ≡ c.args.key % c.args.arena.now.table.shared.key.config.stripes = ap (λ (f : Config). c.args.key % f.stripes) c.config.ensures.config in
    let waits = subst (λ (n : ℕ). WaitsForStripe n before held.held.stripe taken) at held.ensures.within.waits in
    only_waits _ held.held.number held.held.stripe before taken got (held.ensures.number ∙ at) waits (subst (λ (n : ℕ). IsLentStripe taken n held.held.stripe) at held.ensures.whole) c.in-Err.ensures.full c.in-Err.ensures.given

pub returns-in-Err-clause-refused : goal.returns-in-Err-clause-refused
returns-in-Err-clause-refused c _ =
    told_none _ c.args.hand.now.seat.me.0 c.refer_at.new.hand.seat.me.0 (returns-in-Err-clause-no_memory c refl)

pub returns-in-Err-clause-holdings : goal.returns-in-Err-clause-holdings
returns-in-Err-clause-holdings c =
    let hand = c.args.hand.now in
    let now = c.refer_at.new.hand in
    let kept = only_keeps (c.args.key % c.args.arena.now.table.shared.key.config.stripes) hand.seat.me.0 now.seat.me.0 (returns-in-Err-clause-no_memory c refl) in
    counts_kept hand.seat.me.0 now.seat.me.0 (holdings_stay hand.seat.me.0 now.seat.me.0 (ap (λ (k : Kept). k.0) kept) (ap (λ (k : Kept). k.1) kept))

pub returns-in-Err-clause-hand : goal.returns-in-Err-clause-hand
returns-in-Err-clause-hand c =
    let hand = c.args.hand.now in
    let now = c.refer_at.new.hand in
    let kept = only_keeps (c.args.key % c.args.arena.now.table.shared.key.config.stripes) hand.seat.me.0 now.seat.me.0 (returns-in-Err-clause-no_memory c refl) in
    let locks = c.refer_at.ensures.locks ∙ (ap without_stripe c.in-Ok.ensures.locks ∙ locks_back hand (c.args.key % c.config.result.now.stripes) c.requires.ready.unlocked) in
    hand_still c.args.arena.now hand now c.refer_at.ensures.arena locks (ap (λ (k : Kept). k.0) kept) (ap (λ (k : Kept). k.3) kept) c.requires.ready

pub returns-in-Err-clause-stores_nothing : goal.returns-in-Err-clause-stores_nothing
returns-in-Err-clause-stores_nothing c =
    let hand = c.args.hand.now in
    let now = c.refer_at.new.hand in
    let kept = only_keeps (c.args.key % c.args.arena.now.table.shared.key.config.stripes) hand.seat.me.0 now.seat.me.0 (returns-in-Err-clause-no_memory c refl) in
    ap (λ (k : Kept). k.2) kept

pub bump_chunk_within-moved-requires-clause-unlocked : goal.bump_chunk_within-moved-requires-clause-unlocked
bump_chunk_within-moved-requires-clause-unlocked c =
    still_unlocked c.args.hand.now c.refer_at.new.hand c.requires.ready.unlocked (c.refer_at.ensures.locks ∙ (ap without_stripe c.in-Ok.ensures.locks ∙ locks_back c.args.hand.now (c.args.key % c.config.result.now.stripes) c.requires.ready.unlocked))

pub bump_chunk_within-moved-requires-clause-reference : goal.bump_chunk_within-moved-requires-clause-reference
bump_chunk_within-moved-requires-clause-reference c =
    let got : View = c.refer_at.new.hand.seat.me.0 in
    (subst (λ (o : Option Ref). IfSome o (λ r. IsRefOf got r.chunk r.room × IsIssueOf got r.chunk r.issue × (key_of (held_item got r.chunk) ≡ c.args.key))) c.in-Ok-Some.field-0-is c.in-Ok-Some.ensures.reference).0

pub release-requires-clause-reference : goal.release-requires-clause-reference
release-requires-clause-reference c =
    let r = c.in-Ok-Some.reference in
    let got : View = c.refer_at.new.hand.seat.me.0 in
    let ref = (subst (λ (o : Option Ref). IfSome o (λ r. IsRefOf got r.chunk r.room × IsIssueOf got r.chunk r.issue × (key_of (held_item got r.chunk) ≡ c.args.key))) c.in-Ok-Some.field-0-is c.in-Ok-Some.ensures.reference).0 in
    subst (λ (k : Kept). IsRefIn k.0 k.1 r.chunk r.room) (sym (bump_keeps c.refer_at.new.hand.number c.args.tries r.chunk c.bump_chunk_within-moved.result got c.bump_chunk_within-moved.new.hand.seat.me.0 c.bump_chunk_within-moved.ensures.bumps c.bump_chunk_within-moved.ensures.missed)) ref

pub returns-in-Ok-moved-clause-touches : goal.returns-in-Ok-moved-clause-touches
returns-in-Ok-moved-clause-touches c _ =
    let hand = c.args.hand.now in
    let r = c.in-Ok-Some.reference in
    let held = c.in-Ok in
    let before : View = hand.seat.me.0 in
    let taken : View = c.stripe_within.new.hand.seat.me.0 in
    let got : View = c.refer_at.new.hand.seat.me.0 in
    let bumped : View = c.bump_chunk_within-moved.new.hand.seat.me.0 in
    let at : c.args.key % c.config.result.now.stripes ≡ c.args.key % c.args.arena.now.table.shared.key.config.stripes = ap (λ (f : Config). c.args.key % f.stripes) c.config.ensures.config in
    let number = number_stays hand c.stripe_within.new.hand (waits_keep (λ (v : View). v.row.ids) (c.args.key % c.config.result.now.stripes) (λ word v. refl) (λ value v. refl) before held.held.stripe taken held.ensures.within.waits) in
    let gets = called_on (λ number stripe. Finds number stripe c.args.key r) hand.number _ c.stripe_within.new.hand.number held.held.number held.held.stripe before taken got number (held.ensures.number ∙ at)
    (subst (λ (n : ℕ). WaitsForStripe n before held.held.stripe taken) at held.ensures.within.waits) (subst (λ (n : ℕ). IsLentStripe taken n held.held.stripe) at held.ensures.whole)
    (subst (λ (o : Option Ref). UsesRoomForCall c.stripe_within.new.hand.number held.held.number held.held.stripe (LooksUp c.stripe_within.new.hand.number held.held.number c.args.key o) taken got) c.in-Ok-Some.field-0-is c.in-Ok-Some.ensures.done) in
    let same = number_stays hand c.refer_at.new.hand (ap (λ (k : Kept). k.3) (finds_one hand.number _ c.args.key r before got gets).kept) in record {
      reference = r;
      got = got;
      gets = gets;
      bumped = bumped;
      bumps = subst (λ (n : ℕ). HoldsSlabs (Bumps n r.chunk) got bumped) same c.in-Ok-moved.ensures.bumps;
      released = c.release.ensures.dropped;
    }

pub returns-in-Ok-moved-clause-calls : goal.returns-in-Ok-moved-clause-calls
returns-in-Ok-moved-clause-calls c =
    let hand = c.args.hand.now in
    let held = c.in-Ok in
    let before : View = hand.seat.me.0 in
    let taken : View = c.stripe_within.new.hand.seat.me.0 in
    let got : View = c.refer_at.new.hand.seat.me.0 in
    let at : c.args.key % c.config.result.now.stripes ≡ c.args.key % c.args.arena.now.table.shared.key.config.stripes = ap (λ (f : Config). c.args.key % f.stripes) c.config.ensures.config in
    let number = number_stays hand c.stripe_within.new.hand (waits_keep (λ (v : View). v.row.ids) (c.args.key % c.config.result.now.stripes) (λ word v. refl) (λ value v. refl) before held.held.stripe taken held.ensures.within.waits) in
    let waits = subst (λ (n : ℕ). WaitsForStripe n before held.held.stripe taken) at held.ensures.within.waits in
    let stamp = stripe_stamp held.held.stripe.state c.args.key in
    let tells = told_on hand.number _ c.stripe_within.new.hand.number held.held.number (λ number. Get number c.args.key stamp) held.held.stripe before taken got number (held.ensures.number ∙ at) waits
    (looked_tells c.stripe_within.new.hand.number held.held.number held.held.stripe c.args.key c.in-Ok-Some.field-0 taken got c.in-Ok-Some.ensures.done) in
    let there = c.in-Ok-Some.ensures.stamp ∙ ap (option_map (λ (x : Ref). stamp_in_words (held_item got x.chunk))) c.in-Ok-Some.field-0-is in
    (stamp, ap is_some there, ap (λ (v : View). v.row.knows.mine) c.release.ensures.dropped ∙ (bumped_tells _ _ _ _ c.in-Ok-moved.ensures.bumps ∙ tells))

pub returns-in-Ok-moved-clause-stores_nothing : goal.returns-in-Ok-moved-clause-stores_nothing
returns-in-Ok-moved-clause-stores_nothing c = touch_says_nothing _ _ _ _ _ (returns-in-Ok-moved-clause-touches c refl)

pub returns-in-Ok-moved-clause-holdings : goal.returns-in-Ok-moved-clause-holdings
unfolding returns-in-Ok-moved-clause-touches
returns-in-Ok-moved-clause-holdings c = touch_keeps_counts _ _ _ _ _ (returns-in-Ok-moved-clause-touches c refl) c.requires.ready.unfilled c.refer_at.ensures.arena.lawful

pub returns-in-Ok-moved-clause-hand : goal.returns-in-Ok-moved-clause-hand
returns-in-Ok-moved-clause-hand c =
    let hand = c.args.hand.now in
    let now = c.release.new.hand in
    let touches = returns-in-Ok-moved-clause-touches c refl in
    let locks = c.release.ensures.locks
    ∙ (c.bump_chunk_within-moved.ensures.locks
    ∙ (c.refer_at.ensures.locks ∙ (ap without_stripe c.in-Ok.ensures.locks ∙ locks_back hand (c.args.key % c.config.result.now.stripes) c.requires.ready.unlocked))) in record {
      arena = c.release.ensures.arena;
      ready = ready_less hand now locks (touch_fills_none _ _ _ _ _ touches c.requires.ready.unfilled) (touch_holds_no_more _ _ _ _ _ touches) c.requires.ready;
      locks = locks;
      number = number_stays hand now (touch_keeps_ids _ _ _ _ _ touches);
    }

pub returns-in_default-clause-held : goal.returns-in_default-clause-held
returns-in_default-clause-held c _ =
    let at : c.args.key % c.config.result.now.stripes ≡ c.args.key % c.args.arena.now.table.shared.key.config.stripes = ap (λ (f : Config). c.args.key % f.stripes) c.config.ensures.config in
    inl (subst (λ (n : ℕ). MissesStripeEachTime c.args.tries n c.args.hand.now.seat.me.0 c.stripe_within.new.hand.seat.me.0) at c.in_default.ensures.missed)

pub returns-in_default-clause-held_calls : goal.returns-in_default-clause-held_calls
returns-in_default-clause-held_calls c _ =
    inl (stripe_missed_tells c.args.tries (c.args.key % c.config.result.now.stripes) c.args.hand.now.seat.me.0 c.stripe_within.new.hand.seat.me.0 c.in_default.ensures.missed)

pub returns-in_default-clause-holdings : goal.returns-in_default-clause-holdings
returns-in_default-clause-holdings c =
    let hand = c.args.hand.now in
    let now = c.stripe_within.new.hand in
    let kept = stripe_missed_keeps c.args.tries (c.args.key % c.config.result.now.stripes) hand.seat.me.0 now.seat.me.0 c.in_default.ensures.missed in
    counts_kept hand.seat.me.0 now.seat.me.0 (holdings_stay hand.seat.me.0 now.seat.me.0 (ap (λ (k : Kept). k.0) kept) (ap (λ (k : Kept). k.1) kept))

pub returns-in_default-clause-stores_nothing : goal.returns-in_default-clause-stores_nothing
returns-in_default-clause-stores_nothing c =
    ap (λ (k : Kept). k.2) (stripe_missed_keeps c.args.tries (c.args.key % c.config.result.now.stripes) c.args.hand.now.seat.me.0 c.stripe_within.new.hand.seat.me.0 c.in_default.ensures.missed)

pub returns-in_default-clause-hand : goal.returns-in_default-clause-hand
returns-in_default-clause-hand c =
    let hand = c.args.hand.now in
    let now = c.stripe_within.new.hand in
    let kept = stripe_missed_keeps c.args.tries (c.args.key % c.config.result.now.stripes) hand.seat.me.0 now.seat.me.0 c.in_default.ensures.missed in
    hand_still c.args.arena.now hand now c.in_default.ensures.arena c.in_default.ensures.same (ap (λ (k : Kept). k.0) kept) (ap (λ (k : Kept). k.3) kept) c.requires.ready

-- the item was got, and each try for the lock of the slabs missed
unmoved : (c : goal.In-Err-moved) → LeavesUnmoved c.args.hand.now.number c.args.tries (c.args.key % c.args.arena.now.table.shared.key.config.stripes) c.args.key c.args.hand.now.seat.me.0 c.release.new.hand.seat.me.0
unmoved c =
    let hand = c.args.hand.now in
    let r = c.in-Ok-Some.reference in
    let held = c.in-Ok in
    let before : View = hand.seat.me.0 in
    let taken : View = c.stripe_within.new.hand.seat.me.0 in
    let got : View = c.refer_at.new.hand.seat.me.0 in
    let at : c.args.key % c.config.result.now.stripes ≡ c.args.key % c.args.arena.now.table.shared.key.config.stripes = ap (λ (f : Config). c.args.key % f.stripes) c.config.ensures.config in
    let number = number_stays hand c.stripe_within.new.hand (waits_keep (λ (v : View). v.row.ids) (c.args.key % c.config.result.now.stripes) (λ word v. refl) (λ value v. refl) before held.held.stripe taken held.ensures.within.waits) in
    record {
      reference = r;
      got = got;
      gets = called_on (λ number stripe. Finds number stripe c.args.key r) hand.number _ c.stripe_within.new.hand.number held.held.number held.held.stripe before taken got number (held.ensures.number ∙ at)
          (subst (λ (n : ℕ). WaitsForStripe n before held.held.stripe taken) at held.ensures.within.waits) (subst (λ (n : ℕ). IsLentStripe taken n held.held.stripe) at held.ensures.whole)
          (subst (λ (o : Option Ref). UsesRoomForCall c.stripe_within.new.hand.number held.held.number held.held.stripe (LooksUp c.stripe_within.new.hand.number held.held.number c.args.key o) taken got) c.in-Ok-Some.field-0-is c.in-Ok-Some.ensures.done);
      missed = c.bump_chunk_within-moved.new.hand.seat.me.0;
      misses = c.in-Err-moved.ensures.missed;
      released = c.release.ensures.dropped;
    }

pub returns-in-Err-moved-clause-held : goal.returns-in-Err-moved-clause-held
returns-in-Err-moved-clause-held c _ = inr (unmoved c)

pub returns-in-Err-moved-clause-held_calls : goal.returns-in-Err-moved-clause-held_calls
returns-in-Err-moved-clause-held_calls c _ =
    let hand = c.args.hand.now in
    let held = c.in-Ok in
    let before : View = hand.seat.me.0 in
    let taken : View = c.stripe_within.new.hand.seat.me.0 in
    let got : View = c.refer_at.new.hand.seat.me.0 in
    let missed : View = c.bump_chunk_within-moved.new.hand.seat.me.0 in
    let at : c.args.key % c.config.result.now.stripes ≡ c.args.key % c.args.arena.now.table.shared.key.config.stripes = ap (λ (f : Config). c.args.key % f.stripes) c.config.ensures.config in
    let number = number_stays hand c.stripe_within.new.hand (waits_keep (λ (v : View). v.row.ids) (c.args.key % c.config.result.now.stripes) (λ word v. refl) (λ value v. refl) before held.held.stripe taken held.ensures.within.waits) in
    let waits = subst (λ (n : ℕ). WaitsForStripe n before held.held.stripe taken) at held.ensures.within.waits in
    let stamp = stripe_stamp held.held.stripe.state c.args.key in
    let tells = told_on hand.number _ c.stripe_within.new.hand.number held.held.number (λ number. Get number c.args.key stamp) held.held.stripe before taken got number (held.ensures.number ∙ at) waits
    (looked_tells c.stripe_within.new.hand.number held.held.number held.held.stripe c.args.key c.in-Ok-Some.field-0 taken got c.in-Ok-Some.ensures.done) in
    let there = c.in-Ok-Some.ensures.stamp ∙ ap (option_map (λ (x : Ref). stamp_in_words (held_item got x.chunk))) c.in-Ok-Some.field-0-is in
    inr (stamp, ap is_some there, ap (λ (v : View). v.row.knows.mine) c.release.ensures.dropped ∙ (slabs_missed_tells c.args.tries got missed c.in-Err-moved.ensures.missed ∙ tells))

pub returns-in-Err-moved-clause-stores_nothing : goal.returns-in-Err-moved-clause-stores_nothing
returns-in-Err-moved-clause-stores_nothing c = unmoved_says_nothing _ _ _ _ _ _ (unmoved c)

pub returns-in-Err-moved-clause-holdings : goal.returns-in-Err-moved-clause-holdings
unfolding unmoved
returns-in-Err-moved-clause-holdings c = unmoved_keeps_counts _ _ _ _ _ _ (unmoved c) c.requires.ready.unfilled c.refer_at.ensures.arena.lawful

pub returns-in-Err-moved-clause-hand : goal.returns-in-Err-moved-clause-hand
returns-in-Err-moved-clause-hand c =
    let hand = c.args.hand.now in
    let now = c.release.new.hand in
    let missed = unmoved c in
    let locks = c.release.ensures.locks
    ∙ (c.bump_chunk_within-moved.ensures.locks
    ∙ (c.refer_at.ensures.locks ∙ (ap without_stripe c.in-Ok.ensures.locks ∙ locks_back hand (c.args.key % c.config.result.now.stripes) c.requires.ready.unlocked))) in record {
      arena = c.release.ensures.arena;
      ready = ready_less hand now locks (unmoved_fills_none _ _ _ _ _ _ missed c.requires.ready.unfilled) (unmoved_holds_no_more _ _ _ _ _ _ missed) c.requires.ready;
      locks = locks;
      number = number_stays hand now (unmoved_keeps_ids _ _ _ _ _ _ missed);
    }
