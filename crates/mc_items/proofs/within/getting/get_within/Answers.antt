use Rattle.std.proofs.Common.{arith, refl, ◌≡◌, ◌%◌, ℕ, List, length, ap, subst, ◌∙◌}
use Rattle.mc_classes.specs.declared.config.Config.{Config}
use Rattle.mc_core.specs.declared.holding.Holding.{Holding}
use Rattle.mc_words.specs.lock.Lent.{IsLentStripe}
use Rattle.mc_words.specs.lock.Out.{without_stripe}
use Rattle.mc_words.specs.hand.View.{View}
use Rattle.mc_words.specs.lock.Wait.{MissesStripeEachTime, WaitsForStripe}
use Rattle.std.specs.Option.{option_map}
use Rattle.mc_items.specs.declared.refs.Ref.{Ref}
use Rattle.mc_words.specs.lock.Doing.{UsesRoomForCall}
use Rattle.mc_items.specs.Calls.{CallsOn, IsFull, LooksUp}
use Rattle.mc_items.specs.ItemRefs.{item_chunk}
use Rattle.mc_stripe.specs.declared.history.Call.TheVariants.{Get}
use Rattle.mc_items.proofs.Chains.{hand_still, refs_stay}
use Rattle.mc_items.proofs.Left.{Kept, only_keeps}
use Rattle.mc_items.proofs.GetLeaves.{get_leaves, get_near, get_ready, get_said}
use Rattle.mc_items.proofs.Gets.{and_reads, called_on, only_waits}
use Rattle.mc_words.proofs.Hands.HandNumbers.{number_stays}
use Rattle.mc_items.proofs.Locks.{locks_back, waits_keep}
use Rattle.mc_items.proofs.Missed.{stripe_missed_keeps, stripe_missed_tells}
use Rattle.mc_items.proofs.Tells.{told_none, told_on}
use Rattle.mc_items.proofs.within.getting.get_within.Goals as goal

pub look_up-requires-clause-within_limit : goal.look_up-requires-clause-within_limit
look_up-requires-clause-within_limit c =
    let before : View = c.args.hand.now.seat.me.0 in
    let taken : View = c.stripe_within.new.hand.seat.me.0 in
    let same = ap (λ (l : List Holding). length l) (waits_keep (λ (v : View). v.row.holdings) (c.args.key % c.config.result.now.stripes) (λ word v. refl) (λ value v. refl) before c.in-Ok.held.stripe taken c.in-Ok.ensures.within.waits) in
    let count = c.refs.ensures.count in
    let within_limit = c.if-refs-ge-MOST_REFS.false in
    omega arith

pub returns-in-Ok-look_up-clause-gets : goal.returns-in-Ok-look_up-clause-gets
returns-in-Ok-look_up-clause-gets c =
    let hand = c.args.hand.now in
    let held = c.in-Ok.held in
    let before : View = hand.seat.me.0 in
    let taken : View = c.stripe_within.new.hand.seat.me.0 in
    let at : c.args.key % c.config.result.now.stripes ≡ c.args.key % c.args.arena.now.table.shared.key.config.stripes = ap (λ (g : Config). c.args.key % g.stripes) c.config.ensures.config in
    let number = number_stays hand c.stripe_within.new.hand (waits_keep (λ (v : View). v.row.ids) (c.args.key % c.config.result.now.stripes) (λ word v. refl) (λ value v. refl) before held.stripe taken c.in-Ok.ensures.within.waits) in
    let found = option_map (λ (r : Ref). r.reference) c.in-Ok-look_up.found in
    let stripe : ℕ = c.args.key % c.args.arena.now.table.shared.key.config.stripes in
    and_reads (option_map item_chunk c.in-Ok-look_up.found) (UsesRoomForCall c.stripe_within.new.hand.number held.number held.stripe (LooksUp c.stripe_within.new.hand.number held.number c.args.key found)) (CallsOn hand.number stripe (LooksUp hand.number stripe c.args.key found)) taken before c.look_up.new.hand.seat.me.0
    (λ got done. called_on (λ number stripe. LooksUp number stripe c.args.key found) hand.number stripe c.stripe_within.new.hand.number held.number held.stripe before taken got number (c.in-Ok.ensures.number ∙ at)
    (subst (λ (n : ℕ). WaitsForStripe n before held.stripe taken) at c.in-Ok.ensures.within.waits)
    (subst (λ (n : ℕ). IsLentStripe taken n held.stripe) at c.in-Ok.ensures.whole) done) c.in-Ok-look_up.ensures.done

pub returns-in-Err-clause-no_memory : goal.returns-in-Err-clause-no_memory
returns-in-Err-clause-no_memory c _ =
    let held = c.in-Ok.held in
    let before : View = c.args.hand.now.seat.me.0 in
    let taken : View = c.stripe_within.new.hand.seat.me.0 in
    let at : c.args.key % c.config.result.now.stripes ≡ c.args.key % c.args.arena.now.table.shared.key.config.stripes = ap (λ (g : Config). c.args.key % g.stripes) c.config.ensures.config in
    only_waits _ held.number held.stripe before taken c.look_up.new.hand.seat.me.0 (c.in-Ok.ensures.number ∙ at)
    (subst (λ (n : ℕ). WaitsForStripe n before held.stripe taken) at c.in-Ok.ensures.within.waits) (subst (λ (n : ℕ). IsLentStripe taken n held.stripe) at c.in-Ok.ensures.whole) c.in-Err.ensures.full c.in-Err.ensures.given

pub returns-in-Ok-look_up-clause-calls : goal.returns-in-Ok-look_up-clause-calls
returns-in-Ok-look_up-clause-calls c =
    let hand = c.args.hand.now in
    let held = c.in-Ok.held in
    let before : View = hand.seat.me.0 in
    let taken : View = c.stripe_within.new.hand.seat.me.0 in
    let at : c.args.key % c.config.result.now.stripes ≡ c.args.key % c.args.arena.now.table.shared.key.config.stripes = ap (λ (f : Config). c.args.key % f.stripes) c.config.ensures.config in
    let number = number_stays hand c.stripe_within.new.hand (waits_keep (λ (v : View). v.row.ids) (c.args.key % c.config.result.now.stripes) (λ word v. refl) (λ value v. refl) before held.stripe taken c.in-Ok.ensures.within.waits) in
    told_on hand.number _ c.stripe_within.new.hand.number held.number (λ number. Get number c.args.key (option_map (λ (r : Ref). r.stamp) c.in-Ok-look_up.found)) held.stripe before taken c.look_up.new.hand.seat.me.0 number (c.in-Ok.ensures.number ∙ at)
    (subst (λ (n : ℕ). WaitsForStripe n before held.stripe taken) at c.in-Ok.ensures.within.waits) c.in-Ok-look_up.ensures.calls

pub returns-in-Err-clause-refused : goal.returns-in-Err-clause-refused
returns-in-Err-clause-refused c =
    let held = c.in-Ok.held in
    let before : View = c.args.hand.now.seat.me.0 in
    let taken : View = c.stripe_within.new.hand.seat.me.0 in
    let at : c.args.key % c.config.result.now.stripes ≡ c.args.key % c.args.arena.now.table.shared.key.config.stripes = ap (λ (f : Config). c.args.key % f.stripes) c.config.ensures.config in
    told_none {Is = IsFull} _ before c.look_up.new.hand.seat.me.0 (only_waits _ held.number held.stripe before taken c.look_up.new.hand.seat.me.0 (c.in-Ok.ensures.number ∙ at)
    (subst (λ (n : ℕ). WaitsForStripe n before held.stripe taken) at c.in-Ok.ensures.within.waits) (subst (λ (n : ℕ). IsLentStripe taken n held.stripe) at c.in-Ok.ensures.whole) c.in-Err.ensures.full c.in-Err.ensures.given)

pub returns-in-Ok-look_up-clause-holdings : goal.returns-in-Ok-look_up-clause-holdings
returns-in-Ok-look_up-clause-holdings c =
    let hand = c.args.hand.now in
    let now = c.look_up.new.hand in
    (get_leaves hand.number (c.args.key % c.args.arena.now.table.shared.key.config.stripes) c.args.key c.in-Ok-look_up.found hand.seat.me.0 now.seat.me.0 (returns-in-Ok-look_up-clause-gets c)).holds

pub returns-in-Ok-look_up-clause-keeps : goal.returns-in-Ok-look_up-clause-keeps
returns-in-Ok-look_up-clause-keeps c =
    let hand = c.args.hand.now in
    let now = c.look_up.new.hand in
    (get_leaves hand.number (c.args.key % c.args.arena.now.table.shared.key.config.stripes) c.args.key c.in-Ok-look_up.found hand.seat.me.0 now.seat.me.0 (returns-in-Ok-look_up-clause-gets c)).keeps

pub returns-in-Ok-look_up-clause-stores_nothing : goal.returns-in-Ok-look_up-clause-stores_nothing
returns-in-Ok-look_up-clause-stores_nothing c =
    let hand = c.args.hand.now in
    let now = c.look_up.new.hand in
    (get_leaves hand.number (c.args.key % c.args.arena.now.table.shared.key.config.stripes) c.args.key c.in-Ok-look_up.found hand.seat.me.0 now.seat.me.0 (returns-in-Ok-look_up-clause-gets c)).stored

pub returns-in-Ok-look_up-clause-hand : goal.returns-in-Ok-look_up-clause-hand
returns-in-Ok-look_up-clause-hand c =
    let hand = c.args.hand.now in
    let now = c.look_up.new.hand in
    let count = c.refs.ensures.count in
    let within_limit = c.if-refs-ge-MOST_REFS.false in
    let locks = c.look_up.ensures.locks ∙ (ap without_stripe c.in-Ok.ensures.locks ∙ locks_back hand (c.args.key % c.config.result.now.stripes) c.requires.ready.unlocked) in
    let leaves = get_leaves hand.number (c.args.key % c.args.arena.now.table.shared.key.config.stripes) c.args.key c.in-Ok-look_up.found hand.seat.me.0 now.seat.me.0 (returns-in-Ok-look_up-clause-gets c) in record {
      arena = c.look_up.ensures.arena;
      ready = get_ready hand now c.in-Ok-look_up.found locks leaves.holds (omega arith) c.requires.ready;
      locks = locks;
      number = number_stays hand now leaves.ids;
    }

pub returns-in-Ok-look_up-clause-in_range : goal.returns-in-Ok-look_up-clause-in_range
returns-in-Ok-look_up-clause-in_range c =
    get_near c.args.arena.now.table.shared.key c.look_up.new.hand.seat.me.0 c.in-Ok-look_up.found c.args.key c.look_up.ensures.arena.lawful c.look_up.ensures.arena.setup c.in-Ok-look_up.ensures.item

pub returns-in-Ok-look_up-clause-stores_words : goal.returns-in-Ok-look_up-clause-stores_words
returns-in-Ok-look_up-clause-stores_words c =
    get_said c.look_up.new.hand.seat.me.0 c.in-Ok-look_up.found c.args.key c.look_up.ensures.arena.lawful c.in-Ok-look_up.ensures.item

pub returns-in-Err-clause-hand : goal.returns-in-Err-clause-hand
returns-in-Err-clause-hand c =
    let hand = c.args.hand.now in
    let now = c.look_up.new.hand in
    let kept = only_keeps (c.args.key % c.args.arena.now.table.shared.key.config.stripes) hand.seat.me.0 now.seat.me.0 (returns-in-Err-clause-no_memory c refl) in
    let locks = c.look_up.ensures.locks ∙ (ap without_stripe c.in-Ok.ensures.locks ∙ locks_back hand (c.args.key % c.config.result.now.stripes) c.requires.ready.unlocked) in
    hand_still c.args.arena.now hand now c.look_up.ensures.arena locks (ap (λ (k : Kept). k.0) kept) (ap (λ (k : Kept). k.3) kept) c.requires.ready

pub returns-in-Err-clause-keeps : goal.returns-in-Err-clause-keeps
returns-in-Err-clause-keeps c =
    let hand = c.args.hand.now in
    let now = c.look_up.new.hand in
    refs_stay hand.seat.me.0 now.seat.me.0 (ap (λ (k : Kept). k.0) (only_keeps (c.args.key % c.args.arena.now.table.shared.key.config.stripes) hand.seat.me.0 now.seat.me.0 (returns-in-Err-clause-no_memory c refl))) (ap (λ (k : Kept). k.1) (only_keeps (c.args.key % c.args.arena.now.table.shared.key.config.stripes) hand.seat.me.0 now.seat.me.0 (returns-in-Err-clause-no_memory c refl)))

pub returns-in-Err-clause-no_more : goal.returns-in-Err-clause-no_more
returns-in-Err-clause-no_more c =
    let hand = c.args.hand.now in
    let now = c.look_up.new.hand in
    ap (λ (k : Kept). k.0) (only_keeps (c.args.key % c.args.arena.now.table.shared.key.config.stripes) hand.seat.me.0 now.seat.me.0 (returns-in-Err-clause-no_memory c refl))

pub returns-in-Err-clause-stores_nothing : goal.returns-in-Err-clause-stores_nothing
returns-in-Err-clause-stores_nothing c =
    let hand = c.args.hand.now in
    let now = c.look_up.new.hand in
    ap (λ (k : Kept). k.2) (only_keeps (c.args.key % c.args.arena.now.table.shared.key.config.stripes) hand.seat.me.0 now.seat.me.0 (returns-in-Err-clause-no_memory c refl))

pub returns-in_default-clause-held : goal.returns-in_default-clause-held
returns-in_default-clause-held c _ =
    let at : c.args.key % c.config.result.now.stripes ≡ c.args.key % c.args.arena.now.table.shared.key.config.stripes = ap (λ (f : Config). c.args.key % f.stripes) c.config.ensures.config in
    subst (λ (n : ℕ). MissesStripeEachTime c.args.tries n c.args.hand.now.seat.me.0 c.stripe_within.new.hand.seat.me.0) at c.in_default.ensures.missed

pub returns-in_default-clause-refused : goal.returns-in_default-clause-refused
returns-in_default-clause-refused c =
    stripe_missed_tells c.args.tries (c.args.key % c.config.result.now.stripes) c.args.hand.now.seat.me.0 c.stripe_within.new.hand.seat.me.0 c.in_default.ensures.missed

pub returns-in_default-clause-keeps : goal.returns-in_default-clause-keeps
returns-in_default-clause-keeps c =
    let hand = c.args.hand.now in
    let now = c.stripe_within.new.hand in
    let kept = stripe_missed_keeps c.args.tries (c.args.key % c.config.result.now.stripes) hand.seat.me.0 now.seat.me.0 c.in_default.ensures.missed in
    refs_stay hand.seat.me.0 now.seat.me.0 (ap (λ (k : Kept). k.0) kept) (ap (λ (k : Kept). k.1) kept)

pub returns-in_default-clause-no_more : goal.returns-in_default-clause-no_more
returns-in_default-clause-no_more c =
    ap (λ (k : Kept). k.0) (stripe_missed_keeps c.args.tries (c.args.key % c.config.result.now.stripes) c.args.hand.now.seat.me.0 c.stripe_within.new.hand.seat.me.0 c.in_default.ensures.missed)

pub returns-in_default-clause-stores_nothing : goal.returns-in_default-clause-stores_nothing
returns-in_default-clause-stores_nothing c =
    ap (λ (k : Kept). k.2) (stripe_missed_keeps c.args.tries (c.args.key % c.config.result.now.stripes) c.args.hand.now.seat.me.0 c.stripe_within.new.hand.seat.me.0 c.in_default.ensures.missed)

pub returns-in_default-clause-hand : goal.returns-in_default-clause-hand
returns-in_default-clause-hand c =
    let hand = c.args.hand.now in
    let now = c.stripe_within.new.hand in
    let kept = stripe_missed_keeps c.args.tries (c.args.key % c.config.result.now.stripes) hand.seat.me.0 now.seat.me.0 c.in_default.ensures.missed in
    hand_still c.args.arena.now hand now c.in_default.ensures.arena c.in_default.ensures.same (ap (λ (k : Kept). k.0) kept) (ap (λ (k : Kept). k.3) kept) c.requires.ready
