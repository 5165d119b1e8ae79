use Rattle.std.proofs.Common.{◌≡◌, ◌%◌, ℕ, refl, ap, subst, ◌∙◌, arith, length, List}
use Rattle.mc_classes.specs.declared.config.Config.{Config}
use Rattle.mc_core.specs.declared.holding.Holding.{Holding}
use Rattle.mc_words.specs.lock.Lent.{IsLentStripe}
use Rattle.mc_words.specs.lock.Out.{without_stripe}
use Rattle.mc_words.specs.hand.View.{View}
use Rattle.mc_words.specs.lock.Wait.{WaitsForStripe}
use Rattle.std.specs.Option.{option_map}
use Rattle.mc_items.specs.declared.refs.Ref.{Ref}
use Rattle.mc_words.specs.lock.Doing.{UsesRoomForCall}
use Rattle.mc_items.specs.Calls.{CallsOn, LooksUp}
use Rattle.mc_items.specs.ItemRefs.{item_chunk}
use Rattle.mc_stripe.specs.declared.history.Call.TheVariants.{Get}
use Rattle.mc_items.proofs.Chains.{hand_still, refs_stay}
use Rattle.mc_items.proofs.Left.{Kept, only_keeps}
use Rattle.mc_items.proofs.GetLeaves.{get_leaves, get_near, get_ready, get_said}
use Rattle.mc_items.proofs.Gets.{and_reads, called_on, only_waits}
use Rattle.mc_words.proofs.Hands.HandNumbers.{number_stays}
use Rattle.mc_items.proofs.Locks.{locks_back, waits_keep}
use Rattle.mc_items.proofs.Tells.{told_none, told_on}
use Rattle.mc_items.proofs.getting.get.Goals as goal

pub look_up-requires-clause-within_limit : goal.look_up-requires-clause-within_limit
look_up-requires-clause-within_limit g c =
    let before : View = c.args.hand.now.seat.me.0 in
    let taken : View = c.lock_stripe-held.new.hand.seat.me.0 in
    let same = ap (λ (l : List Holding). length l) (waits_keep (λ (v : View). v.row.holdings) c.stripe_of-stripe.result (λ word v. refl) (λ value v. refl) before c.lock_stripe-held.result.stripe taken c.lock_stripe-held.ensures.waits) in
    let count = c.refs.ensures.count in
    let within_limit = c.if-refs-ge-MOST_REFS.false in
    omega arith

pub returns-in-Ok-clause-gets : goal.returns-in-Ok-clause-gets
returns-in-Ok-clause-gets g c =
    let hand = c.args.hand.now in
    let held = c.lock_stripe-held in
    let before : View = hand.seat.me.0 in
    let taken : View = held.new.hand.seat.me.0 in
    let at : c.stripe_of-stripe.result ≡ c.args.key % c.args.arena.now.table.shared.key.config.stripes = c.stripe_of-stripe.ensures ∙ ap (λ (g : Config). c.args.key % g.stripes) c.config.ensures.config in
    let waits = held.ensures.waits in
    let number = number_stays hand held.new.hand (waits_keep (λ (v : View). v.row.ids) c.stripe_of-stripe.result (λ word v. refl) (λ value v. refl) before held.result.stripe taken waits) in
    let found = option_map (λ (r : Ref). r.reference) c.in-Ok.found in
    let stripe : ℕ = c.args.key % c.args.arena.now.table.shared.key.config.stripes in
    and_reads (option_map item_chunk c.in-Ok.found) (UsesRoomForCall held.new.hand.number held.result.number held.result.stripe (LooksUp held.new.hand.number held.result.number c.args.key found)) (CallsOn hand.number stripe (LooksUp hand.number stripe c.args.key found)) taken before c.look_up.new.hand.seat.me.0
    (λ got done. called_on (λ number stripe. LooksUp number stripe c.args.key found) hand.number stripe held.new.hand.number held.result.number held.result.stripe before taken got number (held.ensures.number ∙ at)
    (subst (λ (n : ℕ). WaitsForStripe n before held.result.stripe taken) at waits) (subst (λ (n : ℕ). IsLentStripe taken n held.result.stripe) at held.ensures.whole) done) c.in-Ok.ensures.done

pub returns-in-Ok-clause-calls : goal.returns-in-Ok-clause-calls
returns-in-Ok-clause-calls g c =
    let hand = c.args.hand.now in
    let held = c.lock_stripe-held in
    let before : View = hand.seat.me.0 in
    let taken : View = held.new.hand.seat.me.0 in
    let at : c.stripe_of-stripe.result ≡ c.args.key % c.args.arena.now.table.shared.key.config.stripes = c.stripe_of-stripe.ensures ∙ ap (λ (f : Config). c.args.key % f.stripes) c.config.ensures.config in
    let number = number_stays hand held.new.hand (waits_keep (λ (v : View). v.row.ids) c.stripe_of-stripe.result (λ word v. refl) (λ value v. refl) before held.result.stripe taken held.ensures.waits) in
    told_on hand.number _ held.new.hand.number held.result.number (λ number. Get number c.args.key (option_map (λ (r : Ref). r.stamp) c.in-Ok.found)) held.result.stripe before taken c.look_up.new.hand.seat.me.0 number (held.ensures.number ∙ at)
    (subst (λ (n : ℕ). WaitsForStripe n before held.result.stripe taken) at held.ensures.waits) c.in-Ok.ensures.calls

pub returns-in-Ok-clause-holdings : goal.returns-in-Ok-clause-holdings
returns-in-Ok-clause-holdings g c =
    let hand = c.args.hand.now in
    let now = c.look_up.new.hand in
    (get_leaves hand.number (c.args.key % c.args.arena.now.table.shared.key.config.stripes) c.args.key c.in-Ok.found hand.seat.me.0 now.seat.me.0 (returns-in-Ok-clause-gets g c)).holds

pub returns-in-Ok-clause-keeps : goal.returns-in-Ok-clause-keeps
returns-in-Ok-clause-keeps g c =
    let hand = c.args.hand.now in
    let now = c.look_up.new.hand in
    (get_leaves hand.number (c.args.key % c.args.arena.now.table.shared.key.config.stripes) c.args.key c.in-Ok.found hand.seat.me.0 now.seat.me.0 (returns-in-Ok-clause-gets g c)).keeps

pub returns-in-Ok-clause-stores_nothing : goal.returns-in-Ok-clause-stores_nothing
returns-in-Ok-clause-stores_nothing g c =
    let hand = c.args.hand.now in
    let now = c.look_up.new.hand in
    (get_leaves hand.number (c.args.key % c.args.arena.now.table.shared.key.config.stripes) c.args.key c.in-Ok.found hand.seat.me.0 now.seat.me.0 (returns-in-Ok-clause-gets g c)).stored

pub returns-in-Ok-clause-hand : goal.returns-in-Ok-clause-hand
returns-in-Ok-clause-hand g c =
    let hand = c.args.hand.now in
    let now = c.look_up.new.hand in
    let count = c.refs.ensures.count in
    let within_limit = c.if-refs-ge-MOST_REFS.false in
    let locks = c.look_up.ensures.locks ∙ (ap without_stripe c.lock_stripe-held.ensures.locks ∙ locks_back hand c.stripe_of-stripe.result c.requires.ready.unlocked) in
    let leaves = get_leaves hand.number (c.args.key % c.args.arena.now.table.shared.key.config.stripes) c.args.key c.in-Ok.found hand.seat.me.0 now.seat.me.0 (returns-in-Ok-clause-gets g c) in record {
      arena = c.look_up.ensures.arena;
      ready = get_ready hand now c.in-Ok.found locks leaves.holds (omega arith) c.requires.ready;
      locks = locks;
      number = number_stays hand now leaves.ids;
    }

pub returns-in-Ok-clause-in_range : goal.returns-in-Ok-clause-in_range
returns-in-Ok-clause-in_range g c =
    get_near c.args.arena.now.table.shared.key c.look_up.new.hand.seat.me.0 c.in-Ok.found c.args.key c.look_up.ensures.arena.lawful c.look_up.ensures.arena.setup c.in-Ok.ensures.item

pub returns-in-Ok-clause-stores_words : goal.returns-in-Ok-clause-stores_words
returns-in-Ok-clause-stores_words g c = get_said c.look_up.new.hand.seat.me.0 c.in-Ok.found c.args.key c.look_up.ensures.arena.lawful c.in-Ok.ensures.item

pub returns-in-Err-clause-no_memory : goal.returns-in-Err-clause-no_memory
returns-in-Err-clause-no_memory g c _ =
    let held = c.lock_stripe-held in
    let before : View = c.args.hand.now.seat.me.0 in
    let taken : View = held.new.hand.seat.me.0 in
    let at : c.stripe_of-stripe.result ≡ c.args.key % c.args.arena.now.table.shared.key.config.stripes = c.stripe_of-stripe.ensures ∙ ap (λ (f : Config). c.args.key % f.stripes) c.config.ensures.config in
    only_waits _ held.result.number held.result.stripe before taken c.look_up.new.hand.seat.me.0 (held.ensures.number ∙ at) (subst (λ (n : ℕ). WaitsForStripe n before held.result.stripe taken) at held.ensures.waits) (subst (λ (n : ℕ). IsLentStripe taken n held.result.stripe) at held.ensures.whole) c.in-Err.ensures.full c.in-Err.ensures.given

pub returns-in-Err-clause-no_more : goal.returns-in-Err-clause-no_more
returns-in-Err-clause-no_more g c =
    let hand = c.args.hand.now in
    let now = c.look_up.new.hand in
    ap (λ (k : Kept). k.0) (only_keeps (c.args.key % c.args.arena.now.table.shared.key.config.stripes) hand.seat.me.0 now.seat.me.0 (returns-in-Err-clause-no_memory g c refl))

pub returns-in-Err-clause-hand : goal.returns-in-Err-clause-hand
returns-in-Err-clause-hand g c =
    let hand = c.args.hand.now in
    let now = c.look_up.new.hand in
    let kept = only_keeps (c.args.key % c.args.arena.now.table.shared.key.config.stripes) hand.seat.me.0 now.seat.me.0 (returns-in-Err-clause-no_memory g c refl) in
    let locks = c.look_up.ensures.locks ∙ (ap without_stripe c.lock_stripe-held.ensures.locks ∙ locks_back hand c.stripe_of-stripe.result c.requires.ready.unlocked) in
    hand_still c.args.arena.now hand now c.look_up.ensures.arena locks (returns-in-Err-clause-no_more g c) (ap (λ (k : Kept). k.3) kept) c.requires.ready

pub returns-in-Err-clause-keeps : goal.returns-in-Err-clause-keeps
returns-in-Err-clause-keeps g c =
    let hand = c.args.hand.now in
    let now = c.look_up.new.hand in
    refs_stay hand.seat.me.0 now.seat.me.0 (ap (λ (k : Kept). k.0) (only_keeps (c.args.key % c.args.arena.now.table.shared.key.config.stripes) hand.seat.me.0 now.seat.me.0 (returns-in-Err-clause-no_memory g c refl))) (ap (λ (k : Kept). k.1) (only_keeps (c.args.key % c.args.arena.now.table.shared.key.config.stripes) hand.seat.me.0 now.seat.me.0 (returns-in-Err-clause-no_memory g c refl)))

pub returns-in-Err-clause-stores_nothing : goal.returns-in-Err-clause-stores_nothing
returns-in-Err-clause-stores_nothing g c =
    let hand = c.args.hand.now in
    let now = c.look_up.new.hand in
    ap (λ (k : Kept). k.2) (only_keeps (c.args.key % c.args.arena.now.table.shared.key.config.stripes) hand.seat.me.0 now.seat.me.0 (returns-in-Err-clause-no_memory g c refl))

pub returns-in-Err-clause-refused : goal.returns-in-Err-clause-refused
returns-in-Err-clause-refused g c = told_none _ c.args.hand.now.seat.me.0 c.look_up.new.hand.seat.me.0 (returns-in-Err-clause-no_memory g c refl)
