use Rattle.std.proofs.Common.{◌≡◌, ◌%◌, ℕ, Err, true, refl, ap, subst, ◌∙◌}
use Rattle.mc_classes.specs.declared.config.Config.{Config}
use Rattle.mc_core.specs.model.Holdings.{has_fresh}
use Rattle.mc_words.specs.lock.Lent.{IsLentStripe}
use Rattle.mc_words.specs.lock.Out.{without_stripe}
use Rattle.mc_words.specs.lock.Wait.{MissesStripeEachTime, WaitsForStripe}
use Rattle.mc_words.specs.hand.View.{View}
use Rattle.mc_words.proofs.Hands.HandNumbers.{number_stays}
use Rattle.mc_stripe.specs.declared.history.Call.TheVariants.{Delete}
use Rattle.mc_items.specs.Calls.{IsFull}
use Rattle.mc_items.specs.Storing.{HasOther}
use Rattle.mc_items.specs.declared.comparing.Expected.TheVariants.{Item}
use Rattle.mc_items.specs.declared.deleting_where.CompareDeleteError.TheVariants.{Differs}
use Rattle.mc_items.proofs.Chains.{hand_still, holdings_stay}
use Rattle.mc_items.proofs.Gets.{only_waits}
use Rattle.mc_items.proofs.ItemDeletes.{item_deleted}
use Rattle.mc_items.proofs.Left.{Kept, deletes_keep, only_keeps}
use Rattle.mc_items.proofs.Locks.{locks_back, waits_keep}
use Rattle.mc_items.proofs.Missed.{stripe_missed_keeps, stripe_missed_tells}
use Rattle.mc_items.proofs.Tells.{deleted_tells, told_none, told_on}
use Rattle.mc_items.proofs.within.deleting_where.compare_and_delete_within.Goals as goal

pub returns-in_default-clause-held : goal.returns-in_default-clause-held
returns-in_default-clause-held c _ =
    let at : c.args.key % c.config.result.now.stripes ≡ c.args.key % c.args.arena.now.table.shared.key.config.stripes = ap (λ (f : Config). c.args.key % f.stripes) c.config.ensures.config in
    subst (λ (n : ℕ). MissesStripeEachTime c.args.tries n c.args.hand.now.seat.me.0 c.stripe_within.new.hand.seat.me.0) at c.in_default.ensures.missed

pub returns-in_default-clause-refused : goal.returns-in_default-clause-refused
returns-in_default-clause-refused c =
    stripe_missed_tells c.args.tries (c.args.key % c.config.result.now.stripes) c.args.hand.now.seat.me.0 c.stripe_within.new.hand.seat.me.0 c.in_default.ensures.missed

pub returns-in_default-clause-stores_nothing : goal.returns-in_default-clause-stores_nothing
returns-in_default-clause-stores_nothing c =
    ap (λ (k : Kept). k.2) (stripe_missed_keeps c.args.tries (c.args.key % c.config.result.now.stripes) c.args.hand.now.seat.me.0 c.stripe_within.new.hand.seat.me.0 c.in_default.ensures.missed)

pub returns-in_default-clause-holdings : goal.returns-in_default-clause-holdings
returns-in_default-clause-holdings c =
    let hand = c.args.hand.now in
    let now = c.stripe_within.new.hand in
    let kept = stripe_missed_keeps c.args.tries (c.args.key % c.config.result.now.stripes) hand.seat.me.0 now.seat.me.0 c.in_default.ensures.missed in
    holdings_stay hand.seat.me.0 now.seat.me.0 (ap (λ (k : Kept). k.0) kept) (ap (λ (k : Kept). k.1) kept)

pub returns-in_default-clause-hand : goal.returns-in_default-clause-hand
returns-in_default-clause-hand c =
    let hand = c.args.hand.now in
    let now = c.stripe_within.new.hand in
    let kept = stripe_missed_keeps c.args.tries (c.args.key % c.config.result.now.stripes) hand.seat.me.0 now.seat.me.0 c.in_default.ensures.missed in
    hand_still c.args.arena.now hand now c.in_default.ensures.arena c.in_default.ensures.same (ap (λ (k : Kept). k.0) kept) (ap (λ (k : Kept). k.3) kept) c.requires.ready

pub delete_item_at-requires-clause-fresh : goal.delete_item_at-requires-clause-fresh
delete_item_at-requires-clause-fresh c =
    ap has_fresh (waits_keep (λ (v : View). v.row.holdings) (c.args.key % c.config.result.now.stripes) (λ word v. refl) (λ value v. refl) c.args.hand.now.seat.me.0 c.in-Ok.held.stripe c.stripe_within.new.hand.seat.me.0 c.in-Ok.ensures.within.waits) ∙ c.requires.ready.unfilled

pub returns-in-Ok-delete_item_at-clause-deletes : goal.returns-in-Ok-delete_item_at-clause-deletes
returns-in-Ok-delete_item_at-clause-deletes c =
    let hand = c.args.hand.now in
    let held = c.in-Ok.held in
    let before : View = hand.seat.me.0 in
    let taken : View = c.stripe_within.new.hand.seat.me.0 in
    let now : View = c.delete_item_at.new.hand.seat.me.0 in
    let at : c.args.key % c.config.result.now.stripes ≡ c.args.key % c.args.arena.now.table.shared.key.config.stripes = ap (λ (f : Config). c.args.key % f.stripes) c.config.ensures.config in
    let number = number_stays hand c.stripe_within.new.hand (waits_keep (λ (v : View). v.row.ids) (c.args.key % c.config.result.now.stripes) (λ word v. refl) (λ value v. refl) before held.stripe taken c.in-Ok.ensures.within.waits) in
    item_deleted hand.number _ c.args.key c.args.expected c.stripe_within.new.hand.number held.number held.stripe before taken now number (c.in-Ok.ensures.number ∙ at)
    (subst (λ (n : ℕ). WaitsForStripe n before held.stripe taken) at c.in-Ok.ensures.within.waits) (subst (λ (n : ℕ). IsLentStripe taken n held.stripe) at c.in-Ok.ensures.whole) c.in-Ok-delete_item_at.ensures.done c.in-Ok-delete_item_at.ensures.met

pub returns-in-Ok-delete_item_at-clause-calls : goal.returns-in-Ok-delete_item_at-clause-calls
returns-in-Ok-delete_item_at-clause-calls c =
    let hand = c.args.hand.now in
    let held = c.in-Ok.held in
    let before : View = hand.seat.me.0 in
    let taken : View = c.stripe_within.new.hand.seat.me.0 in
    let now : View = c.delete_item_at.new.hand.seat.me.0 in
    let at : c.args.key % c.config.result.now.stripes ≡ c.args.key % c.args.arena.now.table.shared.key.config.stripes = ap (λ (f : Config). c.args.key % f.stripes) c.config.ensures.config in
    let number = number_stays hand c.stripe_within.new.hand (waits_keep (λ (v : View). v.row.ids) (c.args.key % c.config.result.now.stripes) (λ word v. refl) (λ value v. refl) before held.stripe taken c.in-Ok.ensures.within.waits) in
    told_on hand.number _ c.stripe_within.new.hand.number held.number (λ number. Delete number c.args.key true) held.stripe before taken now number (c.in-Ok.ensures.number ∙ at)
    (subst (λ (n : ℕ). WaitsForStripe n before held.stripe taken) at c.in-Ok.ensures.within.waits) (deleted_tells c.stripe_within.new.hand.number held.number held.stripe c.args.key true taken now c.in-Ok-delete_item_at.ensures.done)

pub returns-in-Ok-delete_item_at-clause-stores_nothing : goal.returns-in-Ok-delete_item_at-clause-stores_nothing
returns-in-Ok-delete_item_at-clause-stores_nothing c =
    let hand = c.args.hand.now in
    let now = c.delete_item_at.new.hand in
    ap (λ (k : Kept). k.2) (deletes_keep hand.number (c.args.key % c.args.arena.now.table.shared.key.config.stripes) c.args.key true hand.seat.me.0 now.seat.me.0 (returns-in-Ok-delete_item_at-clause-deletes c).deletes)

pub returns-in-Ok-delete_item_at-clause-holdings : goal.returns-in-Ok-delete_item_at-clause-holdings
returns-in-Ok-delete_item_at-clause-holdings c =
    let hand = c.args.hand.now in
    let now = c.delete_item_at.new.hand in
    let kept = deletes_keep hand.number (c.args.key % c.args.arena.now.table.shared.key.config.stripes) c.args.key true hand.seat.me.0 now.seat.me.0 (returns-in-Ok-delete_item_at-clause-deletes c).deletes in
    holdings_stay hand.seat.me.0 now.seat.me.0 (ap (λ (k : Kept). k.0) kept) (ap (λ (k : Kept). k.1) kept)

pub returns-in-Ok-delete_item_at-clause-hand : goal.returns-in-Ok-delete_item_at-clause-hand
returns-in-Ok-delete_item_at-clause-hand c =
    let hand = c.args.hand.now in
    let now = c.delete_item_at.new.hand in
    let kept = deletes_keep hand.number (c.args.key % c.args.arena.now.table.shared.key.config.stripes) c.args.key true hand.seat.me.0 now.seat.me.0 (returns-in-Ok-delete_item_at-clause-deletes c).deletes in
    let locks = c.delete_item_at.ensures.locks ∙ (ap without_stripe c.in-Ok.ensures.locks ∙ locks_back hand (c.args.key % c.config.result.now.stripes) c.requires.ready.unlocked) in
    hand_still c.args.arena.now hand now c.delete_item_at.ensures.arena locks (ap (λ (k : Kept). k.0) kept) (ap (λ (k : Kept). k.3) kept) c.requires.ready

pub returns-in-Err-NoMemory-clause-no_memory : goal.returns-in-Err-NoMemory-clause-no_memory
returns-in-Err-NoMemory-clause-no_memory c _ =
    let hand = c.args.hand.now in
    let held = c.in-Ok.held in
    let before : View = hand.seat.me.0 in
    let taken : View = c.stripe_within.new.hand.seat.me.0 in
    let now : View = c.delete_item_at.new.hand.seat.me.0 in
    let at : c.args.key % c.config.result.now.stripes ≡ c.args.key % c.args.arena.now.table.shared.key.config.stripes = ap (λ (f : Config). c.args.key % f.stripes) c.config.ensures.config in
    only_waits _ held.number held.stripe before taken now (c.in-Ok.ensures.number ∙ at)
    (subst (λ (n : ℕ). WaitsForStripe n before held.stripe taken) at c.in-Ok.ensures.within.waits) (subst (λ (n : ℕ). IsLentStripe taken n held.stripe) at c.in-Ok.ensures.whole) (c.in-Err-NoMemory.ensures.full (ap Err c.in-Err-NoMemory.field-0-is)) c.in-Err-NoMemory.ensures.given

pub returns-in-Err-NoMemory-clause-refused : goal.returns-in-Err-NoMemory-clause-refused
returns-in-Err-NoMemory-clause-refused c = told_none {Is = IsFull} (c.args.key % c.args.arena.now.table.shared.key.config.stripes) c.args.hand.now.seat.me.0 c.delete_item_at.new.hand.seat.me.0 (returns-in-Err-NoMemory-clause-no_memory c refl)

pub returns-in-Err-NoMemory-clause-stores_nothing : goal.returns-in-Err-NoMemory-clause-stores_nothing
returns-in-Err-NoMemory-clause-stores_nothing c =
    let hand = c.args.hand.now in
    let now = c.delete_item_at.new.hand in
    ap (λ (k : Kept). k.2) (only_keeps {Is = IsFull} (c.args.key % c.args.arena.now.table.shared.key.config.stripes) hand.seat.me.0 now.seat.me.0 (returns-in-Err-NoMemory-clause-no_memory c refl))

pub returns-in-Err-NoMemory-clause-holdings : goal.returns-in-Err-NoMemory-clause-holdings
returns-in-Err-NoMemory-clause-holdings c =
    let hand = c.args.hand.now in
    let now = c.delete_item_at.new.hand in
    let kept = only_keeps {Is = IsFull} (c.args.key % c.args.arena.now.table.shared.key.config.stripes) hand.seat.me.0 now.seat.me.0 (returns-in-Err-NoMemory-clause-no_memory c refl) in
    holdings_stay hand.seat.me.0 now.seat.me.0 (ap (λ (k : Kept). k.0) kept) (ap (λ (k : Kept). k.1) kept)

pub returns-in-Err-NoMemory-clause-hand : goal.returns-in-Err-NoMemory-clause-hand
returns-in-Err-NoMemory-clause-hand c =
    let hand = c.args.hand.now in
    let now = c.delete_item_at.new.hand in
    let kept = only_keeps {Is = IsFull} (c.args.key % c.args.arena.now.table.shared.key.config.stripes) hand.seat.me.0 now.seat.me.0 (returns-in-Err-NoMemory-clause-no_memory c refl) in
    let locks = c.delete_item_at.ensures.locks ∙ (ap without_stripe c.in-Ok.ensures.locks ∙ locks_back hand (c.args.key % c.config.result.now.stripes) c.requires.ready.unlocked) in
    hand_still c.args.arena.now hand now c.delete_item_at.ensures.arena locks (ap (λ (k : Kept). k.0) kept) (ap (λ (k : Kept). k.3) kept) c.requires.ready

pub returns-in-Err-Differs-clause-differs : goal.returns-in-Err-Differs-clause-differs
returns-in-Err-Differs-clause-differs c found is =
    let hand = c.args.hand.now in
    let held = c.in-Ok.held in
    let before : View = hand.seat.me.0 in
    let taken : View = c.stripe_within.new.hand.seat.me.0 in
    let now : View = c.delete_item_at.new.hand.seat.me.0 in
    let at : c.args.key % c.config.result.now.stripes ≡ c.args.key % c.args.arena.now.table.shared.key.config.stripes = ap (λ (f : Config). c.args.key % f.stripes) c.config.ensures.config in
    let same : c.in-Err-Differs.found ≡ found = cc in
    only_waits _ held.number held.stripe before taken now (c.in-Ok.ensures.number ∙ at)
    (subst (λ (n : ℕ). WaitsForStripe n before held.stripe taken) at c.in-Ok.ensures.within.waits) (subst (λ (n : ℕ). IsLentStripe taken n held.stripe) at c.in-Ok.ensures.whole) (c.in-Err-Differs.ensures.differs found (ap Err (c.in-Err-Differs.field-0-is ∙ ap Differs same))) c.in-Err-Differs.ensures.given

pub returns-in-Err-Differs-clause-refused : goal.returns-in-Err-Differs-clause-refused
returns-in-Err-Differs-clause-refused c = told_none {Is = HasOther (Item c.args.expected) c.in-Err-Differs.found c.args.key} (c.args.key % c.args.arena.now.table.shared.key.config.stripes) c.args.hand.now.seat.me.0 c.delete_item_at.new.hand.seat.me.0 (returns-in-Err-Differs-clause-differs c c.in-Err-Differs.found refl)

pub returns-in-Err-Differs-clause-stores_nothing : goal.returns-in-Err-Differs-clause-stores_nothing
returns-in-Err-Differs-clause-stores_nothing c =
    let hand = c.args.hand.now in
    let now = c.delete_item_at.new.hand in
    ap (λ (k : Kept). k.2) (only_keeps {Is = HasOther (Item c.args.expected) c.in-Err-Differs.found c.args.key} (c.args.key % c.args.arena.now.table.shared.key.config.stripes) hand.seat.me.0 now.seat.me.0 (returns-in-Err-Differs-clause-differs c c.in-Err-Differs.found refl))

pub returns-in-Err-Differs-clause-holdings : goal.returns-in-Err-Differs-clause-holdings
returns-in-Err-Differs-clause-holdings c =
    let hand = c.args.hand.now in
    let now = c.delete_item_at.new.hand in
    let kept = only_keeps {Is = HasOther (Item c.args.expected) c.in-Err-Differs.found c.args.key} (c.args.key % c.args.arena.now.table.shared.key.config.stripes) hand.seat.me.0 now.seat.me.0 (returns-in-Err-Differs-clause-differs c c.in-Err-Differs.found refl) in
    holdings_stay hand.seat.me.0 now.seat.me.0 (ap (λ (k : Kept). k.0) kept) (ap (λ (k : Kept). k.1) kept)

pub returns-in-Err-Differs-clause-hand : goal.returns-in-Err-Differs-clause-hand
returns-in-Err-Differs-clause-hand c =
    let hand = c.args.hand.now in
    let now = c.delete_item_at.new.hand in
    let kept = only_keeps {Is = HasOther (Item c.args.expected) c.in-Err-Differs.found c.args.key} (c.args.key % c.args.arena.now.table.shared.key.config.stripes) hand.seat.me.0 now.seat.me.0 (returns-in-Err-Differs-clause-differs c c.in-Err-Differs.found refl) in
    let locks = c.delete_item_at.ensures.locks ∙ (ap without_stripe c.in-Ok.ensures.locks ∙ locks_back hand (c.args.key % c.config.result.now.stripes) c.requires.ready.unlocked) in
    hand_still c.args.arena.now hand now c.delete_item_at.ensures.arena locks (ap (λ (k : Kept). k.0) kept) (ap (λ (k : Kept). k.3) kept) c.requires.ready
