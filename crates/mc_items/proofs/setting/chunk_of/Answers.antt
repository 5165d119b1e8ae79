use Rattle.std.proofs.Common.{◌≡◌, ◌≤◌, length, List, true, Result, Ok, Err, IfOk, IfErr, refl, ap, sym, subst, ◌∙◌}
use Rattle.mc_classes.specs.Limits.{most_refs}
use Rattle.mc_core.specs.declared.holding.Holding.{Holding}
use Rattle.mc_core.specs.model.Holdings.{has_fresh}
use Rattle.mc_words.specs.lock.Doing.{HoldsSlabs}
use Rattle.mc_words.specs.lock.Out.{locks_have_no_stripe, locks_with_slabs, without_slabs}
use Rattle.mc_words.specs.hand.View.{View}
use Rattle.mc_words.specs.declared.hand.held.Fresh.{Fresh}
use Rattle.mc_words.specs.declared.hand.Hand.{Hand}
use Rattle.mc_words.specs.declared.lock.locks.Locks.{Locks}
use Rattle.mc_words.specs.declared.lock.locks.Locks.TheVariants.{Neither, Slabs, Stripe, SlabsLast, StripeLast}
use Rattle.mc_words.specs.hand.Idle.{is_unlocked}
use Rattle.mc_words.specs.lock.Out.{is_neither}
use Rattle.mc_words.proofs.Locks.Unlocked.{no_stripes_there, unlocked_from}
use Rattle.mc_items.specs.Sources.{SuppliesChunk, SuppliesNone}
use Rattle.mc_items.specs.declared.setting.SetError.{SetError}
use Rattle.mc_words.proofs.Hands.HandNumbers.{number_stays}
use Rattle.mc_items.proofs.Locks.{slabs_back, waits_slabs_keep}
use Rattle.mc_items.proofs.Made.{holds_so}
use Rattle.mc_items.proofs.setting.chunk_of.Goals as goal

-- a hand that took the lock of the slabs alone has no stripe's
none_with_slabs : (hand : Hand) → is_unlocked hand.seat.me.0 ≡ true → locks_have_no_stripe (locks_with_slabs hand.locks) ≡ true
none_with_slabs hand unlocked = by hand.locks (unlocked_from hand.seat.me.0 hand.locks hand.noted.4 ∙ unlocked)
  where
    by : (locks : Locks) → is_neither locks ≡ true → locks_have_no_stripe (locks_with_slabs locks) ≡ true
    by Neither none = refl
    by Slabs none = absurd (cc)
    by (Stripe other) none = absurd (cc)
    by (SlabsLast other) none = absurd (cc)
    by (StripeLast other) none = absurd (cc)

if_ok : {A E : Type 0} (P Q : A → Type 0) (r : Result A E) → ((a : A) → P a → Q a) → IfOk r P → IfOk r Q
if_ok P Q (Ok a) next p = next a p
if_ok P Q (Err e) next p = tt

if_err : {A E : Type 0} (P Q : E → Type 0) (r : Result A E) → ((e : E) → P e → Q e) → IfErr r P → IfErr r Q
if_err P Q (Ok a) next p = tt
if_err P Q (Err e) next p = next e p

pub supply_chunk-supplied-requires-clause-one : goal.supply_chunk-supplied-requires-clause-one
supply_chunk-supplied-requires-clause-one g c =
    let now = c.lock_slabs-slabs.new.hand in
    no_stripes_there now.seat.me.0 now.locks now.noted.4 (ap locks_have_no_stripe c.lock_slabs-slabs.ensures.locks ∙ none_with_slabs c.args.hand.now c.requires.unlocked)

pub supply_chunk-supplied-requires-clause-fresh : goal.supply_chunk-supplied-requires-clause-fresh
supply_chunk-supplied-requires-clause-fresh g c =
    let held = c.lock_slabs-slabs in
    ap has_fresh (waits_slabs_keep (λ (v : View). v.row.holdings) (λ word v. refl) (λ slabs v. refl) c.args.hand.now.seat.me.0 held.result.shared held.new.hand.seat.me.0 held.ensures.waits) ∙ c.requires.fresh

pub supply_chunk-supplied-requires-clause-within_limit : goal.supply_chunk-supplied-requires-clause-within_limit
supply_chunk-supplied-requires-clause-within_limit g c =
    let held = c.lock_slabs-slabs in
    subst (λ (hs : List Holding). length hs ≤ most_refs) (sym (waits_slabs_keep (λ (v : View). v.row.holdings) (λ word v. refl) (λ slabs v. refl) c.args.hand.now.seat.me.0 held.result.shared held.new.hand.seat.me.0 held.ensures.waits)) c.requires.within_limit

pub returns-clause-locks : goal.returns-clause-locks
returns-clause-locks g c = c.give_slabs.ensures.locks ∙ (ap without_slabs (c.supply_chunk-supplied.ensures.locks ∙ c.lock_slabs-slabs.ensures.locks) ∙ slabs_back c.args.hand.now c.requires.unlocked)

pub returns-clause-supplies : goal.returns-clause-supplies
returns-clause-supplies g c =
    let hand = c.args.hand.now in
    let held = c.lock_slabs-slabs in
    let taken : View = held.new.hand.seat.me.0 in
    let supplied = c.supply_chunk-supplied in
    let last : View = supplied.new.hand.seat.me.0 in
    let now : View = c.give_slabs.new.hand.seat.me.0 in
    let number = number_stays hand held.new.hand (waits_slabs_keep (λ (v : View). v.row.ids) (λ word v. refl) (λ slabs v. refl) hand.seat.me.0 held.result.shared taken held.ensures.waits) in
    if_ok (λ (fresh : Fresh). SuppliesChunk held.new.hand.number c.args.class fresh.chunk taken held.result.shared last supplied.new.held.shared) (λ (fresh : Fresh). HoldsSlabs (SuppliesChunk hand.number c.args.class fresh.chunk) hand.seat.me.0 now) supplied.result
    (λ fresh does. holds_so (SuppliesChunk hand.number c.args.class fresh.chunk) hand.seat.me.0 taken last now held.result.shared supplied.new.held.shared held.ensures.waits
    (subst (λ n. SuppliesChunk n c.args.class fresh.chunk taken held.result.shared last supplied.new.held.shared) number does) c.give_slabs.ensures.left)
    supplied.ensures.supplies

pub returns-clause-none : goal.returns-clause-none
returns-clause-none g c =
    let hand = c.args.hand.now in
    let held = c.lock_slabs-slabs in
    let taken : View = held.new.hand.seat.me.0 in
    let supplied = c.supply_chunk-supplied in
    let last : View = supplied.new.hand.seat.me.0 in
    let now : View = c.give_slabs.new.hand.seat.me.0 in
    let number = number_stays hand held.new.hand (waits_slabs_keep (λ (v : View). v.row.ids) (λ word v. refl) (λ slabs v. refl) hand.seat.me.0 held.result.shared taken held.ensures.waits) in
    if_err (λ (error : SetError). SuppliesNone held.new.hand.number c.args.class error taken held.result.shared last supplied.new.held.shared) (λ (error : SetError). HoldsSlabs (SuppliesNone hand.number c.args.class error) hand.seat.me.0 now) supplied.result
    (λ error does. holds_so (SuppliesNone hand.number c.args.class error) hand.seat.me.0 taken last now held.result.shared supplied.new.held.shared held.ensures.waits
    (subst (λ n. SuppliesNone n c.args.class error taken held.result.shared last supplied.new.held.shared) number does) c.give_slabs.ensures.left)
    supplied.ensures.none
