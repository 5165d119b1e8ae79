use Rattle.std.proofs.Common.{◌≡◌, ◌+◌, ◌*◌, ◌≤◌, ◌%◌, ℕ, ◌∷◌, ◌++◌, [], List, length, Some, Option, IfSome, Result, Ok, Err, IfOk, IfErr, OnOk, OnErr, ap, sym, subst, ◌∙◌, inr}
use Rattle.mc_classes.specs.Classes.{Classes, IsClass, class_of, size_of}
use Rattle.mc_core.specs.past.Past.{StoredItem}
use Rattle.mc_stripe.specs.declared.history.Call.TheVariants.{Set}
use Rattle.mc_words.specs.lock.Doing.{HoldsSlabs}
use Rattle.mc_words.specs.hand.View.{Setup, View}
use Rattle.mc_words.specs.hand.Tallies.{next_stamp}
use Rattle.mc_items.specs.Calls.{RecordsCall}
use Rattle.mc_pages.specs.declared.ids.ChunkId.{ChunkId}
use Rattle.mc_items.specs.Setting.{class_for_words}
use Rattle.mc_items.specs.Sources.{SuppliesChunk, SuppliesNone}
use Rattle.mc_words.specs.declared.item.refs.Hint.{Hint}
use Rattle.mc_items.specs.FreshChunks.{IsFreshFor, IsHintInto}
use Rattle.mc_items.specs.declared.setting.SetError.{SetError}
use Rattle.mc_words.specs.declared.hand.held.Fresh.{Fresh}
use Rattle.mc_stripe.specs.StripeState.{ReadyStripe}
use Rattle.mc_items.specs.declared.storing.StoreError.{StoreError}
use Rattle.mc_items.specs.Storing.{IsOwnItem, LeavesDead, RefusesStore, StoresItem, item_filled}
use Rattle.mc_words.proofs.Hands.HandNumbers.{number_stays}
use Rattle.mc_words.specs.item.Items.{item_with}
use Rattle.mc_core.specs.declared.ids.Ids.{Ids}
use Rattle.mc_core.specs.run.Items.{ids_after_stamp}
use Rattle.mc_items.proofs.Chains.{hand_still, holdings_stay, number_kept, ready_still}
use Rattle.mc_items.proofs.StoredRows.{dead_keeps, stored_ids, stored_keeps}
use Rattle.mc_items.proofs.Locks.{still_unlocked}
use Rattle.mc_items.proofs.Made.{Tells, refused_tells, supplied_tells, tells_before, refused_holds, supplied_gains}
use Rattle.mc_items.proofs.Sets.{class_there, dead_tells, refuses_so, refuses_store_within, words_fit}
use Rattle.mc_items.specs.Within.{LeavesUnlinked, RefusesCompareWithin}
use Rattle.mc_items.specs.declared.within.comparing.CompareWithinError.{CompareWithinError}
use Rattle.mc_items.proofs.Missed.{missed_holds, missed_tells, unlinked_keeps, unlinked_tells}
use Rattle.mc_items.proofs.within.comparing.compare_and_set_within.Goals as goal

-- what an answer within an answer says
ok_of : {A E : Type 0} (P : A → Type 0) (r : Result A E) (a : A) → r ≡ Ok a → IfOk r P → P a
ok_of P r a is told = subst (λ (r : Result _ _). IfOk r P) is told

err_of : {A E : Type 0} (P : E → Type 0) (r : Result A E) (e : E) → r ≡ Err e → IfErr r P → P e
err_of P r e is told = subst (λ (r : Result _ _). IfErr r P) is told

on_ok : {A E : Type 0} (P : Type 0) (r : Result A E) (a : A) → r ≡ Ok a → OnOk r P → P
on_ok P r a is told = subst (λ (r : Result _ _). OnOk r P) is told

on_err : {A E : Type 0} (P : Type 0) (r : Result A E) (e : E) → r ≡ Err e → OnErr r P → P
on_err P r e is told = subst (λ (r : Result _ _). OnErr r P) is told

-- the class is the words'
class_is : (view : View) (setup : Setup) (table : Classes) (words : List ℕ) (class : ℕ) (found : Option ℕ) → view.setup ≡ setup → table ≡ setup.table → found ≡ class_of table (24 + 8 * length words) → found ≡ Some class → class_for_words view words ≡ Some class
class_is view setup table words class found of same was is = ap (λ (s : Setup). class_of s.table (24 + 8 * length words)) of ∙ (ap (λ (t : Classes). class_of t (24 + 8 * length words)) (sym same) ∙ (sym was ∙ is))

pub returns-in-Ok-Err-clause-refused : goal.returns-in-Ok-Err-clause-refused
returns-in-Ok-Err-clause-refused c =
    let view : View = c.args.hand.now.seat.me.0 in
    let fits = class_is view c.args.arena.now.table.shared.key c.classes.result.now c.args.words.now c.in-Some.class c.class_for.result c.requires.arena.setup c.classes.ensures.classes c.class_for.ensures.class c.in-Some.is in
    refuses_so c.args.hand.now.number c.args.key c.args.words.now c.in-Ok-Err.error c.in-Some.class view c.chunk_within.new.hand.seat.me.0 fits (err_of (λ (error : SetError). HoldsSlabs (SuppliesNone c.args.hand.now.number c.in-Some.class error) c.args.hand.now.seat.me.0 c.chunk_within.new.hand.seat.me.0) c.in-Ok-Err.field-0 c.in-Ok-Err.error c.in-Ok-Err.field-0-is c.in-Ok-Err.ensures.none)

pub returns-in-Ok-Err-clause-evicts : goal.returns-in-Ok-Err-clause-evicts
returns-in-Ok-Err-clause-evicts c =
    (refused_tells c.args.hand.now.number c.in-Some.class c.in-Ok-Err.error c.args.hand.now.seat.me.0 c.chunk_within.new.hand.seat.me.0 (err_of (λ (error : SetError). HoldsSlabs (SuppliesNone c.args.hand.now.number c.in-Some.class error) c.args.hand.now.seat.me.0 c.chunk_within.new.hand.seat.me.0) c.in-Ok-Err.field-0 c.in-Ok-Err.error c.in-Ok-Err.field-0-is c.in-Ok-Err.ensures.none)).calls

pub returns-in-Ok-Err-clause-stores_nothing : goal.returns-in-Ok-Err-clause-stores_nothing
returns-in-Ok-Err-clause-stores_nothing c =
    (refused_tells c.args.hand.now.number c.in-Some.class c.in-Ok-Err.error c.args.hand.now.seat.me.0 c.chunk_within.new.hand.seat.me.0 (err_of (λ (error : SetError). HoldsSlabs (SuppliesNone c.args.hand.now.number c.in-Some.class error) c.args.hand.now.seat.me.0 c.chunk_within.new.hand.seat.me.0) c.in-Ok-Err.field-0 c.in-Ok-Err.error c.in-Ok-Err.field-0-is c.in-Ok-Err.ensures.none)).stored

pub returns-in-Ok-Err-clause-stamps : goal.returns-in-Ok-Err-clause-stamps
returns-in-Ok-Err-clause-stamps c =
    (refused_tells c.args.hand.now.number c.in-Some.class c.in-Ok-Err.error c.args.hand.now.seat.me.0 c.chunk_within.new.hand.seat.me.0 (err_of (λ (error : SetError). HoldsSlabs (SuppliesNone c.args.hand.now.number c.in-Some.class error) c.args.hand.now.seat.me.0 c.chunk_within.new.hand.seat.me.0) c.in-Ok-Err.field-0 c.in-Ok-Err.error c.in-Ok-Err.field-0-is c.in-Ok-Err.ensures.none)).ids

pub store_words_within-requires-clause-unlocked : goal.store_words_within-requires-clause-unlocked
store_words_within-requires-clause-unlocked c = still_unlocked c.args.hand.now c.chunk_within.new.hand c.requires.ready.unlocked c.chunk_within.ensures.locks

pub store_words_within-requires-clause-room : goal.store_words_within-requires-clause-room
store_words_within-requires-clause-room c =
    let fits = subst (λ (o : Option ℕ). IfSome o (λ class. IsClass c.classes.result.now class × (24 + 8 * length c.args.words.now ≤ size_of c.classes.result.now class))) c.in-Some.is c.class_for.ensures.fits in
    let table = c.args.arena.now.table.shared.key.table in
    words_fit table c.in-Some.class (length c.args.words.now) c.in-Ok-Ok.fresh.room (class_there table c.in-Some.class (subst (λ (t : Classes). IsClass t c.in-Some.class) c.classes.ensures.classes fits.0)) (subst (λ (t : Classes). 24 + 8 * length c.args.words.now ≤ size_of t c.in-Some.class) c.classes.ensures.classes fits.1) (ok_of (IsFreshFor c.args.arena.now.table.shared.key c.in-Some.class c.chunk_within.new.hand.seat.me.0) c.in-Ok-Ok.field-0 c.in-Ok-Ok.fresh c.in-Ok-Ok.field-0-is c.in-Ok-Ok.ensures.fresh).0

pub store_words_within-requires-clause-stamp : goal.store_words_within-requires-clause-stamp
store_words_within-requires-clause-stamp c =
    let told = supplied_tells c.args.hand.now.number c.in-Some.class c.in-Ok-Ok.fresh.chunk c.args.hand.now.seat.me.0 c.chunk_within.new.hand.seat.me.0 (ok_of (λ (fresh : Fresh). HoldsSlabs (SuppliesChunk c.args.hand.now.number c.in-Some.class fresh.chunk) c.args.hand.now.seat.me.0 c.chunk_within.new.hand.seat.me.0) c.in-Ok-Ok.field-0 c.in-Ok-Ok.fresh c.in-Ok-Ok.field-0-is c.in-Ok-Ok.ensures.supplies) in
    ap next_stamp told.ids ∙ (sym c.next_stamp.ensures.stamp ∙ c.in-Some-next_stamp.is)

pub returns-in-Ok-Ok-store_words_within-clause-sets : goal.returns-in-Ok-Ok-store_words_within-clause-sets
returns-in-Ok-Ok-store_words_within-clause-sets c =
    let hand = c.args.hand.now in
    let view : View = hand.seat.me.0 in
    let between : View = c.chunk_within.new.hand.seat.me.0 in
    let now : View = c.store_words_within.new.hand.seat.me.0 in
    let fresh = c.in-Ok-Ok.fresh in
    let told = supplied_tells hand.number c.in-Some.class fresh.chunk view between (ok_of (λ (fresh : Fresh). HoldsSlabs (SuppliesChunk c.args.hand.now.number c.in-Some.class fresh.chunk) c.args.hand.now.seat.me.0 c.chunk_within.new.hand.seat.me.0) c.in-Ok-Ok.field-0 c.in-Ok-Ok.fresh c.in-Ok-Ok.field-0-is c.in-Ok-Ok.ensures.supplies) in
    let number = number_stays hand c.chunk_within.new.hand told.ids in
    let setup = c.requires.arena.setup in
    let hint = ok_of (λ (hint : Hint). IsHintInto between fresh hint) c.in-Ok-Ok-store_words_within.field-0 c.in-Ok-Ok-store_words_within.hint c.in-Ok-Ok-store_words_within.field-0-is c.in-Ok-Ok-store_words_within.ensures.hint in (
      record {
        class = c.in-Some.class;
        fits = class_is view c.args.arena.now.table.shared.key c.classes.result.now c.args.words.now c.in-Some.class c.class_for.result setup c.classes.ensures.classes c.class_for.ensures.class c.in-Some.is;
        next = sym c.next_stamp.ensures.stamp ∙ c.in-Some-next_stamp.is;
        chunk = fresh.chunk;
        room = fresh.room;
        between = between;
        supplies = (ok_of (λ (fresh : Fresh). HoldsSlabs (SuppliesChunk c.args.hand.now.number c.in-Some.class fresh.chunk) c.args.hand.now.seat.me.0 c.chunk_within.new.hand.seat.me.0) c.in-Ok-Ok.field-0 c.in-Ok-Ok.fresh c.in-Ok-Ok.field-0-is c.in-Ok-Ok.ensures.supplies);
        stores = subst (λ (p : ℕ × Setup). StoresItem c.args.expected p.0 (c.args.key % p.1.config.stripes) c.args.key c.in-Some-next_stamp.stamp fresh.chunk fresh.room (item_filled fresh.chunk (item_with c.args.key c.in-Some-next_stamp.stamp c.args.words.now) between) now)
            (λ k. (number k, sym setup k)) (on_ok (StoresItem c.args.expected c.chunk_within.new.hand.number (c.args.key % c.args.arena.now.table.shared.key.config.stripes) c.args.key c.in-Some-next_stamp.stamp c.in-Ok-Ok.fresh.chunk c.in-Ok-Ok.fresh.room (item_filled c.in-Ok-Ok.fresh.chunk (item_with c.args.key c.in-Some-next_stamp.stamp c.args.words.now) c.chunk_within.new.hand.seat.me.0) c.store_words_within.new.hand.seat.me.0) c.in-Ok-Ok-store_words_within.field-0 _ c.in-Ok-Ok-store_words_within.field-0-is c.in-Ok-Ok-store_words_within.ensures.stores);
      },
      (hint.0, hint.1),
    )

pub returns-in-Ok-Ok-store_words_within-clause-calls : goal.returns-in-Ok-Ok-store_words_within-clause-calls
returns-in-Ok-Ok-store_words_within-clause-calls c =
    let hand = c.args.hand.now in
    let view : View = hand.seat.me.0 in
    let between : View = c.chunk_within.new.hand.seat.me.0 in
    let told = supplied_tells hand.number c.in-Some.class c.in-Ok-Ok.fresh.chunk view between (ok_of (λ (fresh : Fresh). HoldsSlabs (SuppliesChunk c.args.hand.now.number c.in-Some.class fresh.chunk) c.args.hand.now.seat.me.0 c.chunk_within.new.hand.seat.me.0) c.in-Ok-Ok.field-0 c.in-Ok-Ok.fresh c.in-Ok-Ok.field-0-is c.in-Ok-Ok.ensures.supplies) in
    let number = number_stays hand c.chunk_within.new.hand told.ids in record {
      between = between;
      evicts = told.calls;
      sets = subst (λ (p : ℕ × Setup). RecordsCall p.0 (c.args.key % p.1.config.stripes) (Set p.0 c.args.key c.in-Some-next_stamp.stamp) between c.store_words_within.new.hand.seat.me.0) (λ k. (number k, sym c.requires.arena.setup k)) (on_ok (RecordsCall c.chunk_within.new.hand.number (c.args.key % c.args.arena.now.table.shared.key.config.stripes) (Set c.chunk_within.new.hand.number c.args.key c.in-Some-next_stamp.stamp) c.chunk_within.new.hand.seat.me.0 c.store_words_within.new.hand.seat.me.0) c.in-Ok-Ok-store_words_within.field-0 _ c.in-Ok-Ok-store_words_within.field-0-is c.in-Ok-Ok-store_words_within.ensures.calls);
    }

pub returns-in-Ok-Ok-store_words_within-clause-stores_words : goal.returns-in-Ok-Ok-store_words_within-clause-stores_words
returns-in-Ok-Ok-store_words_within-clause-stores_words c =
    let view : View = c.args.hand.now.seat.me.0 in
    let told = supplied_tells c.args.hand.now.number c.in-Some.class c.in-Ok-Ok.fresh.chunk view c.chunk_within.new.hand.seat.me.0 (ok_of (λ (fresh : Fresh). HoldsSlabs (SuppliesChunk c.args.hand.now.number c.in-Some.class fresh.chunk) c.args.hand.now.seat.me.0 c.chunk_within.new.hand.seat.me.0) c.in-Ok-Ok.field-0 c.in-Ok-Ok.fresh c.in-Ok-Ok.field-0-is c.in-Ok-Ok.ensures.supplies) in
    (on_ok (c.store_words_within.new.hand.seat.me.0.row.knows.stored ≡ c.chunk_within.new.hand.seat.me.0.row.knows.stored ++ record { stamp = c.in-Some-next_stamp.stamp; words = (item_with c.args.key c.in-Some-next_stamp.stamp c.args.words.now) } ∷ []) c.in-Ok-Ok-store_words_within.field-0 _ c.in-Ok-Ok-store_words_within.field-0-is c.in-Ok-Ok-store_words_within.ensures.stores_words) ∙ ap (λ (said : List StoredItem). said ++ record { stamp = c.in-Some-next_stamp.stamp; words = item_with c.args.key c.in-Some-next_stamp.stamp c.args.words.now } ∷ []) told.stored

pub returns-in-Ok-Err-store_words_within-clause-refused : goal.returns-in-Ok-Err-store_words_within-clause-refused
returns-in-Ok-Err-store_words_within-clause-refused c =
    let view : View = c.args.hand.now.seat.me.0 in
    let between : View = c.chunk_within.new.hand.seat.me.0 in
    let fresh = c.in-Ok-Ok.fresh in
    let setup = c.requires.arena.setup in
    subst (λ (error : CompareWithinError). RefusesCompareWithin c.args.expected c.args.hand.now.number c.args.tries c.args.key c.args.words.now error view c.store_words_within.new.hand.seat.me.0) (sym c.refusal_of.ensures) (refuses_store_within c.args.expected c.args.hand.now.number c.args.tries c.args.key c.args.words.now c.in-Ok-Err-store_words_within.error view c.store_words_within.new.hand.seat.me.0 (record {
      class = c.in-Some.class;
      fits = class_is view c.args.arena.now.table.shared.key c.classes.result.now c.args.words.now c.in-Some.class c.class_for.result setup c.classes.ensures.classes c.class_for.ensures.class c.in-Some.is;
      stamp = c.in-Some-next_stamp.stamp;
      next = sym c.next_stamp.ensures.stamp ∙ c.in-Some-next_stamp.is;
      chunk = fresh.chunk;
      between = between;
      supplies = (ok_of (λ (fresh : Fresh). HoldsSlabs (SuppliesChunk c.args.hand.now.number c.in-Some.class fresh.chunk) c.args.hand.now.seat.me.0 c.chunk_within.new.hand.seat.me.0) c.in-Ok-Ok.field-0 c.in-Ok-Ok.fresh c.in-Ok-Ok.field-0-is c.in-Ok-Ok.ensures.supplies);
      dead = subst (λ (s : Setup). LeavesDead (RefusesStore c.in-Ok-Err-store_words_within.error c.args.expected c.args.key) (c.args.key % s.config.stripes) fresh.chunk (item_filled fresh.chunk (item_with c.args.key c.in-Some-next_stamp.stamp c.args.words.now) between) c.store_words_within.new.hand.seat.me.0) (sym setup) (err_of (λ (error : StoreError). LeavesDead (RefusesStore error c.args.expected c.args.key) (c.args.key % c.args.arena.now.table.shared.key.config.stripes) c.in-Ok-Ok.fresh.chunk (item_filled c.in-Ok-Ok.fresh.chunk (item_with c.args.key c.in-Some-next_stamp.stamp c.args.words.now) c.chunk_within.new.hand.seat.me.0) c.store_words_within.new.hand.seat.me.0) c.in-Ok-Err-store_words_within.field-0 c.in-Ok-Err-store_words_within.error c.in-Ok-Err-store_words_within.field-0-is c.in-Ok-Err-store_words_within.ensures.lost);
    }))

-- what was told until then is all
told_here : {Is : ReadyStripe → Type 0} (number class key stamp stripe : ℕ) (chunk : ChunkId) (words : List ℕ) (view between now : View) → HoldsSlabs (SuppliesChunk number class chunk) view between → LeavesDead Is stripe chunk (item_filled chunk (item_with key stamp words) between) now → Tells number view now
told_here number class key stamp stripe chunk words view between now supplies dead =
    tells_before number view between now (supplied_tells number class chunk view between supplies) (dead_tells stripe chunk (item_filled chunk (item_with key stamp words) between) now dead)

pub returns-in-Ok-Err-store_words_within-clause-evicts : goal.returns-in-Ok-Err-store_words_within-clause-evicts
returns-in-Ok-Err-store_words_within-clause-evicts c =
    (told_here c.args.hand.now.number c.in-Some.class c.args.key c.in-Some-next_stamp.stamp _ c.in-Ok-Ok.fresh.chunk c.args.words.now c.args.hand.now.seat.me.0 c.chunk_within.new.hand.seat.me.0 c.store_words_within.new.hand.seat.me.0 (ok_of (λ (fresh : Fresh). HoldsSlabs (SuppliesChunk c.args.hand.now.number c.in-Some.class fresh.chunk) c.args.hand.now.seat.me.0 c.chunk_within.new.hand.seat.me.0) c.in-Ok-Ok.field-0 c.in-Ok-Ok.fresh c.in-Ok-Ok.field-0-is c.in-Ok-Ok.ensures.supplies) (err_of (λ (error : StoreError). LeavesDead (RefusesStore error c.args.expected c.args.key) (c.args.key % c.args.arena.now.table.shared.key.config.stripes) c.in-Ok-Ok.fresh.chunk (item_filled c.in-Ok-Ok.fresh.chunk (item_with c.args.key c.in-Some-next_stamp.stamp c.args.words.now) c.chunk_within.new.hand.seat.me.0) c.store_words_within.new.hand.seat.me.0) c.in-Ok-Err-store_words_within.field-0 c.in-Ok-Err-store_words_within.error c.in-Ok-Err-store_words_within.field-0-is c.in-Ok-Err-store_words_within.ensures.lost)).calls

pub returns-in-Ok-Err-store_words_within-clause-stores_nothing : goal.returns-in-Ok-Err-store_words_within-clause-stores_nothing
returns-in-Ok-Err-store_words_within-clause-stores_nothing c =
    (told_here c.args.hand.now.number c.in-Some.class c.args.key c.in-Some-next_stamp.stamp _ c.in-Ok-Ok.fresh.chunk c.args.words.now c.args.hand.now.seat.me.0 c.chunk_within.new.hand.seat.me.0 c.store_words_within.new.hand.seat.me.0 (ok_of (λ (fresh : Fresh). HoldsSlabs (SuppliesChunk c.args.hand.now.number c.in-Some.class fresh.chunk) c.args.hand.now.seat.me.0 c.chunk_within.new.hand.seat.me.0) c.in-Ok-Ok.field-0 c.in-Ok-Ok.fresh c.in-Ok-Ok.field-0-is c.in-Ok-Ok.ensures.supplies) (err_of (λ (error : StoreError). LeavesDead (RefusesStore error c.args.expected c.args.key) (c.args.key % c.args.arena.now.table.shared.key.config.stripes) c.in-Ok-Ok.fresh.chunk (item_filled c.in-Ok-Ok.fresh.chunk (item_with c.args.key c.in-Some-next_stamp.stamp c.args.words.now) c.chunk_within.new.hand.seat.me.0) c.store_words_within.new.hand.seat.me.0) c.in-Ok-Err-store_words_within.field-0 c.in-Ok-Err-store_words_within.error c.in-Ok-Err-store_words_within.field-0-is c.in-Ok-Err-store_words_within.ensures.lost)).stored

pub returns-in-Ok-Err-store_words_within-clause-stamps : goal.returns-in-Ok-Err-store_words_within-clause-stamps
returns-in-Ok-Err-store_words_within-clause-stamps c =
    (told_here c.args.hand.now.number c.in-Some.class c.args.key c.in-Some-next_stamp.stamp _ c.in-Ok-Ok.fresh.chunk c.args.words.now c.args.hand.now.seat.me.0 c.chunk_within.new.hand.seat.me.0 c.store_words_within.new.hand.seat.me.0 (ok_of (λ (fresh : Fresh). HoldsSlabs (SuppliesChunk c.args.hand.now.number c.in-Some.class fresh.chunk) c.args.hand.now.seat.me.0 c.chunk_within.new.hand.seat.me.0) c.in-Ok-Ok.field-0 c.in-Ok-Ok.fresh c.in-Ok-Ok.field-0-is c.in-Ok-Ok.ensures.supplies) (err_of (λ (error : StoreError). LeavesDead (RefusesStore error c.args.expected c.args.key) (c.args.key % c.args.arena.now.table.shared.key.config.stripes) c.in-Ok-Ok.fresh.chunk (item_filled c.in-Ok-Ok.fresh.chunk (item_with c.args.key c.in-Some-next_stamp.stamp c.args.words.now) c.chunk_within.new.hand.seat.me.0) c.store_words_within.new.hand.seat.me.0) c.in-Ok-Err-store_words_within.field-0 c.in-Ok-Err-store_words_within.error c.in-Ok-Err-store_words_within.field-0-is c.in-Ok-Err-store_words_within.ensures.lost)).ids

pub returns-in-Ok-Err-clause-holdings : goal.returns-in-Ok-Err-clause-holdings
returns-in-Ok-Err-clause-holdings c =
    let hand = c.args.hand.now in
    let now = c.chunk_within.new.hand in
    let none = (err_of (λ (error : SetError). HoldsSlabs (SuppliesNone c.args.hand.now.number c.in-Some.class error) c.args.hand.now.seat.me.0 c.chunk_within.new.hand.seat.me.0) c.in-Ok-Err.field-0 c.in-Ok-Err.error c.in-Ok-Err.field-0-is c.in-Ok-Err.ensures.none) in
    let told = refused_tells hand.number c.in-Some.class c.in-Ok-Err.error hand.seat.me.0 now.seat.me.0 none in
    holdings_stay hand.seat.me.0 now.seat.me.0 (refused_holds hand.number c.in-Some.class c.in-Ok-Err.error hand.seat.me.0 now.seat.me.0 none) told.known

pub returns-in-Ok-Err-clause-hand : goal.returns-in-Ok-Err-clause-hand
returns-in-Ok-Err-clause-hand c =
    hand_still c.args.arena.now c.args.hand.now c.chunk_within.new.hand c.chunk_within.ensures.arena c.chunk_within.ensures.locks (returns-in-Ok-Err-clause-holdings c).same (returns-in-Ok-Err-clause-stamps c) c.requires.ready

pub returns-in-Ok-Ok-store_words_within-clause-holdings : goal.returns-in-Ok-Ok-store_words_within-clause-holdings
returns-in-Ok-Ok-store_words_within-clause-holdings c =
    let hand = c.args.hand.now in
    let view : View = hand.seat.me.0 in
    let between : View = c.chunk_within.new.hand.seat.me.0 in
    let now = c.store_words_within.new.hand in
    let fresh = c.in-Ok-Ok.fresh in
    let stamp = c.in-Some-next_stamp.stamp in
    let words = item_with c.args.key stamp c.args.words.now in
    let gains = supplied_gains hand.number c.in-Some.class fresh.chunk view between (ok_of (λ (fresh : Fresh). HoldsSlabs (SuppliesChunk c.args.hand.now.number c.in-Some.class fresh.chunk) c.args.hand.now.seat.me.0 c.chunk_within.new.hand.seat.me.0) c.in-Ok-Ok.field-0 c.in-Ok-Ok.fresh c.in-Ok-Ok.field-0-is c.in-Ok-Ok.ensures.supplies) in
    let told = supplied_tells hand.number c.in-Some.class fresh.chunk view between (ok_of (λ (fresh : Fresh). HoldsSlabs (SuppliesChunk c.args.hand.now.number c.in-Some.class fresh.chunk) c.args.hand.now.seat.me.0 c.chunk_within.new.hand.seat.me.0) c.in-Ok-Ok.field-0 c.in-Ok-Ok.fresh c.in-Ok-Ok.field-0-is c.in-Ok-Ok.ensures.supplies) in
    stored_keeps fresh.chunk words view between c.requires.ready.unfilled gains (ok_of (λ (fresh : Fresh). IsOwnItem c.chunk_within.new.hand.seat.me.0 fresh.chunk) c.in-Ok-Ok.field-0 c.in-Ok-Ok.fresh c.in-Ok-Ok.field-0-is c.in-Ok-Ok.ensures.own) c.chunk_within.new.hand.number _ c.args.key stamp fresh.room now.seat.me.0 (on_ok (StoresItem c.args.expected c.chunk_within.new.hand.number (c.args.key % c.args.arena.now.table.shared.key.config.stripes) c.args.key c.in-Some-next_stamp.stamp c.in-Ok-Ok.fresh.chunk c.in-Ok-Ok.fresh.room (item_filled c.in-Ok-Ok.fresh.chunk (item_with c.args.key c.in-Some-next_stamp.stamp c.args.words.now) c.chunk_within.new.hand.seat.me.0) c.store_words_within.new.hand.seat.me.0) c.in-Ok-Ok-store_words_within.field-0 _ c.in-Ok-Ok-store_words_within.field-0-is c.in-Ok-Ok-store_words_within.ensures.stores) told.known

pub returns-in-Ok-Ok-store_words_within-clause-hand : goal.returns-in-Ok-Ok-store_words_within-clause-hand
returns-in-Ok-Ok-store_words_within-clause-hand c =
    let hand = c.args.hand.now in
    let view : View = hand.seat.me.0 in
    let between : View = c.chunk_within.new.hand.seat.me.0 in
    let now = c.store_words_within.new.hand in
    let fresh = c.in-Ok-Ok.fresh in
    let stamp = c.in-Some-next_stamp.stamp in
    let words = item_with c.args.key stamp c.args.words.now in
    let gains = supplied_gains hand.number c.in-Some.class fresh.chunk view between (ok_of (λ (fresh : Fresh). HoldsSlabs (SuppliesChunk c.args.hand.now.number c.in-Some.class fresh.chunk) c.args.hand.now.seat.me.0 c.chunk_within.new.hand.seat.me.0) c.in-Ok-Ok.field-0 c.in-Ok-Ok.fresh c.in-Ok-Ok.field-0-is c.in-Ok-Ok.ensures.supplies) in
    let told = supplied_tells hand.number c.in-Some.class fresh.chunk view between (ok_of (λ (fresh : Fresh). HoldsSlabs (SuppliesChunk c.args.hand.now.number c.in-Some.class fresh.chunk) c.args.hand.now.seat.me.0 c.chunk_within.new.hand.seat.me.0) c.in-Ok-Ok.field-0 c.in-Ok-Ok.fresh c.in-Ok-Ok.field-0-is c.in-Ok-Ok.ensures.supplies) in record {
      arena = c.store_words_within.ensures.arena;
      ready = ready_still hand now (c.store_words_within.ensures.locks ∙ c.chunk_within.ensures.locks) (returns-in-Ok-Ok-store_words_within-clause-holdings c).same c.requires.ready;
      locks = c.store_words_within.ensures.locks ∙ c.chunk_within.ensures.locks;
      number = number_kept hand now (ap (λ (i : Ids). i.number) (stored_ids fresh.chunk words view between c.requires.ready.unfilled gains (ok_of (λ (fresh : Fresh). IsOwnItem c.chunk_within.new.hand.seat.me.0 fresh.chunk) c.in-Ok-Ok.field-0 c.in-Ok-Ok.fresh c.in-Ok-Ok.field-0-is c.in-Ok-Ok.ensures.own) c.chunk_within.new.hand.number _ c.args.key stamp fresh.room now.seat.me.0 (on_ok (StoresItem c.args.expected c.chunk_within.new.hand.number (c.args.key % c.args.arena.now.table.shared.key.config.stripes) c.args.key c.in-Some-next_stamp.stamp c.in-Ok-Ok.fresh.chunk c.in-Ok-Ok.fresh.room (item_filled c.in-Ok-Ok.fresh.chunk (item_with c.args.key c.in-Some-next_stamp.stamp c.args.words.now) c.chunk_within.new.hand.seat.me.0) c.store_words_within.new.hand.seat.me.0) c.in-Ok-Ok-store_words_within.field-0 _ c.in-Ok-Ok-store_words_within.field-0-is c.in-Ok-Ok-store_words_within.ensures.stores) ∙ ap ids_after_stamp told.ids));
    }

pub returns-in-Ok-Err-store_words_within-clause-holdings : goal.returns-in-Ok-Err-store_words_within-clause-holdings
returns-in-Ok-Err-store_words_within-clause-holdings c =
    let hand = c.args.hand.now in
    let view : View = hand.seat.me.0 in
    let between : View = c.chunk_within.new.hand.seat.me.0 in
    let now = c.store_words_within.new.hand in
    let fresh = c.in-Ok-Ok.fresh in
    let stamp = c.in-Some-next_stamp.stamp in
    let words = item_with c.args.key stamp c.args.words.now in
    let gains = supplied_gains hand.number c.in-Some.class fresh.chunk view between (ok_of (λ (fresh : Fresh). HoldsSlabs (SuppliesChunk c.args.hand.now.number c.in-Some.class fresh.chunk) c.args.hand.now.seat.me.0 c.chunk_within.new.hand.seat.me.0) c.in-Ok-Ok.field-0 c.in-Ok-Ok.fresh c.in-Ok-Ok.field-0-is c.in-Ok-Ok.ensures.supplies) in
    let told = supplied_tells hand.number c.in-Some.class fresh.chunk view between (ok_of (λ (fresh : Fresh). HoldsSlabs (SuppliesChunk c.args.hand.now.number c.in-Some.class fresh.chunk) c.args.hand.now.seat.me.0 c.chunk_within.new.hand.seat.me.0) c.in-Ok-Ok.field-0 c.in-Ok-Ok.fresh c.in-Ok-Ok.field-0-is c.in-Ok-Ok.ensures.supplies) in
    dead_keeps fresh.chunk words view between c.requires.ready.unfilled gains (ok_of (λ (fresh : Fresh). IsOwnItem c.chunk_within.new.hand.seat.me.0 fresh.chunk) c.in-Ok-Ok.field-0 c.in-Ok-Ok.fresh c.in-Ok-Ok.field-0-is c.in-Ok-Ok.ensures.own) _ now.seat.me.0 (err_of (λ (error : StoreError). LeavesDead (RefusesStore error c.args.expected c.args.key) (c.args.key % c.args.arena.now.table.shared.key.config.stripes) c.in-Ok-Ok.fresh.chunk (item_filled c.in-Ok-Ok.fresh.chunk (item_with c.args.key c.in-Some-next_stamp.stamp c.args.words.now) c.chunk_within.new.hand.seat.me.0) c.store_words_within.new.hand.seat.me.0) c.in-Ok-Err-store_words_within.field-0 c.in-Ok-Err-store_words_within.error c.in-Ok-Err-store_words_within.field-0-is c.in-Ok-Err-store_words_within.ensures.lost) told.known

pub returns-in-Ok-Err-store_words_within-clause-hand : goal.returns-in-Ok-Err-store_words_within-clause-hand
returns-in-Ok-Err-store_words_within-clause-hand c =
    hand_still c.args.arena.now c.args.hand.now c.store_words_within.new.hand c.store_words_within.ensures.arena (c.store_words_within.ensures.locks ∙ c.chunk_within.ensures.locks) (returns-in-Ok-Err-store_words_within-clause-holdings c).same (returns-in-Ok-Err-store_words_within-clause-stamps c) c.requires.ready

-- each try for the lock of the slabs missed
pub returns-in-Err-clause-evicts : goal.returns-in-Err-clause-evicts
returns-in-Err-clause-evicts c = (missed_tells c.args.hand.now.number c.args.tries c.args.hand.now.seat.me.0 c.chunk_within.new.hand.seat.me.0 c.in-Err.ensures.missed).calls

pub returns-in-Err-clause-stores_nothing : goal.returns-in-Err-clause-stores_nothing
returns-in-Err-clause-stores_nothing c = (missed_tells c.args.hand.now.number c.args.tries c.args.hand.now.seat.me.0 c.chunk_within.new.hand.seat.me.0 c.in-Err.ensures.missed).stored

pub returns-in-Err-clause-stamps : goal.returns-in-Err-clause-stamps
returns-in-Err-clause-stamps c = (missed_tells c.args.hand.now.number c.args.tries c.args.hand.now.seat.me.0 c.chunk_within.new.hand.seat.me.0 c.in-Err.ensures.missed).ids

pub returns-in-Err-clause-holdings : goal.returns-in-Err-clause-holdings
returns-in-Err-clause-holdings c =
    holdings_stay c.args.hand.now.seat.me.0 c.chunk_within.new.hand.seat.me.0 (missed_holds c.args.tries c.args.hand.now.seat.me.0 c.chunk_within.new.hand.seat.me.0 c.in-Err.ensures.missed) (missed_tells c.args.hand.now.number c.args.tries c.args.hand.now.seat.me.0 c.chunk_within.new.hand.seat.me.0 c.in-Err.ensures.missed).known

pub returns-in-Err-clause-hand : goal.returns-in-Err-clause-hand
returns-in-Err-clause-hand c =
    hand_still c.args.arena.now c.args.hand.now c.chunk_within.new.hand c.chunk_within.ensures.arena c.chunk_within.ensures.locks (returns-in-Err-clause-holdings c).same (returns-in-Err-clause-stamps c) c.requires.ready

-- each try for that of the stripe missed
pub returns-in-Err-store_words_within-clause-refused : goal.returns-in-Err-store_words_within-clause-refused
returns-in-Err-store_words_within-clause-refused c =
    let view : View = c.args.hand.now.seat.me.0 in
    let between : View = c.chunk_within.new.hand.seat.me.0 in
    let fresh = c.in-Ok-Ok.fresh in
    let setup = c.requires.arena.setup in
    inr (record {
      class = c.in-Some.class;
      fits = class_is view c.args.arena.now.table.shared.key c.classes.result.now c.args.words.now c.in-Some.class c.class_for.result setup c.classes.ensures.classes c.class_for.ensures.class c.in-Some.is;
      stamp = c.in-Some-next_stamp.stamp;
      next = sym c.next_stamp.ensures.stamp ∙ c.in-Some-next_stamp.is;
      chunk = fresh.chunk;
      between = between;
      supplies = (ok_of (λ (fresh : Fresh). HoldsSlabs (SuppliesChunk c.args.hand.now.number c.in-Some.class fresh.chunk) c.args.hand.now.seat.me.0 c.chunk_within.new.hand.seat.me.0) c.in-Ok-Ok.field-0 c.in-Ok-Ok.fresh c.in-Ok-Ok.field-0-is c.in-Ok-Ok.ensures.supplies);
      dead = subst (λ (s : Setup). LeavesUnlinked c.args.tries (c.args.key % s.config.stripes) fresh.chunk (item_filled fresh.chunk (item_with c.args.key c.in-Some-next_stamp.stamp c.args.words.now) between) c.store_words_within.new.hand.seat.me.0) (sym setup) c.in-Err-store_words_within.ensures.missed;
    })

missed_here : (number class key stamp tries stripe : ℕ) (chunk : ChunkId) (words : List ℕ) (view between now : View) → HoldsSlabs (SuppliesChunk number class chunk) view between → LeavesUnlinked tries stripe chunk (item_filled chunk (item_with key stamp words) between) now → Tells number view now
missed_here number class key stamp tries stripe chunk words view between now supplies dead =
    tells_before number view between now (supplied_tells number class chunk view between supplies) (unlinked_tells tries stripe chunk (item_filled chunk (item_with key stamp words) between) now dead)

pub returns-in-Err-store_words_within-clause-evicts : goal.returns-in-Err-store_words_within-clause-evicts
returns-in-Err-store_words_within-clause-evicts c =
    (missed_here c.args.hand.now.number c.in-Some.class c.args.key c.in-Some-next_stamp.stamp c.args.tries _ c.in-Ok-Ok.fresh.chunk c.args.words.now c.args.hand.now.seat.me.0 c.chunk_within.new.hand.seat.me.0 c.store_words_within.new.hand.seat.me.0 (ok_of (λ (fresh : Fresh). HoldsSlabs (SuppliesChunk c.args.hand.now.number c.in-Some.class fresh.chunk) c.args.hand.now.seat.me.0 c.chunk_within.new.hand.seat.me.0) c.in-Ok-Ok.field-0 c.in-Ok-Ok.fresh c.in-Ok-Ok.field-0-is c.in-Ok-Ok.ensures.supplies) c.in-Err-store_words_within.ensures.missed).calls

pub returns-in-Err-store_words_within-clause-stores_nothing : goal.returns-in-Err-store_words_within-clause-stores_nothing
returns-in-Err-store_words_within-clause-stores_nothing c =
    (missed_here c.args.hand.now.number c.in-Some.class c.args.key c.in-Some-next_stamp.stamp c.args.tries _ c.in-Ok-Ok.fresh.chunk c.args.words.now c.args.hand.now.seat.me.0 c.chunk_within.new.hand.seat.me.0 c.store_words_within.new.hand.seat.me.0 (ok_of (λ (fresh : Fresh). HoldsSlabs (SuppliesChunk c.args.hand.now.number c.in-Some.class fresh.chunk) c.args.hand.now.seat.me.0 c.chunk_within.new.hand.seat.me.0) c.in-Ok-Ok.field-0 c.in-Ok-Ok.fresh c.in-Ok-Ok.field-0-is c.in-Ok-Ok.ensures.supplies) c.in-Err-store_words_within.ensures.missed).stored

pub returns-in-Err-store_words_within-clause-stamps : goal.returns-in-Err-store_words_within-clause-stamps
returns-in-Err-store_words_within-clause-stamps c =
    (missed_here c.args.hand.now.number c.in-Some.class c.args.key c.in-Some-next_stamp.stamp c.args.tries _ c.in-Ok-Ok.fresh.chunk c.args.words.now c.args.hand.now.seat.me.0 c.chunk_within.new.hand.seat.me.0 c.store_words_within.new.hand.seat.me.0 (ok_of (λ (fresh : Fresh). HoldsSlabs (SuppliesChunk c.args.hand.now.number c.in-Some.class fresh.chunk) c.args.hand.now.seat.me.0 c.chunk_within.new.hand.seat.me.0) c.in-Ok-Ok.field-0 c.in-Ok-Ok.fresh c.in-Ok-Ok.field-0-is c.in-Ok-Ok.ensures.supplies) c.in-Err-store_words_within.ensures.missed).ids

pub returns-in-Err-store_words_within-clause-holdings : goal.returns-in-Err-store_words_within-clause-holdings
returns-in-Err-store_words_within-clause-holdings c =
    let view : View = c.args.hand.now.seat.me.0 in
    let between : View = c.chunk_within.new.hand.seat.me.0 in
    let fresh = c.in-Ok-Ok.fresh in
    let words = item_with c.args.key c.in-Some-next_stamp.stamp c.args.words.now in
    let gains = supplied_gains c.args.hand.now.number c.in-Some.class fresh.chunk view between (ok_of (λ (fresh : Fresh). HoldsSlabs (SuppliesChunk c.args.hand.now.number c.in-Some.class fresh.chunk) c.args.hand.now.seat.me.0 c.chunk_within.new.hand.seat.me.0) c.in-Ok-Ok.field-0 c.in-Ok-Ok.fresh c.in-Ok-Ok.field-0-is c.in-Ok-Ok.ensures.supplies) in
    let told = supplied_tells c.args.hand.now.number c.in-Some.class fresh.chunk view between (ok_of (λ (fresh : Fresh). HoldsSlabs (SuppliesChunk c.args.hand.now.number c.in-Some.class fresh.chunk) c.args.hand.now.seat.me.0 c.chunk_within.new.hand.seat.me.0) c.in-Ok-Ok.field-0 c.in-Ok-Ok.fresh c.in-Ok-Ok.field-0-is c.in-Ok-Ok.ensures.supplies) in
    unlinked_keeps fresh.chunk words view between c.requires.ready.unfilled gains (ok_of (λ (fresh : Fresh). IsOwnItem c.chunk_within.new.hand.seat.me.0 fresh.chunk) c.in-Ok-Ok.field-0 c.in-Ok-Ok.fresh c.in-Ok-Ok.field-0-is c.in-Ok-Ok.ensures.own) c.args.tries _ c.store_words_within.new.hand.seat.me.0 c.in-Err-store_words_within.ensures.missed told.known

pub returns-in-Err-store_words_within-clause-hand : goal.returns-in-Err-store_words_within-clause-hand
returns-in-Err-store_words_within-clause-hand c =
    hand_still c.args.arena.now c.args.hand.now c.store_words_within.new.hand c.store_words_within.ensures.arena (c.store_words_within.ensures.locks ∙ c.chunk_within.ensures.locks) (returns-in-Err-store_words_within-clause-holdings c).same (returns-in-Err-store_words_within-clause-stamps c) c.requires.ready
