use Rattle.std.proofs.Common.{◌≡◌, ◌+◌, ◌*◌, ◌≤◌, ◌%◌, ℕ, ◌∷◌, ◌++◌, [], List, length, Some, Option, IfSome, ap, sym, subst, ◌∙◌}
use Rattle.mc_classes.specs.Classes.{Classes, IsClass, class_of, size_of}
use Rattle.mc_core.specs.past.Past.{StoredItem}
use Rattle.mc_stripe.specs.declared.history.Call.TheVariants.{Set}
use Rattle.mc_words.specs.lock.Doing.{HoldsSlabs}
use Rattle.mc_words.specs.hand.View.{Setup, View}
use Rattle.mc_words.specs.hand.Tallies.{next_stamp}
use Rattle.mc_items.specs.Calls.{RecordsCall}
use Rattle.mc_pages.specs.declared.ids.ChunkId.{ChunkId}
use Rattle.mc_items.specs.Setting.{RefusesCompare, class_for_words}
use Rattle.mc_items.specs.declared.comparing.CompareError.{CompareError}
use Rattle.mc_items.specs.Sources.{SuppliesChunk}
use Rattle.mc_stripe.specs.StripeState.{ReadyStripe}
use Rattle.mc_items.specs.Storing.{LeavesDead, RefusesStore, StoresItem, item_filled}
use Rattle.mc_words.proofs.Hands.HandNumbers.{number_stays}
use Rattle.mc_words.specs.item.Items.{item_with}
use Rattle.mc_core.specs.declared.ids.Ids.{Ids}
use Rattle.mc_core.specs.run.Items.{ids_after_stamp}
use Rattle.mc_items.proofs.Chains.{hand_still, holdings_stay, number_kept, ready_still}
use Rattle.mc_items.proofs.StoredRows.{dead_keeps, stored_ids, stored_keeps}
use Rattle.mc_items.proofs.Locks.{still_unlocked}
use Rattle.mc_items.proofs.Made.{Tells, refused_tells, supplied_tells, tells_before, refused_holds, supplied_gains}
use Rattle.mc_items.proofs.Sets.{class_there, dead_tells, refuses_so, refuses_store, words_fit}
use Rattle.mc_items.proofs.comparing.compare_and_set.Goals as goal

-- the class is the words'
class_is : (view : View) (setup : Setup) (table : Classes) (words : List ℕ) (class : ℕ) (found : Option ℕ) → view.setup ≡ setup → table ≡ setup.table → found ≡ class_of table (24 + 8 * length words) → found ≡ Some class → class_for_words view words ≡ Some class
class_is view setup table words class found of same was is = ap (λ (s : Setup). class_of s.table (24 + 8 * length words)) of ∙ (ap (λ (t : Classes). class_of t (24 + 8 * length words)) (sym same) ∙ (sym was ∙ is))

pub returns-in-Err-clause-refused : goal.returns-in-Err-clause-refused
returns-in-Err-clause-refused g c =
    let view : View = c.args.hand.now.seat.me.0 in
    let fits = class_is view c.args.arena.now.table.shared.key c.classes.result.now c.args.words.now c.in-Some.class c.class_for.result c.requires.arena.setup c.classes.ensures.classes c.class_for.ensures.class c.in-Some.is in
    refuses_so c.args.hand.now.number c.args.key c.args.words.now c.in-Err.error c.in-Some.class view c.chunk_of.new.hand.seat.me.0 fits c.in-Err.ensures.none

pub returns-in-Err-clause-evicts : goal.returns-in-Err-clause-evicts
returns-in-Err-clause-evicts g c =
    (refused_tells c.args.hand.now.number c.in-Some.class c.in-Err.error c.args.hand.now.seat.me.0 c.chunk_of.new.hand.seat.me.0 c.in-Err.ensures.none).calls

pub returns-in-Err-clause-stores_nothing : goal.returns-in-Err-clause-stores_nothing
returns-in-Err-clause-stores_nothing g c =
    (refused_tells c.args.hand.now.number c.in-Some.class c.in-Err.error c.args.hand.now.seat.me.0 c.chunk_of.new.hand.seat.me.0 c.in-Err.ensures.none).stored

pub returns-in-Err-clause-stamps : goal.returns-in-Err-clause-stamps
returns-in-Err-clause-stamps g c =
    (refused_tells c.args.hand.now.number c.in-Some.class c.in-Err.error c.args.hand.now.seat.me.0 c.chunk_of.new.hand.seat.me.0 c.in-Err.ensures.none).ids

pub store_words-requires-clause-unlocked : goal.store_words-requires-clause-unlocked
store_words-requires-clause-unlocked g c = still_unlocked c.args.hand.now c.chunk_of.new.hand c.requires.ready.unlocked c.chunk_of.ensures.locks

pub store_words-requires-clause-room : goal.store_words-requires-clause-room
store_words-requires-clause-room g c =
    let fits = subst (λ (o : Option ℕ). IfSome o (λ class. IsClass c.classes.result.now class × (24 + 8 * length c.args.words.now ≤ size_of c.classes.result.now class))) c.in-Some.is c.class_for.ensures.fits in
    let table = c.args.arena.now.table.shared.key.table in
    words_fit table c.in-Some.class (length c.args.words.now) c.in-Ok.fresh.room (class_there table c.in-Some.class (subst (λ (t : Classes). IsClass t c.in-Some.class) c.classes.ensures.classes fits.0)) (subst (λ (t : Classes). 24 + 8 * length c.args.words.now ≤ size_of t c.in-Some.class) c.classes.ensures.classes fits.1) c.in-Ok.ensures.fresh.0

pub store_words-requires-clause-stamp : goal.store_words-requires-clause-stamp
store_words-requires-clause-stamp g c =
    let told = supplied_tells c.args.hand.now.number c.in-Some.class c.in-Ok.fresh.chunk c.args.hand.now.seat.me.0 c.chunk_of.new.hand.seat.me.0 c.in-Ok.ensures.supplies in
    ap next_stamp told.ids ∙ (sym c.next_stamp.ensures.stamp ∙ c.in-Some-next_stamp.is)

pub returns-in-Ok-store_words-clause-sets : goal.returns-in-Ok-store_words-clause-sets
returns-in-Ok-store_words-clause-sets g c =
    let hand = c.args.hand.now in
    let view : View = hand.seat.me.0 in
    let between : View = c.chunk_of.new.hand.seat.me.0 in
    let now : View = c.store_words.new.hand.seat.me.0 in
    let fresh = c.in-Ok.fresh in
    let told = supplied_tells hand.number c.in-Some.class fresh.chunk view between c.in-Ok.ensures.supplies in
    let number = number_stays hand c.chunk_of.new.hand told.ids in
    let setup = c.requires.arena.setup in (
      record {
        class = c.in-Some.class;
        fits = class_is view c.args.arena.now.table.shared.key c.classes.result.now c.args.words.now c.in-Some.class c.class_for.result setup c.classes.ensures.classes c.class_for.ensures.class c.in-Some.is;
        next = sym c.next_stamp.ensures.stamp ∙ c.in-Some-next_stamp.is;
        chunk = fresh.chunk;
        room = fresh.room;
        between = between;
        supplies = c.in-Ok.ensures.supplies;
        stores = subst (λ (p : ℕ × Setup). StoresItem c.args.expected p.0 (c.args.key % p.1.config.stripes) c.args.key c.in-Some-next_stamp.stamp fresh.chunk fresh.room (item_filled fresh.chunk (item_with c.args.key c.in-Some-next_stamp.stamp c.args.words.now) between) now)
            (λ k. (number k, sym setup k)) c.in-Ok-store_words.ensures.stores;
      },
      (c.in-Ok-store_words.ensures.hint.0, c.in-Ok-store_words.ensures.hint.1),
    )

pub returns-in-Ok-store_words-clause-calls : goal.returns-in-Ok-store_words-clause-calls
returns-in-Ok-store_words-clause-calls g c =
    let hand = c.args.hand.now in
    let view : View = hand.seat.me.0 in
    let between : View = c.chunk_of.new.hand.seat.me.0 in
    let told = supplied_tells hand.number c.in-Some.class c.in-Ok.fresh.chunk view between c.in-Ok.ensures.supplies in
    let number = number_stays hand c.chunk_of.new.hand told.ids in record {
      between = between;
      evicts = told.calls;
      sets = subst (λ (p : ℕ × Setup). RecordsCall p.0 (c.args.key % p.1.config.stripes) (Set p.0 c.args.key c.in-Some-next_stamp.stamp) between c.store_words.new.hand.seat.me.0) (λ k. (number k, sym c.requires.arena.setup k)) c.in-Ok-store_words.ensures.calls;
    }

pub returns-in-Ok-store_words-clause-stores_words : goal.returns-in-Ok-store_words-clause-stores_words
returns-in-Ok-store_words-clause-stores_words g c =
    let view : View = c.args.hand.now.seat.me.0 in
    let told = supplied_tells c.args.hand.now.number c.in-Some.class c.in-Ok.fresh.chunk view c.chunk_of.new.hand.seat.me.0 c.in-Ok.ensures.supplies in
    c.in-Ok-store_words.ensures.stores_words ∙ ap (λ (said : List StoredItem). said ++ record { stamp = c.in-Some-next_stamp.stamp; words = item_with c.args.key c.in-Some-next_stamp.stamp c.args.words.now } ∷ []) told.stored

pub returns-in-Err-store_words-clause-refused : goal.returns-in-Err-store_words-clause-refused
returns-in-Err-store_words-clause-refused g c =
    let view : View = c.args.hand.now.seat.me.0 in
    let between : View = c.chunk_of.new.hand.seat.me.0 in
    let fresh = c.in-Ok.fresh in
    let setup = c.requires.arena.setup in
    subst (λ (error : CompareError). RefusesCompare c.args.expected c.args.hand.now.number c.args.key c.args.words.now error view c.store_words.new.hand.seat.me.0) (sym c.refusal_of.ensures) (refuses_store c.args.expected c.args.hand.now.number c.args.key c.args.words.now c.in-Err-store_words.error view c.store_words.new.hand.seat.me.0 (record {
      class = c.in-Some.class;
      fits = class_is view c.args.arena.now.table.shared.key c.classes.result.now c.args.words.now c.in-Some.class c.class_for.result setup c.classes.ensures.classes c.class_for.ensures.class c.in-Some.is;
      stamp = c.in-Some-next_stamp.stamp;
      next = sym c.next_stamp.ensures.stamp ∙ c.in-Some-next_stamp.is;
      chunk = fresh.chunk;
      between = between;
      supplies = c.in-Ok.ensures.supplies;
      dead = subst (λ (s : Setup). LeavesDead (RefusesStore c.in-Err-store_words.error c.args.expected c.args.key) (c.args.key % s.config.stripes) fresh.chunk (item_filled fresh.chunk (item_with c.args.key c.in-Some-next_stamp.stamp c.args.words.now) between) c.store_words.new.hand.seat.me.0) (sym setup) c.in-Err-store_words.ensures.lost;
    }))

-- what was told until then is all
told_here : {Is : ReadyStripe → Type 0} (number class key stamp stripe : ℕ) (chunk : ChunkId) (words : List ℕ) (view between now : View) → HoldsSlabs (SuppliesChunk number class chunk) view between → LeavesDead Is stripe chunk (item_filled chunk (item_with key stamp words) between) now → Tells number view now
told_here number class key stamp stripe chunk words view between now supplies dead =
    tells_before number view between now (supplied_tells number class chunk view between supplies) (dead_tells stripe chunk (item_filled chunk (item_with key stamp words) between) now dead)

pub returns-in-Err-store_words-clause-evicts : goal.returns-in-Err-store_words-clause-evicts
returns-in-Err-store_words-clause-evicts g c =
    (told_here c.args.hand.now.number c.in-Some.class c.args.key c.in-Some-next_stamp.stamp _ c.in-Ok.fresh.chunk c.args.words.now c.args.hand.now.seat.me.0 c.chunk_of.new.hand.seat.me.0 c.store_words.new.hand.seat.me.0 c.in-Ok.ensures.supplies c.in-Err-store_words.ensures.lost).calls

pub returns-in-Err-store_words-clause-stores_nothing : goal.returns-in-Err-store_words-clause-stores_nothing
returns-in-Err-store_words-clause-stores_nothing g c =
    (told_here c.args.hand.now.number c.in-Some.class c.args.key c.in-Some-next_stamp.stamp _ c.in-Ok.fresh.chunk c.args.words.now c.args.hand.now.seat.me.0 c.chunk_of.new.hand.seat.me.0 c.store_words.new.hand.seat.me.0 c.in-Ok.ensures.supplies c.in-Err-store_words.ensures.lost).stored

pub returns-in-Err-store_words-clause-stamps : goal.returns-in-Err-store_words-clause-stamps
returns-in-Err-store_words-clause-stamps g c =
    (told_here c.args.hand.now.number c.in-Some.class c.args.key c.in-Some-next_stamp.stamp _ c.in-Ok.fresh.chunk c.args.words.now c.args.hand.now.seat.me.0 c.chunk_of.new.hand.seat.me.0 c.store_words.new.hand.seat.me.0 c.in-Ok.ensures.supplies c.in-Err-store_words.ensures.lost).ids

pub returns-in-Err-clause-holdings : goal.returns-in-Err-clause-holdings
returns-in-Err-clause-holdings g c =
    let hand = c.args.hand.now in
    let now = c.chunk_of.new.hand in
    let none = c.in-Err.ensures.none in
    let told = refused_tells hand.number c.in-Some.class c.in-Err.error hand.seat.me.0 now.seat.me.0 none in
    holdings_stay hand.seat.me.0 now.seat.me.0 (refused_holds hand.number c.in-Some.class c.in-Err.error hand.seat.me.0 now.seat.me.0 none) told.known

pub returns-in-Err-clause-hand : goal.returns-in-Err-clause-hand
returns-in-Err-clause-hand g c =
    hand_still c.args.arena.now c.args.hand.now c.chunk_of.new.hand c.chunk_of.ensures.arena c.chunk_of.ensures.locks (returns-in-Err-clause-holdings g c).same (returns-in-Err-clause-stamps g c) c.requires.ready

pub returns-in-Ok-store_words-clause-holdings : goal.returns-in-Ok-store_words-clause-holdings
returns-in-Ok-store_words-clause-holdings g c =
    let hand = c.args.hand.now in
    let view : View = hand.seat.me.0 in
    let between : View = c.chunk_of.new.hand.seat.me.0 in
    let now = c.store_words.new.hand in
    let fresh = c.in-Ok.fresh in
    let stamp = c.in-Some-next_stamp.stamp in
    let words = item_with c.args.key stamp c.args.words.now in
    let gains = supplied_gains hand.number c.in-Some.class fresh.chunk view between c.in-Ok.ensures.supplies in
    let told = supplied_tells hand.number c.in-Some.class fresh.chunk view between c.in-Ok.ensures.supplies in
    stored_keeps fresh.chunk words view between c.requires.ready.unfilled gains c.in-Ok.ensures.own c.chunk_of.new.hand.number _ c.args.key stamp fresh.room now.seat.me.0 c.in-Ok-store_words.ensures.stores told.known

pub returns-in-Ok-store_words-clause-hand : goal.returns-in-Ok-store_words-clause-hand
returns-in-Ok-store_words-clause-hand g c =
    let hand = c.args.hand.now in
    let view : View = hand.seat.me.0 in
    let between : View = c.chunk_of.new.hand.seat.me.0 in
    let now = c.store_words.new.hand in
    let fresh = c.in-Ok.fresh in
    let stamp = c.in-Some-next_stamp.stamp in
    let words = item_with c.args.key stamp c.args.words.now in
    let gains = supplied_gains hand.number c.in-Some.class fresh.chunk view between c.in-Ok.ensures.supplies in
    let told = supplied_tells hand.number c.in-Some.class fresh.chunk view between c.in-Ok.ensures.supplies in record {
      arena = c.store_words.ensures.arena;
      ready = ready_still hand now (c.store_words.ensures.locks ∙ c.chunk_of.ensures.locks) (returns-in-Ok-store_words-clause-holdings g c).same c.requires.ready;
      locks = c.store_words.ensures.locks ∙ c.chunk_of.ensures.locks;
      number = number_kept hand now (ap (λ (i : Ids). i.number) (stored_ids fresh.chunk words view between c.requires.ready.unfilled gains c.in-Ok.ensures.own c.chunk_of.new.hand.number _ c.args.key stamp fresh.room now.seat.me.0 c.in-Ok-store_words.ensures.stores ∙ ap ids_after_stamp told.ids));
    }

pub returns-in-Err-store_words-clause-holdings : goal.returns-in-Err-store_words-clause-holdings
returns-in-Err-store_words-clause-holdings g c =
    let hand = c.args.hand.now in
    let view : View = hand.seat.me.0 in
    let between : View = c.chunk_of.new.hand.seat.me.0 in
    let now = c.store_words.new.hand in
    let fresh = c.in-Ok.fresh in
    let stamp = c.in-Some-next_stamp.stamp in
    let words = item_with c.args.key stamp c.args.words.now in
    let gains = supplied_gains hand.number c.in-Some.class fresh.chunk view between c.in-Ok.ensures.supplies in
    let told = supplied_tells hand.number c.in-Some.class fresh.chunk view between c.in-Ok.ensures.supplies in
    dead_keeps fresh.chunk words view between c.requires.ready.unfilled gains c.in-Ok.ensures.own _ now.seat.me.0 c.in-Err-store_words.ensures.lost told.known

pub returns-in-Err-store_words-clause-hand : goal.returns-in-Err-store_words-clause-hand
returns-in-Err-store_words-clause-hand g c =
    hand_still c.args.arena.now c.args.hand.now c.store_words.new.hand c.store_words.ensures.arena (c.store_words.ensures.locks ∙ c.chunk_of.ensures.locks) (returns-in-Err-store_words-clause-holdings g c).same (returns-in-Err-store_words-clause-stamps g c) c.requires.ready
