-- What lies behind a lock, when a hand takes it.
use Rattle.std.proofs.Common.{◌≡◌, ℕ, ◌<◌, ◌%◌, ◌==◌, [], None, Some, sym, ap, subst, ◌∙◌, arith, zero-add, eqb-true, ltb-true, All, List, length, slice_index, slice_index_or, filter, map}
use Rattle.std.specs.List.{slice_get}
use Rattle.std.proofs.lemmas.Bool.{and_parts}
use Rattle.std.proofs.lemmas.Option.{slice_get-get_or}
use Rattle.std.proofs.lemmas.List.Elements.{All-weaker}
use Rattle.std.proofs.lemmas.List.FromFn.{get_or-map-range_with_len}
use Rattle.mc_classes.specs.Classes.{Classes}
use Rattle.mc_pages.specs.ClassState.{times_in}
use Rattle.mc_pages.specs.SlabState.{SlabState, class_of_chunk}
use Rattle.mc_stripe.specs.StripeState.{ReadyStripe, new_stripe}
use Rattle.mc_stripe.specs.Legal.{IsLegal}
use Rattle.mc_core.specs.declared.event.Step.TheVariants as core
use Rattle.mc_core.specs.declared.holding.Holding.{Holding}
use Rattle.mc_core.specs.model.InOrder.{IsOfTable}
use Rattle.mc_core.specs.past.Past.{Moment, moment_stepped}
use Rattle.mc_core.specs.model.State.{has_slabs, has_stripe, stripe_at, holdings_at}
use Rattle.mc_core.specs.run.Locks.{has_stripes}
use Rattle.mc_core.specs.model.Views.{held_slabs, held_stripe}
use Rattle.mc_core.proofs.Steps.Base.{IsOut, held_out, placed_at}
use Rattle.mc_words.specs.hand.View.{View}
use Rattle.mc_words.specs.rule.Happens.{Happens}
use Rattle.mc_words.specs.lock.Lent.{IsLent, IsLentStripe, BeginsWithSeen}
use Rattle.mc_stripe.specs.declared.history.Call.{Call}
use Rattle.std.proofs.lemmas.List.{get_or-map}
use Rattle.mc_core.specs.law.Histories.{hand_of}
use Rattle.mc_core.specs.past.Past.{Own}
use Rattle.mc_words.proofs.Locks.LockViews.{may_step, lock_count, rows_there, taken_stripe}
use Rattle.mc_words.proofs.Locks.TakeAndGive.{held_from}

-- a chunk that stands once in the order of its class
abbrev StandsOnce : SlabState → Holding → Type 0
StandsOnce slabs holding = times_in holding.chunk (class_of_chunk slabs holding.chunk).order ≡ 1

-- pages and lists that are taken are as the law has them
pub lent_slabs : (view now : View) (slabs : SlabState) → Happens view [] core.TakeSlabs now → now.slabs ≡ Some slabs → IsLent now slabs
lent_slabs view now slabs h mine =
    let m : Moment = h.was.moment in
    let id : ℕ = h.was.hand in
    let l = h.was.lawful in
    let after : Moment = moment_stepped m id core.TakeSlabs in
    let held : held_slabs after.state id ≡ Some slabs = ap (λ (v : View). v.slabs) (sym h.is) ∙ mine in
    let same : m.state.slabs ≡ slabs = (held_from (has_slabs after.state id) m.state.slabs slabs held).1 in
    let table : m.state.table ≡ now.setup.table = h.was.same_table ∙ ap (λ (v : View). v.setup.table) (sym h.is) in
    let held_ones : All (StandsOnce m.state.slabs) (holdings_at m.state id) =
    All-weaker (IsOut m l) (StandsOnce m.state.slabs) (λ holding out. (placed_at m l holding.chunk holding.issue out.0 out.1).1) (holdings_at m.state id) (held_out m l id) in
    record {
      mine = mine;
      accounted = subst (λ (p : Classes × SlabState). IsOfTable p.0 p.1) (λ k. (table k, same k)) l.paged.of_table;
      whole = ap (λ (s : SlabState). s.uncut) (sym same) ∙ l.paged.whole (eqb-true m.state.slabs_lock 0 (may_step h).allowed);
      kept = subst (λ (p : SlabState × List Holding). All (StandsOnce p.0) p.1) (λ k. (same k, ap (λ (v : View). v.row.holdings) (sym h.is) k)) held_ones;
    }

-- and so is a stripe
pub lent_stripe : (view now : View) (stripe : ℕ) (value : ReadyStripe) → Happens view [] (core.TakeStripe stripe) now → slice_index_or now.stripes stripe None ≡ Some value → IsLentStripe now stripe value
lent_stripe view now stripe value h mine =
    let m : Moment = h.was.moment in
    let id : ℕ = h.was.hand in
    let l = h.was.lawful in
    let after : Moment = moment_stepped m id (core.TakeStripe stripe) in
    let can = and_parts (has_stripes m.state stripe) (slice_index m.state.stripe_locks stripe == 0) (may_step h).allowed in
    let count = lock_count view now h.was in
    let in_range : stripe < length m.state.stripe_locks = ltb-true stripe (length m.state.stripe_locks) can.0 in
    let long = h.was.stripes in
    let held : held_stripe after.state id stripe ≡ Some value =
    sym (get_or-map-range_with_len (held_stripe after.state id) 0 view.setup.config.stripes stripe stripe None (omega arith) (zero-add stripe)) ∙ (ap (λ (v : View). slice_index_or v.stripes stripe None) (sym h.is) ∙ mine) in
    let same : stripe_at m.state stripe ≡ value = (held_from (has_stripe after.state id stripe) (stripe_at m.state stripe) value held).1 in
    let here : slice_get m.state.stripes stripe ≡ Some value = slice_get-get_or m.state.stripes stripe new_stripe (omega arith) ∙ ap Some same in
    let free : slice_get m.state.stripe_locks stripe ≡ Some 0 = slice_get-get_or m.state.stripe_locks stripe 0 in_range ∙ ap Some (eqb-true (slice_index m.state.stripe_locks stripe) 0 can.1) in
    let stripes : length m.state.stripes ≡ now.setup.config.stripes = h.was.stripes ∙ ap (λ (v : View). v.setup.config.stripes) (sym h.is) in
    let calls_of : ℕ → ReadyStripe → List Call = λ number value. filter (λ call. hand_of call == number) value.state.history in
    let own_row : All (λ (own : Own). own.calls ≡ map (calls_of own.number) m.state.stripes) (slice_index_or m.past.mine id []) =
    l.told.own_calls id [] (let rows = l.rows.mine in let there = rows_there view h.was in omega arith) in
    let mine_same : slice_index_or m.past.mine id [] ≡ now.row.knows.mine = ap (λ (v : View). v.row.knows.mine) (sym h.was.is) ∙ ap (λ (v : View). v.row.knows.mine) (sym (taken_stripe view now stripe value h mine)) in
    let own_calls : All (λ (own : Own). slice_index_or own.calls stripe [] ≡ calls_of own.number value) now.row.knows.mine =
    subst (All (λ (own : Own). slice_index_or own.calls stripe [] ≡ calls_of own.number value)) mine_same
    (All-weaker (λ (own : Own). own.calls ≡ map (calls_of own.number) m.state.stripes) (λ (own : Own). slice_index_or own.calls stripe [] ≡ calls_of own.number value)
    (λ own e. ap (λ (rows : List (List Call)). slice_index_or rows stripe []) e ∙ (get_or-map (calls_of own.number) m.state.stripes stripe new_stripe [] (omega arith) ∙ ap (calls_of own.number) same)) (slice_index_or m.past.mine id []) own_row) in
    record {
      mine = mine;
      legal = subst (λ (v : ReadyStripe). IsLegal v.state) same (l.legal.legal stripe new_stripe (omega arith));
      whole = l.legal.free stripe value free here;
      own = own_calls;
      keys = λ key place found. subst (λ (n : ℕ). key % n ≡ stripe) stripes (l.indexed.entries stripe key place.1 value place.0 here found).0;
    }

-- its history begins with all that the hand had seen
pub begins_with_seen : (view now : View) (stripe : ℕ) (value : ReadyStripe) → Happens view [] (core.TakeStripe stripe) now → slice_index_or now.stripes stripe None ≡ Some value → BeginsWithSeen view stripe value
begins_with_seen view now stripe value h mine seen is =
    let m : Moment = h.was.moment in
    let id : ℕ = h.was.hand in
    let l = h.was.lawful in
    let after : Moment = moment_stepped m id (core.TakeStripe stripe) in
    let can = and_parts (has_stripes m.state stripe) (slice_index m.state.stripe_locks stripe == 0) (may_step h).allowed in
    let count = lock_count view now h.was in
    let in_range : stripe < length m.state.stripe_locks = ltb-true stripe (length m.state.stripe_locks) can.0 in
    let long = h.was.stripes in
    let held : held_stripe after.state id stripe ≡ Some value =
    sym (get_or-map-range_with_len (held_stripe after.state id) 0 view.setup.config.stripes stripe stripe None (omega arith) (zero-add stripe)) ∙ (ap (λ (v : View). slice_index_or v.stripes stripe None) (sym h.is) ∙ mine) in
    let same : stripe_at m.state stripe ≡ value = (held_from (has_stripe after.state id stripe) (stripe_at m.state stripe) value held).1 in
    let here : slice_get m.state.stripes stripe ≡ Some value = slice_get-get_or m.state.stripes stripe new_stripe (omega arith) ∙ ap Some same in
    let row : slice_get (slice_index_or m.past.seen id []) stripe ≡ Some seen = ap (λ (v : View). slice_get v.row.knows.seen stripe) (sym h.was.is) ∙ is in
    l.told.begun id [] (let rows = l.rows.seen in let there = rows_there view h.was in omega arith) stripe seen value row here
