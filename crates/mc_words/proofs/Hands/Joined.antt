-- Two idle hands become one: the only event that changes two views.
use Rattle.std.proofs.Common.{◌≡◌, ◌≢◌, ◌⊎◌, ℕ, zero, suc, ◌+◌, ◌<◌, ◌==◌, not, Bool, true, false, List, [], ◌∷◌, length, map, Option, Some, None, refl, sym, ap, subst, ◌∙◌, inl, inr, arith, zero-add, slice_set, slice_index, slice_index_or, is_some, is_none, if◌then◌else◌, eq-eqb, ne_eqb, length-set, get_or-set_same, get_or-set_other, ◌++◌}
use Rattle.std.proofs.lemmas.Bool.{and_from, and_parts}
use Rattle.std.proofs.lemmas.List.{map-set, set-get_or}
use Rattle.std.proofs.lemmas.List.Folds.{list_all-map}
use Rattle.std.specs.List.{list_all, range_with_len}
use mathlib.Core.Option.{some, none}
use lib.ListN.{get_elem?}
use Rattle.atomic_table.specs.Table as table
use Rattle.atomic_table.specs.Table.{Joins, Allows, keeps}
use Rattle.atomic_table.proofs.Lists.{at_set, set_else, set_again, at_map}
use Rattle.mc_core.specs.declared.event.Step.TheVariants as core
use Rattle.mc_core.specs.declared.ids.Ids.{Ids}
use Rattle.mc_core.specs.model.State.{State, no_ids, is_held_by, is_hand, number_at, has_slabs, has_stripe, holdings_at, stripe_at}
use Rattle.mc_core.specs.run.Hands as hands
use Rattle.mc_core.specs.law.Frame.{HasSame}
use Rattle.mc_core.specs.model.Columns.{Each}
use Rattle.mc_core.specs.model.Holdings.{stamp_in_words}
use Rattle.mc_core.specs.law.Knowing.{WasStored}
use Rattle.mc_core.specs.law.Lawful.{IsLawful}
use Rattle.mc_core.specs.past.Past.{Moment, knowledge_at, moment_stepped}
use Rattle.mc_core.proofs.Hands.MoreRows.{each_contained}
use Rattle.mc_core.proofs.Histories.SaidOnce.{said_one}
use Rattle.mc_core.specs.model.Views.{Row, hand_row, held_stripe}
use Rattle.mc_core.specs.law.Laws.{MayStep}
use Rattle.mc_core.proofs.Frame.Framed.{framed_steps}
use Rattle.mc_core.proofs.Known.Learns.{are_learned}
use Rattle.mc_core.proofs.Law.LawKept.{lawful_steps}
use Rattle.mc_core.proofs.Steps.Plays.{hand_there}
use Rattle.mc_words.specs.declared.lock.slot.Slot.{Slot}
use Rattle.mc_words.specs.declared.lock.slot.Slot.TheVariants.{Empty, OfSlabs, OfStripe}
use Rattle.mc_core.specs.declared.event.Event.{Event}
use Rattle.mc_words.specs.hand.View.{OwnEvent, Setup, View, events_of, joined, view_at, new_view, spent_view, both_views, just_made, settled_view}
use Rattle.mc_words.specs.rule.Meaning.{WordsOfTable, Has, IsViewOf, IsRuled}
use Rattle.mc_words.specs.rule.Happens.{LawfulView, event_of}
use Rattle.mc_words.specs.hand.Idle.{is_unlocked, is_idle}
use Rattle.mc_words.specs.rule.Told.{Sits}
use Rattle.mc_words.specs.declared.lock.locks.Locks.{Locks}
use Rattle.mc_words.specs.declared.lock.locks.Locks.TheVariants.{Neither, Slabs, Stripe, SlabsLast, StripeLast}
use Rattle.mc_words.specs.lock.Out.{slots_out, slots_in, is_neither, IsNoted}
use Rattle.mc_words.proofs.Locks.Unlocked.{unlocked_from}
use Rattle.mc_words.specs.rule.Joins as joining
use Rattle.mc_words.proofs.Rules.NextMoments.{there_if, within, lawful_view, others_made, own_made}
use Rattle.mc_words.proofs.Rules.Reached.{leads_stepped}
use Rattle.mc_words.proofs.Rules.Settled.{IsSettled, settled_same, not_made}

-- a value that is kept from who hasn't its lock
none_held : {X : Type 0} (b : Bool) (x : X) → is_none (if b then Some x else None) ≡ true → b ≡ false
none_held true x e = absurd (cc)
none_held false x e = refl

all_from : (p : ℕ → Bool) (xs : List ℕ) → ((i : ℕ) → i < length xs → p (slice_index xs i) ≡ true) → list_all p xs ≡ true
all_from p [] each = refl
all_from p (x ∷ xs) each = and_from (p x) (list_all p xs) (each 0 (omega arith)) (all_from p xs (λ i in_range. each (suc i) (omega arith)))

-- what holds of each number of a range
each_in : (p : ℕ → Bool) (first count : ℕ) → list_all p (range_with_len first count) ≡ true → (i : ℕ) → i < count → p (first + i) ≡ true
each_in p first zero all i in_range = absurd (omega arith)
each_in p first (suc count) all zero in_range = let e : first + 0 ≡ first = omega arith in ap p e ∙ (and_parts (p first) (list_all p (range_with_len (first + 1) count)) all).0
each_in p first (suc count) all (suc i) in_range =
    let e : first + suc i ≡ (first + 1) + i = omega arith in
    ap p e ∙ each_in p (first + 1) count (and_parts (p first) (list_all p (range_with_len (first + 1) count)) all).1 i (omega arith)

-- the same pages, lists and stripes
has_same : (s now : State) → now.slabs ≡ s.slabs → now.stripes ≡ s.stripes → (lock : ℕ) (slot : Slot) → Has s lock slot → Has now lock slot
has_same s now slabs stripes zero Empty has = absurd has
has_same s now slabs stripes zero (OfSlabs value) has = has ∙ sym slabs
has_same s now slabs stripes zero (OfStripe value) has = absurd has
has_same s now slabs stripes (suc i) Empty has = absurd has
has_same s now slabs stripes (suc i) (OfSlabs value) has = absurd has
has_same s now slabs stripes (suc i) (OfStripe value) has = has ∙ ap (λ all. slice_index_or all i Rattle.mc_stripe.specs.StripeState.new_stripe) (sym stripes)

-- a hand whose view is idle is idle in the moment
idle_from : (setup : Setup) (events : List OwnEvent) (m : Moment) (hand : ℕ) (v : View) → length m.state.stripe_locks ≡ setup.config.stripes → v ≡ view_at setup v.spare events m hand → is_idle v ≡ true → hands.is_hand_idle m.state hand ≡ true
idle_from setup events m hand v count is idle =
    let parts = and_parts (is_unlocked v) (length v.row.holdings == 0) idle in
    let locks = and_parts (is_none v.slabs) (list_all is_none v.stripes) parts.0 in
    let slabs = none_held (has_slabs m.state hand) m.state.slabs (ap (λ (u : View). is_none u.slabs) (sym is) ∙ locks.0) in
    let all : list_all (λ stripe. is_none (held_stripe m.state hand stripe)) (range_with_len 0 setup.config.stripes) ≡ true =
    sym (list_all-map is_none (held_stripe m.state hand) (range_with_len 0 setup.config.stripes)) ∙ (ap (λ (u : View). list_all is_none u.stripes) (sym is) ∙ locks.1) in
    let stripes = all_from (λ word. not (is_held_by word (number_at m.state hand))) m.state.stripe_locks
    (λ i in_range.
    let each = each_in (λ stripe. is_none (held_stripe m.state hand stripe)) 0 setup.config.stripes all i (omega arith) in
    ap not (none_held (has_stripe m.state hand i) (stripe_at m.state i) (ap (λ j. is_none (held_stripe m.state hand j)) (sym (zero-add i)) ∙ each))) in
    let none : (length (holdings_at m.state hand) == 0) ≡ true = ap (λ (u : View). length u.row.holdings == 0) (sym is) ∙ parts.1 in
    and_from _ _ (and_from _ _ (ap not slabs) stripes) none

-- what a moment has of a hand that has the same
view_same : (setup : Setup) (spare : ℕ) (events : List OwnEvent) (m now : Moment) (hand : ℕ) → HasSame m now hand → view_at setup spare events now hand ≡ view_at setup spare events m hand
view_same setup spare events m now hand same = λ k. record {
  setup = setup;
  spare = spare;
  events = events;
  row = same.row k;
  slabs = same.slabs k;
  stripes = map (λ stripe. same.stripes stripe k) (range_with_len 0 setup.config.stripes);
  made_of = None;
}

module _ (setup : Setup) (t : WordsOfTable) (r : IsRuled setup t) (id other : ℕ) (v w : View) (at : get_elem? t.views id ≡ some v) (at_other : get_elem? t.views other ≡ some w) (apart : other ≢ id) (numbered : is_some v.row.ids.number ≡ true) (numbered_too : is_some w.row.ids.number ≡ true) (of : v.setup ≡ setup) (idle : is_idle v ≡ true) (idle_too : is_idle w ≡ true) where
  abbrev m : Moment
  m = r.moment

  abbrev after : Moment
  after = moment_stepped m id (core.Join id other)

  here : (is_hand m.state id ≡ true) × (v ≡ view_at setup v.spare (events_of id r.run) m id)
  here = there_if setup r.run m id v (r.means.views id v at) numbered

  here_too : (is_hand m.state other ≡ true) × (w ≡ view_at setup w.spare (events_of other r.run) m other)
  here_too = there_if setup r.run m other w (r.means.views other w at_other) numbered_too

  locks : length m.state.stripe_locks ≡ setup.config.stripes
  locks = r.lawful.legal.lock_count ∙ r.means.stripes

  can : hands.can_join m.state id id other ≡ true
  can =
      and_from _ _ (and_from _ _ (and_from _ _ (and_from _ _ (eq-eqb id id refl) (ap not (ne_eqb id other (λ e. apart (sym e))))) here_too.0) (idle_from setup (events_of id r.run) m id v locks here.1 idle)) (idle_from setup (events_of other r.run) m other w locks here_too.1 idle_too)

  may : MayStep m id (core.Join id other)
  may = record { lawful = r.lawful; there = here.0; allowed = can }

  first : id < length m.state.ids
  first = hand_there m.state id here.0

  second : other < length m.state.ids
  second = hand_there m.state other here_too.0

  ids_kept : Rattle.mc_core.specs.model.State.ids_at after.state id ≡ Rattle.mc_core.specs.model.State.ids_at m.state id
  ids_kept = get_or-set_other m.state.ids other id no_ids no_ids (λ e. apart (sym e))

  -- the join is an event of the one hand
  abbrev event : Event
  event = event_of id [] (core.Join id other)

  made_before : v.events ≡ events_of id r.run
  made_before = ap (λ (u : View). u.events) here.1

  -- what is known of the one hand
  pub kept_view : view_at setup v.spare (v.events ++ joined ∷ []) after id ≡ both_views v w
  kept_view =
      let now : view_at setup v.spare (events_of id r.run ++ joined ∷ []) after id ≡ record (view_at setup v.spare (events_of id r.run) m id) { events = events_of id r.run ++ joined ∷ []; row = record (hand_row m id) { knows = Rattle.mc_core.specs.past.Learns.both_know (hand_row m id).knows (hand_row m other).knows } } = λ k. record {
        setup = setup;
        spare = v.spare;
        events = events_of id r.run ++ joined ∷ [];
        row = record {
          ids = ids_kept k;
          holdings = holdings_at m.state id;
          looks = get_or-set_other m.state.looks other id [] [] (λ e. apart (sym e)) k;
          knows = (are_learned.joins m id other may).0 k;
        };
        slabs = ap (λ (ids : Ids). if is_held_by m.state.slabs_lock ids.number then Some m.state.slabs else None) ids_kept k;
        stripes = map (λ stripe. ap (λ (ids : Ids). if is_held_by (slice_index m.state.stripe_locks stripe) ids.number then Some (stripe_at m.state stripe) else None) ids_kept k) (range_with_len 0 setup.config.stripes);
        made_of = None;
      } in
      ap (λ (events : List OwnEvent). view_at setup v.spare (events ++ joined ∷ []) after id) made_before ∙ (now ∙ (λ k. both_views (sym here.1 k) (sym here_too.1 k)))

  none_left : is_hand after.state other ≡ false
  none_left = ap (λ (ids : Ids). is_some ids.number) (get_or-set_same m.state.ids other no_ids no_ids second)

  is_kept : IsViewOf setup (r.run ++ event ∷ []) after id (both_views v w)
  is_kept = record {
    there = λ _. sym kept_view ∙ ap (λ (events : List OwnEvent). view_at setup v.spare events after id) (own_made setup t r id v at event refl made_before);
    gone = λ none. absurd (let e : true ≡ false = sym here.0 ∙ (ap (λ (ids : Ids). is_some ids.number) (sym ids_kept) ∙ none) in cc);
  }

  is_spent : IsViewOf setup (r.run ++ event ∷ []) after other spent_view
  is_spent = record {
    there = λ there. absurd (let e : true ≡ false = sym there ∙ none_left in cc);
    gone = λ none. refl;
  }

  is_else : (hand : ℕ) (view : View) → hand ≢ id → hand ≢ other → IsViewOf setup r.run m hand view → IsViewOf setup (r.run ++ event ∷ []) after hand view
  is_else hand view a b old =
      let same = (framed_steps m id (core.Join id other) may).others hand (a, ne_eqb other hand (λ e. b (sym e))) in
      let still : is_hand after.state hand ≡ is_hand m.state hand = ap (λ (row : Row). is_some row.ids.number) same.row in record {
        there = λ there. old.there (sym still ∙ there)
            ∙ (sym (view_same setup view.spare (events_of hand r.run) m after hand same) ∙ ap (λ (events : List OwnEvent). view_at setup view.spare events after hand) (sym (others_made setup t r id v at event refl hand a)));
        gone = λ none. old.gone (sym still ∙ none);
      }

  -- the rule holds after it
  pub ruled_joined : IsRuled setup (record { words = t.words; homes = t.homes; views = slice_set (slice_set t.views id (both_views v w)) other spent_view })
  ruled_joined =
      let means = r.means in
      let long : length (slice_set (slice_set t.views id (both_views v w)) other spent_view) ≡ length t.views = length-set (slice_set t.views id (both_views v w)) other spent_view ∙ length-set t.views id (both_views v w) in
      let which : (hand : ℕ) (view : View) → get_elem? (slice_set (slice_set t.views id (both_views v w)) other spent_view) hand ≡ some view
      → ((hand ≡ other) × (spent_view ≡ view)) ⊎ (((hand ≡ id) × (both_views v w ≡ view)) ⊎ ((hand ≢ id) × (hand ≢ other) × (get_elem? t.views hand ≡ some view))) =
      λ hand view at_view. elim (at_set (slice_set t.views id (both_views v w)) other hand spent_view view at_view) [
        | inl last ↦ inl last
        | inr differs ↦ elim (at_set t.views id hand (both_views v w) view differs.1) [ inl one ↦ inr (inl one) | inr rest ↦ inr (inr (rest.0, differs.0, rest.1)) ]
      ] in
      record {
        moment = after;
        run = r.run ++ event ∷ [];
        cuts = r.cuts;
        lawful = lawful_steps m id (core.Join id other) may;
        reached = leads_stepped setup r.run m id (core.Join id other) r.reached here.0 can;
        means = record {
          same_table = means.same_table;
          hands = length-set m.state.ids other no_ids ∙ means.hands;
          stripes = means.stripes;
          words = means.words;
          cut = means.cut;
          homes = λ lock in_range free. let (slot, home, has) = means.homes lock in_range free in (slot, home, has_same m.state after.state refl refl lock slot has);
          slots = means.slots;
          views = λ hand view at_view. elim (which hand view at_view) [
            | inl last ↦ subst (λ (p : ℕ × View). IsViewOf setup (r.run ++ event ∷ []) after p.0 p.1) (λ k. (sym last.0 k, last.1 k)) is_spent
            | inr rest ↦ elim rest [
              | inl one ↦ subst (λ (p : ℕ × View). IsViewOf setup (r.run ++ event ∷ []) after p.0 p.1) (λ k. (sym one.0 k, one.1 k)) is_kept
              | inr neither ↦ is_else hand view neither.0 neither.1 (means.views hand view neither.2)
            ]
          ];
          most = let within_limit = means.most in omega arith;
          made = λ hand view at_view more. elim (which hand view at_view) [
            | inl last ↦ absurd (let e : 0 ≡ view.spare = ap (λ (x : View). x.spare) last.1 in omega arith)
            | inr rest ↦ elim rest [
              | inl one ↦
                  let e : v.spare ≡ view.spare = ap (λ (x : View). x.spare) one.1 in
                  let old = means.made id v at (omega arith) in (one.0 ∙ old.0, (let sum = old.1 in omega arith))
              | inr neither ↦ let old = means.made hand view neither.2 more in (old.0, (let sum = old.1 in omega arith))
            ]
          ];
          unmade = λ hand past within_limit. let a = within t.views id v at in let b = within t.views other w at_other in
              is_else hand (new_view setup hand 0) (λ e. omega arith) (λ e. omega arith) (means.unmade hand (omega arith) within_limit);
        };
      }

  -- and it was this event
  pub joins : joining.Joins v w.row w.events (both_views v w)
  joins = record {
    was = lawful_view setup t r id v at numbered of;
    spent = other;
    row_is = ap (λ (u : View). u.row) here_too.1;
    events_are = ap (λ (u : View). u.events) here_too.1;
    allowed = and_from _ _ here.0 can;
    is = sym kept_view ∙ ap (λ (s : Setup). view_at s v.spare (v.events ++ joined ∷ []) after id) (sym of);
  }

-- what is in an option of rows
abbrev rows_in : Option (Row × Row × List OwnEvent × List OwnEvent) → Row × Row × List OwnEvent × List OwnEvent → Row × Row × List OwnEvent × List OwnEvent
rows_in None default = default
rows_in (Some rows) default = rows

-- so it may be made, and one that was made is told of it
module _ (setup : Setup) (id : ℕ) (v w : View) (live : IsSettled v) (of : v.setup ≡ setup) where
  settled_both : settled_view (just_made v w) ≡ both_views v w
  settled_both = ap (λ made. record (both_views v w) { made_of = made }) (sym live.1)

  made_both : joining.Joins v w.row w.events (both_views v w) → joining.IsMade (just_made v w)
  made_both joins kept spent own others made =
      let same : (v.row, w.row, v.events, w.events) ≡ (kept, spent, own, others) = ap (λ o. rows_in o (v.row, w.row, v.events, w.events)) made in
      subst (λ (p : View × (Row × (List OwnEvent × View))). joining.Joins p.0 p.1.0 p.1.1.0 p.1.1.1)
      (λ k. (record v { events = (same k).2; row = (same k).0; made_of = live.1 k }, ((same k).1, ((same k).3, sym settled_both k)))) joins

  pub unites : (other : ℕ) → IsSettled w → is_idle v ≡ true → is_idle w ≡ true → Joins (joining.Rule setup) id v other w (just_made v w) spent_view
  unites other live_too idle idle_too t rule at apart at_other =
      let at_kept : get_elem? (map settled_view t.views) id ≡ some v = at_map settled_view t.views id v at ∙ ap some (settled_same v live.1) in
      let there : get_elem? t.views other ≡ some w = sym (set_else t.views id other (just_made v w) apart) ∙ at_other in
      let at_spent : get_elem? (map settled_view t.views) other ≡ some w = at_map settled_view t.views other w there ∙ ap some (settled_same w live_too.1) in
      let ruled = ruled_joined setup (joining.all_settled t) rule.ruled id other v w at_kept at_spent apart live.0 live_too.0 of idle idle_too in
      let happened = joins setup (joining.all_settled t) rule.ruled id other v w at_kept at_spent apart live.0 live_too.0 of idle idle_too in
      let views : slice_set (slice_set (map settled_view t.views) id (both_views v w)) other spent_view ≡ map settled_view (slice_set (slice_set t.views id (just_made v w)) other spent_view) =
      ap (λ (views : List View). slice_set views other spent_view) (ap (slice_set (map settled_view t.views) id) (sym settled_both) ∙ sym (map-set settled_view t.views id (just_made v w)))
      ∙ sym (map-set settled_view (slice_set t.views id (just_made v w)) other spent_view) in
      record {
        ruled = subst (λ (views : List View). IsRuled setup (record { words = t.words; homes = t.homes; views = views })) views ruled;
        made = λ hand view at_view. elim (at_set (slice_set t.views id (just_made v w)) other hand spent_view view at_view) [
          | inl last ↦ subst joining.IsMade last.1 (not_made spent_view refl)
          | inr differs ↦ elim (at_set t.views id hand (just_made v w) view differs.1) [
            | inl one ↦ subst joining.IsMade one.1 (made_both happened)
            | inr rest ↦ rule.made hand view rest.1
          ]
        ];
      }

pub tells_made : (setup : Setup) (slots id : ℕ) (me : Sits) → is_some me.0.row.ids.number ≡ true → me.0.setup ≡ setup → (place a b : ℕ) → Allows (joining.Rule setup) slots id me place (λ n. n) (joining.ShowsMade (table.step slots place a b none) me)
tells_made setup slots id me numbered of place a b t rule long at fits =
    let now : View = settled_view me.0 in
    let at_settled : get_elem? (map settled_view t.views) id ≡ some now = at_map settled_view t.views id me.0 at in
    let views : map settled_view t.views ≡ map settled_view (slice_set t.views id now) = sym (set_again (map settled_view t.views) id now at_settled) ∙ sym (map-set settled_view t.views id now) in
    let words : t.words ≡ slice_set t.words place (slice_index t.words place) = sym (set-get_or t.words place 0) in (
      now,
      keeps,
      tt,
      record {
        ruled = subst (λ (p : List ℕ × List View). IsRuled setup (record { words = p.0; homes = t.homes; views = p.1 })) (λ k. (words k, views k)) rule.ruled;
        made = λ hand view at_view. elim (at_set t.views id hand now view at_view) [
          | inl same ↦ subst joining.IsMade same.1 (not_made now refl)
          | inr differs ↦ rule.made hand view differs.1
        ];
      },
      record { is = refl; lawful = lawful_view setup (joining.all_settled t) rule.ruled id now at_settled numbered of; made = rule.made id me.0 at },
    )

-- a hand without a lock notes none
neither : (locks : Locks) → is_neither locks ≡ true → locks ≡ Neither
neither Neither free = refl
neither Slabs free = absurd (cc)
neither (Stripe stripe) free = absurd (cc)
neither (SlabsLast stripe) free = absurd (cc)
neither (StripeLast stripe) free = absurd (cc)

empty : (out : List (ℕ × Slot)) → slots_out out ≡ [] → out ≡ []
empty [] is = refl
empty (entry ∷ out) is = absurd (cc)

module _ (me : Sits) (number chunks : ℕ) (locks : Locks) (noted : IsNoted me number chunks locks) (idle : is_idle me.0 ≡ true) where
  no_lock : locks ≡ Neither
  no_lock = let (is, within_limit, count, slots, had) = noted in neither locks (unlocked_from me.0 locks had ∙ (and_parts (is_unlocked me.0) (length me.0.row.holdings == 0) idle).0)

  -- no value is out with it
  pub none_out : me.1 ≡ []
  none_out = let (is, within_limit, count, slots, had) = noted in empty me.1 (slots ∙ ap slots_in no_lock)

-- its notes after it took another one over
pub noted_both : (me now : Sits) (other : View) (number chunks : ℕ) (locks : Locks) → IsNoted me number chunks locks → is_idle me.0 ≡ true → now.1 ≡ me.1 → now.0 ≡ both_views me.0 other → IsNoted now number chunks Neither
noted_both me now other number chunks locks noted idle out view =
    subst (λ (sits : Sits). IsNoted sits number chunks Neither) (λ k. (sym view k, sym out k))
    (subst (λ (l : Locks). IsNoted me number chunks l) (no_lock me number chunks locks noted idle) noted)

-- what the hand of a lawful moment said and knows agrees
agrees_at : (m : Moment) → IsLawful m → (hand : ℕ) → joining.KnowledgeAgrees (knowledge_at m.past hand)
agrees_at m l hand = record {
  stored = λ a b in_a in_b same. said_one m.past.stored b.stamp a.words b.words (l.known.once b.stamp) (hand, a, in_a, same, refl) (hand, b, in_b, refl, refl);
  known = λ a b in_a in_b chunk issue.
      sym (each_contained (λ other. other.chunk ≡ a.chunk → other.issue ≡ a.issue → other.words ≡ a.words) m.past.known hand b
      (each_contained (λ k. Each (λ other. other.chunk ≡ k.chunk → other.issue ≡ k.issue → other.words ≡ k.words) m.past.known) m.past.known hand a l.known.one in_a) in_b (sym chunk) (sym issue));
  both = λ s k in_s in_k stamp.
      each_contained (λ k. (words : List ℕ) → WasStored m.past.stored (stamp_in_words k.words) words → words ≡ k.words) m.past.known hand k l.known.agree in_k s.words (hand, s, in_s, stamp, refl);
}

pub agrees : (view : View) → LawfulView view → joining.KnowledgeAgrees view.row.knows
agrees view was = subst (λ (v : View). joining.KnowledgeAgrees v.row.knows) (sym was.is) (agrees_at was.moment was.lawful was.hand)
