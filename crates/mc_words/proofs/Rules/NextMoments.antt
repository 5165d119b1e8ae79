-- What one hand does next keeps the rule of the table.
use Rattle.std.proofs.Common.{◌≡◌, ◌≢◌, ℕ, zero, suc, ◌<◌, ◌≤◌, true, false, List, [], ◌∷◌, ◌++◌, length, refl, sym, ap, subst, ◌∙◌, inl, inr, arith, slice_set, slice_index, is_some, length-set, map, None}
use Rattle.std.proofs.lemmas.Bool.{cases_Bool}
use Rattle.std.specs.List.{range_with_len}
use mathlib.Core.Option.{some}
use mathlib.Core.Option as maybe
use lib.ListN.{get_elem?}
use Rattle.atomic_table.proofs.Lists.{at_set}
use Rattle.mc_core.specs.model.State.{is_hand}
use Rattle.mc_core.specs.past.Past.{Moment}
use Rattle.mc_core.specs.model.Views.{Row}
use Rattle.mc_core.proofs.Law.Next.{IsNext, IsQuiet}
use Rattle.mc_words.specs.declared.lock.slot.Slot.{Slot}
use Rattle.mc_words.specs.declared.lock.slot.Slot.TheVariants.{Empty, OfSlabs, OfStripe}
use Rattle.mc_core.specs.declared.event.Event.{Event}
use Rattle.mc_words.specs.hand.View.{OwnEvent, Setup, View, events_of, own_event, view_at, new_view}
use Rattle.mc_words.specs.rule.Layout.{lock_address}
use Rattle.mc_words.specs.rule.Meaning.{WordsOfTable, WordsOf, AreCut, Has, AreHome, IsViewOf, IsReachedBy, IsRuled}
use Rattle.mc_words.specs.rule.Happens.{LawfulView}
use Rattle.mc_words.proofs.Rules.Reached.{events_else, events_own}
use Rattle.mc_words.proofs.Rules.Written.{slabs_lock_read, lock_read}

pub within : {A : Type 0} (l : List A) (i : ℕ) (a : A) → get_elem? l i ≡ some a → i < length l
within [] i a e = absurd (maybe.some-ne-none a (sym e))
within (x ∷ xs) zero a e = omega arith
within (x ∷ xs) (suc i) a e = let more = within xs i a e in omega arith

-- the values at home, where no lock is taken or given
module _ (setup : Setup) (cuts cuts' words words' : List ℕ) (homes : List (maybe.Option Slot)) (m now : Moment) (id : ℕ) (quiet : IsQuiet m now id) (are : WordsOf setup cuts words m.state) (are' : WordsOf setup cuts' words' now.state) (home : AreHome setup words homes m.state) where
  still_home : (lock : ℕ) (slot : Slot) → slice_index words (lock_address lock) ≡ 0 → lock ≤ setup.config.stripes → Has m.state lock slot → Has now.state lock slot
  still_home zero Empty free in_range has = absurd has
  still_home zero (OfSlabs value) free in_range has = has ∙ sym (quiet.free_slabs (sym (slabs_lock_read setup cuts words m.state.slabs_lock m.state.stripe_locks m.state.heads m.state.words are) ∙ free))
  still_home zero (OfStripe value) free in_range has = absurd has
  still_home (suc i) Empty free in_range has = absurd has
  still_home (suc i) (OfSlabs value) free in_range has = absurd has
  still_home (suc i) (OfStripe value) free in_range has =
      has ∙ sym (quiet.free_stripes i (sym (lock_read setup cuts words m.state.slabs_lock m.state.stripe_locks m.state.heads m.state.words are i (omega arith)) ∙ free))

  was_free : (lock : ℕ) → lock ≤ setup.config.stripes → slice_index words' (lock_address lock) ≡ 0 → slice_index words (lock_address lock) ≡ 0
  was_free zero in_range free =
      slabs_lock_read setup cuts words m.state.slabs_lock m.state.stripe_locks m.state.heads m.state.words are
      ∙ (sym quiet.slabs_lock ∙ (sym (slabs_lock_read setup cuts' words' now.state.slabs_lock now.state.stripe_locks now.state.heads now.state.words are') ∙ free))
  was_free (suc i) in_range free =
      lock_read setup cuts words m.state.slabs_lock m.state.stripe_locks m.state.heads m.state.words are i (omega arith)
      ∙ (ap (λ (locks : List ℕ). slice_index locks i) (sym quiet.locks)
      ∙ (sym (lock_read setup cuts' words' now.state.slabs_lock now.state.stripe_locks now.state.heads now.state.words are' i (omega arith)) ∙ free))

  pub homes_quiet : AreHome setup words' homes now.state
  homes_quiet lock in_range free =
      let was = was_free lock in_range free in
      let (slot, at, has) = home lock in_range was in
      (slot, at, still_home lock slot was in_range has)

-- what a moment has of a hand that doesn't step
pub others_stay : (setup : Setup) (m now : Moment) (id other : ℕ) → IsNext m now id → other ≢ id → (spare : ℕ) (events : List OwnEvent) → view_at setup spare events now other ≡ view_at setup spare events m other
others_stay setup m now id other next apart spare events = λ k. record {
  setup = setup;
  spare = spare;
  events = events;
  row = next.rows other apart k;
  slabs = next.slabs other apart k;
  stripes = map (λ stripe. next.stripes other stripe apart k) (range_with_len 0 setup.config.stripes);
  made_of = None;
}

-- and its view
pub view_stays : (setup : Setup) (m now : Moment) (id other : ℕ) (view : View) → IsNext m now id → other ≢ id → (run run' : List Event) → events_of other run' ≡ events_of other run → IsViewOf setup run m other view → IsViewOf setup run' now other view
view_stays setup m now id other view next apart run run' same_events old =
    let same : is_hand now.state other ≡ is_hand m.state other = ap (λ (row : Row). is_some row.ids.number) (next.rows other apart) in record {
      there = λ here. old.there (sym same ∙ here)
          ∙ (sym (others_stay setup m now id other next apart view.spare (events_of other run)) ∙ ap (λ (events : List OwnEvent). view_at setup view.spare events now other) (sym same_events));
      gone = λ none. old.gone (sym same ∙ none);
    }

-- a view with a number is of a hand that is there
pub there_if : (setup : Setup) (run : List Event) (m : Moment) (id : ℕ) (view : View) → IsViewOf setup run m id view → is_some view.row.ids.number ≡ true → (is_hand m.state id ≡ true) × (view ≡ view_at setup view.spare (events_of id run) m id)
there_if setup run m id view is numbered = elim (cases_Bool (is_hand m.state id)) [
  | inl there ↦ (there, is.there there)
  | inr gone ↦ absurd (let e : true ≡ false = sym numbered ∙ ap (λ (v : View). is_some v.row.ids.number) (is.gone gone) in cc)
]

module _ (setup : Setup) (t : WordsOfTable) (r : IsRuled setup t) (id : ℕ) (view : View) (at : get_elem? t.views id ≡ some view) where
  abbrev m : Moment
  m = r.moment

  -- the next moment, with its words, its values at home, and what the hand knows of it; of the run no other hand made more
  pub ruled_next : (cuts : List ℕ) (now : Moment) (run : List Event) (words : List ℕ) (homes : List (maybe.Option Slot)) (is_now : View) → IsNext m now id → IsReachedBy setup run now → ((other : ℕ) → other ≢ id → events_of other run ≡ events_of other r.run) → WordsOf setup cuts words now.state → AreCut cuts now.state.slabs → AreHome setup words homes now.state
      → length homes ≡ length t.homes → IsViewOf setup run now id is_now → is_now.spare ≡ view.spare → IsRuled setup (record { words = words; homes = homes; views = slice_set t.views id is_now })
  ruled_next cuts now run words homes is_now next leads others are cut home slots is spare =
      let means = r.means in
      let long = length-set t.views id is_now in
      let first = within t.views id view at in record {
        moment = now;
        run = run;
        cuts = cuts;
        lawful = next.lawful;
        reached = leads;
        means = record {
          same_table = next.table ∙ means.same_table;
          hands = next.count ∙ means.hands;
          stripes = next.stripe_count ∙ means.stripes;
          words = are;
          cut = cut;
          homes = home;
          slots = slots ∙ means.slots;
          views = λ other u at_u. elim (at_set t.views id other is_now u at_u) [
            | inl same ↦ subst (λ (p : ℕ × View). IsViewOf setup run now p.0 p.1) (λ k. (sym same.0 k, same.1 k)) is
            | inr differs ↦ view_stays setup m now id other u next differs.0 r.run run (others other differs.0) (means.views other u differs.1)
          ];
          most = let within_limit = means.most in omega arith;
          made = λ other u at_u has. elim (at_set t.views id other is_now u at_u) [
            | inl same ↦
                let more : 1 ≤ view.spare = let e : u.spare ≡ is_now.spare = ap (λ (x : View). x.spare) (sym same.1) in omega arith in
                let old = means.made id view at more in
                let e : u.spare ≡ is_now.spare = ap (λ (x : View). x.spare) (sym same.1) in (same.0 ∙ old.0, (let sum = old.1 in omega arith))
            | inr differs ↦ let old = means.made other u differs.1 has in (old.0, (let sum = old.1 in omega arith))
          ];
          unmade = λ other past within_limit. let apart : other ≢ id = λ e. omega arith in
              view_stays setup m now id other (new_view setup other 0) next apart r.run run (others other apart) (means.unmade other (omega arith) within_limit);
        };
      }

  -- what the hand knows of the next moment
  pub is_view_now : (now : Moment) (run : List Event) (events : List OwnEvent) → events ≡ events_of id run → IsNext m now id → is_hand m.state id ≡ true → IsViewOf setup run now id (view_at setup view.spare events now id)
  is_view_now now run events are next there = record {
    there = λ here. ap (λ (events : List OwnEvent). view_at setup view.spare events now id) are;
    gone = λ none. absurd (let e : true ≡ false = sym there ∙ (ap is_some (sym next.number) ∙ none) in cc);
  }

  -- one event more, which this hand makes
  module _ (event : Event) (by : event.hand ≡ id) where
    pub others_made : (other : ℕ) → other ≢ id → events_of other (r.run ++ event ∷ []) ≡ events_of other r.run
    others_made other apart = events_else event other (λ same. apart (sym same ∙ by)) r.run

    pub own_made : view.events ≡ events_of id r.run → view.events ++ own_event event.before event.step ∷ [] ≡ events_of id (r.run ++ event ∷ [])
    own_made are = ap (λ (events : List OwnEvent). events ++ own_event event.before event.step ∷ []) are ∙ sym (events_own event id by r.run)

    -- where no lock is taken or given
    pub ruled_quiet : (cuts : List ℕ) (now : Moment) (words : List ℕ) → is_hand m.state id ≡ true → view.events ≡ events_of id r.run → IsQuiet m now id → IsReachedBy setup (r.run ++ event ∷ []) now → WordsOf setup cuts words now.state → AreCut cuts now.state.slabs
        → IsRuled setup (record { words = words; homes = t.homes; views = slice_set t.views id (view_at setup view.spare (view.events ++ own_event event.before event.step ∷ []) now id) })
    ruled_quiet cuts now words there events quiet leads are cut =
        let run : List Event = r.run ++ event ∷ [] in
        ruled_next cuts now run words t.homes (view_at setup view.spare (view.events ++ own_event event.before event.step ∷ []) now id) quiet.next leads others_made are cut (homes_quiet setup r.cuts cuts t.words words t.homes m now id quiet r.means.words are r.means.homes) refl
        (is_view_now now run (view.events ++ own_event event.before event.step ∷ []) (own_made events) quiet.next there) refl

  -- the view is of a lawful moment
  abbrev pub lawful_view : is_some view.row.ids.number ≡ true → view.setup ≡ setup → LawfulView view
  lawful_view numbered of =
      let found = there_if setup r.run m id view (r.means.views id view at) numbered in record {
        moment = m;
        hand = id;
        lawful = r.lawful;
        same_table = r.means.same_table ∙ ap (λ (s : Setup). s.table) (sym of);
        hands = r.means.hands ∙ ap (λ (s : Setup). s.hands) (sym of);
        stripes = r.means.stripes ∙ ap (λ (s : Setup). s.config.stripes) (sym of);
        there = found.0;
        run = r.run;
        reached = subst (λ (s : Setup). IsReachedBy s r.run m) (sym of) r.reached;
        is = found.1 ∙ ap (λ (s : Setup). view_at s view.spare (events_of id r.run) m id) (sym of);
        words = t.words;
        cuts = r.cuts;
        are = subst (λ (s : Setup). WordsOf s r.cuts t.words m.state) (sym of) r.means.words;
        cut = r.means.cut;
      }
