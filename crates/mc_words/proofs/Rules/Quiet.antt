-- A step that takes and gives no lock keeps the rule, where the core allows it and the word becomes what the core says.
use Rattle.std.proofs.Common.{◌≡◌, ℕ, Bool, true, false, List, [], ◌∷◌, ◌++◌, map, Option, Some, None, refl, sym, ap, ap₂, subst, ◌∙◌, slice_set, slice_index, is_some, if◌then◌else◌, eqb}
use Rattle.std.proofs.lemmas.Bool.{and_from}
use Rattle.std.specs.List.{range_with_len}
use mathlib.Core.Option.{some, none}
use lib.ListN.{get_elem?}
use prog.Atomic.{either}
use Rattle.atomic_table.specs.Table as table
use Rattle.atomic_table.specs.Table.{Act, Valid, stepped, keeps, carried_after, Allows}
use Rattle.atomic_table.proofs.Lists.{exchanged}
use Rattle.mc_core.specs.declared.head.Head.{Head}
use Rattle.mc_core.specs.declared.event.Change.{Change}
use Rattle.mc_core.specs.declared.event.Event.{Event}
use Rattle.mc_core.specs.declared.event.Step.{Step}
use Rattle.mc_core.specs.declared.event.Step.TheVariants as core
use Rattle.mc_core.specs.model.State.{State, is_held_by, is_hand, has_slabs, has_stripe, stripe_at}
use Rattle.mc_core.specs.past.Past.{Moment, moment_stepped, moment_changed}
use Rattle.mc_core.specs.model.Views.{held_slabs, held_stripe}
use Rattle.mc_core.specs.run.Run.{allows_step, after_step}
use Rattle.mc_core.specs.law.Laws.{MayStep, MayChange}
use Rattle.mc_core.proofs.Frame.Own.{is_plain}
use Rattle.mc_core.proofs.Known.Learned.{is_join}
use Rattle.mc_core.proofs.Frame.SameSlabs.{owners_stay}
use Rattle.mc_core.proofs.Law.LawKept.{lawful_changes}
use Rattle.mc_core.proofs.Law.Next.{IsQuiet, quiet_step, quiet_change, quiet_then}
use Rattle.mc_pages.specs.SlabState.{SlabState, class_of_owner, class_of_page}
use Rattle.mc_pages.specs.Ledger.{owner_at}
use Rattle.mc_words.specs.declared.lock.slot.Slot.{Slot}
use Rattle.mc_words.specs.hand.View.{OwnEvent, Setup, View, events_of, own_event, view_at, held_stripes}
use Rattle.mc_words.specs.rule.Meaning.{WordsOfTable, WordsOf, AreCut, IsReachedBy, IsRuled}
use Rattle.mc_words.specs.rule.Happens.{LawfulView, Happens, HappensAt, MayWrite, MayExchange, AllowsStep, event_of, keeps_locks_and_hands}
use Rattle.mc_words.specs.rule.Told.{Sits, StaysOut, HappensFinding, HappensAs, HappensAfterChange, HappensAsExchange}
use Rattle.mc_words.specs.rule.Joins.{Rule}
use Rattle.mc_words.proofs.Rules.NextMoments.{lawful_view, own_made, ruled_quiet}
use Rattle.mc_words.proofs.Rules.Reached.{leads_more, leads_stepped}
use Rattle.mc_words.proofs.Rules.Settled.{IsSettled, lifts}

-- the columns that words have
abbrev pub Columns : Type 0
Columns = ℕ × List ℕ × List Head × List ℕ

abbrev pub columns : State → Columns
columns s = (s.slabs_lock, s.stripe_locks, s.heads, s.words)

pub plain_if : (step : Step) → keeps_locks_and_hands step ≡ true → is_plain step ≡ true
plain_if core.TakeSlabs q = absurd (cc)
plain_if (core.TakeStripe stripe) q = absurd (cc)
plain_if core.GiveSlabs q = absurd (cc)
plain_if (core.GiveStripe stripe) q = absurd (cc)
plain_if (core.Join kept spent) q = absurd (cc)
plain_if core.MissSlabs q = refl
plain_if (core.MissStripe stripe) q = refl
plain_if (core.Head chunk) q = refl
plain_if (core.Pop class) q = refl
plain_if (core.PopOff old) q = refl
plain_if (core.Fill chunk place word) q = refl
plain_if (core.Word chunk place) q = refl
plain_if (core.WordHeld chunk place) q = refl
plain_if (core.Link chunk) q = refl
plain_if (core.Refer key) q = refl
plain_if (core.Unlink key) q = refl
plain_if (core.Release chunk) q = refl
plain_if (core.Discard chunk) q = refl
plain_if (core.Condemn chunk) q = refl
plain_if (core.PutBack chunk) q = refl
plain_if (core.Clear chunk) q = refl
plain_if (core.Cut page index) q = refl
plain_if (core.Again chunk issue) q = refl

pub alone_if : (step : Step) → keeps_locks_and_hands step ≡ true → is_join step ≡ false
alone_if core.TakeSlabs q = refl
alone_if (core.TakeStripe stripe) q = refl
alone_if core.GiveSlabs q = refl
alone_if (core.GiveStripe stripe) q = refl
alone_if (core.Join kept spent) q = absurd (cc)
alone_if core.MissSlabs q = refl
alone_if (core.MissStripe stripe) q = refl
alone_if (core.Head chunk) q = refl
alone_if (core.Pop class) q = refl
alone_if (core.PopOff old) q = refl
alone_if (core.Fill chunk place word) q = refl
alone_if (core.Word chunk place) q = refl
alone_if (core.WordHeld chunk place) q = refl
alone_if (core.Link chunk) q = refl
alone_if (core.Refer key) q = refl
alone_if (core.Unlink key) q = refl
alone_if (core.Release chunk) q = refl
alone_if (core.Discard chunk) q = refl
alone_if (core.Condemn chunk) q = refl
alone_if (core.PutBack chunk) q = refl
alone_if (core.Clear chunk) q = refl
alone_if (core.Cut page index) q = refl
alone_if (core.Again chunk issue) q = refl

-- whether a hand has a value is whether it has its lock
pub has_if : {X : Type 0} (b : Bool) (x : X) → is_some (if b then Some x else None) ≡ b
has_if true x = refl
has_if false x = refl

pub map_map : {A B C : Type 0} (f : A → B) (g : B → C) (xs : List A) → map g (map f xs) ≡ map (λ x. g (f x)) xs
map_map f g [] = refl
map_map f g (x ∷ xs) = ap (λ l. g (f x) ∷ l) (map_map f g xs)

-- a hand has the same locks, where no lock is taken or given
module _ (setup : Setup) (m now : Moment) (id : ℕ) (quiet : IsQuiet m now id) where
  pub same_slabs : is_some (held_slabs now.state id) ≡ is_some (held_slabs m.state id)
  same_slabs =
      has_if (has_slabs now.state id) now.state.slabs
      ∙ (ap₂ is_held_by quiet.slabs_lock quiet.next.number ∙ sym (has_if (has_slabs m.state id) m.state.slabs))

  same_stripe : (stripe : ℕ) → is_some (held_stripe now.state id stripe) ≡ is_some (held_stripe m.state id stripe)
  same_stripe stripe =
      has_if (has_stripe now.state id stripe) (stripe_at now.state stripe)
      ∙ (ap₂ (λ (locks : List ℕ) (number : Option ℕ). is_held_by (slice_index locks stripe) number) quiet.locks quiet.next.number
      ∙ sym (has_if (has_stripe m.state id stripe) (stripe_at m.state stripe)))

  pub same_stripes : map is_some (held_stripes setup now.state id) ≡ map is_some (held_stripes setup m.state id)
  same_stripes =
      let stripes = range_with_len 0 setup.config.stripes in
      map_map (held_stripe now.state id) is_some stripes ∙ ((λ k. map (λ stripe. same_stripe stripe k) stripes) ∙ sym (map_map (held_stripe m.state id) is_some stripes))

-- no page gets or loses a class by a step
pub step_pages : (s : State) (hand : ℕ) (step : Step) (page : ℕ) → class_of_page (after_step s hand step).slabs page ≡ class_of_page s.slabs page
step_pages s hand step page = ap (λ owners. class_of_owner (owner_at owners page)) (owners_stay s hand step)

pub cut_stays : (cuts : List ℕ) (before now : SlabState) → ((page : ℕ) → class_of_page now page ≡ class_of_page before page) → AreCut cuts before → AreCut cuts now
cut_stays cuts before now same cut page = cut page ∙ sym (same page)

module _ (setup : Setup) (slots id : ℕ) (me : Sits) (live : IsSettled me.0) (of : me.0.setup ≡ setup) where
  -- the step can be made in this state, where the word becomes so
  abbrev pub Goes : WordsOfTable → ℕ → (ℕ → Sits → Type 0) → ℕ → Type 0
  Goes t place told word = (w : View) × (a : Act Slot) × Valid t.homes me.1 a × IsRuled setup (stepped t place word id me.1 w a) × told (slice_index t.words place) (w, carried_after me.1 a)

  module _ (t : WordsOfTable) (r : IsRuled setup t) (at : get_elem? t.views id ≡ some me.0) where
    abbrev m : Moment
    m = r.moment

    abbrev pub was : LawfulView me.0
    was = lawful_view setup t r id me.0 at live.0 of

    pub there : is_hand m.state id ≡ true
    there = was.there

    -- the events that the hand made
    pub made_before : me.0.events ≡ events_of id r.run
    made_before = ap (λ (v : View). v.events) was.is

    -- what stays, of a hand that follows by such a moment
    pub stays_out : (now : Moment) (events : List OwnEvent) → IsQuiet m now id → LawfulView (view_at setup me.0.spare events now id) → StaysOut me (view_at setup me.0.spare events now id, me.1)
    stays_out now events quiet lawful =
        let is : me.0 ≡ view_at me.0.setup me.0.spare (events_of id r.run) m id = was.is in
        let is' : me.0 ≡ view_at setup me.0.spare (events_of id r.run) m id = is ∙ ap (λ (s : Setup). view_at s me.0.spare (events_of id r.run) m id) of in (
          refl,
          record {
            setup = sym of;
            spare = refl;
            number = quiet.next.number ∙ ap (λ (v : View). v.row.ids.number) (sym is');
            slabs = same_slabs setup m now id quiet ∙ ap (λ (v : View). is_some v.slabs) (sym is');
            stripes = same_stripes setup m now id quiet ∙ ap (λ (v : View). map is_some v.stripes) (sym is');
          },
          lawful,
        )

    -- a quiet next moment is one of which the hand's view is lawful
    pub lawful_after : (cuts : List ℕ) (now : Moment) (run : List Event) (events : List OwnEvent) (words : List ℕ) → IsReachedBy setup run now → events ≡ events_of id run → IsQuiet m now id → WordsOf setup cuts words now.state → AreCut cuts now.state.slabs
        → LawfulView (view_at setup me.0.spare events now id)
    lawful_after cuts now run events words leads made quiet are cut = record {
      moment = now;
      hand = id;
      lawful = quiet.next.lawful;
      same_table = quiet.next.table ∙ r.means.same_table;
      hands = quiet.next.count ∙ r.means.hands;
      stripes = quiet.next.stripe_count ∙ r.means.stripes;
      there = ap is_some quiet.next.number ∙ there;
      run = run;
      reached = leads;
      is = ap (λ (events : List OwnEvent). view_at setup me.0.spare events now id) made;
      words = words;
      cuts = cuts;
      are = are;
      cut = cut;
    }

    -- what the hand has made with this event
    abbrev now_made : List Change → Step → List OwnEvent
    now_made before step = me.0.events ++ own_event before step ∷ []

    -- a step that takes and gives no lock
    pub goes : (step : Step) → keeps_locks_and_hands step ≡ true → (place word : ℕ) → allows_step m.state id step ≡ true → WordsOf setup r.cuts (slice_set t.words place word) (after_step m.state id step)
        → (told : ℕ → Sits → Type 0)
        → (StaysOut me (view_at setup me.0.spare (now_made [] step) (moment_stepped m id step) id, me.1) → HappensAt place (slice_index t.words place) me.0 [] step (view_at setup me.0.spare (now_made [] step) (moment_stepped m id step) id)
        → told (slice_index t.words place) (view_at setup me.0.spare (now_made [] step) (moment_stepped m id step) id, me.1))
        → Goes t place told word
    goes step still place word allowed are told tells =
        let may : MayStep m id step = record { lawful = r.lawful; there = there; allowed = allowed } in
        let now : Moment = moment_stepped m id step in
        let event : Event = event_of id [] step in
        let events : List OwnEvent = now_made [] step in
        let leads = leads_stepped setup r.run m id step r.reached there allowed in
        let made : events ≡ events_of id (r.run ++ event ∷ []) = own_made setup t r id me.0 at event refl made_before in
        let quiet : IsQuiet m now id = quiet_step m id step (plain_if step still) (alone_if step still) may in
        let cut : AreCut r.cuts now.state.slabs = cut_stays r.cuts m.state.slabs now.state.slabs (λ page. step_pages m.state id step page) r.means.cut in
        let happens : Happens me.0 [] step (view_at setup me.0.spare events now id) = record {
          was = was;
          allowed = and_from _ _ there allowed;
          is = ap (λ (s : Setup). view_at s me.0.spare events now id) (sym of);
        } in (
          view_at setup me.0.spare events now id,
          keeps,
          tt,
          ruled_quiet setup t r id me.0 at event refl r.cuts now (slice_set t.words place word) there made_before quiet leads are cut,
          tells (stays_out now events quiet (lawful_after r.cuts now (r.run ++ event ∷ []) events (slice_set t.words place word) leads made quiet are cut)) (happens, refl),
        )

    -- a change, and then a step that takes and gives no lock
    pub tells : (change : Change) (step : Step) → keeps_locks_and_hands step ≡ true → (place : ℕ) (written : ℕ → ℕ) → AllowsStep me.0 change step place written → Goes t place (λ found. HappensAfterChange change step me) (written (slice_index t.words place))
    tells change step still place written may =
        let before : MayChange m id change = record { lawful = r.lawful; there = there; allowed = may.allowed was } in
        let changed : Moment = moment_changed m id change in
        let first : IsQuiet m changed id = quiet_change m id change before in
        let next_may : MayStep changed id step = record { lawful = lawful_changes m id change before; there = ap is_some first.next.number ∙ there; allowed = may.step_allowed was } in
        let now : Moment = moment_stepped changed id step in
        let event : Event = event_of id (change ∷ []) step in
        let events : List OwnEvent = now_made (change ∷ []) step in
        let quiet : IsQuiet m now id = quiet_then m changed now id first (quiet_step changed id step (plain_if step still) (alone_if step still) next_may) in
        let write = may.writes was in
        let words : List ℕ = slice_set t.words place (written (slice_index t.words place)) in
        let are : WordsOf setup write.0 words now.state = subst (λ (s : Setup). WordsOf s write.0 words now.state) of write.1 in
        let happens : Happens me.0 (change ∷ []) step (view_at setup me.0.spare events now id) = record {
          was = was;
          allowed = and_from _ _ there (and_from _ _ (and_from _ _ before.allowed refl) next_may.allowed);
          is = ap (λ (s : Setup). view_at s me.0.spare events now id) (sym of);
        } in
        let leads = leads_more event setup r.run m r.reached happens.allowed in
        let made : events ≡ events_of id (r.run ++ event ∷ []) = own_made setup t r id me.0 at event refl made_before in (
          view_at setup me.0.spare events now id,
          keeps,
          tt,
          ruled_quiet setup t r id me.0 at event refl write.0 now words there made_before quiet leads are write.2,
          (stays_out now events quiet (lawful_after write.0 now (r.run ++ event ∷ []) events words leads made quiet are write.2), happens),
        )

  -- as its callers show it
  module _ (step : Step) (still : keeps_locks_and_hands step ≡ true) (place : ℕ) (written : ℕ → ℕ) (may : MayWrite me.0 step place written) where
    pub may_go : (told : ℕ → Sits → Type 0) → ((found : ℕ) (now : View) → StaysOut me (now, me.1) → HappensAt place found me.0 [] step now → told found (now, me.1)) → Allows (Rule setup) slots id me place written told
    may_go told tells =
        lifts setup slots id me live.1 place written told
        (λ t r _ at fits.
        let m : Moment = r.moment in
        let can = may (was t r at) fits in
        let are = subst (λ (s : Setup). WordsOf s r.cuts (slice_set t.words place (written (slice_index t.words place))) (after_step m.state id step)) of can.1 in
        goes t r at step still place (written (slice_index t.words place)) can.0 are told
        (λ out happens. tells (slice_index t.words place) (view_at setup me.0.spare (now_made t r at [] step) (moment_stepped m id step) id) out happens))

    -- a look, or a change whose found word is told
    pub finds : (first second : ℕ) → Allows (Rule setup) slots id me place written (HappensFinding step (table.step slots place first second none) me)
    finds first second = may_go (HappensFinding step (table.step slots place first second none) me) (λ found now out happens. (out, happens))

    -- a write
    pub writes : (first word : ℕ) → Allows (Rule setup) slots id me place written (λ _. HappensAs step (table.step slots place first 0 none) me word)
    writes first word = may_go (λ _. HappensAs step (table.step slots place first 0 none) me word) (λ found now out happens. (out, happens.0))

    -- a sum
    pub changes : (first second : ℕ) → Allows (Rule setup) slots id me place written (λ found. HappensAs step (table.step slots place first second none) me found)
    changes first second = may_go (λ found. HappensAs step (table.step slots place first second none) me found) (λ found now out happens. (out, happens.0))

  -- an exchange, of which a miss looks
  pub exchanges : (step look : Step) → keeps_locks_and_hands step ≡ true → keeps_locks_and_hands look ≡ true → (place expected word : ℕ) → MayExchange me.0 step place expected word → MayWrite me.0 look place (λ found. found)
      → Allows (Rule setup) slots id me place (λ n. either (eqb n expected) word n) (HappensAsExchange step look (table.step slots place expected word none) me)
  exchanges step look still quiet place expected word may may_look =
      let told : ℕ → Sits → Type 0 = HappensAsExchange step look (table.step slots place expected word none) me in
      lifts setup slots id me live.1 place (λ n. either (eqb n expected) word n) told
      (λ t r _ at fits.
      let m : Moment = r.moment in
      let found : ℕ = slice_index t.words place in
      exchanged found expected word (Goes t place told)
      (λ hit.
      let can = may (was t r at) fits hit in
      let are = subst (λ (s : Setup). WordsOf s r.cuts (slice_set t.words place word) (after_step m.state id step)) of can.1 in
      goes t r at step still place word can.0 are told (λ out happens. (out, (λ _. happens), λ miss. absurd (miss hit))))
      (λ miss.
      let can = may_look (was t r at) fits in
      let are = subst (λ (s : Setup). WordsOf s r.cuts (slice_set t.words place found) (after_step m.state id look)) of can.1 in
      goes t r at look quiet place found can.0 are told (λ out happens. (out, (λ hit. absurd (miss hit)), λ _. happens))))

  -- a change that is told by a look or by a store
  pub tells_looking : (change : Change) (step : Step) → keeps_locks_and_hands step ≡ true → (place first second : ℕ) → AllowsStep me.0 change step place (λ found. found) → Allows (Rule setup) slots id me place (λ n. n) (λ found. HappensAfterChange change step me)
  tells_looking change step still place first second may = lifts setup slots id me live.1 place (λ n. n) (λ found. HappensAfterChange change step me) (λ t r _ at fits. tells t r at change step still place (λ found. found) may)

  pub tells_storing : (change : Change) (step : Step) → keeps_locks_and_hands step ≡ true → (place word : ℕ) → AllowsStep me.0 change step place (λ found. word) → Allows (Rule setup) slots id me place (λ n. word) (λ found. HappensAfterChange change step me)
  tells_storing change step still place word may = lifts setup slots id me live.1 place (λ n. word) (λ found. HappensAfterChange change step me) (λ t r _ at fits. tells t r at change step still place (λ found. word) may)

-- a view of a lawful moment has a number, and is settled
pub has_number : (view : View) → LawfulView view → IsSettled view
has_number view lawful = (ap (λ (v : View). is_some v.row.ids.number) lawful.is ∙ lawful.there, ap (λ (v : View). v.made_of) lawful.is)
