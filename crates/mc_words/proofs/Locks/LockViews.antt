-- What a hand's view is after a lock was taken, missed or given.
use Rattle.std.proofs.Common.{◌≡◌, ◌≢◌, ℕ, ◌+◌, ◌<◌, suc, Bool, true, false, List, [], ◌∷◌, ◌++◌, length, Option, Some, None, refl, sym, ap, ◌∙◌, inl, inr, arith, zero-add, slice_set, slice_index, slice_index_or, is_some, length-set, get_or-set_same, get_or-set_other, if◌then◌else◌, ltb-true, append-nil}
use Rattle.std.proofs.lemmas.Bool.{cases_eq, and_parts}
use Rattle.std.proofs.lemmas.List.{ext_get_or}
use Rattle.std.proofs.lemmas.List.FromFn.{get_or-map-range_with_len, length-map-range_with_len}
use Rattle.mc_pages.specs.declared.ids.ChunkId.{ChunkId}
use Rattle.mc_pages.specs.SlabState.{SlabState}
use Rattle.mc_stripe.specs.StripeState.{ReadyStripe}
use Rattle.mc_core.specs.declared.event.Step.{Step}
use Rattle.mc_core.specs.declared.event.Step.TheVariants as core
use Rattle.mc_core.specs.declared.look.Look.{Look}
use Rattle.mc_core.specs.declared.look.Look.TheVariants.{Saw, SawStripe}
use Rattle.mc_core.specs.declared.ids.Ids.{Ids}
use Rattle.mc_core.specs.declared.holding.Holding.{Holding}
use Rattle.mc_core.specs.model.Head.{decode, never_cut}
use Rattle.mc_core.specs.model.State.{State, is_held_by, has_slabs, has_stripe, has_chunk, head_at, head_place, stripe_at, number_at, ids_at, holdings_at, with_look, looks_at}
use Rattle.mc_core.specs.run.Locks as core_locks
use Rattle.mc_core.specs.run.Locks.{state_after_look}
use Rattle.mc_core.specs.past.Past.{Moment, Knowledge, SeenWord, begin_hold, end_hold, slabs_word, stripe_word, header, history_at, knowledge_at, moment_stepped}
use Rattle.mc_core.specs.model.Views.{held_slabs, held_stripe}
use Rattle.mc_core.specs.law.Laws.{MayStep}
use Rattle.mc_core.proofs.Frame.Framed.{free_lock}
use Rattle.mc_core.proofs.Steps.Plays.{hand_there}
use Rattle.mc_core.proofs.Frame.SameSlabs.{looked_keeps}
use Rattle.mc_words.specs.hand.View.{Setup, View, view_at, held_stripes, OwnEvent, own_event, events_of}
use Rattle.mc_words.specs.rule.Layout.{head_word, lock_address}
use Rattle.mc_words.specs.rule.Happens.{LawfulView, Happens, HappensAt}
use Rattle.mc_words.specs.hand.Views.{slabs_taken, slabs_given, stripe_taken, stripe_given, slabs_missed, stripe_missed, head_seen, view_with_looks, looked_if_held}
use Rattle.mc_words.specs.hand.Views as views
use Rattle.mc_words.proofs.Hands.Knows.{knows_after, said_none}
use Rattle.mc_words.proofs.Rules.Written.{slabs_lock_read, lock_read, head_read, head_near}
use Rattle.mc_words.proofs.Rules.Quiet.{has_if}
use Rattle.mc_words.proofs.Locks.TakeAndGive.{held_from}

-- the step was allowed
pub may_step : {view now : View} {step : Step} → (h : Happens view [] step now) → MayStep h.was.moment h.was.hand step
may_step h = record { lawful = h.was.lawful; there = h.was.there; allowed = (and_parts _ _ h.allowed).1 }

-- the hand's rows are there
pub rows_there : (view : View) → (was : LawfulView view) → was.hand < length was.moment.state.ids
rows_there view was = hand_there was.moment.state was.hand was.there

-- of each stripe its value, where one stripe's alone may be another
pub stripes_set : (setup : Setup) (before now : State) (id stripe : ℕ) (value : Option ReadyStripe) → stripe < setup.config.stripes → held_stripe now id stripe ≡ value
    → ((i : ℕ) → i ≢ stripe → held_stripe now id i ≡ held_stripe before id i) → held_stripes setup now id ≡ slice_set (held_stripes setup before id) stripe value
stripes_set setup before now id stripe value in_range here others =
    let old = length-map-range_with_len (held_stripe before id) 0 setup.config.stripes in
    let new = length-map-range_with_len (held_stripe now id) 0 setup.config.stripes in
    ext_get_or None (held_stripes setup now id) (slice_set (held_stripes setup before id) stripe value) (new ∙ sym (length-set (held_stripes setup before id) stripe value ∙ old))
    (λ i within. elim (cases_eq i stripe) [
      | inl same ↦
          get_or-map-range_with_len (held_stripe now id) 0 setup.config.stripes i i None (omega arith) (zero-add i)
          ∙ (ap (held_stripe now id) same ∙ (here ∙ sym (ap (λ j. slice_index_or (slice_set (held_stripes setup before id) stripe value) j None) same ∙ get_or-set_same (held_stripes setup before id) stripe value None (omega arith))))
      | inr apart ↦
          get_or-map-range_with_len (held_stripe now id) 0 setup.config.stripes i i None (omega arith) (zero-add i)
          ∙ (others i apart ∙ sym (get_or-set_other (held_stripes setup before id) stripe i value None apart ∙ get_or-map-range_with_len (held_stripe before id) 0 setup.config.stripes i i None (omega arith) (zero-add i)))
    ])

-- a view from its parts
pub view_from : (view : View) (was : LawfulView view) (events : List OwnEvent) (after : Moment) → ids_at after.state was.hand ≡ ids_at was.moment.state was.hand → (holdings : List Holding) → holdings_at after.state was.hand ≡ holdings → (looks : List Look) → looks_at after.state was.hand ≡ looks
    → (knows : Knowledge) → knowledge_at after.past was.hand ≡ knows → (slabs : Option SlabState) → held_slabs after.state was.hand ≡ slabs → (stripes : List (Option ReadyStripe)) → held_stripes view.setup after.state was.hand ≡ stripes
    → view_at view.setup view.spare events after was.hand ≡ record { setup = view.setup; spare = view.spare; events = events; row = record { ids = view.row.ids; holdings = holdings; looks = looks; knows = knows }; slabs = slabs; stripes = stripes; made_of = view.made_of }
view_from view was events after ids holdings holdings_are looks looks_are knows knows_is slabs slabs_are stripes stripes_are = λ k. record {
  setup = view.setup;
  spare = view.spare;
  events = events;
  row = record { ids = (ids ∙ ap (λ (v : View). v.row.ids) (sym was.is)) k; holdings = holdings_are k; looks = looks_are k; knows = knows_is k };
  slabs = slabs_are k;
  stripes = stripes_are k;
  made_of = ap (λ (v : View). v.made_of) (sym was.is) k;
}

module _ (view now : View) where
  module _ (was : LawfulView view) where
    -- what the view has, as the moment has it
    pub looks_were : looks_at was.moment.state was.hand ≡ view.row.looks
    looks_were = ap (λ (v : View). v.row.looks) (sym was.is)

    pub holdings_were : holdings_at was.moment.state was.hand ≡ view.row.holdings
    holdings_were = ap (λ (v : View). v.row.holdings) (sym was.is)

    pub knew : knowledge_at was.moment.past was.hand ≡ view.row.knows
    knew = ap (λ (v : View). v.row.knows) (sym was.is)

    pub slabs_were : held_slabs was.moment.state was.hand ≡ view.slabs
    slabs_were = ap (λ (v : View). v.slabs) (sym was.is)

    pub stripes_were : held_stripes view.setup was.moment.state was.hand ≡ view.stripes
    stripes_were = ap (λ (v : View). v.stripes) (sym was.is)

    pub lock_count : length was.moment.state.stripe_locks ≡ view.setup.config.stripes
    lock_count = was.lawful.legal.lock_count ∙ was.stripes

    pub rows : was.hand < length was.moment.state.looks
    rows = let in_range = rows_there view was in let count = was.lawful.hands.look_rows in omega arith

  -- the slabs lock was taken, and these are its pages and lists
  pub taken_slabs : Happens view [] core.TakeSlabs now → (slabs : SlabState) → now.slabs ≡ Some slabs → now ≡ slabs_taken slabs view
  taken_slabs h slabs mine =
      let m : Moment = h.was.moment in
      let id : ℕ = h.was.hand in
      let after : Moment = moment_stepped m id core.TakeSlabs in
      let held : held_slabs after.state id ≡ Some slabs = ap (λ (v : View). v.slabs) (sym h.is) ∙ mine in
      let same : m.state.slabs ≡ slabs = (held_from (has_slabs after.state id) m.state.slabs slabs held).1 in
      let knows = knows_after m id core.TakeSlabs refl (may_step h) refl
      ∙ (said_none ((knowledge_at m.past id).seen_words ++ []) (knowledge_at m.past id) (record (knowledge_at m.past id).hold { found = m.state.slabs; count = (knowledge_at m.past id).hold.count + 1 }) (knowledge_at m.past id).seen
      ∙ (λ k. let knows = knew h.was k in record knows { seen_words = append-nil knows.seen_words k; hold = record knows.hold { found = same k; count = knows.hold.count + 1 } })) in
      h.is ∙ view_from view h.was _ after refl view.row.holdings (holdings_were h.was) [] (get_or-set_same m.state.looks id [] [] (rows h.was)) (slabs_taken slabs view).row.knows knows (Some slabs) held view.stripes (stripes_were h.was)

  -- it was given back, with these
  pub given_slabs : Happens view [] core.GiveSlabs now → (slabs : SlabState) → view.slabs ≡ Some slabs → now ≡ slabs_given slabs view
  given_slabs h slabs mine =
      let m : Moment = h.was.moment in
      let id : ℕ = h.was.hand in
      let after : Moment = moment_stepped m id core.GiveSlabs in
      let same : m.state.slabs ≡ slabs = (held_from (has_slabs m.state id) m.state.slabs slabs (slabs_were h.was ∙ mine)).1 in
      let none : held_slabs after.state id ≡ None = ap (λ b. if b then Some m.state.slabs else None) (free_lock (number_at m.state id)) in
      let knows = knows_after m id core.GiveSlabs refl (may_step h) refl
      ∙ (said_none ((knowledge_at m.past id).seen_words ++ []) (knowledge_at m.past id) (record (knowledge_at m.past id).hold { left = m.state.slabs }) (knowledge_at m.past id).seen
      ∙ (λ k. let knows = knew h.was k in record knows { seen_words = append-nil knows.seen_words k; hold = record knows.hold { left = same k } })) in
      h.is ∙ view_from view h.was _ after refl view.row.holdings (holdings_were h.was) view.row.looks (looks_were h.was) (slabs_given slabs view).row.knows knows None none view.stripes (stripes_were h.was)

  -- its word was seen
  pub missed_slabs : (word : ℕ) → HappensAt (lock_address 0) word view [] core.MissSlabs now → now ≡ slabs_missed word view
  missed_slabs word at =
      let h = at.0 in
      let m : Moment = h.was.moment in
      let id : ℕ = h.was.hand in
      let after : Moment = moment_stepped m id core.MissSlabs in
      let is : m.state.slabs_lock ≡ word = sym (slabs_lock_read view.setup h.was.cuts h.was.words m.state.slabs_lock m.state.stripe_locks m.state.heads m.state.words h.was.are) ∙ at.1 in
      let knows = knows_after m id core.MissSlabs refl (may_step h) refl
      ∙ (said_none ((knowledge_at m.past id).seen_words ++ slabs_word m.state.slabs_lock ∷ []) (knowledge_at m.past id) (knowledge_at m.past id).hold (knowledge_at m.past id).seen
      ∙ (λ k. let knows = knew h.was k in record knows { seen_words = knows.seen_words ++ slabs_word (is k) ∷ [] })) in
      h.is ∙ view_from view h.was _ after refl view.row.holdings (holdings_were h.was) view.row.looks (looks_were h.was) (slabs_missed word view).row.knows knows view.slabs (slabs_were h.was) view.stripes (stripes_were h.was)

  module _ (stripe : ℕ) (value : ReadyStripe) where
    -- a stripe's lock was taken, and this is its value
    pub taken_stripe : Happens view [] (core.TakeStripe stripe) now → slice_index_or now.stripes stripe None ≡ Some value → now ≡ stripe_taken stripe value view
    taken_stripe h mine =
        let m : Moment = h.was.moment in
        let id : ℕ = h.was.hand in
        let after : Moment = moment_stepped m id (core.TakeStripe stripe) in
        let count = lock_count h.was in
        let in_range : stripe < length m.state.stripe_locks = ltb-true stripe (length m.state.stripe_locks) (and_parts _ _ (may_step h).allowed).0 in
        let held : held_stripe after.state id stripe ≡ Some value =
        sym (get_or-map-range_with_len (held_stripe after.state id) 0 view.setup.config.stripes stripe stripe None (omega arith) (zero-add stripe)) ∙ (ap (λ (v : View). slice_index_or v.stripes stripe None) (sym h.is) ∙ mine) in
        let same : stripe_at m.state stripe ≡ value = (held_from (has_stripe after.state id stripe) (stripe_at m.state stripe) value held).1 in
        let stripes : held_stripes view.setup after.state id ≡ slice_set view.stripes stripe (Some value) =
        stripes_set view.setup m.state after.state id stripe (Some value) (omega arith) held (λ i apart. ap (λ w. if is_held_by w (number_at m.state id) then Some (stripe_at m.state i) else None) (get_or-set_other m.state.stripe_locks stripe i (core_locks.lock_word m.state id) 0 apart))
        ∙ ap (λ (all : List (Option ReadyStripe)). slice_set all stripe (Some value)) (stripes_were h.was) in
        let knows = knows_after m id (core.TakeStripe stripe) refl (may_step h) refl
        ∙ (said_none ((knowledge_at m.past id).seen_words ++ []) (knowledge_at m.past id) (begin_hold stripe (stripe_at m.state stripe) (knowledge_at m.past id).hold) (slice_set (knowledge_at m.past id).seen stripe (history_at m.state stripe))
        ∙ (λ k. let knows = knew h.was k in record knows { seen_words = append-nil knows.seen_words k; hold = begin_hold stripe (same k) knows.hold; seen = slice_set knows.seen stripe (same k).state.history })) in
        h.is ∙ view_from view h.was _ after refl view.row.holdings (holdings_were h.was) view.row.looks (looks_were h.was) (stripe_taken stripe value view).row.knows knows view.slabs (slabs_were h.was) (slice_set view.stripes stripe (Some value)) stripes

    -- it was given back, with this
    pub given_stripe : stripe < view.setup.config.stripes → Happens view [] (core.GiveStripe stripe) now → slice_index_or view.stripes stripe None ≡ Some value → now ≡ stripe_given stripe value view
    given_stripe in_range h mine =
        let m : Moment = h.was.moment in
        let id : ℕ = h.was.hand in
        let after : Moment = moment_stepped m id (core.GiveStripe stripe) in
        let count = lock_count h.was in
        let held : held_stripe m.state id stripe ≡ Some value =
        sym (get_or-map-range_with_len (held_stripe m.state id) 0 view.setup.config.stripes stripe stripe None in_range (zero-add stripe)) ∙ (ap (λ (all : List (Option ReadyStripe)). slice_index_or all stripe None) (stripes_were h.was) ∙ mine) in
        let same : stripe_at m.state stripe ≡ value = (held_from (has_stripe m.state id stripe) (stripe_at m.state stripe) value held).1 in
        let none : held_stripe after.state id stripe ≡ None =
        ap (λ w. if is_held_by w (number_at m.state id) then Some (stripe_at m.state stripe) else None) (get_or-set_same m.state.stripe_locks stripe 0 0 (omega arith)) ∙ ap (λ b. if b then Some (stripe_at m.state stripe) else None) (free_lock (number_at m.state id)) in
        let stripes : held_stripes view.setup after.state id ≡ slice_set view.stripes stripe None =
        stripes_set view.setup m.state after.state id stripe None in_range none (λ i apart. ap (λ w. if is_held_by w (number_at m.state id) then Some (stripe_at m.state i) else None) (get_or-set_other m.state.stripe_locks stripe i 0 0 apart))
        ∙ ap (λ (all : List (Option ReadyStripe)). slice_set all stripe None) (stripes_were h.was) in
        let knows = knows_after m id (core.GiveStripe stripe) refl (may_step h) refl
        ∙ (said_none ((knowledge_at m.past id).seen_words ++ []) (knowledge_at m.past id) (end_hold stripe (stripe_at m.state stripe) (knowledge_at m.past id).hold) (slice_set (knowledge_at m.past id).seen stripe (history_at m.state stripe))
        ∙ (λ k. let knows = knew h.was k in record knows { seen_words = append-nil knows.seen_words k; hold = end_hold stripe (same k) knows.hold; seen = slice_set knows.seen stripe (same k).state.history })) in
        h.is ∙ view_from view h.was _ after refl view.row.holdings (holdings_were h.was) view.row.looks (looks_were h.was) (stripe_given stripe value view).row.knows knows view.slabs (slabs_were h.was) (slice_set view.stripes stripe None) stripes

-- what a look leaves: it counts under the slabs lock alone
looks_after : (m : Moment) (id : ℕ) (look : Look) → id < length m.state.looks → looks_at (state_after_look m.state id look) id ≡ (if has_slabs m.state id then looks_at m.state id ++ look ∷ [] else looks_at m.state id)
looks_after m id look within = elim (has_slabs m.state id) as (λ (b : Bool). looks_at (if b then with_look m.state id look else m.state) id ≡ (if b then looks_at m.state id ++ look ∷ [] else looks_at m.state id)) [
  | true ↦ get_or-set_same m.state.looks id (looks_at m.state id ++ look ∷ []) [] within
  | false ↦ refl
]

-- a look leaves what is held
pub look_holds : (look : Look) (view : View) → (looked_if_held look view).row.holdings ≡ view.row.holdings
look_holds look view = refl

-- what a moment that looked has of the hand
looked_from : (view : View) (m : Moment) (id : ℕ) (events now_made : List OwnEvent) → view ≡ view_at view.setup view.spare events m id → id < length m.state.looks → (after : Moment) (look : Look) (sight : SeenWord) → after.state ≡ state_after_look m.state id look
    → knowledge_at after.past id ≡ record view.row.knows { seen_words = view.row.knows.seen_words ++ sight ∷ [] } → view_at view.setup view.spare now_made after id ≡ record (looked_if_held look (views.view_after_sight sight view)) { events = now_made }
looked_from view m id events now_made is in_range after look sight state_is knows =
    let kept : (T : Type 0) (part : State → T) → part (with_look m.state id look) ≡ part m.state → part after.state ≡ part m.state = λ T part same. ap part state_is ∙ looked_keeps part m.state id look same in
    let looks : List Look = if has_slabs m.state id then looks_at m.state id ++ look ∷ [] else looks_at m.state id in
    let seen : View = record (views.view_after_sight sight view) { events = now_made } in
    let parts : view_at view.setup view.spare now_made after id ≡ view_with_looks looks seen = λ k. record {
      setup = view.setup;
      spare = view.spare;
      events = now_made;
      row = record {
        ids = (kept Ids (λ s. ids_at s id) refl ∙ ap (λ (v : View). v.row.ids) (sym is)) k;
        holdings = (kept (List Holding) (λ s. holdings_at s id) refl ∙ ap (λ (v : View). v.row.holdings) (sym is)) k;
        looks = (ap (λ (s : State). looks_at s id) state_is ∙ looks_after m id look in_range) k;
        knows = knows k;
      };
      slabs = (kept (Option SlabState) (λ s. held_slabs s id) refl ∙ ap (λ (v : View). v.slabs) (sym is)) k;
      stripes = (kept (List (Option ReadyStripe)) (λ s. held_stripes view.setup s id) refl ∙ ap (λ (v : View). v.stripes) (sym is)) k;
      made_of = ap (λ (v : View). v.made_of) (sym is) k;
    } in
    parts
    ∙ (ap (λ (old : List Look). view_with_looks (if has_slabs m.state id then old ++ look ∷ [] else old) seen) (ap (λ (v : View). v.row.looks) (sym is))
    ∙ ap (λ (b : Bool). view_with_looks (if b then view.row.looks ++ look ∷ [] else view.row.looks) seen) (sym (has_if (has_slabs m.state id) m.state.slabs) ∙ ap is_some (ap (λ (v : View). v.slabs) (sym is))))

-- a view after a step that looks
view_looked : (view now : View) (step : Step) (h : Happens view [] step now) (look : Look) (sight : SeenWord) → (moment_stepped h.was.moment h.was.hand step).state ≡ state_after_look h.was.moment.state h.was.hand look
    → knowledge_at (moment_stepped h.was.moment h.was.hand step).past h.was.hand ≡ record view.row.knows { seen_words = view.row.knows.seen_words ++ sight ∷ [] } → now ≡ record (looked_if_held look (views.view_after_sight sight view)) { events = view.events ++ own_event [] step ∷ [] }
view_looked view now step h look sight state_is knows =
    h.is ∙ looked_from view h.was.moment h.was.hand (events_of h.was.hand h.was.run) (view.events ++ own_event [] step ∷ []) h.was.is (rows view now h.was) (moment_stepped h.was.moment h.was.hand step) look sight state_is knows

-- the word of a stripe's lock was seen, in a moment that has this of the hand
pub missed_from : (view : View) (m : Moment) (id : ℕ) (events now_made : List OwnEvent) → view ≡ view_at view.setup view.spare events m id → (stripe word : ℕ) → MayStep m id (core.MissStripe stripe) → slice_index m.state.stripe_locks stripe ≡ word
    → view_at view.setup view.spare now_made (moment_stepped m id (core.MissStripe stripe)) id ≡ record (looked_if_held (SawStripe stripe word) (views.view_after_sight (stripe_word stripe word) view)) { events = now_made }
missed_from view m id events now_made is stripe word may lock =
    let in_range : id < length m.state.looks = let in_range = hand_there m.state id may.there in let count = may.lawful.hands.look_rows in omega arith in
    let knows = knows_after m id (core.MissStripe stripe) refl may (looked_keeps (λ s. s.stripes) m.state id _ refl)
    ∙ (said_none ((knowledge_at m.past id).seen_words ++ stripe_word stripe (slice_index m.state.stripe_locks stripe) ∷ []) (knowledge_at m.past id) (knowledge_at m.past id).hold (knowledge_at m.past id).seen
    ∙ (λ k. let knows = ap (λ (v : View). v.row.knows) (sym is) k in record knows { seen_words = knows.seen_words ++ stripe_word stripe (lock k) ∷ [] })) in
    looked_from view m id events now_made is in_range (moment_stepped m id (core.MissStripe stripe)) (SawStripe stripe word) (stripe_word stripe word) (ap (λ n. state_after_look m.state id (SawStripe stripe n)) lock) knows

-- the word of a stripe's lock was seen
pub missed_stripe : (view now : View) (stripe word : ℕ) → stripe < view.setup.config.stripes → HappensAt (lock_address (suc stripe)) word view [] (core.MissStripe stripe) now → now ≡ stripe_missed stripe word view
missed_stripe view now stripe word in_range at =
    let h = at.0 in
    let m : Moment = h.was.moment in
    let is : slice_index m.state.stripe_locks stripe ≡ word = sym (lock_read view.setup h.was.cuts h.was.words m.state.slabs_lock m.state.stripe_locks m.state.heads m.state.words h.was.are stripe in_range) ∙ at.1 in
    h.is ∙ missed_from view m h.was.hand (events_of h.was.hand h.was.run) (view.events ++ own_event [] (core.MissStripe stripe) ∷ []) h.was.is stripe word (may_step h) is

-- a header was seen
pub seen_head : (view now : View) (chunk : ChunkId) (word : ℕ) → has_chunk view.setup.table chunk ≡ true → HappensAt (head_word view.setup chunk) word view [] (core.Head chunk) now → now ≡ head_seen chunk (decode word) view
seen_head view now chunk word in_range at =
    let h = at.0 in
    let m : Moment = h.was.moment in
    let id : ℕ = h.was.hand in
    let is : head_at m.state chunk ≡ decode word =
    ap (λ table. slice_index_or m.state.heads (head_place table chunk) never_cut) h.was.same_table
    ∙ (head_read view.setup h.was.cuts h.was.words m.state.slabs_lock m.state.stripe_locks m.state.heads m.state.words h.was.are (head_place view.setup.table chunk) never_cut (head_near view.setup chunk in_range) ∙ ap decode at.1) in
    let knows = knows_after m id (core.Head chunk) refl (may_step h) (looked_keeps (λ s. s.stripes) m.state id _ refl)
    ∙ (said_none ((knowledge_at m.past id).seen_words ++ header chunk (head_at m.state chunk) ∷ []) (knowledge_at m.past id) (knowledge_at m.past id).hold (knowledge_at m.past id).seen
    ∙ (λ k. let knows = knew view now h.was k in record knows { seen_words = knows.seen_words ++ header chunk (is k) ∷ [] })) in
    view_looked view now (core.Head chunk) h (Saw chunk (decode word)) (header chunk (decode word)) (ap (λ head. state_after_look m.state id (Saw chunk head)) is) knows
