-- Every change and every step keeps what the holder of the slabs lock saw.
use Rattle.std.proofs.Common.{◌≡◌, ◌≢◌, ℕ, ◌+◌, true, List, [], length, refl, sym, ap, ◌∙◌, subst, inl, inr, arith, slice_set, slice_index_or, Option, Some, None, is_some, get_or-set_same, get_or-set_other}
use Rattle.std.specs.Option.{option_map_or}
use Rattle.std.proofs.lemmas.Bool.{and_parts, both_ways, cases_eq, cases_lt}
use Rattle.std.proofs.lemmas.List.{set_past}
use Rattle.mc_core.specs.declared.event.Change.{Change}
use Rattle.mc_core.specs.declared.event.Change.TheVariants.{Grow, BeginMove, FinishMove, Touch, SetAutomove, TrimLedger, Passed, Wrap, Evicted, OfStripe, GotNone, DeletedNone}
use Rattle.mc_core.specs.declared.event.Step.TheVariants.{TakeSlabs, TakeStripe, MissSlabs, MissStripe, GiveSlabs, GiveStripe, Pop, PopOff, Fill, Word, WordHeld, Link, Refer, Unlink, Release, Discard, Condemn, PutBack, Clear, Cut, Again, Join}
use Rattle.mc_core.specs.declared.event.Step.TheVariants as step
use Rattle.mc_core.specs.declared.ids.Ids.{Ids}
use Rattle.mc_core.specs.declared.look.Look.TheVariants.{Changed}
use Rattle.mc_core.specs.run.Locks.{lock_word}
use Rattle.mc_core.specs.run.Silent.{slabs_after}
use Rattle.mc_core.specs.model.State.{no_ids, is_held_by, has_slabs, is_hand, number_at, looks_at, stripe_at, with_slabs, with_look}
use Rattle.mc_core.specs.past.Past.{Moment, Hold, begin_hold, end_hold, no_hold, with_more, moment_stepped, first_moment}
use Rattle.mc_core.specs.law.Seen.{AreSeen}
use Rattle.mc_core.specs.law.Laws.{MayStep, ChangesKeep, StepsKeep, StaysOfClass, HoldsAtFirst}
use Rattle.mc_core.specs.law.Lawful.{IsLawful, IsSeenBy, SeenIn}
use Rattle.mc_core.proofs.Places.SamePages.{stays_changes}
use Rattle.mc_core.proofs.Steps.Plays.{hand_there}
use Rattle.mc_core.proofs.Hands.MoreRows.{row_of, row_same, row_other, joined_rows}
use Rattle.mc_core.proofs.Known.KnownQuiet.{nothing_learned}
use Rattle.mc_core.proofs.Known.KnownCondemned.{are_joined, known_still}
use Rattle.mc_core.proofs.Seen.SeenLooks.{put_same, seen_left}
use Rattle.mc_core.proofs.Seen.SeenAdds.{adds_changed}
use Rattle.mc_core.proofs.Seen.SeenHolder.{held_is, found_by, seen_change}
use Rattle.mc_core.proofs.Seen.SeenQuiet.{seen_same, seen_fill, seen_link, seen_refer, seen_again, seen_unlink, seen_release, seen_discard}
use Rattle.mc_core.proofs.Seen.SeenTurns.{seen_miss_stripe, seen_head, seen_pop, seen_pop_off, seen_word_held, seen_condemn, seen_put_back, seen_clear, seen_cut}

-- pages and lists change, and the hand remembers it
seen_changed : (m : Moment) (hand : ℕ) (change : Change) (l : IsLawful m) → is_hand m.state hand ≡ true → has_slabs m.state hand ≡ true → StaysOfClass m.state (with_slabs m.state (slabs_after m.state.slabs change)) →
    (h : ℕ) → has_slabs m.state h ≡ true → IsSeenBy (with_look (with_slabs m.state (slabs_after m.state.slabs change)) hand (Changed change)) m.past h
seen_changed m hand change l there mine stays h has =
    seen_change m l hand there mine (slabs_after m.state.slabs change) m.state.heads (Changed change)
    (adds_changed m.state.table m.state.slabs m.state.heads m.state.words m.past.known (looks_at m.state hand) change (found_by m l m.past.holds hand) (l.seen hand mine) stays) h has

pub seen_changes : ChangesKeep SeenIn
seen_changes m hand (Grow class) may h has = seen_changed m hand (Grow class) may.lawful may.there (and_parts (has_slabs m.state hand) _ may.allowed).0 (stays_changes m hand (Grow class) may) h has
seen_changes m hand (BeginMove src dst) may h has = seen_changed m hand (BeginMove src dst) may.lawful may.there (and_parts (has_slabs m.state hand) _ may.allowed).0 (stays_changes m hand (BeginMove src dst) may) h has
seen_changes m hand FinishMove may h has = seen_changed m hand FinishMove may.lawful may.there (and_parts (has_slabs m.state hand) _ may.allowed).0 (stays_changes m hand FinishMove may) h has
seen_changes m hand (Touch chunk) may h has = seen_changed m hand (Touch chunk) may.lawful may.there (and_parts (has_slabs m.state hand) _ may.allowed).0 (stays_changes m hand (Touch chunk) may) h has
seen_changes m hand (SetAutomove mode) may h has = seen_changed m hand (SetAutomove mode) may.lawful may.there (and_parts (has_slabs m.state hand) _ may.allowed).0 (stays_changes m hand (SetAutomove mode) may) h has
seen_changes m hand TrimLedger may h has = seen_changed m hand TrimLedger may.lawful may.there (and_parts (has_slabs m.state hand) _ may.allowed).0 (stays_changes m hand TrimLedger may) h has
seen_changes m hand (Passed found) may h has = seen_changed m hand (Passed found) may.lawful may.there (and_parts (has_slabs m.state hand) _ may.allowed).0 (stays_changes m hand (Passed found) may) h has
seen_changes m hand Wrap may h has = seen_changed m hand Wrap may.lawful may.there (and_parts (has_slabs m.state hand) _ may.allowed).0 (stays_changes m hand Wrap may) h has
seen_changes m hand (Evicted class) may h has = seen_changed m hand (Evicted class) may.lawful may.there (and_parts (has_slabs m.state hand) _ may.allowed).0 (stays_changes m hand (Evicted class) may) h has
seen_changes m hand (OfStripe stripe how) may h has = may.lawful.seen h has
seen_changes m hand (GotNone key) may h has = may.lawful.seen h has
seen_changes m hand (DeletedNone key) may h has = may.lawful.seen h has

never : {X : Type 0} (x : X) (P : Type 0) → None ≡ Some x → P
never x P e = absurd (cc)

-- nothing was seen yet
nothing_seen : (m : Moment) → AreSeen m.state.table m.state.slabs m.state.heads m.state.words m.past.known m.state.slabs []
nothing_seen m = record {
  last_heads = λ chunk seen in_range last. never seen _ last;
  linked = λ chunk issue in_range last. never issue _ last;
  read_words = λ chunk place word in_range last. never word _ last;
  told = refl;
}

number_of_word : (number : Option ℕ) (n : ℕ) → is_some number ≡ true → option_map_or (λ k. k + 1) number 0 ≡ n + 1 → number ≡ Some n
number_of_word None n there is = absurd (cc)
number_of_word (Some k) n there is = ap Some (let same : k + 1 ≡ n + 1 = is in omega arith)

module _ (m : Moment) (hand : ℕ) where
  -- a hold begins
  seen_take : MayStep m hand TakeSlabs → SeenIn (moment_stepped m hand TakeSlabs)
  seen_take may h has =
      let l = may.lawful in
      let (n, is_h, word) = held_is (lock_word m.state hand) (number_at m.state h) has in
      let same : hand ≡ h = l.hands.apart hand h n (number_of_word (number_at m.state hand) n may.there word) is_h in
      let is = hand_there m.state hand may.there in let long = l.hands.look_rows in let rows = l.rows.holds in
      let hold : Hold = slice_index_or m.past.holds hand no_hold in
      let begun : Hold = record hold { found = m.state.slabs; count = hold.count + 1 } in
      let holds' = slice_set m.past.holds hand begun in
      let found : (slice_index_or holds' hand no_hold).found ≡ m.state.slabs =
      ap (λ (x : Hold). x.found) (get_or-set_same m.past.holds hand begun no_hold (omega arith)) in
      let looks : row_of (slice_set m.state.looks hand []) hand ≡ [] = row_same m.state.looks hand [] (omega arith) in
      let seen = nothing_learned (λ _ known. AreSeen m.state.table m.state.slabs m.state.heads m.state.words known m.state.slabs []) m.past.stored m.past.known hand (nothing_seen m) in
      subst (λ n. AreSeen m.state.table m.state.slabs m.state.heads m.state.words (with_more m.past.known hand []) (slice_index_or holds' n no_hold).found (row_of (slice_set m.state.looks hand []) n)) same
      (subst (λ f. AreSeen m.state.table m.state.slabs m.state.heads m.state.words (with_more m.past.known hand []) f (row_of (slice_set m.state.looks hand []) hand)) (sym found)
      (subst (λ looks. AreSeen m.state.table m.state.slabs m.state.heads m.state.words (with_more m.past.known hand []) m.state.slabs looks) (sym looks) seen))

  -- a hold ends
  seen_give : SeenIn (moment_stepped m hand GiveSlabs)
  seen_give h has = let (n, is, word) = held_is 0 (number_at m.state h) has in absurd (omega arith)

  module _ (kept spent : ℕ) (may : MayStep m hand (Join kept spent)) where
    abbrev ids' : List Ids
    ids' = slice_set m.state.ids spent no_ids

    -- the spent hand has no lock, and other hands have the lock that they had
    joined_has : (h : ℕ) → is_held_by m.state.slabs_lock (slice_index_or ids' h no_ids).number ≡ true → (h ≢ spent) × (has_slabs m.state h ≡ true)
    joined_has h has =
        elim (cases_eq h spent) [
          | inl same ↦ absurd (
              let is = hand_there m.state spent (are_joined m hand kept spent may).there_too in
              let none : slice_index_or ids' h no_ids ≡ no_ids = subst (λ n. slice_index_or ids' n no_ids ≡ no_ids) (sym same) (get_or-set_same m.state.ids spent no_ids no_ids is) in
              let held : is_held_by m.state.slabs_lock None ≡ true = subst (λ (i : Ids). is_held_by m.state.slabs_lock i.number ≡ true) none has in both_ways _ refl held)
          | inr apart ↦
              (apart, subst (λ (i : Ids). is_held_by m.state.slabs_lock i.number ≡ true) (get_or-set_other m.state.ids spent h no_ids no_ids apart) has)
        ]

    seen_join : SeenIn (moment_stepped m hand (Join kept spent))
    seen_join h has =
        let both = joined_has h has in
        let holds' = slice_set m.past.holds spent no_hold in
        let known' = joined_rows m.past.known kept spent in
        let found : (slice_index_or m.past.holds h no_hold).found ≡ (slice_index_or holds' h no_hold).found =
        ap (λ (x : Hold). x.found) (sym (get_or-set_other m.past.holds spent h no_hold no_hold both.0)) in
        let looks : looks_at m.state h ≡ row_of (slice_set m.state.looks spent []) h = sym (row_other m.state.looks spent h [] both.0) in
        let seen = seen_left m.state.table m.state.slabs (slice_index_or m.past.holds h no_hold).found m.state.heads m.state.heads m.state.words m.state.words m.past.known known' (looks_at m.state h)
        (record {
          headers = λ chunk in_range. put_same _;
          items = λ chunk issue. known_still m hand kept spent may (λ k. (k.chunk ≡ chunk) × (k.issue ≡ issue));
          data_words = λ chunk place issue in_range is within. refl;
        }) (may.lawful.seen h both.1) in
        subst (λ looks. AreSeen m.state.table m.state.slabs m.state.heads m.state.words known' (slice_index_or holds' h no_hold).found looks) looks
        (subst (λ f. AreSeen m.state.table m.state.slabs m.state.heads m.state.words known' f (looks_at m.state h)) found seen)

-- as a hold of a stripe's lock begins or ends, what was found behind that of the slabs stays
found_stays : (holds : List Hold) (hand h : ℕ) (next : Hold) → next.found ≡ (slice_index_or holds hand no_hold).found → (slice_index_or holds h no_hold).found ≡ (slice_index_or (slice_set holds hand next) h no_hold).found
found_stays holds hand h next same = elim (cases_eq h hand) [
  | inl is ↦ elim (cases_lt hand (length holds)) [
    | inl within ↦
        subst (λ n. (slice_index_or holds n no_hold).found ≡ (slice_index_or (slice_set holds hand next) n no_hold).found) (sym is)
        (sym same ∙ ap (λ (x : Hold). x.found) (sym (get_or-set_same holds hand next no_hold within)))
    | inr past ↦ ap (λ (all : List Hold). (slice_index_or all h no_hold).found) (sym (set_past holds hand next past))
  ]
  | inr apart ↦ ap (λ (x : Hold). x.found) (sym (get_or-set_other holds hand h next no_hold apart))
]

seen_stripe : (m : Moment) (hand : ℕ) (next : Hold) → IsLawful m → next.found ≡ (slice_index_or m.past.holds hand no_hold).found → (h : ℕ) → has_slabs m.state h ≡ true
    → AreSeen m.state.table m.state.slabs m.state.heads m.state.words (with_more m.past.known hand []) (slice_index_or (slice_set m.past.holds hand next) h no_hold).found (looks_at m.state h)
seen_stripe m hand next l same h has =
    subst (λ found. AreSeen m.state.table m.state.slabs m.state.heads m.state.words (with_more m.past.known hand []) found (looks_at m.state h))
    (sym (found_stays m.past.holds hand h (slice_index_or m.past.holds hand no_hold) refl) ∙ found_stays m.past.holds hand h next same) (seen_same m hand l h has)

pub seen_steps : StepsKeep SeenIn
seen_steps m hand TakeSlabs may = seen_take m hand may
seen_steps m hand (TakeStripe stripe) may = seen_stripe m hand (begin_hold stripe (stripe_at m.state stripe) (slice_index_or m.past.holds hand no_hold)) may.lawful refl
seen_steps m hand MissSlabs may = λ h has. seen_same m hand may.lawful h has
seen_steps m hand (MissStripe stripe) may = seen_miss_stripe m hand stripe may
seen_steps m hand GiveSlabs may = seen_give m hand
seen_steps m hand (GiveStripe stripe) may = seen_stripe m hand (end_hold stripe (stripe_at m.state stripe) (slice_index_or m.past.holds hand no_hold)) may.lawful refl
seen_steps m hand (step.Head chunk) may = seen_head m hand chunk may
seen_steps m hand (Pop class) may = seen_pop m hand class may
seen_steps m hand (PopOff old) may = seen_pop_off m hand old may
seen_steps m hand (Fill chunk place word) may = seen_fill m hand chunk place word may
seen_steps m hand (Word chunk place) may = λ h has. seen_same m hand may.lawful h has
seen_steps m hand (WordHeld chunk place) may = seen_word_held m hand chunk place may
seen_steps m hand (Link chunk) may = seen_link m hand chunk may
seen_steps m hand (Refer key) may = seen_refer m hand key may
seen_steps m hand (Unlink key) may = seen_unlink m hand key may
seen_steps m hand (Release chunk) may = seen_release m hand chunk may
seen_steps m hand (Discard chunk) may = seen_discard m hand chunk may
seen_steps m hand (Condemn chunk) may = seen_condemn m hand chunk may
seen_steps m hand (PutBack chunk) may = seen_put_back m hand chunk may
seen_steps m hand (Clear chunk) may = seen_clear m hand chunk may
seen_steps m hand (Cut page index) may = seen_cut m hand page index may
seen_steps m hand (Again chunk issue) may = seen_again m hand chunk issue may
seen_steps m hand (Join kept spent) may = seen_join m hand kept spent may

pub seen_first : HoldsAtFirst SeenIn
seen_first table stripes hands start sound some one most _ h has =
    let (n, is, word) = held_is 0 (number_at (first_moment table stripes hands start).state h) has in absurd (omega arith)
