-- Each step writes one word at most, histories grow by calls of the stepping hand, and a run is played to its end.
use Rattle.std.proofs.Common.{◌≡◌, ℕ, ◌+◌, ◌&&◌, true, cond, List, [], ◌∷◌, ◌++◌, Option, Some, None, Ok, Err, refl, sym, ap, ◌∙◌, subst, slice_set, slice_index, slice_index_or, is_some, unwrap_or, append_assoc, get_or-set_other}
use Rattle.std.proofs.lemmas.Bool.{and_parts}
use Rattle.std.proofs.lemmas.List.{append-nil}
use Rattle.std.proofs.lemmas.List.Elements.{All-nil, All-append}
use Rattle.mc_pages.specs.declared.ids.ChunkId.{ChunkId}
use Rattle.mc_pages.specs.Changes as slabs_changes
use Rattle.mc_stripe.specs.declared.history.Call.{Call}
use Rattle.mc_core.specs.declared.event.Change.{Change}
use Rattle.mc_core.specs.declared.event.Change.TheVariants.{Grow, BeginMove, FinishMove, Touch, SetAutomove, TrimLedger, Passed, Wrap, Evicted, OfStripe, GotNone, DeletedNone}
use Rattle.mc_core.specs.declared.event.Event.{Event}
use Rattle.mc_core.specs.declared.event.Step.{Step}
use Rattle.mc_core.specs.declared.event.Step.TheVariants as step
use Rattle.mc_core.specs.declared.head.Head.{Head}
use Rattle.mc_core.specs.declared.holding.Holding.{Holding}
use Rattle.mc_core.specs.declared.holding.Kind.{Kind}
use Rattle.mc_core.specs.declared.holding.Kind.TheVariants.{Reference, Fresh}
use Rattle.mc_core.specs.declared.holding.Purpose.TheVariants.{Item, Copy, Rescue}
use Rattle.mc_core.specs.model.Head.{never_cut}
use Rattle.mc_core.specs.law.Histories.{hand_of}
use Rattle.mc_core.specs.model.Holdings.{is_of_chunk, holding_of, has_fresh}
use Rattle.mc_core.specs.model.State.{State, is_hand, head_at, with_head, number_at, stripe_of, stripe_at, with_stripe, holdings_at, with_holding, without_holding, with_slabs}
use Rattle.mc_core.specs.run.Silent.{writer_of, allows_change, after_change, allows_changes, after_changes}
use Rattle.mc_core.specs.run.Chunks.{next_free, target_of, state_after_pop_of, popped_off}
use Rattle.mc_core.specs.run.Items.{head_after_link, as_reference, after_link_of, recorded_link, referred_to, with_got, stripe_unlinked, with_unlinked, chunk_of_key}
use Rattle.mc_core.specs.run.Run.{allows_step, after_step, is_allowed, state_after_event, play_from}
use Rattle.mc_core.specs.past.Past.{Moment, history_at, items_stored_by_step, moment_changed, moment_changes, moment_after}
use Rattle.mc_core.specs.law.Lawful.{IsLawful}
use Rattle.mc_core.specs.law.Laws.{MayChange, MayStep, IsRun, moment_at_end}
use Rattle.mc_core.specs.run.Effects.{Place, of_header, of_data, of_slabs, of_stripe, of_hands, IsSameAt, IsSameBut, WriteOneWord, HasGrown, HaveGrown, HistoriesGrow, RunsArePlayed}
use Rattle.mc_core.proofs.Frame.Own.{IsOwn, own_step, own_change, is_plain}
use Rattle.mc_core.proofs.Frame.SameSlabs.{looked_keeps}
use Rattle.mc_core.proofs.Law.LawKept.{lawful_changes, changes_state, may_step, state_after}
use Rattle.mc_core.proofs.Histories.ToldBy.{told_by_change, told_by_step}
use Rattle.mc_core.proofs.Histories.ToldKept.{grown_told}

-- a word at most is written
abbrev IsOneWord : State → State → Type 0
IsOneWord before now = (written : Place) × IsSameBut before now written

-- the locks, and which hands there are, are as before
abbrev SameLocks : State → State → Type 0
SameLocks s now = (now.slabs_lock ≡ s.slabs_lock) × (now.stripe_locks ≡ s.stripe_locks) × ((other : ℕ) → number_at now other ≡ number_at s other)

own_locks : (s now : State) (hand : ℕ) → IsOwn s now hand → SameLocks s now
own_locks s now hand own = (own.slabs_lock, own.stripe_locks, own.numbers)

module _ (s now : State) (locks : SameLocks s now) where
  -- no word is written
  none_written : now.heads ≡ s.heads → now.words ≡ s.words → (place : Place) → IsSameAt s now place
  none_written heads words (of_header at) = ap (λ (hs : List Head). slice_index_or hs at never_cut) heads
  none_written heads words (of_data at) = ap (λ (ws : List ℕ). slice_index ws at) words
  none_written heads words of_slabs = locks.0
  none_written heads words (of_stripe at) = ap (λ (ws : List ℕ). slice_index ws at) locks.1
  none_written heads words of_hands = locks.2

  nothing_written : now.heads ≡ s.heads → now.words ≡ s.words → IsOneWord s now
  nothing_written heads words = (of_slabs, λ place apart. none_written heads words place)

  -- a header is written
  header_written : (at : ℕ) (head : Head) → now.heads ≡ slice_set s.heads at head → now.words ≡ s.words → IsOneWord s now
  header_written at head heads words = (of_header at, same)
    where
      same : IsSameBut s now (of_header at)
      same (of_header other) apart = ap (λ (hs : List Head). slice_index_or hs other never_cut) heads ∙ get_or-set_other s.heads at other head never_cut (λ e. apart (ap of_header e))
      same (of_data other) apart = ap (λ (ws : List ℕ). slice_index ws other) words
      same of_slabs apart = locks.0
      same (of_stripe other) apart = ap (λ (ws : List ℕ). slice_index ws other) locks.1
      same of_hands apart = locks.2

  -- a data word is written
  word_written : (at word : ℕ) → now.heads ≡ s.heads → now.words ≡ slice_set s.words at word → IsOneWord s now
  word_written at word heads words = (of_data at, same)
    where
      same : IsSameBut s now (of_data at)
      same (of_header other) apart = ap (λ (hs : List Head). slice_index_or hs other never_cut) heads
      same (of_data other) apart = ap (λ (ws : List ℕ). slice_index ws other) words ∙ get_or-set_other s.words at other word 0 (λ e. apart (ap of_data e))
      same of_slabs apart = locks.0
      same (of_stripe other) apart = ap (λ (ws : List ℕ). slice_index ws other) locks.1
      same of_hands apart = locks.2

-- the word of the slabs lock is written
slabs_written : (s now : State) → now.heads ≡ s.heads → now.words ≡ s.words → now.stripe_locks ≡ s.stripe_locks → ((other : ℕ) → number_at now other ≡ number_at s other) → IsOneWord s now
slabs_written s now heads words locks numbers = (of_slabs, same)
  where
    same : IsSameBut s now of_slabs
    same (of_header other) apart = ap (λ (hs : List Head). slice_index_or hs other never_cut) heads
    same (of_data other) apart = ap (λ (ws : List ℕ). slice_index ws other) words
    same of_slabs apart = absurd (apart refl)
    same (of_stripe other) apart = ap (λ (ws : List ℕ). slice_index ws other) locks
    same of_hands apart = numbers

-- the word of a stripe's lock is written
stripe_written : (s now : State) (at word : ℕ) → now.heads ≡ s.heads → now.words ≡ s.words → now.slabs_lock ≡ s.slabs_lock → now.stripe_locks ≡ slice_set s.stripe_locks at word
    → ((other : ℕ) → number_at now other ≡ number_at s other) → IsOneWord s now
stripe_written s now at word heads words slabs locks numbers = (of_stripe at, same)
  where
    same : IsSameBut s now (of_stripe at)
    same (of_header other) apart = ap (λ (hs : List Head). slice_index_or hs other never_cut) heads
    same (of_data other) apart = ap (λ (ws : List ℕ). slice_index ws other) words
    same of_slabs apart = slabs
    same (of_stripe other) apart = ap (λ (ws : List ℕ). slice_index ws other) locks ∙ get_or-set_other s.stripe_locks at other word 0 (λ e. apart (ap of_stripe e))
    same of_hands apart = numbers

-- the word of the hands is written
hands_written : (s now : State) → now.heads ≡ s.heads → now.words ≡ s.words → now.slabs_lock ≡ s.slabs_lock → now.stripe_locks ≡ s.stripe_locks → IsOneWord s now
hands_written s now heads words slabs locks = (of_hands, same)
  where
    same : IsSameBut s now of_hands
    same (of_header other) apart = ap (λ (hs : List Head). slice_index_or hs other never_cut) heads
    same (of_data other) apart = ap (λ (ws : List ℕ). slice_index ws other) words
    same of_slabs apart = slabs
    same (of_stripe other) apart = ap (λ (ws : List ℕ). slice_index ws other) locks
    same of_hands apart = absurd (apart refl)

-- steps that may come to nothing
one_popped : (s : State) (hand : ℕ) (next : Option ChunkId) → SameLocks s (state_after_pop_of s hand next) → IsOneWord s (state_after_pop_of s hand next)
one_popped s hand None locks = nothing_written s s locks refl refl
one_popped s hand (Some chunk) locks = header_written s (state_after_pop_of s hand (Some chunk)) locks _ _ refl refl

one_popped_off : (s : State) (hand : ℕ) (old : ChunkId) (next : Option ChunkId) → SameLocks s (popped_off s hand old next) → IsOneWord s (popped_off s hand old next)
one_popped_off s hand old None locks = nothing_written s s locks refl refl
one_popped_off s hand old (Some chunk) locks = header_written s (popped_off s hand old (Some chunk)) locks _ _ refl refl

one_referred : (s : State) (hand : ℕ) (place : Option (ChunkId × ℕ)) → SameLocks s (referred_to s hand place) → IsOneWord s (referred_to s hand place)
one_referred s hand None locks = nothing_written s s locks refl refl
one_referred s hand (Some place) locks = header_written s (referred_to s hand (Some place)) locks _ _ refl refl

one_unlinked : (s : State) (place : Option (ChunkId × ℕ)) → SameLocks s (with_unlinked s place) → IsOneWord s (with_unlinked s place)
one_unlinked s None locks = nothing_written s s locks refl refl
one_unlinked s (Some place) locks = header_written s (with_unlinked s (Some place)) locks _ _ refl refl

-- a link, by what it tells the stripe
abbrev told_of : State → ℕ → ChunkId → Head → Holding → Holding → Kind → State
told_of s hand chunk head reference holding kind = with_holding (with_head (recorded_link s hand holding kind) chunk head) hand reference

one_told : (s : State) (hand : ℕ) (chunk : ChunkId) (head : Head) (reference holding : Holding) (kind : Kind)
    → SameLocks s (told_of s hand chunk head reference holding kind) → IsOneWord s (told_of s hand chunk head reference holding kind)
one_told s hand chunk head reference holding (Reference own) locks = header_written s (told_of s hand chunk head reference holding (Reference own)) locks _ _ refl refl
one_told s hand chunk head reference holding (Fresh Item own) locks = header_written s (told_of s hand chunk head reference holding (Fresh Item own)) locks _ _ refl refl
one_told s hand chunk head reference holding (Fresh (Copy old) own) locks = header_written s (told_of s hand chunk head reference holding (Fresh (Copy old) own)) locks _ _ refl refl
one_told s hand chunk head reference holding (Fresh (Rescue old item) own) locks = header_written s (told_of s hand chunk head reference holding (Fresh (Rescue old item) own)) locks _ _ refl refl

one_linked : (s : State) (hand : ℕ) (chunk : ChunkId) (found : Option Holding) → SameLocks s (after_link_of s hand chunk found) → IsOneWord s (after_link_of s hand chunk found)
one_linked s hand chunk None locks = nothing_written s s locks refl refl
one_linked s hand chunk (Some holding) locks = one_told s hand chunk (head_after_link (head_at s chunk)) (as_reference holding) holding holding.kind locks

-- a step that takes and gives no lock, and joins no hands
module _ (s : State) (hand : ℕ) (next : Step) (plain : is_plain next ≡ true) where
  abbrev now : State
  now = after_step s hand next

  locks_stay : SameLocks s now
  locks_stay = own_locks s now hand (own_step s hand next plain)

  no_word : now.heads ≡ s.heads → now.words ≡ s.words → IsOneWord s now
  no_word heads words = nothing_written s now locks_stay heads words

  one_head : (at : ℕ) (head : Head) → now.heads ≡ slice_set s.heads at head → now.words ≡ s.words → IsOneWord s now
  one_head at head heads words = header_written s now locks_stay at head heads words

pub one_word_step : (s : State) (hand : ℕ) (next : Step) → IsOneWord s (after_step s hand next)
one_word_step s hand step.TakeSlabs = slabs_written s (after_step s hand step.TakeSlabs) refl refl refl (λ other. refl)
one_word_step s hand (step.TakeStripe stripe) = stripe_written s (after_step s hand (step.TakeStripe stripe)) stripe _ refl refl refl refl (λ other. refl)
one_word_step s hand step.MissSlabs = no_word s hand step.MissSlabs refl refl refl
one_word_step s hand (step.MissStripe stripe) = no_word s hand (step.MissStripe stripe) refl (looked_keeps (λ x. x.heads) s hand _ refl) (looked_keeps (λ x. x.words) s hand _ refl)
one_word_step s hand step.GiveSlabs = slabs_written s (after_step s hand step.GiveSlabs) refl refl refl (λ other. refl)
one_word_step s hand (step.GiveStripe stripe) = stripe_written s (after_step s hand (step.GiveStripe stripe)) stripe 0 refl refl refl refl (λ other. refl)
one_word_step s hand (step.Head chunk) = no_word s hand (step.Head chunk) refl (looked_keeps (λ x. x.heads) s hand _ refl) (looked_keeps (λ x. x.words) s hand _ refl)
one_word_step s hand (step.Pop class) = one_popped (with_slabs s (slabs_changes.after_pop s.slabs class)) hand (next_free s class) (locks_stay s hand (step.Pop class) refl)
one_word_step s hand (step.PopOff old) = one_popped_off s hand old (target_of s.table s.heads s.slabs old.page) (locks_stay s hand (step.PopOff old) refl)
one_word_step s hand (step.Fill chunk place word) = word_written s (after_step s hand (step.Fill chunk place word)) (locks_stay s hand (step.Fill chunk place word) refl) _ word refl refl
one_word_step s hand (step.Word chunk place) = no_word s hand (step.Word chunk place) refl refl refl
one_word_step s hand (step.WordHeld chunk place) = no_word s hand (step.WordHeld chunk place) refl refl refl
one_word_step s hand (step.Link chunk) = one_linked (without_holding s hand (is_of_chunk chunk)) hand chunk (holding_of chunk (holdings_at s hand)) (locks_stay s hand (step.Link chunk) refl)
one_word_step s hand (step.Refer key) = one_referred (with_got s hand key) hand (chunk_of_key s key) (locks_stay s hand (step.Refer key) refl)
one_word_step s hand (step.Unlink key) =
    one_unlinked (with_stripe s (stripe_of s key) (stripe_unlinked (stripe_at s (stripe_of s key)) (has_fresh (holdings_at s hand)) (writer_of s hand) key)) (chunk_of_key s key) (locks_stay s hand (step.Unlink key) refl)
one_word_step s hand (step.Release chunk) = one_head s hand (step.Release chunk) refl _ _ refl refl
one_word_step s hand (step.Discard chunk) = one_head s hand (step.Discard chunk) refl _ _ refl refl
one_word_step s hand (step.Condemn chunk) = one_head s hand (step.Condemn chunk) refl _ _ refl refl
one_word_step s hand (step.PutBack chunk) = one_head s hand (step.PutBack chunk) refl _ _ refl refl
one_word_step s hand (step.Clear chunk) = one_head s hand (step.Clear chunk) refl _ _ refl refl
one_word_step s hand (step.Cut page index) = one_head s hand (step.Cut page index) refl _ _ refl refl
one_word_step s hand (step.Again chunk issue) = one_head s hand (step.Again chunk issue) refl _ _ refl refl
one_word_step s hand (step.Join kept spent) = hands_written s (after_step s hand (step.Join kept spent)) refl refl refl refl

-- a silent change writes none
no_word_change : (s : State) (hand : ℕ) (change : Change) → (place : Place) → IsSameAt s (after_change s hand change) place
no_word_change s hand change = none_written s (after_change s hand change) (own_locks s (after_change s hand change) hand (own_change s hand change)) (heads_stay change) (words_stay change)
  where
    heads_stay : (change : Change) → (after_change s hand change).heads ≡ s.heads
    heads_stay (Grow class) = refl
    heads_stay (BeginMove src dst) = refl
    heads_stay FinishMove = refl
    heads_stay (Touch chunk) = refl
    heads_stay (SetAutomove mode) = refl
    heads_stay TrimLedger = refl
    heads_stay (Passed found) = refl
    heads_stay Wrap = refl
    heads_stay (Evicted class) = refl
    heads_stay (OfStripe stripe how) = refl
    heads_stay (GotNone key) = refl
    heads_stay (DeletedNone key) = refl

    words_stay : (change : Change) → (after_change s hand change).words ≡ s.words
    words_stay (Grow class) = refl
    words_stay (BeginMove src dst) = refl
    words_stay FinishMove = refl
    words_stay (Touch chunk) = refl
    words_stay (SetAutomove mode) = refl
    words_stay TrimLedger = refl
    words_stay (Passed found) = refl
    words_stay Wrap = refl
    words_stay (Evicted class) = refl
    words_stay (OfStripe stripe how) = refl
    words_stay (GotNone key) = refl
    words_stay (DeletedNone key) = refl

-- what is the same in both of two goes is so in both together
same_then : (a b c : State) (place : Place) → IsSameAt a b place → IsSameAt b c place → IsSameAt a c place
same_then a b c (of_header at) p q = q ∙ p
same_then a b c (of_data at) p q = q ∙ p
same_then a b c of_slabs p q = q ∙ p
same_then a b c (of_stripe at) p q = q ∙ p
same_then a b c of_hands p q = λ hand. q hand ∙ p hand

no_word_changes : (s : State) (hand : ℕ) (changes : List Change) (place : Place) → IsSameAt s (after_changes s hand changes) place
no_word_changes s hand [] place = none_written s s (refl, refl, λ other. refl) refl refl place
no_word_changes s hand (change ∷ changes) place =
    same_then s (after_change s hand change) (after_changes s hand (change ∷ changes)) place (no_word_change s hand change place) (no_word_changes (after_change s hand change) hand changes place)

one_word_event : (m : Moment) (event : Event) → IsOneWord m.state (state_after_event m.state event)
one_word_event m event =
    let ready : State = after_changes m.state event.hand event.before in
    let (written, same) = one_word_step ready event.hand event.step in
    (written, λ place apart. same_then m.state ready (state_after_event m.state event) place (no_word_changes m.state event.hand event.before place) (same place apart))

pub write_one_word : WriteOneWord
write_one_word = record {
  changes = λ m hand change may. no_word_change m.state hand change;
  steps = λ m hand next may. one_word_step m.state hand next;
  events = λ m event l allowed. subst (λ (s : State). IsOneWord m.state s) (sym (state_after m event)) (one_word_event m event);
}

-- histories grow
module _ (s now : State) (hand : ℕ) where
  -- the hand's number is what it writes
  from_writer : ((stripe : ℕ) → HasGrown (writer_of s hand) (history_at s stripe) (history_at now stripe)) → HaveGrown s now hand
  from_writer grown number stripe is = subst (λ n. HasGrown n (history_at s stripe) (history_at now stripe)) (ap (λ (o : Option ℕ). unwrap_or o 0) is) (grown stripe)

grown_by_change : (m : Moment) (hand : ℕ) (change : Change) → MayChange m hand change → HaveGrown m.state (after_change m.state hand change) hand
grown_by_change m hand change may =
    let now : State = after_change m.state hand change in
    let grown = grown_told m.state now.stripes hand [] (told_by_change m.state hand may.lawful.legal change may.allowed) in
    from_writer m.state now hand (λ stripe. record { more = (grown.each stripe).more; grown = (grown.each stripe).grown; own = (grown.each stripe).own })

grown_by_step : (m : Moment) (hand : ℕ) (next : Step) → MayStep m hand next → HaveGrown m.state (after_step m.state hand next) hand
grown_by_step m hand next may =
    let now : State = after_step m.state hand next in
    let grown = grown_told m.state now.stripes hand (items_stored_by_step m.state hand next) (told_by_step m.state hand may.lawful.legal next may.allowed) in
    from_writer m.state now hand (λ stripe. record { more = (grown.each stripe).more; grown = (grown.each stripe).grown; own = (grown.each stripe).own })

grown_then : (number : ℕ) (a b c : List Call) → HasGrown number a b → HasGrown number b c → HasGrown number a c
grown_then number a b c p q = record {
  more = p.more ++ q.more;
  grown = q.grown ∙ ap (λ (calls : List Call). calls ++ q.more) p.grown ∙ append_assoc a p.more q.more;
  own = All-append (λ call. hand_of call ≡ number) p.more q.more p.own q.own;
}

grown_none : (number : ℕ) (calls : List Call) → HasGrown number calls calls
grown_none number calls = record { more = []; grown = sym (append-nil calls); own = All-nil (λ call. hand_of call ≡ number) }

grown_by_changes : (m : Moment) (hand : ℕ) (changes : List Change) → IsLawful m → is_hand m.state hand ≡ true → allows_changes m.state hand changes ≡ true → HaveGrown m.state (moment_changes m hand changes).state hand
grown_by_changes m hand [] l there allowed = λ number stripe is. grown_none number (history_at m.state stripe)
grown_by_changes m hand (change ∷ changes) l there allowed =
    let parts = and_parts (allows_change m.state hand change) (allows_changes (after_change m.state hand change) hand changes) allowed in
    let may : MayChange m hand change = record { lawful = l; there = there; allowed = parts.0 } in
    let same : number_at (after_change m.state hand change) hand ≡ number_at m.state hand = (own_change m.state hand change).numbers hand in
    let next : Moment = moment_changed m hand change in
    let rest = grown_by_changes next hand changes (lawful_changes m hand change may) (ap is_some same ∙ there) parts.1 in
    λ number stripe is. grown_then number (history_at m.state stripe) (history_at next.state stripe) _ (grown_by_change m hand change may number stripe is) (rest number stripe (same ∙ is))

numbers_kept : (s : State) (hand other : ℕ) (changes : List Change) → number_at (after_changes s hand changes) other ≡ number_at s other
numbers_kept s hand other [] = refl
numbers_kept s hand other (change ∷ changes) = numbers_kept (after_change s hand change) hand other changes ∙ (own_change s hand change).numbers other

grown_by_event : (m : Moment) (event : Event) → IsLawful m → is_allowed m.state event ≡ true → HaveGrown m.state (moment_after m event).state event.hand
grown_by_event m event l allowed number stripe is =
    let parts = and_parts (is_hand m.state event.hand) (allows_changes m.state event.hand event.before && allows_step (after_changes m.state event.hand event.before) event.hand event.step) allowed in
    let both = and_parts (allows_changes m.state event.hand event.before) (allows_step (after_changes m.state event.hand event.before) event.hand event.step) parts.1 in
    let ready : Moment = moment_changes m event.hand event.before in
    let may : MayStep ready event.hand event.step = may_step m event l allowed in
    let number_is : number_at ready.state event.hand ≡ Some number = ap (λ (s : State). number_at s event.hand) (changes_state m event.hand event.before) ∙ numbers_kept m.state event.hand event.hand event.before ∙ is in
    grown_then number (history_at m.state stripe) (history_at ready.state stripe) _ (grown_by_changes m event.hand event.before l parts.0 both.0 number stripe is)
    (grown_by_step ready event.hand event.step may number stripe number_is)

pub histories_grow : HistoriesGrow
histories_grow = record { changes = grown_by_change; steps = grown_by_step; events = grown_by_event }

-- each event of a run passes its test
played_out : (place : ℕ) (m : Moment) (events : List Event) → IsRun m events → play_from place m.state events ≡ Ok ((moment_at_end m events).state)
played_out place m [] run = refl
played_out place m (event ∷ events) run =
    ap (λ b. cond b (play_from (place + 1) (state_after_event m.state event) events) (Err place)) run.0
    ∙ ap (λ (s : State). play_from (place + 1) s events) (sym (state_after m event))
    ∙ played_out (place + 1) (moment_after m event) events run.1

pub runs_are_played : RunsArePlayed
runs_are_played m events run = played_out 0 m events run
