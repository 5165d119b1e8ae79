-- While a hand keeps one holding, its chunk stays handed out, its page stays with the class, and its words stay.
use Rattle.std.proofs.Common.{◌≡◌, ◌⊎◌, ℕ, ◌+◌, ◌*◌, ◌<◌, ◌==◌, ◌&&◌, Bool, true, false, not, List, [], ◌∷◌, Some, None, refl, sym, ap, ap₂, ◌∙◌, subst, slice_index, slice_index_or, slice_set, is_some, eq-eqb, Contains, arith, inl, inr}
use Rattle.std.specs.List.{list_all}
use Rattle.std.proofs.lemmas.Bool.{and_parts, and_from, false≢true}
use Rattle.std.proofs.lemmas.List.Elements.{All-contains}
use Rattle.mc_classes.specs.Classes.{Classes}
use Rattle.mc_pages.specs.declared.ids.ChunkId.{ChunkId}
use Rattle.mc_pages.specs.declared.ledger.Owner.{Owner}
use Rattle.mc_pages.specs.Ledger.{owner_at}
use Rattle.mc_pages.specs.ClassState.{is_chunk}
use Rattle.mc_pages.specs.SlabState.{class_of_page, class_of_owner}
use Rattle.mc_pages.proofs.Chunks.{same_from_is_chunk}
use Rattle.mc_core.specs.declared.event.Change.{Change}
use Rattle.mc_core.specs.declared.event.Event.{Event}
use Rattle.mc_core.specs.declared.event.Step.{Step}
use Rattle.mc_core.specs.declared.event.Step.TheVariants as step
use Rattle.mc_core.specs.declared.ids.Ids.{Ids}
use Rattle.mc_core.specs.declared.holding.Holding.{Holding}
use Rattle.mc_core.specs.model.Holdings.{is_fresh, holding_of}
use Rattle.mc_core.specs.model.State.{State, no_ids, is_hand, has_chunk, room_in, chunk_room, page_words, word_place, holdings_at}
use Rattle.mc_core.specs.run.Silent.{allows_change, after_change, allows_changes, after_changes}
use Rattle.mc_core.specs.run.Chunks.{can_fill_in}
use Rattle.mc_core.specs.model.Columns.{head_in, IsHandedOut}
use Rattle.mc_core.specs.past.Past.{Past, Moment, KnownItem, known_by, moment_changed, moment_changes, moment_stepped, moment_after, known_of}
use Rattle.mc_core.specs.run.Run.{is_allowed, after_step, allows_step}
use Rattle.mc_core.specs.law.Lawful.{IsLawful}
use Rattle.mc_core.specs.law.Laws.{MayChange, MayStep, moment_at_end}
use Rattle.mc_core.specs.past.Stretch.{HoldsChunk, KeepsHolding, is_fill_of, fills_chunk, HasSameWords, StaysKept, StretchesKeep}
use Rattle.mc_core.specs.law.Knowing.{IsTrueStill}
use Rattle.mc_core.proofs.Steps.Base.{IsPlaced, placed_at, IsOut, held_out, each_row}
use Rattle.mc_core.proofs.Hands.HandsKept.{ids_change}
use Rattle.mc_core.proofs.Law.LawKept.{lawful_changes, lawful_events, may_step}
use Rattle.mc_core.proofs.Known.Learned.{learned_is}
use Rattle.mc_core.proofs.Hands.MoreRows.{row_of, more_contains, joined_contains, each_contained}
use Rattle.mc_core.proofs.Hands.NumberedSteps.{join_facts}
use Rattle.mc_core.proofs.Hands.RowsKept.{by_join}
use Rattle.mc_core.proofs.Places.SamePages.{stays_changes}
use Rattle.mc_core.proofs.Frame.SameSlabs.{table_stays, owners_stay}
use Rattle.mc_core.proofs.ItemWords.WordsStay.{is_fill, step_words, filled_words, change_leaves, filler_alone, filler_fresh, else_words}

-- a step is a fill, or none
fill_or : (next : Step) → (is_fill next ≡ false) ⊎ ((chunk : ChunkId) × (place : ℕ) × (word : ℕ) × (next ≡ step.Fill chunk place word))
fill_or (step.Fill chunk place word) = inr (chunk, place, word, refl)
fill_or step.TakeSlabs = inl refl
fill_or (step.TakeStripe stripe) = inl refl
fill_or step.MissSlabs = inl refl
fill_or (step.MissStripe stripe) = inl refl
fill_or step.GiveSlabs = inl refl
fill_or (step.GiveStripe stripe) = inl refl
fill_or (step.Head chunk) = inl refl
fill_or (step.Pop class) = inl refl
fill_or (step.PopOff old) = inl refl
fill_or (step.Word chunk place) = inl refl
fill_or (step.WordHeld chunk place) = inl refl
fill_or (step.Link chunk) = inl refl
fill_or (step.Refer key) = inl refl
fill_or (step.Unlink key) = inl refl
fill_or (step.Release chunk) = inl refl
fill_or (step.Discard chunk) = inl refl
fill_or (step.Condemn chunk) = inl refl
fill_or (step.PutBack chunk) = inl refl
fill_or (step.Clear chunk) = inl refl
fill_or (step.Cut page index) = inl refl
fill_or (step.Again chunk issue) = inl refl
fill_or (step.Join kept spent) = inl refl

no_fill : (held : ChunkId) (next : Step) → is_fill next ≡ false → fills_chunk held next ≡ true → ⊥
no_fill held (step.Fill chunk place word) none fill = absurd (cc)
no_fill held step.TakeSlabs none fill = absurd (cc)
no_fill held (step.TakeStripe stripe) none fill = absurd (cc)
no_fill held step.MissSlabs none fill = absurd (cc)
no_fill held (step.MissStripe stripe) none fill = absurd (cc)
no_fill held step.GiveSlabs none fill = absurd (cc)
no_fill held (step.GiveStripe stripe) none fill = absurd (cc)
no_fill held (step.Head chunk) none fill = absurd (cc)
no_fill held (step.Pop class) none fill = absurd (cc)
no_fill held (step.PopOff old) none fill = absurd (cc)
no_fill held (step.Word chunk place) none fill = absurd (cc)
no_fill held (step.WordHeld chunk place) none fill = absurd (cc)
no_fill held (step.Link chunk) none fill = absurd (cc)
no_fill held (step.Refer key) none fill = absurd (cc)
no_fill held (step.Unlink key) none fill = absurd (cc)
no_fill held (step.Release chunk) none fill = absurd (cc)
no_fill held (step.Discard chunk) none fill = absurd (cc)
no_fill held (step.Condemn chunk) none fill = absurd (cc)
no_fill held (step.PutBack chunk) none fill = absurd (cc)
no_fill held (step.Clear chunk) none fill = absurd (cc)
no_fill held (step.Cut page index) none fill = absurd (cc)
no_fill held (step.Again chunk issue) none fill = absurd (cc)
no_fill held (step.Join kept spent) none fill = absurd (cc)

not_true : (b : Bool) → not b ≡ true → b ≡ false
not_true true h = absurd (cc)
not_true false h = refl

not_so : (b : Bool) → (b ≡ true → ⊥) → b ≡ false
not_so true no_way = absurd (no_way refl)
not_so false no_way = refl

-- the chunk has its words at the same place
pub record IsSteady (before now : State) (chunk : ChunkId) : Type 0 where
  pub table : now.table ≡ before.table
  pub class : class_of_page now.slabs chunk.page ≡ class_of_page before.slabs chunk.page

steady_then : {a b c : State} {chunk : ChunkId} → IsSteady a b chunk → IsSteady b c chunk → IsSteady a c chunk
steady_then p q = record { table = q.table ∙ p.table; class = q.class ∙ p.class }

same_room : (before now : State) (chunk : ChunkId) → IsSteady before now chunk → chunk_room now chunk ≡ chunk_room before chunk
same_room before now chunk s = ap₂ room_in s.table s.class

same_place : (before now : State) (chunk : ChunkId) (at : ℕ) → IsSteady before now chunk → word_place now chunk at ≡ word_place before chunk at
same_place before now chunk at s =
    ap₂ (λ (t : Classes) (r : ℕ). chunk.page * page_words t + chunk.index * r + at) s.table (same_room before now chunk s)

-- words of the list that are the same at the chunk's places
same_words : (before now : State) (chunk : ChunkId) → IsSteady before now chunk
    → ((at : ℕ) → at < chunk_room before chunk → slice_index now.words (word_place before chunk at) ≡ slice_index before.words (word_place before chunk at)) → HasSameWords before now chunk
same_words before now chunk s words at on = ap (slice_index now.words) (same_place before now chunk at s) ∙ words at on

words_then : (a b c : State) (chunk : ChunkId) → IsSteady a b chunk → HasSameWords a b chunk → HasSameWords b c chunk → HasSameWords a c chunk
words_then a b c chunk s p q at on = q at (subst (λ n. at < n) (sym (same_room a b chunk s)) on) ∙ p at on

module _ (hand : ℕ) (chunk : ChunkId) (issue : ℕ) where
  -- the chunk of what is held
  out_of : (m : Moment) → IsLawful m → HoldsChunk m hand chunk issue → (has_chunk m.state.table chunk ≡ true) × IsHandedOut (head_in m.state.table m.state.heads chunk) issue
  out_of m l held =
      let out = All-contains (IsOut m l) (holdings_at m.state hand) held.holding (held_out m l hand) held.among in
      let there : has_chunk m.state.table chunk ≡ true = subst (λ (c : ChunkId). has_chunk m.state.table c ≡ true) held.same_chunk out.0 in
      (there, subst (λ (c : ChunkId). IsHandedOut (head_in m.state.table m.state.heads c) issue) held.same_chunk (subst (λ i. IsHandedOut (head_in m.state.table m.state.heads held.holding.chunk) i) held.same_issue out.1))

  placed_of : (m : Moment) → IsLawful m → HoldsChunk m hand chunk issue → IsPlaced m.state.slabs chunk
  placed_of m l held = let out = out_of m l held in (placed_at m l chunk issue out.0 out.1).0

  -- a silent change
  held_changed : (m : Moment) (who : ℕ) (change : Change) → HoldsChunk m hand chunk issue → HoldsChunk (moment_changed m who change) hand chunk issue
  held_changed m who change held = record {
    holding = held.holding;
    among = subst (λ (rows : List (List Holding)). Contains (slice_index_or rows hand []) held.holding) (sym (change_leaves m.state who change).holdings) held.among;
    same_chunk = held.same_chunk;
    same_issue = held.same_issue;
  }

  change_steady : (m : Moment) (who : ℕ) (change : Change) → MayChange m who change → HoldsChunk m hand chunk issue → IsSteady m.state (after_change m.state who change) chunk × HasSameWords m.state (after_change m.state who change) chunk
  change_steady m who change may held =
      let out = out_of m may.lawful held in
      let leaves = change_leaves m.state who change in
      let steady : IsSteady m.state (after_change m.state who change) chunk = record { table = leaves.table; class = stays_changes m who change may chunk issue out.0 out.1 } in
      (steady, same_words m.state (after_change m.state who change) chunk steady (λ at on. ap (λ (words : List ℕ). slice_index words (word_place m.state chunk at)) leaves.words))

  -- the changes before a step
  changes_steady : (m : Moment) (who : ℕ) (changes : List Change) → IsLawful m → is_hand m.state who ≡ true → allows_changes m.state who changes ≡ true → HoldsChunk m hand chunk issue
      → IsSteady m.state (moment_changes m who changes).state chunk × HasSameWords m.state (moment_changes m who changes).state chunk × ((moment_changes m who changes).state.holdings ≡ m.state.holdings) × ((moment_changes m who changes).past.known ≡ m.past.known)
  changes_steady m who [] l there allowed held = (record { table = refl; class = refl }, (λ at on. refl), refl, refl)
  changes_steady m who (change ∷ changes) l there allowed held =
      let parts = and_parts (allows_change m.state who change) (allows_changes (after_change m.state who change) who changes) allowed in
      let may : MayChange m who change = record { lawful = l; there = there; allowed = parts.0 } in
      let still : is_hand (after_change m.state who change) who ≡ true = ap (λ (ids : List Ids). is_some (slice_index_or ids who no_ids).number) (ids_change m.state who change) ∙ there in
      let first = change_steady m who change may held in
      let rest = changes_steady (moment_changed m who change) who changes (lawful_changes m who change may) still parts.1 (held_changed m who change held) in
      (steady_then first.0 rest.0, words_then m.state (after_change m.state who change) (moment_changes m who (change ∷ changes)).state chunk first.0 first.1 rest.1, rest.2 ∙ (change_leaves m.state who change).holdings, rest.3)

  step_steady : (m : Moment) (who : ℕ) (next : Step) → IsSteady m.state (after_step m.state who next) chunk
  step_steady m who next = record { table = table_stays m.state who next; class = ap (λ (owners : List Owner). class_of_owner (owner_at owners chunk.page)) (owners_stay m.state who next) }

  -- a step that fills no word of the chunk
  step_same : (m : Moment) (who : ℕ) (next : Step) → MayStep m who next → HoldsChunk m hand chunk issue → (fills_chunk chunk next ≡ true → ⊥) → HasSameWords m.state (after_step m.state who next) chunk
  step_same m who next may held other =
      same_words m.state (after_step m.state who next) chunk (step_steady m who next) (λ at on. elim (fill_or next) [
        | inl none ↦ ap (λ (words : List ℕ). slice_index words (word_place m.state chunk at)) (step_words m.state who next none)
        | inr (filled, place, word, is) ↦
            subst (λ (s : Step). slice_index (after_step m.state who s).words (word_place m.state chunk at) ≡ slice_index m.state.words (word_place m.state chunk at)) (sym is)
            (ap (λ (words : List ℕ). slice_index words (word_place m.state chunk at)) (filled_words m.state who filled place word)
            ∙ (elim (holding_of filled (holdings_at m.state who)) as (λ o. holding_of filled (holdings_at m.state who) ≡ o → can_fill_in place o ≡ true →
            slice_index (slice_set m.state.words (word_place m.state filled place) word) (word_place m.state chunk at) ≡ slice_index m.state.words (word_place m.state chunk at)) [
              | None ↦ λ _ never. absurd (cc)
              | Some fresh ↦ λ found can. else_words m may.lawful who filled place fresh found can word chunk at (placed_of m may.lawful held) (not_so (is_chunk filled chunk) (λ same. other (ap (fills_chunk chunk) is ∙ same))) on
            ] refl (subst (λ (s : Step). allows_step m.state who s ≡ true) is may.allowed)))
      ])

  -- who fills the chunk is the hand, and has no reference to it
  filled_by : (m : Moment) (who : ℕ) (next : Step) → MayStep m who next → (held : HoldsChunk m hand chunk issue) → fills_chunk chunk next ≡ true → (hand ≡ who) × (is_fresh held.holding ≡ false → ⊥)
  filled_by m who next may held fill = elim (fill_or next) [
    | inl none ↦ absurd (no_fill chunk next none fill)
    | inr (filled, place, word, is) ↦
        let same : is_chunk filled chunk ≡ true = sym (ap (fills_chunk chunk) is) ∙ fill in
        let at : held.holding.chunk ≡ filled = held.same_chunk ∙ sym (same_from_is_chunk filled chunk same) in
        elim (holding_of filled (holdings_at m.state who)) as (λ o. holding_of filled (holdings_at m.state who) ≡ o → can_fill_in place o ≡ true → (hand ≡ who) × (is_fresh held.holding ≡ false → ⊥)) [
          | None ↦ λ _ never. absurd (cc)
          | Some fresh ↦ λ found can.
              let alone = filler_alone m may.lawful who filled place fresh found can hand held.holding held.among at in
              (alone, λ stale. filler_fresh m may.lawful who filled place fresh found can held.holding (subst (λ h. Contains (holdings_at m.state h) held.holding) alone held.among) at stale)
        ] refl (subst (λ (s : Step). allows_step m.state who s ≡ true) is may.allowed)
  ]

  -- of an event
  event_parts : (m : Moment) (event : Event) → is_allowed m.state event ≡ true → (is_hand m.state event.hand ≡ true) × (allows_changes m.state event.hand event.before ≡ true)
  event_parts m event h =
      let parts = and_parts (is_hand m.state event.hand) (allows_changes m.state event.hand event.before && allows_step (after_changes m.state event.hand event.before) event.hand event.step) h in
      (parts.0, (and_parts (allows_changes m.state event.hand event.before) (allows_step (after_changes m.state event.hand event.before) event.hand event.step) parts.1).0)

  event_steady : (m : Moment) (event : Event) → IsLawful m → is_allowed m.state event ≡ true → (held : HoldsChunk m hand chunk issue) →
      IsSteady m.state (moment_after m event).state chunk × ((is_fill_of hand chunk event ≡ false) ⊎ (is_fresh held.holding ≡ false) → HasSameWords m.state (moment_after m event).state chunk)
  event_steady m event l allowed held =
      let ready = moment_changes m event.hand event.before in
      let parts = event_parts m event allowed in
      let before = changes_steady m event.hand event.before l parts.0 parts.1 held in
      let may = may_step m event l allowed in
      let held' : HoldsChunk ready hand chunk issue = record {
        holding = held.holding;
        among = subst (λ (rows : List (List Holding)). Contains (slice_index_or rows hand []) held.holding) (sym before.2) held.among;
        same_chunk = held.same_chunk;
        same_issue = held.same_issue;
      } in
      let step_is = step_steady ready event.hand event.step in (
        steady_then before.0 step_is,
        λ why.
            words_then m.state ready.state (moment_after m event).state chunk before.0 before.1
            (step_same ready event.hand event.step may held' (λ fill.
            let by = filled_by ready event.hand event.step may held' fill in
            elim why [
              | inl none ↦ absurd (false≢true (sym none ∙ and_from (event.hand == hand) (fills_chunk chunk event.step) (eq-eqb event.hand hand (sym by.0)) fill))
              | inr stale ↦ by.1 stale
            ])),
      )

  -- what was known to a hand is known to some hand
  known_persists : (m : Moment) (event : Event) → IsLawful m → is_allowed m.state event ≡ true → HoldsChunk m hand chunk issue → (k : KnownItem) → Contains (row_of m.past.known hand) k → (other : ℕ) × Contains (row_of (moment_after m event).past.known other) k
  known_persists m event l allowed held k among =
      let ready = moment_changes m event.hand event.before in
      let parts = event_parts m event allowed in
      let before = changes_steady m event.hand event.before l parts.0 parts.1 held in
      let may = may_step m event l allowed in
      let among' : Contains (row_of ready.past.known hand) k = subst (λ (rows : List (List KnownItem)). Contains (row_of rows hand) k) (sym before.3) among in
      elim (by_join ready.state event.hand event.step) [
        | inl (alone, _) ↦ (
          hand,
          subst (λ (p : Past). Contains (row_of p.known hand) k) (sym (learned_is ready.state (after_step ready.state event.hand event.step) ready.past event.hand event.step alone))
              (more_contains ready.past.known event.hand hand (known_of ready.state event.hand event.step) k among'),
        )
        | inr (kept, spent, is) ↦
            let facts = join_facts ready event.hand kept spent (subst (MayStep ready event.hand) is may) in
            let there = joined_contains ready.past.known kept spent hand k facts.0 (omega (arith, facts.1, may.lawful.rows.known)) among' in
            (there.0, subst (λ (s : Step). Contains (row_of (moment_stepped ready event.hand s).past.known there.0) k) (sym is) there.1)
      ]

  -- a reference stays one
  stays_stale : (m : Moment) (event : Event) → IsLawful m → is_allowed m.state event ≡ true → (held : HoldsChunk m hand chunk issue) (now : HoldsChunk (moment_after m event) hand chunk issue) → is_fresh held.holding ≡ false → is_fresh now.holding ≡ false
  stays_stale m event l allowed held now stale =
      let after = moment_after m event in
      let l' = lawful_events m event l allowed in
      let own = All-contains (λ (h : Holding). is_fresh h ≡ false → (room : ℕ) × Contains (row_of m.past.known hand) (known_by room h)) (holdings_at m.state hand) held.holding (l.known.own hand) held.among stale in
      let k : KnownItem = known_by own.0 held.holding in
      let there = known_persists m event l allowed held k own.1 in
      let still = each_contained (IsTrueStill after.state.table after.state.slabs after.state.heads after.state.words after.state.holdings) after.past.known there.0 k l'.known.still there.1 in
      let Apart = λ (h : Holding). is_fresh h ≡ true → h.chunk ≡ k.chunk → h.issue ≡ k.issue → ⊥ in
      let apart = All-contains Apart (holdings_at after.state hand) now.holding (each_row Apart after.state.holdings hand still.apart) now.among in
      not_so (is_fresh now.holding) (λ fresh. apart fresh (now.same_chunk ∙ sym held.same_chunk) (now.same_issue ∙ sym held.same_issue))

  first_held : (m : Moment) (events : List Event) → KeepsHolding m hand chunk issue events → HoldsChunk m hand chunk issue
  first_held m [] keeps = keeps
  first_held m (event ∷ events) keeps = keeps.0

  stretch_kept : (m : Moment) (events : List Event) → IsLawful m → KeepsHolding m hand chunk issue events → StaysKept m (moment_at_end m events) hand chunk issue events
  stretch_kept m [] l held = record {
    handed_out = (out_of m l held).1;
    owned = (placed_of m l held).class;
    same_class = refl;
    unfilled = λ _ at on. refl;
    referred = λ _ _ at on. refl;
  }
  stretch_kept m (event ∷ events) l keeps =
      let after = moment_after m event in
      let end = moment_at_end after events in
      let first = event_steady m event l keeps.1 keeps.0 in
      let rest = stretch_kept after events (lawful_events m event l keeps.1) keeps.2 in
      let next = first_held after events keeps.2 in
      record {
        handed_out = rest.handed_out;
        owned = rest.owned;
        same_class = rest.same_class ∙ first.0.class;
        unfilled = λ none.
            let parts = and_parts (not (is_fill_of hand chunk event)) (list_all (λ e. not (is_fill_of hand chunk e)) events) none in
            words_then m.state after.state end.state chunk first.0 (first.1 (inl (not_true (is_fill_of hand chunk event) parts.0))) (rest.unfilled parts.1);
        referred = λ held stale.
            let own = event_steady m event l keeps.1 held in
            words_then m.state after.state end.state chunk own.0 (own.1 (inr stale)) (rest.referred next (stays_stale m event l keeps.1 held next stale));
      }

pub stretches_keep : StretchesKeep
stretches_keep m hand chunk issue events l keeps = stretch_kept hand chunk issue m events l keeps
