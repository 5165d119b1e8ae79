-- But for a fill no change and no step writes a data word, and a fill writes its own chunk's alone.
use Rattle.std.proofs.Common.{◌≡◌, ◌≢◌, ℕ, zero, suc, ◌+◌, ◌<◌, ◌≤◌, Bool, true, false, List, [], ◌∷◌, Some, refl, sym, ap, ◌∙◌, subst, slice_set, slice_index, slice_index_or, get_or-set_other, Contains, find, cond, arith, inl, inr}
use Rattle.std.proofs.lemmas.Bool.{cases_eq, false≢true}
use Rattle.mc_pages.specs.declared.ids.ChunkId.{ChunkId}
use Rattle.mc_pages.specs.ClassState.{is_chunk}
use Rattle.mc_pages.specs.SlabState.{class_of_page}
use Rattle.mc_pages.specs.Accounted.{truth}
use Rattle.mc_pages.specs.Changes as slabs_changes
use Rattle.mc_pages.proofs.Chunks.{is_chunk-same}
use Rattle.mc_core.specs.declared.event.Change.{Change}
use Rattle.mc_core.specs.declared.event.Change.TheVariants.{Grow, BeginMove, FinishMove, Touch, SetAutomove, TrimLedger, Passed, Wrap, Evicted, OfStripe, GotNone, DeletedNone}
use Rattle.mc_core.specs.declared.event.Step.{Step}
use Rattle.mc_core.specs.declared.event.Step.TheVariants as step
use Rattle.mc_core.specs.declared.holding.Holding.{Holding}
use Rattle.mc_core.specs.model.Holdings.{is_of_chunk, is_fresh, holding_of}
use Rattle.mc_core.specs.model.State.{State, room_in, word_place, holdings_at, without_holding, with_slabs}
use Rattle.mc_core.specs.run.Silent.{after_change}
use Rattle.mc_core.specs.run.Chunks.{can_fill_in, after_fill, next_free, target_of}
use Rattle.mc_core.specs.run.Items.{with_got, chunk_of_key}
use Rattle.mc_core.specs.run.Run.{after_step}
use Rattle.mc_core.specs.model.Columns.{count_of_holdings, holder_count}
use Rattle.mc_core.specs.past.Past.{Moment}
use Rattle.mc_core.specs.law.Lawful.{IsLawful}
use Rattle.mc_core.proofs.Steps.Base.{IsPlaced, same_word, holds_own}
use Rattle.mc_core.proofs.Counts.Holders.{holds-cons, holds_from_found, holds-le-holders, fresh_once}
use Rattle.mc_core.proofs.Known.KnownFills.{fill_at, fill_fresh, fill_placed, fill_on}
use Rattle.mc_core.proofs.Frame.SameSlabs.{looked_keeps, popped_keeps, popped_off_keeps, told_link_keeps, linked_keeps, referred_keeps, unlinked_keeps}

-- the words after a fill
pub filled_words : (state : State) (hand : ℕ) (chunk : ChunkId) (place word : ℕ) → (after_fill state hand chunk place word).words ≡ slice_set state.words (word_place state chunk place) word
filled_words state hand chunk place word =
    refl

abbrev pub is_fill : Step → Bool
is_fill (step.Fill chunk place word) = true
is_fill other = false

pub step_words : (state : State) (hand : ℕ) (next : Step) → is_fill next ≡ false → (after_step state hand next).words ≡ state.words
step_words state hand step.TakeSlabs h = refl
step_words state hand (step.TakeStripe stripe) h = refl
step_words state hand step.MissSlabs h = refl
step_words state hand (step.MissStripe stripe) h = looked_keeps (λ s. s.words) state hand _ refl
step_words state hand step.GiveSlabs h = refl
step_words state hand (step.GiveStripe stripe) h = refl
step_words state hand (step.Head chunk) h = looked_keeps (λ s. s.words) state hand _ refl
step_words state hand (step.Pop class) h = popped_keeps (λ s. s.words) (with_slabs state (slabs_changes.after_pop state.slabs class)) hand (next_free state class) (λ chunk. refl)
step_words state hand (step.PopOff old) h = popped_off_keeps (λ s. s.words) state hand old (target_of state.table state.heads state.slabs old.page) (λ chunk. refl)
step_words state hand (step.Fill chunk place word) h = absurd (cc)
step_words state hand (step.Word chunk place) h = refl
step_words state hand (step.WordHeld chunk place) h = refl
step_words state hand (step.Link chunk) h =
    let left : State = without_holding state hand (is_of_chunk chunk) in
    linked_keeps (λ s. s.words) left hand chunk (holding_of chunk (holdings_at state hand)) (λ holding. told_link_keeps (λ s. s.words) left hand holding holding.kind refl refl)
step_words state hand (step.Refer key) h = referred_keeps (λ s. s.words) (with_got state hand key) hand (chunk_of_key state key) (λ chunk. refl)
step_words state hand (step.Unlink key) h = unlinked_keeps (λ s. s.words) _ (chunk_of_key state key) (λ chunk. refl)
step_words state hand (step.Release chunk) h = refl
step_words state hand (step.Discard chunk) h = refl
step_words state hand (step.Condemn chunk) h = refl
step_words state hand (step.PutBack chunk) h = refl
step_words state hand (step.Clear chunk) h = refl
step_words state hand (step.Cut page index) h = refl
step_words state hand (step.Again chunk issue) h = refl
step_words state hand (step.Join kept spent) h = refl

-- a silent change leaves table, headers, words and holdings alone
pub record LeavesChunks (before now : State) : Type 0 where
  pub table : now.table ≡ before.table
  pub heads : now.heads ≡ before.heads
  pub words : now.words ≡ before.words
  pub holdings : now.holdings ≡ before.holdings

pub change_leaves : (state : State) (hand : ℕ) (change : Change) → LeavesChunks state (after_change state hand change)
change_leaves state hand (Grow class) = record { table = refl; heads = refl; words = refl; holdings = refl }
change_leaves state hand (BeginMove src dst) = record { table = refl; heads = refl; words = refl; holdings = refl }
change_leaves state hand FinishMove = record { table = refl; heads = refl; words = refl; holdings = refl }
change_leaves state hand (Touch chunk) = record { table = refl; heads = refl; words = refl; holdings = refl }
change_leaves state hand (SetAutomove mode) = record { table = refl; heads = refl; words = refl; holdings = refl }
change_leaves state hand TrimLedger = record { table = refl; heads = refl; words = refl; holdings = refl }
change_leaves state hand (Passed found) = record { table = refl; heads = refl; words = refl; holdings = refl }
change_leaves state hand Wrap = record { table = refl; heads = refl; words = refl; holdings = refl }
change_leaves state hand (Evicted class) = record { table = refl; heads = refl; words = refl; holdings = refl }
change_leaves state hand (OfStripe stripe how) = record { table = refl; heads = refl; words = refl; holdings = refl }
change_leaves state hand (GotNone key) = record { table = refl; heads = refl; words = refl; holdings = refl }
change_leaves state hand (DeletedNone key) = record { table = refl; heads = refl; words = refl; holdings = refl }

-- what two hands hold is among all
holders_two : (chunk : ChunkId) (rows : List (List Holding)) (a b : ℕ) → a ≢ b → count_of_holdings chunk (slice_index_or rows a []) + count_of_holdings chunk (slice_index_or rows b []) ≤ holder_count chunk rows
holders_two chunk [] a b apart = omega arith
holders_two chunk (row ∷ rows) zero zero apart = absurd (apart refl)
holders_two chunk (row ∷ rows) zero (suc b) apart = let rest = holds-le-holders chunk rows b in omega arith
holders_two chunk (row ∷ rows) (suc a) zero apart = let rest = holds-le-holders chunk rows a in omega arith
holders_two chunk (row ∷ rows) (suc a) (suc b) apart = let rest = holders_two chunk rows a b (λ e. apart (ap suc e)) in omega arith

holds_at : (chunk : ChunkId) (row : List Holding) (holding : Holding) → Contains row holding → holding.chunk ≡ chunk → 1 ≤ count_of_holdings chunk row
holds_at chunk row holding among same = subst (λ (c : ChunkId). 1 ≤ count_of_holdings c row) same (holds_own row holding among)

is_held : (chunk : ChunkId) (holding : Holding) → holding.chunk ≡ chunk → truth (is_of_chunk chunk holding) ≡ 1
is_held chunk holding same = ap truth (subst (λ (c : ChunkId). is_chunk c chunk ≡ true) (sym same) (is_chunk-same chunk))

-- a reference and a fresh holding are two
two_kinds : (chunk : ChunkId) (row : List Holding) (r f : Holding) → Contains row r → Contains row f → is_fresh r ≡ false → is_fresh f ≡ true → r.chunk ≡ chunk → f.chunk ≡ chunk → 2 ≤ count_of_holdings chunk row
two_kinds chunk [] r f (k, within, at) has_f stale fresh same_r same_f = absurd (omega arith)
two_kinds chunk (x ∷ row) r f (zero, within, at) (zero, within', at') stale fresh same_r same_f = absurd (false≢true (sym stale ∙ ap is_fresh (sym at ∙ at') ∙ fresh))
two_kinds chunk (x ∷ row) r f (zero, within, at) (suc k, within', at') stale fresh same_r same_f =
    let first = is_held chunk x (ap (λ (h : Holding). h.chunk) at ∙ same_r) in
    let rest = holds_at chunk row f (k, omega arith, at') same_f in omega (arith, holds-cons chunk x row)
two_kinds chunk (x ∷ row) r f (suc k, within, at) (zero, within', at') stale fresh same_r same_f =
    let first = is_held chunk x (ap (λ (h : Holding). h.chunk) at' ∙ same_f) in
    let rest = holds_at chunk row r (k, omega arith, at) same_r in omega (arith, holds-cons chunk x row)
two_kinds chunk (x ∷ row) r f (suc k, within, at) (suc k', within', at') stale fresh same_r same_f =
    let rest = two_kinds chunk row r f (k, omega arith, at) (k', omega arith, at') stale fresh same_r same_f in omega (arith, holds-cons chunk x row)

found_among : (test : Holding → Bool) (row : List Holding) (f : Holding) → find test row ≡ Some f → Contains row f
found_among test [] f h = absurd (cc)
found_among test (x ∷ row) f h =
    elim (test x) as (λ b. cond b (Some x) (find test row) ≡ Some f → Contains (x ∷ row) f) [
      | true ↦ λ e. let same : x ≡ f = (cc) in (zero, omega arith, same)
      | false ↦ λ e. let rest = found_among test row f e in (suc rest.0, omega (arith, rest.1), rest.2)
    ] h

module _ (m : Moment) (l : IsLawful m) (filler : ℕ) (filled : ChunkId) (place : ℕ) (fresh : Holding) (found : holding_of filled (holdings_at m.state filler) ≡ Some fresh) (can : can_fill_in place (Some fresh) ≡ true) where
  -- nobody else holds what is filled
  pub filler_alone : (hand : ℕ) (holding : Holding) → Contains (holdings_at m.state hand) holding → holding.chunk ≡ filled → hand ≡ filler
  filler_alone hand holding among same = elim (cases_eq hand filler) [
    | inl is ↦ is
    | inr apart ↦
        let mine = holds_at filled (holdings_at m.state hand) holding among same in
        let theirs = holds_from_found filled (holdings_at m.state filler) fresh found in
        let all = holders_two filled m.state.holdings hand filler apart in
        let once : holder_count filled m.state.holdings ≡ 1 =
        subst (λ (c : ChunkId). holder_count c m.state.holdings ≡ 1) (fill_at m l filler filled place fresh found can) (fresh_once m l filler (is_of_chunk filled) fresh found (fill_fresh m l filler filled place fresh found can)) in
        absurd (omega arith)
  ]

  -- and who fills it has no reference to it
  pub filler_fresh : (holding : Holding) → Contains (holdings_at m.state filler) holding → holding.chunk ≡ filled → is_fresh holding ≡ false → ⊥
  filler_fresh holding among same stale =
      let at = fill_at m l filler filled place fresh found can in
      let two = two_kinds filled (holdings_at m.state filler) holding fresh among (found_among (is_of_chunk filled) (holdings_at m.state filler) fresh found) stale (fill_fresh m l filler filled place fresh found can) same at in
      let all = holds-le-holders filled m.state.holdings filler in
      let once : holder_count filled m.state.holdings ≡ 1 = subst (λ (c : ChunkId). holder_count c m.state.holdings ≡ 1) at (fresh_once m l filler (is_of_chunk filled) fresh found (fill_fresh m l filler filled place fresh found can)) in
      absurd (omega arith)

  -- another chunk's words stay
  pub else_words : (word : ℕ) (chunk : ChunkId) (at : ℕ) → IsPlaced m.state.slabs chunk → is_chunk filled chunk ≡ false → at < room_in m.state.table (class_of_page m.state.slabs chunk.page) →
      slice_index (slice_set m.state.words (word_place m.state filled place) word) (word_place m.state chunk at) ≡ slice_index m.state.words (word_place m.state chunk at)
  else_words word chunk at is apart on =
      get_or-set_other m.state.words (word_place m.state filled place) (word_place m.state chunk at) word 0
      (λ same. false≢true (sym apart ∙ subst (λ (c : ChunkId). is_chunk filled c ≡ true)
      (sym (same_word m l chunk filled at place is (fill_placed m l filler filled place fresh found can) on (fill_on m l filler filled place fresh found can) same).0) (is_chunk-same filled)))
