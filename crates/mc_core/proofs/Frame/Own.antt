-- What a step changes of hands: but for takes, gives and joins no lock, and no holdings and looks but those of the stepping hand.
use Rattle.std.proofs.Common.{◌≡◌, ◌≢◌, ℕ, zero, suc, Bool, true, false, cond, List, [], ◌∷◌, ◌++◌, length, Option, Some, None, refl, ◌∙◌, slice_set, slice_index_or, length-set, get_or-set_other}
use Rattle.mc_pages.specs.declared.ids.ChunkId.{ChunkId}
use Rattle.mc_pages.specs.SlabState.{SlabState}
use Rattle.mc_stripe.specs.StripeState.{ReadyStripe}
use Rattle.mc_core.specs.declared.event.Step.{Step}
use Rattle.mc_core.specs.declared.event.Step.TheVariants.{MissSlabs, MissStripe, Pop, PopOff, Fill, Word, WordHeld, Link, Refer, Unlink, Release, Discard, Condemn, PutBack, Clear, Cut, Again}
use Rattle.mc_core.specs.declared.event.Step.TheVariants as step
use Rattle.mc_core.specs.declared.event.Change.{Change}
use Rattle.mc_core.specs.declared.event.Change.TheVariants.{Grow, BeginMove, FinishMove, Touch, SetAutomove, TrimLedger, Passed, Wrap, Evicted, OfStripe, GotNone, DeletedNone}
use Rattle.mc_core.specs.declared.head.Head.{Head}
use Rattle.mc_core.specs.declared.ids.Ids.{Ids}
use Rattle.mc_core.specs.declared.look.Look.{Look}
use Rattle.mc_core.specs.declared.holding.Holding.{Holding}
use Rattle.mc_core.specs.declared.holding.Kind.{Kind}
use Rattle.mc_core.specs.declared.holding.Kind.TheVariants.{Reference, Fresh}
use Rattle.mc_core.specs.declared.holding.Purpose.TheVariants.{Item, Copy, Rescue}
use Rattle.mc_core.specs.model.Holdings.{without_first, change_each, is_of_chunk, is_copy_of, holding_of}
use Rattle.mc_core.specs.model.State.{State, no_ids, number_at, item_at, has_slabs, holdings_at, looks_at, with_head, with_word, with_slabs, with_stripe, with_ids, with_holding, without_holding, with_looks, with_look}
use Rattle.mc_core.specs.run.Silent.{after_change}
use Rattle.mc_core.specs.run.Locks.{state_after_look}
use Rattle.mc_core.specs.run.Evictions.{as_rescue}
use Rattle.mc_core.specs.run.Chunks.{state_after_pop_of, popped_off, holding_with_word, target_of, next_free, new_holding, head_after_hand_out, after_fill, head_after_release, with_tag_free, with_tag_out}
use Rattle.mc_core.specs.run.Chunks as chunks
use Rattle.mc_core.specs.run.Items.{recorded_link, after_link_of, referred_to, with_got, with_unlinked, chunk_of_key}
use Rattle.mc_core.specs.run.Run.{after_step}

pub record IsOwn (before now : State) (hand : ℕ) : Type 0 where
  pub slabs_lock : now.slabs_lock ≡ before.slabs_lock
  pub stripe_locks : now.stripe_locks ≡ before.stripe_locks
  pub long : length now.ids ≡ length before.ids
  pub numbers : (other : ℕ) → number_at now other ≡ number_at before other
  pub holding_rows : length now.holdings ≡ length before.holdings
  pub look_rows : length now.looks ≡ length before.looks
  pub holdings : (other : ℕ) → other ≢ hand → holdings_at now other ≡ holdings_at before other
  pub looks : (other : ℕ) → other ≢ hand → looks_at now other ≡ looks_at before other

-- nothing of that is changed
pub own_same : (s : State) (hand : ℕ) → IsOwn s s hand
own_same s hand = record {
  slabs_lock = refl;
  stripe_locks = refl;
  long = refl;
  numbers = λ other. refl;
  holding_rows = refl;
  look_rows = refl;
  holdings = λ other apart. refl;
  looks = λ other apart. refl;
}

pub own_then : {a b c : State} {hand : ℕ} → IsOwn a b hand → IsOwn b c hand → IsOwn a c hand
own_then p q = record {
  slabs_lock = q.slabs_lock ∙ p.slabs_lock;
  stripe_locks = q.stripe_locks ∙ p.stripe_locks;
  long = q.long ∙ p.long;
  numbers = λ other. q.numbers other ∙ p.numbers other;
  holding_rows = q.holding_rows ∙ p.holding_rows;
  look_rows = q.look_rows ∙ p.look_rows;
  holdings = λ other apart. q.holdings other apart ∙ p.holdings other apart;
  looks = λ other apart. q.looks other apart ∙ p.looks other apart;
}

own_head : (s : State) (hand : ℕ) (chunk : ChunkId) (head : Head) → IsOwn s (with_head s chunk head) hand
own_head s hand chunk head = record {
  slabs_lock = refl;
  stripe_locks = refl;
  long = refl;
  numbers = λ other. refl;
  holding_rows = refl;
  look_rows = refl;
  holdings = λ other apart. refl;
  looks = λ other apart. refl;
}

own_word : (s : State) (hand : ℕ) (chunk : ChunkId) (place word : ℕ) → IsOwn s (with_word s chunk place word) hand
own_word s hand chunk place word = record {
  slabs_lock = refl;
  stripe_locks = refl;
  long = refl;
  numbers = λ other. refl;
  holding_rows = refl;
  look_rows = refl;
  holdings = λ other apart. refl;
  looks = λ other apart. refl;
}

own_slabs : (s : State) (hand : ℕ) (slabs : SlabState) → IsOwn s (with_slabs s slabs) hand
own_slabs s hand slabs = record {
  slabs_lock = refl;
  stripe_locks = refl;
  long = refl;
  numbers = λ other. refl;
  holding_rows = refl;
  look_rows = refl;
  holdings = λ other apart. refl;
  looks = λ other apart. refl;
}

own_stripe : (s : State) (hand stripe : ℕ) (value : ReadyStripe) → IsOwn s (with_stripe s stripe value) hand
own_stripe s hand stripe value = record {
  slabs_lock = refl;
  stripe_locks = refl;
  long = refl;
  numbers = λ other. refl;
  holding_rows = refl;
  look_rows = refl;
  holdings = λ other apart. refl;
  looks = λ other apart. refl;
}

own_row : (s : State) (hand : ℕ) (row : List Holding) → IsOwn s (record s { holdings = slice_set s.holdings hand row }) hand
own_row s hand row = record {
  slabs_lock = refl;
  stripe_locks = refl;
  long = refl;
  numbers = λ other. refl;
  holding_rows = length-set s.holdings hand row;
  look_rows = refl;
  holdings = λ other apart. get_or-set_other s.holdings hand other row [] apart;
  looks = λ other apart. refl;
}

own_looks : (s : State) (hand : ℕ) (row : List Look) → IsOwn s (with_looks s hand row) hand
own_looks s hand row = record {
  slabs_lock = refl;
  stripe_locks = refl;
  long = refl;
  numbers = λ other. refl;
  holding_rows = refl;
  look_rows = length-set s.looks hand row;
  holdings = λ other apart. refl;
  looks = λ other apart. get_or-set_other s.looks hand other row [] apart;
}

own_more : (s : State) (hand : ℕ) (holding : Holding) → IsOwn s (with_holding s hand holding) hand
own_more s hand holding = own_row s hand (holdings_at s hand ++ holding ∷ [])

own_less : (s : State) (hand : ℕ) (test : Holding → Bool) → IsOwn s (without_holding s hand test) hand
own_less s hand test = own_row s hand (without_first test (holdings_at s hand))

own_look : (s : State) (hand : ℕ) (look : Look) → IsOwn s (with_look s hand look) hand
own_look s hand look = own_looks s hand (looks_at s hand ++ look ∷ [])

own_looked : (s : State) (hand : ℕ) (look : Look) → IsOwn s (state_after_look s hand look) hand
own_looked s hand look = elim (has_slabs s hand) as (λ b. IsOwn s (cond b (with_look s hand look) s) hand) [ true ↦ own_look s hand look | false ↦ own_same s hand ]

-- a written number that is the old one
number_set : (ids : List Ids) (hand other : ℕ) (i : Ids) → i.number ≡ (slice_index_or ids hand no_ids).number → (slice_index_or (slice_set ids hand i) other no_ids).number ≡ (slice_index_or ids other no_ids).number
number_set [] hand other i same = refl
number_set (x ∷ ids) zero zero i same = same
number_set (x ∷ ids) zero (suc other) i same = refl
number_set (x ∷ ids) (suc hand) zero i same = refl
number_set (x ∷ ids) (suc hand) (suc other) i same = number_set ids hand other i same

-- numbers stay where one hand's stamps are counted
own_ids : (s : State) (hand : ℕ) (ids : Ids) → ids.number ≡ number_at s hand → IsOwn s (with_ids s hand ids) hand
own_ids s hand ids same = record {
  slabs_lock = refl;
  stripe_locks = refl;
  long = length-set s.ids hand ids;
  numbers = numbers;
  holding_rows = refl;
  look_rows = refl;
  holdings = λ other apart. refl;
  looks = λ other apart. refl;
} where
  numbers : (other : ℕ) → number_at (with_ids s hand ids) other ≡ number_at s other
  numbers other = number_set s.ids hand other ids same

own_fresh : (s : State) (hand : ℕ) (chunk : ChunkId) (head : Head) (holding : Holding) → IsOwn s (with_holding (with_head s chunk head) hand holding) hand
own_fresh s hand chunk head holding = own_then (own_head s hand chunk head) (own_more (with_head s chunk head) hand holding)

own_popped : (s : State) (hand : ℕ) (chunk : Option ChunkId) → IsOwn s (state_after_pop_of s hand chunk) hand
own_popped s hand None = own_same s hand
own_popped s hand (Some chunk) = own_then (own_fresh s hand chunk _ _) (own_look _ hand _)

own_popped_off : (s : State) (hand : ℕ) (old : ChunkId) (chunk : Option ChunkId) → IsOwn s (popped_off s hand old chunk) hand
own_popped_off s hand old None = own_same s hand
own_popped_off s hand old (Some chunk) = own_then (own_slabs s hand _) (own_then (own_fresh _ hand chunk _ _) (own_look _ hand _))

own_told : (s : State) (hand : ℕ) (holding : Holding) (kind : Kind) → IsOwn s (recorded_link s hand holding kind) hand
own_told s hand holding (Reference own) = own_then (own_stripe s hand _ _) (own_ids _ hand _ refl)
own_told s hand holding (Fresh Item own) = own_then (own_stripe s hand _ _) (own_ids _ hand _ refl)
own_told s hand holding (Fresh (Copy old) own) = own_then (own_stripe s hand _ _) (own_ids _ hand _ refl)
own_told s hand holding (Fresh (Rescue old item) own) = own_stripe s hand _ _

own_linked : (s : State) (hand : ℕ) (chunk : ChunkId) (holding : Option Holding) → IsOwn s (after_link_of s hand chunk holding) hand
own_linked s hand chunk None = own_same s hand
own_linked s hand chunk (Some holding) = own_then (own_told s hand holding holding.kind) (own_fresh _ hand chunk _ _)

own_referred : (s : State) (hand : ℕ) (place : Option (ChunkId × ℕ)) → IsOwn s (referred_to s hand place) hand
own_referred s hand None = own_same s hand
own_referred s hand (Some place) = own_fresh s hand place.0 _ _

own_unlinked : (s : State) (hand : ℕ) (place : Option (ChunkId × ℕ)) → IsOwn s (with_unlinked s place) hand
own_unlinked s hand None = own_same s hand
own_unlinked s hand (Some place) = own_head s hand place.0 _

own_dropped : (s : State) (hand : ℕ) (chunk : ChunkId) → IsOwn s (chunks.after_drop s hand chunk) hand
own_dropped s hand chunk = own_then (own_head s hand chunk _) (own_less _ hand _)

-- a header is written, pages and lists change, and the hand saw it
own_moved : (s : State) (hand : ℕ) (slabs : SlabState) (chunk : ChunkId) (head : Head) (look : Look) → IsOwn s (with_look (with_head (with_slabs s slabs) chunk head) hand look) hand
own_moved s hand slabs chunk head look = own_then (own_slabs s hand slabs) (own_then (own_head _ hand chunk head) (own_look _ hand look))

-- the step is none that takes or gives a lock, or joins
abbrev pub is_plain : Step → Bool
is_plain step.TakeSlabs = false
is_plain (step.TakeStripe stripe) = false
is_plain step.GiveSlabs = false
is_plain (step.GiveStripe stripe) = false
is_plain (step.Join kept spent) = false
is_plain other = true

pub own_step : (s : State) (hand : ℕ) (step : Step) → is_plain step ≡ true → IsOwn s (after_step s hand step) hand
own_step s hand step.TakeSlabs h = absurd (cc)
own_step s hand (step.TakeStripe stripe) h = absurd (cc)
own_step s hand MissSlabs h = own_same s hand
own_step s hand (MissStripe stripe) h = own_looked s hand _
own_step s hand step.GiveSlabs h = absurd (cc)
own_step s hand (step.GiveStripe stripe) h = absurd (cc)
own_step s hand (step.Head chunk) h = own_looked s hand _
own_step s hand (Pop class) h = own_then (own_slabs s hand _) (own_popped _ hand (next_free s class))
own_step s hand (PopOff old) h = own_popped_off s hand old (target_of s.table s.heads s.slabs old.page)
own_step s hand (Fill chunk place word) h = own_then (own_row s hand (change_each (is_of_chunk chunk) (holding_with_word place word) (holdings_at s hand))) (own_word _ hand chunk place word)
own_step s hand (Word chunk place) h = own_same s hand
own_step s hand (WordHeld chunk place) h = own_look s hand _
own_step s hand (Link chunk) h = own_then (own_less s hand (is_of_chunk chunk)) (own_linked _ hand chunk (holding_of chunk (holdings_at s hand)))
own_step s hand (Refer key) h = own_then (own_stripe s hand _ _) (own_referred (with_got s hand key) hand (chunk_of_key s key))
own_step s hand (Unlink key) h = own_then (own_stripe s hand _ _) (own_unlinked _ hand (chunk_of_key s key))
own_step s hand (Release chunk) h = own_dropped s hand chunk
own_step s hand (Discard chunk) h = own_dropped s hand chunk
own_step s hand (Condemn chunk) h =
    own_then (own_stripe s hand _ _)
    (own_then (own_row _ hand (change_each (is_copy_of chunk) (as_rescue chunk (item_at s chunk)) (holdings_at s hand))) (own_then (own_head _ hand chunk _) (own_look _ hand _)))
own_step s hand (PutBack chunk) h = own_moved s hand _ chunk _ _
own_step s hand (Clear chunk) h = own_moved s hand _ chunk _ _
own_step s hand (step.Cut page index) h = own_moved s hand _ _ _ _
own_step s hand (Again chunk issue) h = own_fresh s hand chunk _ _
own_step s hand (step.Join kept spent) h = absurd (cc)

pub own_change : (s : State) (hand : ℕ) (change : Change) → IsOwn s (after_change s hand change) hand
own_change s hand (Grow class) = own_then (own_slabs s hand _) (own_look _ hand _)
own_change s hand (BeginMove src dst) = own_then (own_slabs s hand _) (own_look _ hand _)
own_change s hand FinishMove = own_then (own_slabs s hand _) (own_look _ hand _)
own_change s hand (Touch chunk) = own_then (own_slabs s hand _) (own_look _ hand _)
own_change s hand (SetAutomove mode) = own_then (own_slabs s hand _) (own_look _ hand _)
own_change s hand TrimLedger = own_then (own_slabs s hand _) (own_look _ hand _)
own_change s hand (Passed found) = own_then (own_slabs s hand _) (own_look _ hand _)
own_change s hand Wrap = own_then (own_slabs s hand _) (own_look _ hand _)
own_change s hand (Evicted class) = own_then (own_slabs s hand _) (own_look _ hand _)
own_change s hand (OfStripe stripe how) = own_stripe s hand _ _
own_change s hand (GotNone key) = own_stripe s hand _ _
own_change s hand (DeletedNone key) = own_stripe s hand _ _
