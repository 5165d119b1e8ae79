-- A linked chunk that the mover comes to: the whole, from the parts of the call; and that what was cleared has left its class's lists.
use Rattle.std.proofs.Common.{◌≡◌, ◌≢◌, ◌⊎◌, ℕ, ◌%◌, ◌==◌, ◌&&◌, Bool, true, false, if◌then◌else◌, List, [], ◌∷◌, ◌++◌, Option, Some, None, Result, Ok, Err, IsOk, OnOk, refl, sym, ap, subst, ◌∙◌, inl, inr}
use Rattle.std.specs.List.{fold}
use Rattle.std.specs.Option.{option_map}
use Rattle.std.proofs.lemmas.Bool.{or_right}
use Rattle.std.proofs.lemmas.List.Sums.{fold-append}
use Rattle.mc_pages.specs.declared.ids.ChunkId.{ChunkId}
use Rattle.mc_pages.specs.declared.moves.Found.{Found}
use Rattle.mc_pages.specs.declared.moves.Found.TheVariants.{Cleared, Rescued, Evicted, Busy, Locked, Already}
use Rattle.mc_pages.specs.Moves.{is_held_up}
use Rattle.mc_pages.specs.SlabState.{SlabState}
use Rattle.mc_pages.proofs.Chunks.{is_chunk-same}
use Rattle.mc_stripe.specs.StripeState.{ReadyStripe, chunk_and_stamp}
use Rattle.mc_core.specs.declared.head.Head.{Head}
use Rattle.mc_core.specs.model.Head.{is_dead, is_free}
use Rattle.mc_core.specs.declared.look.Look.{Look}
use Rattle.mc_core.specs.declared.look.Look.TheVariants.{Read}
use Rattle.mc_core.specs.declared.event.Step.TheVariants as step
use Rattle.mc_core.specs.law.Seen.{last_read}
use Rattle.mc_words.specs.hand.View.{View}
use Rattle.mc_words.specs.declared.hand.Hand.{Hand}
use Rattle.mc_words.specs.declared.lock.locks.Locks.{Locks}
use Rattle.mc_words.specs.declared.lock.locks.Locks.TheVariants.{Neither, Slabs, Stripe, SlabsLast, StripeLast}
use Rattle.mc_words.specs.item.Removal.{stripe_read}
use Rattle.mc_words.specs.rule.Happens.{Happens}
use Rattle.mc_words.specs.hand.Idle.{has_no_stripes}
use Rattle.mc_words.specs.item.Items.{word_read}
use Rattle.mc_words.specs.lock.Lent.{BeginsWithSeen, IsLentStripe}
use Rattle.mc_words.specs.lock.Out.{locks_have_no_stripe, locks_with_stripe, without_stripe}
use Rattle.mc_words.specs.page.Owner.{is_unused}
use Rattle.mc_words.specs.hand.Views.{stripe_given, stripe_taken}
use Rattle.mc_words.proofs.Locks.Unlocked.{no_stripe_from}
use Rattle.mc_mover.specs.declared.sweep.Sweep.{Sweep}
use Rattle.mc_mover.specs.declared.sweep.Sweep.TheVariants.{Done}
use Rattle.mc_mover.specs.Linked.{FindsKeyElsewhere, HoldsUp, OnlyGives, ReachesStripe, ReadsKey, SavesAs, SavesAndClears, StripeDoing, VisitsLinked}

-- a stripe's lock that came and went
pub stripe_back : (hand : Hand) (stripe : ℕ) → has_no_stripes hand.seat.me.0 ≡ true → without_stripe (locks_with_stripe stripe hand.locks) ≡ hand.locks
stripe_back hand stripe none = by hand.locks (no_stripe_from hand.seat.me.0 hand.locks hand.noted.4 none)
  where
    by : (locks : Locks) → locks_have_no_stripe locks ≡ true → without_stripe (locks_with_stripe stripe locks) ≡ locks
    by Neither none = refl
    by Slabs none = refl
    by (Stripe other) none = absurd (cc)
    by (SlabsLast other) none = absurd (cc)
    by (StripeLast other) none = absurd (cc)

-- the key of the chunk was read, and its stripe's lock taken
module _ (chunk : ChunkId) (view read taken : View) (slabs : SlabState) (key stripe : ℕ) (value : ReadyStripe) (reads : ReadsKey chunk key view read) (at : stripe ≡ key % view.setup.config.stripes) (takes : Happens read [] (step.TakeStripe stripe) taken)
    (is_taken : taken ≡ stripe_taken stripe value read) (lent : IsLentStripe taken stripe value) (begins : BeginsWithSeen read stripe value) where
  pub reached : (Does : ℕ → StripeDoing) (now : View) (left : SlabState) → Does key stripe value taken slabs now left → ReachesStripe chunk Does view slabs now left
  reached Does now left does = record {
    key = key;
    value = value;
    read = read;
    reads = reads;
    taken = taken;
    takes = subst (λ n. Happens read [] (step.TakeStripe n) taken) at takes;
    is_taken = is_taken ∙ ap (λ n. stripe_taken n value read) at;
    lent = subst (λ n. IsLentStripe taken n value) at lent;
    begins = subst (λ (p : View × ℕ). BeginsWithSeen p.0 p.1 value) (λ k. (reads.1 k, at k)) begins;
    does = subst (λ n. Does key n value taken slabs now left) at does;
  }

  -- the stripe is that of the key
  pub stripe_found : stripe_read taken chunk ≡ Some stripe
  stripe_found =
      let looks : taken.row.looks ≡ view.row.looks ++ Read chunk 0 key ∷ [] = ap (λ (v : View). v.row.looks) is_taken ∙ ap (λ (v : View). v.row.looks) reads.1 in
      let setup = ap (λ (v : View). v.setup) is_taken ∙ ap (λ (v : View). v.setup) reads.1 in
      let word : word_read taken chunk 0 ≡ Some key =
      ap (λ (looks : List Look). fold (last_read chunk 0) None looks) looks
      ∙ (fold-append (last_read chunk 0) None view.row.looks (Read chunk 0 key ∷ []) ∙ ap (λ (b : Bool). if b && 0 == 0 then Some key else fold (last_read chunk 0) None view.row.looks) (is_chunk-same chunk)) in
      (λ k. option_map (λ key. key % (setup k).config.stripes) (word k)) ∙ ap (λ n. Some n) (sym at)

-- whether the mover found the same
abbrev pub same_found : Found → Found → Bool
same_found a b = denote.Enum.Bare.sameb Rattle.mc_pages.specs.contracts.moves.Found.the_type a b

-- what is saved was rescued or evicted, unless it holds up the move
pub saved_found : (number class : ℕ) (chunk : ChunkId) (sweep : Sweep) (found : Found) (stripe : ℕ) (value : ReadyStripe) (view : View) (slabs : SlabState) (now : View) (left : SlabState) → SavesAs number class chunk sweep found stripe value view slabs now left → same_found found Busy ≡ false → is_held_up found ≡ false
saved_found number class chunk sweep Rescued stripe value view slabs now left saves other = refl
saved_found number class chunk sweep Evicted stripe value view slabs now left saves other = refl
saved_found number class chunk sweep Busy stripe value view slabs now left saves other = absurd (cc)
saved_found number class chunk sweep Cleared stripe value view slabs now left saves other = absurd saves
saved_found number class chunk sweep Locked stripe value view slabs now left saves other = absurd saves
saved_found number class chunk sweep Already stripe value view slabs now left saves other = absurd saves

-- and it holds up the move where it was neither
pub held_found : (number class : ℕ) (chunk : ChunkId) (sweep : Sweep) (found : Found) (stripe : ℕ) (value : ReadyStripe) (view : View) (slabs : SlabState) (now : View) (left : SlabState) → SavesAs number class chunk sweep found stripe value view slabs now left → same_found found Busy ≡ true → found ≡ Busy
held_found number class chunk sweep Rescued stripe value view slabs now left saves same = absurd (cc)
held_found number class chunk sweep Evicted stripe value view slabs now left saves same = absurd (cc)
held_found number class chunk sweep Busy stripe value view slabs now left saves same = refl
held_found number class chunk sweep Cleared stripe value view slabs now left saves same = absurd saves
held_found number class chunk sweep Locked stripe value view slabs now left saves same = absurd saves
held_found number class chunk sweep Already stripe value view slabs now left saves same = absurd saves

-- a chunk that was saved and cleared, by what was found
pub visited_saved : (number class : ℕ) (chunk : ChunkId) (sweep : Sweep) (found : Found) (next : Sweep) (view : View) (slabs : SlabState) (now : View) (left : SlabState) → is_held_up found ≡ false → next ≡ Done → SavesAndClears number class chunk sweep found view slabs now left
    → VisitsLinked number class chunk sweep true found next view slabs now left
visited_saved number class chunk sweep Rescued next view slabs now left free done saves = (refl, saves, done)
visited_saved number class chunk sweep Evicted next view slabs now left free done saves = (refl, saves, done)
visited_saved number class chunk sweep Busy next view slabs now left free done saves = absurd (cc)
visited_saved number class chunk sweep Locked next view slabs now left free done saves = absurd (cc)
visited_saved number class chunk sweep Cleared next view slabs now left free done saves = absurd (never saves)
  where
    never : SavesAndClears number class chunk sweep Cleared view slabs now left → ⊥
    never saves = saves.reaches.does
visited_saved number class chunk sweep Already next view slabs now left free done saves = absurd (never saves)
  where
    never : SavesAndClears number class chunk sweep Already view slabs now left → ⊥
    never saves = saves.reaches.does

-- of a call that succeeds
pub of_ok : {T E X : Type 0} (result : Result T E) → IsOk result → OnOk result X → X
of_ok (Ok value) is x = x
of_ok (Err error) is x = absurd (cc)

-- what is dead isn't used
pub dead_unused : (seen : Option Head) → option_map is_dead seen ≡ Some true → option_map is_unused seen ≡ Some true
dead_unused None dead = absurd (cc)
dead_unused (Some head) dead = ap Some (or_right (is_free head.tag) (is_dead head) (some_same (is_dead head) true dead))
  where
    some_same : (a b : Bool) → Some a ≡ Some b → a ≡ b
    some_same a b e = cc

-- the chunk was held, or its key leads elsewhere, and the lock was given back
module _ (chunk : ChunkId) (view read taken : View) (slabs : SlabState) (key stripe : ℕ) (value : ReadyStripe) (reads : ReadsKey chunk key view read) (at : stripe ≡ key % view.setup.config.stripes) (takes : Happens read [] (step.TakeStripe stripe) taken)
    (is_taken : taken ≡ stripe_taken stripe value read) (lent : IsLentStripe taken stripe value) (begins : BeginsWithSeen read stripe value) where
  pub held_up : (number class : ℕ) (sweep : Sweep) (unheld : Bool) (now : View) → now ≡ stripe_given stripe value taken → ((unheld ≡ false) ⊎ ((unheld ≡ true) × (option_map (λ (place : ChunkId × ℕ). place.0) (chunk_and_stamp value.state key) ≢ Some chunk)))
      → HoldsUp number class chunk sweep unheld sweep view slabs now slabs
  held_up number class sweep unheld now given (inl held) =
      subst (λ (b : Bool). HoldsUp number class chunk sweep b sweep view slabs now slabs) (sym held)
      (reached chunk view read taken slabs key stripe value reads at takes is_taken lent begins (λ key. OnlyGives) now slabs (given, refl), refl)
  held_up number class sweep unheld now given (inr (free, gone)) =
      subst (λ (b : Bool). HoldsUp number class chunk sweep b sweep view slabs now slabs) (sym free)
      (inl (reached chunk view read taken slabs key stripe value reads at takes is_taken lent begins (FindsKeyElsewhere chunk) now slabs (gone, (given, refl)), refl))
