-- Calls that missed a lock at each try: what they leave of what the hand has.
use Rattle.std.proofs.Common.{◌≡◌, ℕ, false, List, [], ◌∷◌, Result, Ok, Err, OnErr, OnOk, refl, ap, ◌∙◌, inl}
use Rattle.mc_pages.specs.declared.ids.ChunkId.{ChunkId}
use Rattle.mc_core.specs.model.Holdings.{has_fresh, is_of_chunk, without_first}
use Rattle.mc_words.specs.hand.View.{View}
use Rattle.mc_words.specs.hand.Views.{slabs_missed}
use Rattle.mc_words.specs.lock.Wait.{MissesSlabs, MissesSlabsEachTime, MissesStripeEachTime}
use Rattle.mc_words.proofs.Locks.Waited.{misses_keep}
use Rattle.mc_words.specs.item.Refs.{KeepsHoldings}
use Rattle.mc_words.specs.lock.Doing.{HoldsSlabs}
use Rattle.mc_items.specs.Calls.{Bumps, RecordsNoCall}
use Rattle.mc_items.specs.Storing.{IsOwnItem, item_filled}
use Rattle.mc_items.specs.Within.{LeavesUnlinked}
use Rattle.mc_items.proofs.Chains.{holdings_stay}
use Rattle.mc_items.proofs.Left.{Kept, bumped_keeps, bumped_tells, kept_of}
use Rattle.mc_items.proofs.Made.{Gains, Tells, TellsTuple, told_of}
use Rattle.mc_items.proofs.Passes.{own_of}
use Rattle.mc_items.proofs.StoredRows.{lost_again}
use Rattle.mc_items.proofs.Visits.{Deletions, deletes_none}

-- whatever misses leave stays
pub slabs_misses_keep : {X : Type 0} (part : View → X) → ((word : ℕ) (v : View) → part (slabs_missed word v) ≡ part v) → (words : List ℕ) (before now : View) → MissesSlabs words before now → part now ≡ part before
slabs_misses_keep part missed [] before now is = ap part is
slabs_misses_keep part missed (word ∷ words) before now (busy, happens, rest) = slabs_misses_keep part missed words (slabs_missed word before) now rest ∙ missed word before

-- each try for the lock of the slabs missed
pub missed_holds : (tries : ℕ) (view now : View) → MissesSlabsEachTime tries view now → now.row.holdings ≡ view.row.holdings
missed_holds tries view now missed = slabs_misses_keep (λ (v : View). v.row.holdings) (λ word v. refl) missed.words view now missed.misses

pub missed_tells : (number tries : ℕ) (view now : View) → MissesSlabsEachTime tries view now → Tells number view now
missed_tells number tries view now missed =
    let told = slabs_misses_keep told_of (λ word v. refl) missed.words view now missed.misses in record {
      stored = ap (λ (o : TellsTuple). o.0) told;
      ids = ap (λ (o : TellsTuple). o.1) told;
      known = ap (λ (o : TellsTuple). o.3) told;
      calls = inl (ap (λ (o : TellsTuple). o.2) told);
    }

-- what is held, known and said, and the numbers
pub slabs_missed_keeps : (tries : ℕ) (view now : View) → MissesSlabsEachTime tries view now → kept_of now ≡ kept_of view
slabs_missed_keeps tries view now missed = slabs_misses_keep kept_of (λ word v. refl) missed.words view now missed.misses

-- the hand's own calls
pub slabs_missed_tells : (tries : ℕ) (view now : View) → MissesSlabsEachTime tries view now → RecordsNoCall view now
slabs_missed_tells tries view now missed = slabs_misses_keep (λ (v : View). v.row.knows.mine) (λ word v. refl) missed.words view now missed.misses

-- no key was deleted
pub slabs_missed_deletes : (number tries : ℕ) (view now : View) → MissesSlabsEachTime tries view now → Deletions number 0 view now
slabs_missed_deletes number tries view now missed = deletes_none number view now (slabs_misses_keep own_of (λ word v. refl) missed.words view now missed.misses)

-- the same where each try for a stripe's lock missed
pub stripe_missed_keeps : (tries stripe : ℕ) (view now : View) → MissesStripeEachTime tries stripe view now → kept_of now ≡ kept_of view
stripe_missed_keeps tries stripe view now missed = misses_keep kept_of stripe (λ word v. refl) missed.words view now missed.misses

pub stripe_missed_tells : (tries stripe : ℕ) (view now : View) → MissesStripeEachTime tries stripe view now → RecordsNoCall view now
stripe_missed_tells tries stripe view now missed = misses_keep (λ (v : View). v.row.knows.mine) stripe (λ word v. refl) missed.words view now missed.misses

-- each try for that of the stripe missed
pub unlinked_tells : (tries stripe : ℕ) (chunk : ChunkId) (view now : View) → LeavesUnlinked tries stripe chunk view now → told_of now ≡ told_of view
unlinked_tells tries stripe chunk view now dead = ap told_of dead.dropped ∙ misses_keep told_of stripe (λ word v. refl) dead.misses.words view dead.missed dead.misses.misses

module _ (chunk : ChunkId) (item : List ℕ) (view between : View) (none : has_fresh view.row.holdings ≡ false) (gains : Gains chunk view between) (own : IsOwnItem between chunk) (tries stripe : ℕ) (now : View) (dead : LeavesUnlinked tries stripe chunk (item_filled chunk item between) now) where
  missed_is : kept_of dead.missed ≡ kept_of (item_filled chunk item between)
  missed_is = misses_keep kept_of stripe (λ word v. refl) dead.misses.words (item_filled chunk item between) dead.missed dead.misses.misses

  unlinked_holds : now.row.holdings ≡ view.row.holdings
  unlinked_holds = ap (λ (v : View). v.row.holdings) dead.dropped ∙ (ap (λ (k : Kept). without_first (is_of_chunk chunk) k.0) missed_is ∙ lost_again chunk item view between none gains own)

  unlinked_knows : now.row.knows.known ≡ between.row.knows.known
  unlinked_knows = ap (λ (v : View). v.row.knows.known) dead.dropped ∙ ap (λ (k : Kept). k.1) missed_is

  pub unlinked_keeps : between.row.knows.known ≡ view.row.knows.known → KeepsHoldings view now
  unlinked_keeps same = holdings_stay view now unlinked_holds (unlinked_knows ∙ same)

-- a bump that got the lock of the slabs, or missed it at each try
module _ {A E : Type 0} (number tries : ℕ) (chunk : ChunkId) where
  pub bump_keeps : (r : Result A E) (view now : View) → OnOk r (HoldsSlabs (Bumps number chunk) view now) → OnErr r (MissesSlabsEachTime tries view now) → kept_of now ≡ kept_of view
  bump_keeps (Ok a) view now bumps missed = bumped_keeps number chunk view now bumps
  bump_keeps (Err e) view now bumps missed = slabs_missed_keeps tries view now missed

  pub bump_tells : (r : Result A E) (view now : View) → OnOk r (HoldsSlabs (Bumps number chunk) view now) → OnErr r (MissesSlabsEachTime tries view now) → RecordsNoCall view now
  bump_tells (Ok a) view now bumps missed = bumped_tells number chunk view now bumps
  bump_tells (Err e) view now bumps missed = slabs_missed_tells tries view now missed
