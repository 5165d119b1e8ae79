-- An item that was saved, or wasn't: the whole, from the parts of the call.
use Rattle.std.proofs.Common.{◌≡◌, ◌⊎◌, ℕ, ◌+◌, true, refl, ap, subst, ◌∙◌, inl, inr}
use Rattle.mc_pages.specs.declared.ids.ChunkId.{ChunkId}
use Rattle.mc_pages.specs.declared.moves.Found.{Found}
use Rattle.mc_pages.specs.declared.moves.Found.TheVariants.{Cleared, Rescued, Evicted, Busy, Locked, Already}
use Rattle.mc_pages.specs.Changes.{after_back, after_replace}
use Rattle.mc_pages.specs.SlabState.{SlabState, class_at, class_of_page}
use Rattle.mc_stripe.specs.Changes.{after_reserve}
use Rattle.mc_stripe.specs.StripeState.{ReadyStripe}
use Rattle.mc_core.specs.model.State.{room_in}
use Rattle.mc_words.specs.hand.View.{View}
use Rattle.mc_words.specs.lock.Doing.{SlabsDoing}
use Rattle.mc_words.specs.chunk.Sweeps.{SweepsOne}
use Rattle.mc_words.specs.hand.Views.{stripe_given, stripe_reserved}
use Rattle.mc_mover.specs.declared.sweep.Sweep.{Sweep}
use Rattle.mc_mover.specs.declared.sweep.Sweep.TheVariants.{Due, Done}
use Rattle.mc_mover.specs.Linked.{SavesAs, SavesWith}
use Rattle.mc_mover.specs.Saving.{BothDoing, Evicts, EvictsWithoutTarget, FailsToEvict, FailsToRescue, FindsNoTarget, GivesEvicted, GivesRescued, Rescues, RescuesToTarget, SweepsAndSaves, SweepsForTarget, SweepsToEvict, SweepsToRescue}
use Rattle.mc_mover.proofs.Saves.{sweeps_slabs}

module _ (number class : ℕ) (chunk : ChunkId) (stripe : ℕ) (value value' : ReadyStripe) (view made : View) (slabs : SlabState) (values : value' ≡ after_reserve value) (made_is : made ≡ stripe_reserved stripe value (number + 1) view) where
  saved_with : (Swept : SlabsDoing) (swept : View) (kept : SlabState) → Swept made slabs swept kept → (Does : ℕ → BothDoing) (last now : View) (left : ReadyStripe) (after : SlabState) → Does stripe kept value' swept after left last → now ≡ stripe_given stripe left last
      → SavesWith number Swept Does stripe value view slabs now after
  saved_with Swept swept kept sweeps Does last now left after does given = record {
    left = left;
    last = last;
    does = record {
      swept = swept;
      between = kept;
      sweeps = subst (λ (v : View). Swept v slabs swept kept) made_is sweeps;
      does = subst (λ (r : ReadyStripe). Does stripe kept r swept after left last) values does;
    };
    given = given;
  }

  module _ (sweep : Sweep) (swept : View) (kept : SlabState) (now : View) (left : SlabState) where
    -- by a copy
    rescued : (found : Found) → SweepsToRescue class chunk sweep made slabs swept kept → RescuesToTarget number chunk found stripe value' swept kept now left → SavesAs number class chunk sweep found stripe value view slabs now left
    rescued found sweeps there = by found there.gives
      where
        by : (found : Found) → GivesRescued number stripe value' chunk there.copy (room_in swept.setup.table (class_of_page kept chunk.page)) found there.popped (after_replace kept there.copy chunk) now left → SavesAs number class chunk sweep found stripe value view slabs now left
        by Rescued (after, last, moves, given, same) =
            saved_with (SweepsToRescue class chunk sweep) swept kept sweeps (λ (s : ℕ). Rescues number s chunk) last now after left
            (record { copy = there.copy; popped = there.popped; pops = there.pops; moves = moves; kept_is = same }) given
        by Busy (last, fails, puts) =
            inr (record {
              copy = there.copy;
              failed = stripe_given stripe value' last;
              kept = after_replace kept there.copy chunk;
              fails = saved_with (SweepsToRescue class chunk sweep) swept kept sweeps (λ (s : ℕ). FailsToRescue chunk there.copy) last (stripe_given stripe value' last) value' (after_replace kept there.copy chunk)
                  (record { popped = there.popped; pops = there.pops; fails = fails; kept_is = refl; same = refl }) refl;
              puts = puts;
            })
        by Cleared never = never
        by Evicted never = absurd never
        by Locked never = never
        by Already never = never

    -- by an eviction
    evicted : (found : Found) → SweepsToEvict class chunk sweep made slabs swept kept → EvictsWithoutTarget number chunk found stripe value' swept kept now left → SavesAs number class chunk sweep found stripe value view slabs now left
    evicted found sweeps there = by found there.gives
      where
        by : (found : Found) → GivesEvicted number stripe value' chunk found there.passed now → SavesAs number class chunk sweep found stripe value view slabs now left
        by Evicted (after, last, condemns, given) =
            saved_with (SweepsToEvict class chunk sweep) swept kept sweeps (λ (s : ℕ). Evicts number s chunk) last now after left
            (record { passed = there.passed; passes = there.passes; condemns = condemns; same = there.same }) given
        by Busy (last, finds, given) =
            inl (saved_with (SweepsToEvict class chunk sweep) swept kept sweeps (λ (s : ℕ). FailsToEvict chunk) last now value' left
            (record { passed = there.passed; passes = there.passes; finds = finds; same = (there.same, refl) }) given)
        by Cleared never = never
        by Rescued never = absurd never
        by Locked never = never
        by Already never = never

  -- the first item of a turn; a later one for which there is a free chunk at once; and one for which there isn't
  module _ (now : View) (left : SlabState) (found : Found) where
    pub saved_first : SweepsAndSaves number class chunk found stripe value' made slabs now left → SavesAs number class chunk Due found stripe value view slabs now left
    saved_first swept = by swept.saves
      where
        by : RescuesToTarget number chunk found stripe value' swept.swept swept.between now left ⊎ EvictsWithoutTarget number chunk found stripe value' swept.swept swept.between now left → SavesAs number class chunk Due found stripe value view slabs now left
        by (inl there) = rescued Due swept.swept swept.between now left found swept.sweeps there
        by (inr there) = evicted Due swept.swept swept.between now left found swept.sweeps there

    pub saved_at_once : RescuesToTarget number chunk found stripe value' made slabs now left → SavesAs number class chunk Done found stripe value view slabs now left
    saved_at_once there = rescued Done made slabs now left found (inl (refl, refl)) there

    pub saved_later : (passed : View) → FindsNoTarget chunk slabs made passed → SweepsAndSaves number class chunk found stripe value' passed slabs now left → SavesAs number class chunk Done found stripe value view slabs now left
    saved_later passed none swept = by swept.saves
      where
        sweeps : SweepsForTarget class chunk made slabs swept.swept swept.between
        sweeps = record { passed = passed; none = none; sweeps = swept.sweeps }

        by : RescuesToTarget number chunk found stripe value' swept.swept swept.between now left ⊎ EvictsWithoutTarget number chunk found stripe value' swept.swept swept.between now left → SavesAs number class chunk Done found stripe value view slabs now left
        by (inl there) = rescued Done swept.swept swept.between now left found (inr sweeps) there
        by (inr there) = evicted Done swept.swept swept.between now left found sweeps there

-- what a rescue leaves of pages and lists
module _ {X : Type 0} (part : SlabState → X) (back : (slabs : SlabState) (chunk : ChunkId) → part (after_back slabs chunk) ≡ part slabs) (number stripe : ℕ) (value : ReadyStripe) (chunk copy : ChunkId) (room : ℕ) (view : View) (slabs : SlabState) (now : View) (left : SlabState) where
  swept_slabs : (last : View) → SweepsOne copy last slabs now left → part left ≡ part slabs
  swept_slabs last (inl (puts, is)) = ap part is ∙ back slabs copy
  swept_slabs last (inr (sees, is)) = ap part is

  pub rescued_slabs : (found : Found) → GivesRescued number stripe value chunk copy room found view slabs now left → part left ≡ part slabs
  rescued_slabs Rescued (after, last, moves, given, same) = ap part same
  rescued_slabs Busy (last, fails, puts) = swept_slabs (stripe_given stripe value last) puts
  rescued_slabs Cleared never = absurd never
  rescued_slabs Evicted never = absurd never
  rescued_slabs Locked never = absurd never
  rescued_slabs Already never = absurd never

-- and what a rescue leaves behind the search, and one behind a sweep
module _ {X : Type 0} (part : SlabState → X) (back : (slabs : SlabState) (chunk : ChunkId) → part (after_back slabs chunk) ≡ part slabs) (replace : (slabs : SlabState) (copy chunk : ChunkId) → part (after_replace slabs copy chunk) ≡ part slabs)
    (number stripe : ℕ) (value : ReadyStripe) (chunk : ChunkId) (found : Found) (view : View) (slabs : SlabState) (now : View) (left : SlabState) where
  pub there_slabs : RescuesToTarget number chunk found stripe value view slabs now left → part left ≡ part slabs
  there_slabs there =
      rescued_slabs part back number stripe value chunk there.copy (room_in view.setup.table (class_of_page slabs chunk.page)) there.popped (after_replace slabs there.copy chunk) now left found there.gives ∙ replace slabs there.copy chunk

module _ {X : Type 0} (part : SlabState → X) (back : (slabs : SlabState) (chunk : ChunkId) → part (after_back slabs chunk) ≡ part slabs) (replace : (slabs : SlabState) (copy chunk : ChunkId) → part (after_replace slabs copy chunk) ≡ part slabs)
    (number class stripe : ℕ) (value : ReadyStripe) (chunk : ChunkId) (found : Found) (view : View) (slabs : SlabState) (now : View) (left : SlabState) where
  pub saved_slabs : SweepsAndSaves number class chunk found stripe value view slabs now left → part left ≡ part slabs
  saved_slabs saves = by saves.saves ∙ sweeps_slabs part back (class_at slabs class).order view slabs saves.swept saves.between saves.sweeps
    where
      by : RescuesToTarget number chunk found stripe value saves.swept saves.between now left ⊎ EvictsWithoutTarget number chunk found stripe value saves.swept saves.between now left → part left ≡ part saves.between
      by (inl there) = there_slabs part back replace number stripe value chunk found saves.swept saves.between now left there
      by (inr there) = ap part there.same
