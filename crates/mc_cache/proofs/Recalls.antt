-- What a hand did once it was recalled, it did as it lay.
use Rattle.std.proofs.Common.{◌≡◌, ℕ, inl, inr, subst, true}
use Rattle.mc_words.specs.declared.hand.Hand.{Hand}
use Rattle.mc_words.specs.hand.Arenas.{view}
use Rattle.mc_words.specs.hand.Observers.{hand_number}
use Rattle.mc_words.specs.hand.View.{View}
use Rattle.mc_words.specs.lock.Doing.{HoldsSlabs, SlabsDoing}
use Rattle.mc_words.specs.lock.Wait.{MissesSlabsEachTime}
use Rattle.mc_mover.specs.Acting.{ActsOnceByNumber}
use Rattle.mc_mover.specs.Surveying.{Surveys}
use Rattle.mc_watch.specs.Decider.{DeciderState}
use Rattle.mc_cache.specs.Windows.{EndsWindow}
use Rattle.mc_cache.specs.declared.window.FirstHalf.{FirstHalf}
use Rattle.mc_cache.specs.declared.window_within.WindowEnd.{WindowEnd}
use Rattle.mc_cache.specs.declared.window_within.WindowEnd.TheVariants as window_end
use Rattle.mc_cache.specs.WindowsWithin.{EndsWindowWithin, MissesEachTime, MissesWindow}

module _ (before again : Hand) (same : view again ≡ view before) (number : hand_number again ≡ hand_number before) where
  -- what was done under the slabs lock
  pub acts_before : (Does : ℕ → SlabsDoing) (now : Hand) → ActsOnceByNumber Does again now → ActsOnceByNumber Does before now
  acts_before Does now acts =
      let by_number : HoldsSlabs (Does (hand_number before)) (view again) (view now) = subst (λ (n : ℕ). HoldsSlabs (Does n) (view again) (view now)) number acts in
      subst (λ (v : View). HoldsSlabs (Does (hand_number before)) v (view now)) same by_number

  -- the tries that missed
  pub misses_before : (tries : ℕ) (now : Hand) → MissesEachTime tries again now → MissesEachTime tries before now
  misses_before tries now misses = subst (λ (v : View). MissesSlabsEachTime tries v (view now)) same misses

  -- the first half of a window
  pub ends_before : (first : FirstHalf) (decider left : DeciderState) (now : Hand) → EndsWindow first decider again left now → EndsWindow first decider before left now
  ends_before first decider left now h = record {
    survey = h.survey;
    surveyed = h.surveyed;
    surveys = acts_before (λ number. Surveys true h.survey) h.surveyed h.surveys;
    feeds = h.feeds;
    shown = h.shown;
    acts = h.acts;
  }

  -- and one that stopped there
  pub misses_window_before : (tries : ℕ) (decider left : DeciderState) (now : Hand) → MissesWindow tries decider again left now → MissesWindow tries decider before left now
  misses_window_before tries decider left now (inl h) = inl (misses_before tries now h.0, h.1)
  misses_window_before tries decider left now (inr h) = inr (record {
    survey = h.survey;
    surveyed = h.surveyed;
    surveys = acts_before (λ number. Surveys true h.survey) h.surveyed h.surveys;
    feeds = h.feeds;
    decision = h.decision;
    decided = h.decided;
    misses = h.misses;
  })

  -- by what became of the half
  pub ended_before : (tries : ℕ) (end : WindowEnd) (first : FirstHalf) (decider left : DeciderState) (now : Hand) → end ≡ window_end.Ended first → EndsWindowWithin tries end decider again left now → EndsWindow first decider before left now
  ended_before tries end first decider left now is h = ends_before first decider left now (subst (λ (e : WindowEnd). EndsWindowWithin tries e decider again left now) is h)

  pub held_before : (tries : ℕ) (end : WindowEnd) (decider left : DeciderState) (now : Hand) → end ≡ window_end.Held → EndsWindowWithin tries end decider again left now → MissesWindow tries decider before left now
  held_before tries end decider left now is h = misses_window_before tries decider left now (subst (λ (e : WindowEnd). EndsWindowWithin tries e decider again left now) is h)
