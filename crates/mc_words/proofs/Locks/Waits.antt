-- One look more, of those that came before a lock was taken; and why a lock's word may be read.
use Rattle.std.proofs.Common.{◌≡◌, ◌≢◌, ℕ, suc, ◌<◌, true, false, eqb, eq-eqb, List, [], ◌∷◌, ◌++◌, length, refl, sym, ap, subst, ◌∙◌, arith, lt-ltb, slice_index, slice_set}
use Rattle.mc_core.specs.declared.event.Step.TheVariants as core
use Rattle.mc_core.specs.model.State.{State}
use Rattle.mc_core.proofs.Frame.SameSlabs.{looked_keeps}
use Rattle.mc_words.specs.hand.View.{View}
use Rattle.mc_words.specs.rule.Layout.{lock_address}
use Rattle.mc_words.specs.rule.Happens.{Happens, MayWrite}
use Rattle.mc_words.specs.hand.Views.{slabs_missed, stripe_missed}
use Rattle.mc_words.specs.lock.Wait.{MissesSlabs, MissesStripe}
use Rattle.mc_words.proofs.Chunks.Heads.{AreAll}
use Rattle.mc_words.proofs.Locks.LockViews.{lock_count}
use Rattle.mc_words.proofs.Rules.Quiet.{columns}
use Rattle.mc_words.proofs.Rules.Written.{unwritten}

-- the last of these words, or else this one
abbrev pub last_or : List ℕ → ℕ → ℕ
last_or [] word = word
last_or (next ∷ words) word = last_or words next

pub last_added : (words : List ℕ) (word none : ℕ) → last_or (words ++ word ∷ []) none ≡ word
last_added [] word none = refl
last_added (next ∷ words) word none = last_added words word next

-- one that isn't 0
pub not_free : (words : List ℕ) (word none : ℕ) → eqb word 0 ≡ false → last_or (words ++ word ∷ []) none ≢ 0
not_free words word none not zero_is = let e : true ≡ false = sym (eq-eqb word 0 (sym (last_added words word none) ∙ zero_is)) ∙ not in cc

module _ (before now : View) (word : ℕ) where
  -- at the lock of the slabs
  pub missed_again : (words : List ℕ) (view : View) (none : ℕ) → (last_or words none ≡ 0 → word ≢ 0) → Happens before [] core.MissSlabs now → now ≡ slabs_missed word before → MissesSlabs words view before → MissesSlabs (words ++ word ∷ []) view now
  missed_again [] view none tried happens is same = (
    tt,
    subst (λ (v : View). Happens v [] core.MissSlabs (slabs_missed word v)) same (subst (Happens before [] core.MissSlabs) is happens),
    is ∙ ap (slabs_missed word) same,
  )
  missed_again (first ∷ []) view none tried happens is (next, then, misses) = (tried, then, missed_again [] (slabs_missed first view) first tried happens is misses)
  missed_again (first ∷ second ∷ words) view none tried happens is (next, then, misses) = (next, then, missed_again (second ∷ words) (slabs_missed first view) first tried happens is misses)

  -- at that of a stripe
  pub missed_stripe_again : (stripe : ℕ) (words : List ℕ) (view : View) (none : ℕ) → (last_or words none ≡ 0 → word ≢ 0) → Happens before [] (core.MissStripe stripe) now → now ≡ stripe_missed stripe word before → MissesStripe stripe words view before
      → MissesStripe stripe (words ++ word ∷ []) view now
  missed_stripe_again stripe [] view none tried happens is same = (
    tt,
    subst (λ (v : View). Happens v [] (core.MissStripe stripe) (stripe_missed stripe word v)) same (subst (Happens before [] (core.MissStripe stripe)) is happens),
    is ∙ ap (stripe_missed stripe word) same,
  )
  missed_stripe_again stripe (first ∷ []) view none tried happens is (next, then, misses) = (tried, then, missed_stripe_again stripe [] (stripe_missed stripe first view) first tried happens is misses)
  missed_stripe_again stripe (first ∷ second ∷ words) view none tried happens is (next, then, misses) = (next, then, missed_stripe_again stripe (second ∷ words) (stripe_missed stripe first view) first tried happens is misses)

-- misses leave what was seen of histories
pub misses_seen : (stripe : ℕ) (words : List ℕ) (view now : View) → MissesStripe stripe words view now → now.row.knows.seen ≡ view.row.knows.seen
misses_seen stripe [] view now is = ap (λ (v : View). v.row.knows.seen) is
misses_seen stripe (word ∷ words) view now (next, happens, rest) = misses_seen stripe words (stripe_missed stripe word view) now rest

-- a read writes nothing
pub may_look_at_slabs : (view : View) → MayWrite view core.MissSlabs (lock_address 0) (λ found. found)
may_look_at_slabs view was fits =
    let s : State = was.moment.state in
    (refl, unwritten view.setup was.cuts was.words s.slabs_lock s.stripe_locks s.heads s.words was.are (lock_address 0))

pub may_look_at_stripe : (view : View) (stripe : ℕ) → stripe < view.setup.config.stripes → MayWrite view (core.MissStripe stripe) (lock_address (suc stripe)) (λ found. found)
may_look_at_stripe view stripe in_range was fits =
    let s : State = was.moment.state in
    let count = lock_count view view was in (
      lt-ltb stripe (length s.stripe_locks) (omega arith),
      subst (AreAll view.setup was.cuts (slice_set was.words (lock_address (suc stripe)) (slice_index was.words (lock_address (suc stripe))))) (sym (looked_keeps columns s was.hand _ refl))
          (unwritten view.setup was.cuts was.words s.slabs_lock s.stripe_locks s.heads s.words was.are (lock_address (suc stripe))),
    )
