use Rattle.std.proofs.Common.{◌≡◌, ◌≢◌, ℕ, List, [], ◌∷◌, ap, refl, subst, ◌∙◌}
use Rattle.mc_pages.specs.SlabState.{SlabState}
use Rattle.mc_core.specs.declared.event.Step.TheVariants.{MissSlabs}
use Rattle.mc_words.specs.hand.Idle.{is_unlocked}
use Rattle.mc_words.specs.hand.View.{View}
use Rattle.mc_words.specs.hand.Views.{slabs_missed}
use Rattle.mc_words.specs.lock.Wait.{IsTriedNext, MissesSlabs, WaitsForSlabs}
use Rattle.mc_words.specs.rule.Happens.{Happens}
use Rattle.mc_words.proofs.arena.Arena.lock_slabs.Goals as goal

-- behind a word that isn't 0 any look may come
tried_next : (word : ℕ) (words : List ℕ) → word ≢ 0 → IsTriedNext word words
tried_next word [] not = tt
tried_next word (next ∷ words) not = λ zero_is. absurd (not zero_is)

-- a wait behind a try that missed
waits_behind : (word : ℕ) (view before now : View) (slabs : SlabState) → word ≢ 0 → Happens view [] MissSlabs before → before ≡ slabs_missed word view
    → WaitsForSlabs before slabs now → WaitsForSlabs view slabs now
waits_behind word view before now slabs not happens is waits = record {
  words = word ∷ waits.words;
  before = waits.before;
  misses = (tried_next word waits.words not, subst (Happens view [] MissSlabs) is happens, subst (λ (v : View). MissesSlabs waits.words v waits.before) is waits.misses);
  taken = waits.taken;
  is = waits.is;
}

pub wait_for_slabs-requires : goal.wait_for_slabs-requires
wait_for_slabs-requires g c =
    let (word, not, is) = c.in-Err.ensures.held in
    record { arena = c.in-Err.ensures.arena; unlocked = ap is_unlocked is ∙ c.requires.unlocked }

pub returns-in-Ok-clause-waits : goal.returns-in-Ok-clause-waits
returns-in-Ok-clause-waits g c =
    record { words = []; before = c.args.hand.now.seat.me.0; misses = refl; taken = c.in-Ok.ensures.taken; is = c.in-Ok.ensures.lent }

pub returns-in-Err-clause-waits : goal.returns-in-Err-clause-waits
returns-in-Err-clause-waits g c =
    let (word, not, is) = c.in-Err.ensures.held in
    waits_behind word c.args.hand.now.seat.me.0 c.try_slabs.new.hand.seat.me.0 _ _ not c.in-Err.ensures.missed is c.wait_for_slabs.ensures.waits
