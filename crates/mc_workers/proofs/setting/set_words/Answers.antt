use Rattle.std.proofs.Common.{List, ℕ, subst, ◌∙◌}
use Rattle.mc_words.specs.hand.Arenas.{view}
use Rattle.mc_words.specs.hand.Observers.{hand_number}
use Rattle.mc_items.specs.Setting.{RefusesSet}
use Rattle.mc_items.specs.declared.setting.SetError.{SetError}
use Rattle.mc_items.specs.declared.setting.SetError.TheVariants.{WornOut}
use Rattle.mc_workers.proofs.setting.set_words.Goals as goal

pub returns-in-Err-WornOut-clause-answers : goal.returns-in-Err-WornOut-clause-answers
returns-in-Err-WornOut-clause-answers g c =
    subst (λ (words : List ℕ). RefusesSet (hand_number c.args.hand.now) c.args.key words WornOut (view c.args.hand.now) (view c.set.new.hand)) (c.deref.ensures.value ∙ c.in_ok-words.ensures.words)
    (subst (λ (error : SetError). RefusesSet (hand_number c.args.hand.now) c.args.key c.deref.result.now error (view c.args.hand.now) (view c.set.new.hand)) c.in-Err-WornOut.field-0-is c.in-Err-WornOut.ensures.refused)
