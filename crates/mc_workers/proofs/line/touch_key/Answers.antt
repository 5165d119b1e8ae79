use Rattle.std.proofs.Common.{Bool, Ok, ap, subst}
use Rattle.mc_words.specs.hand.Arenas.{setup_of}
use Rattle.mc_items.specs.OnKeys.{RecordsGet}
use Rattle.mc_workers.proofs.line.touch_key.Goals as goal

pub returns-in-Ok-true-clause-answers : goal.returns-in-Ok-true-clause-answers
returns-in-Ok-true-clause-answers g c = (
  c.in-Ok-true.ensures.touches (ap (λ (b : Bool). Ok b) c.in-Ok-true.field-0-test),
  subst (λ (b : Bool). RecordsGet (setup_of c.args.arena.now) c.args.key b c.args.hand.now c.touch.new.hand) c.in-Ok-true.field-0-test c.in-Ok-true.ensures.calls,
)
