use Rattle.std.proofs.Common.{ℕ, subst}
use Rattle.mc_words.specs.hand.Arenas.{view}
use Rattle.mc_words.specs.hand.Observers.{hand_number}
use Rattle.mc_items.specs.Setting.{SetsItem, SetsWithHint}
use Rattle.mc_items.specs.declared.comparing.Expected.TheVariants.{Anything}
use Rattle.mc_items.specs.declared.setting.NewItem.{NewItem}
use Rattle.example_calls.specs.Roomy.{MakesRoomAndSets}
use Rattle.example_calls.proofs.Outcomes.{if_ok}
use Rattle.example_calls.proofs.roomy.make_room_and_set_within.Goals as goal

pub returns-in-Ok-clause-sets : goal.returns-in-Ok-clause-sets
returns-in-Ok-clause-sets g c =
    let roomy = c.make_room_within.new.hand in
    let now = c.set_hinted_within.new.hand in
    if_ok c.set_hinted_within.result (λ (stored : NewItem). SetsWithHint Anything (hand_number roomy) c.args.key stored c.args.words.now (view roomy) (view now)) (λ (stored : NewItem). MakesRoomAndSets c.args.class c.args.key c.args.words.now c.args.hand.now now stored.stamp)
    (λ stored sets. record {
      between = roomy;
      room = c.in-Ok._room;
      makes = c.in-Ok.ensures.makes;
      deletes = c.in-Ok.ensures.calls;
      sets = subst (λ (number : ℕ). SetsItem Anything number c.args.key stored.stamp c.args.words.now (view roomy) (view now)) c.make_room_within.ensures.hand.number sets.0;
    })
    c.set_hinted_within.ensures.sets
