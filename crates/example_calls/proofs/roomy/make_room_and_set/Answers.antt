use Rattle.std.proofs.Common.{ℕ, subst}
use Rattle.mc_words.specs.hand.Arenas.{view}
use Rattle.mc_words.specs.hand.Observers.{hand_number}
use Rattle.mc_items.specs.Setting.{SetsItem}
use Rattle.mc_items.specs.declared.comparing.Expected.TheVariants.{Anything}
use Rattle.example_calls.specs.Roomy.{MakesRoomAndSets}
use Rattle.example_calls.proofs.Outcomes.{if_ok}
use Rattle.example_calls.proofs.roomy.make_room_and_set.Goals as goal

pub returns-in-Ok-clause-sets : goal.returns-in-Ok-clause-sets
returns-in-Ok-clause-sets g c =
    if_ok c.set.result (λ (stamp : ℕ). SetsItem Anything (hand_number c.make_room.new.hand) c.args.key stamp c.args.words.now (view c.make_room.new.hand) (view c.set.new.hand)) (MakesRoomAndSets c.args.class c.args.key c.args.words.now c.args.hand.now c.set.new.hand)
    (λ stamp sets. record {
      between = c.make_room.new.hand;
      room = c.in-Ok._room;
      makes = c.in-Ok.ensures.makes;
      deletes = c.in-Ok.ensures.calls;
      sets = subst (λ (number : ℕ). SetsItem Anything number c.args.key stamp c.args.words.now (view c.make_room.new.hand) (view c.set.new.hand)) c.make_room.ensures.hand.number sets;
    })
    c.set.ensures.sets
