use Rattle.std.proofs.Common.{ap, false, inr, Ok, true}
use Rattle.mc_words.specs.hand.Arenas.{setup_of, view}
use Rattle.mc_shard.proofs.Found.{deletes_key, refused_full}
use Rattle.mc_shard.proofs.Recorded.{delete_or_none}
use Rattle.mc_shard.proofs.Slabs.{delete_leaves, still_left}
use Rattle.mc_shard.proofs.deleting.delete.Goals as goal

pub returns-in-Ok-true-clause-deletes : goal.returns-in-Ok-true-clause-deletes
returns-in-Ok-true-clause-deletes g c = λ is. deletes_key (setup_of c.args.arena.now) c.args.at.hash c.args.at.key.now true c.args.hand.now c.contains.new.hand c.delete.new.hand c.delete.result (c.in-Ok-true.ensures.key (ap Ok c.in-Ok-true.field-0-test)) is c.delete.ensures.deletes

pub returns-in-Ok-true-clause-none : goal.returns-in-Ok-true-clause-none
returns-in-Ok-true-clause-none g c = λ is. inr (deletes_key (setup_of c.args.arena.now) c.args.at.hash c.args.at.key.now false c.args.hand.now c.contains.new.hand c.delete.new.hand c.delete.result (c.in-Ok-true.ensures.key (ap Ok c.in-Ok-true.field-0-test)) is c.delete.ensures.deletes)

pub returns-in-Ok-true-clause-full : goal.returns-in-Ok-true-clause-full
returns-in-Ok-true-clause-full g c = refused_full c.delete.result (setup_of c.args.arena.now) c.args.at.hash c.contains.new.hand c.delete.new.hand c.delete.ensures.no_memory

pub returns-in-Ok-true-clause-calls : goal.returns-in-Ok-true-clause-calls
returns-in-Ok-true-clause-calls g c = delete_or_none (setup_of c.args.arena.now) c.args.at.hash c.delete.result c.args.hand.now c.contains.new.hand c.delete.new.hand c.contains.ensures.calls c.delete.ensures.calls c.delete.ensures.refused

pub returns-in-Ok-true-clause-slabs : goal.returns-in-Ok-true-clause-slabs
returns-in-Ok-true-clause-slabs g c =
    still_left (view c.args.hand.now) (view c.contains.new.hand) (view c.delete.new.hand) c.contains.ensures.slabs
    (delete_leaves c.delete.result (setup_of c.args.arena.now) c.args.at.hash c.contains.new.hand c.delete.new.hand c.delete.ensures.deletes c.delete.ensures.no_memory)
