use Rattle.std.proofs.Common.{Err, Ok, ap, false, inl, inr, true}
use Rattle.mc_words.specs.hand.Arenas.{setup_of, view}
use Rattle.mc_shard.proofs.Found.{deletes_key, full_at_once}
use Rattle.mc_shard.proofs.Recorded.{delete_or_none}
use Rattle.mc_shard.proofs.Slabs.{delete_within_leaves, still_left}
use Rattle.mc_shard.proofs.within.delete_within.Goals as goal

pub returns-in-Ok-true-clause-deletes : goal.returns-in-Ok-true-clause-deletes
returns-in-Ok-true-clause-deletes c = λ is. deletes_key (setup_of c.args.arena.now) c.args.at.hash c.args.at.key.now true c.args.hand.now c.contains_within.new.hand c.delete_within.new.hand c.delete_within.result (c.in-Ok-true.ensures.key (ap Ok c.in-Ok-true.field-0-test)) is c.delete_within.ensures.deletes

pub returns-in-Ok-true-clause-none : goal.returns-in-Ok-true-clause-none
returns-in-Ok-true-clause-none c = λ is. inr (deletes_key (setup_of c.args.arena.now) c.args.at.hash c.args.at.key.now false c.args.hand.now c.contains_within.new.hand c.delete_within.new.hand c.delete_within.result (c.in-Ok-true.ensures.key (ap Ok c.in-Ok-true.field-0-test)) is c.delete_within.ensures.deletes)

pub returns-in-Ok-true-clause-held : goal.returns-in-Ok-true-clause-held
returns-in-Ok-true-clause-held c = λ is. inr (record { finds = c.in-Ok-true.ensures.key (ap Ok c.in-Ok-true.field-0-test); between = c.contains_within.new.hand; missed = c.delete_within.ensures.held is })

pub returns-in-Ok-true-clause-full : goal.returns-in-Ok-true-clause-full
returns-in-Ok-true-clause-full c = λ is. (c.contains_within.new.hand, full_at_once (setup_of c.args.arena.now) c.args.at.hash c.contains_within.new.hand c.delete_within.new.hand (c.delete_within.ensures.no_memory is))

pub returns-in-Ok-true-clause-calls : goal.returns-in-Ok-true-clause-calls
returns-in-Ok-true-clause-calls c = delete_or_none (setup_of c.args.arena.now) c.args.at.hash c.delete_within.result c.args.hand.now c.contains_within.new.hand c.delete_within.new.hand c.contains_within.ensures.calls c.delete_within.ensures.calls c.delete_within.ensures.refused

pub returns-in-Ok-true-clause-slabs : goal.returns-in-Ok-true-clause-slabs
returns-in-Ok-true-clause-slabs c =
    still_left (view c.args.hand.now) (view c.contains_within.new.hand) (view c.delete_within.new.hand) c.contains_within.ensures.slabs
    (delete_within_leaves c.delete_within.result (setup_of c.args.arena.now) c.args.tries c.args.at.hash c.contains_within.new.hand c.delete_within.new.hand c.delete_within.ensures.deletes c.delete_within.ensures.no_memory c.delete_within.ensures.held)

pub returns-in-Err-NoMemory-clause-full : goal.returns-in-Err-NoMemory-clause-full
returns-in-Err-NoMemory-clause-full c = λ is. (c.args.hand.now, c.in-Err-NoMemory.ensures.full (ap Err c.in-Err-NoMemory.field-0-is))

pub returns-in-Err-Held-clause-held : goal.returns-in-Err-Held-clause-held
returns-in-Err-Held-clause-held c = λ is. inl (c.in-Err-Held.ensures.held (ap Err c.in-Err-Held.field-0-is))
