use Rattle.std.proofs.Common.{rules}
use Rattle.mc_cache.proofs.Classes.{have_one_table}
use Rattle.mc_cache.proofs.Opened.{idle_hands, idle_workers}
use Rattle.mc_cache.proofs.TableWords.{arena_accepted, bytes_are}
use Rattle.mc_cache.proofs.cache.Cache.new.Goals as goal

pub returns-in-Ok-clause-bytes : goal.returns-in-Ok-clause-bytes
returns-in-Ok-clause-bytes g c = bytes_are c.args.config.now c.in-Ok.arenas.items (arena_accepted c.args.config.now c.in_default.ensures.accepted) c.in-Ok.ensures.shards c.in-Ok.ensures.new

pub returns-in-Ok-clause-belongs : goal.returns-in-Ok-clause-belongs
returns-in-Ok-clause-belongs g c = idle_workers c.in-Ok.arenas.items c.in-Ok.workers.items c.in-Ok.ensures.hands

pub returns-in-Ok-clause-tender : goal.returns-in-Ok-clause-tender
returns-in-Ok-clause-tender g c = record {
  hands = idle_hands c.in-Ok.arenas.items c.in-Ok.tender.worker.hands.items c.in-Ok.ensures.tender;
  deciders = c.in-Ok.ensures.deciders.count;
}

pub invariant_of-cache : goal.invariant_of-cache
invariant_of-cache g c = record { some = search rules; within_limit = search rules; alike = have_one_table c.args.config.now c.in-Ok.arenas.items c.in-Ok.ensures.new }
