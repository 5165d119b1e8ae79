use Rattle.std.proofs.Common.{rules, ◌≡◌, All, length, get_or}
use Rattle.mc_cache.specs.Belonging.{HaveUnusedHands}
use Rattle.mc_cache.specs.Opening.{IsNewShard}
use Rattle.mc_cache.specs.Pairs.{ArePaired}
use Rattle.mc_cache.specs.Shards.{AreUnusedHands}
use Rattle.mc_cache.specs.Tending.{IsFreshDecider, deciders_of, tender_hands}
use Rattle.mc_cache.proofs.Classes.{have_one_table}
use Rattle.mc_cache.proofs.Opened.{idle_hands, idle_workers}
use Rattle.mc_cache.proofs.Rests.{rests_all, some_of}
use Rattle.mc_cache.proofs.TableWords.{arena_accepted, bytes_are}
use Rattle.mc_cache.proofs.cache.Cache.new_within.Goals as goal

pub returns-in-Ok-Some-clause-rests : goal.returns-in-Ok-Some-clause-rests
returns-in-Ok-Some-clause-rests c = λ k d within.
    rests_all c.in-Ok-Some.arenas.items (get_or c.in-Ok-Some.workers.items k d).hands.items (idle_workers c.in-Ok-Some.arenas.items c.in-Ok-Some.workers.items (some_of (λ made. HaveUnusedHands made.0.items made.1.items) c.in-Ok-Some.field-0 (c.in-Ok-Some.arenas, c.in-Ok-Some.workers, c.in-Ok-Some.tender) c.in-Ok-Some.field-0-is c.in-Ok-Some.ensures.hands) k d within)

pub returns-in-Ok-Some-clause-tender : goal.returns-in-Ok-Some-clause-tender
returns-in-Ok-Some-clause-tender c = record {
  hands = rests_all c.in-Ok-Some.arenas.items c.in-Ok-Some.tender.worker.hands.items (idle_hands c.in-Ok-Some.arenas.items c.in-Ok-Some.tender.worker.hands.items (some_of (λ made. AreUnusedHands made.0.items (tender_hands made.2)) c.in-Ok-Some.field-0 (c.in-Ok-Some.arenas, c.in-Ok-Some.workers, c.in-Ok-Some.tender) c.in-Ok-Some.field-0-is c.in-Ok-Some.ensures.tender));
  deciders = (some_of (λ made. ArePaired IsFreshDecider made.0.items (deciders_of made.2)) c.in-Ok-Some.field-0 (c.in-Ok-Some.arenas, c.in-Ok-Some.workers, c.in-Ok-Some.tender) c.in-Ok-Some.field-0-is c.in-Ok-Some.ensures.deciders).count;
}

pub returns-in-Ok-Some-clause-bytes : goal.returns-in-Ok-Some-clause-bytes
returns-in-Ok-Some-clause-bytes c =
    bytes_are c.args.config.now c.in-Ok-Some.arenas.items (arena_accepted c.args.config.now c.in_default.ensures.accepted)
    (some_of (λ made. length made.0.items ≡ c.args.config.now.shards) c.in-Ok-Some.field-0 (c.in-Ok-Some.arenas, c.in-Ok-Some.workers, c.in-Ok-Some.tender) c.in-Ok-Some.field-0-is c.in-Ok-Some.ensures.shards)
    (some_of (λ made. All (IsNewShard c.args.config.now) made.0.items) c.in-Ok-Some.field-0 (c.in-Ok-Some.arenas, c.in-Ok-Some.workers, c.in-Ok-Some.tender) c.in-Ok-Some.field-0-is c.in-Ok-Some.ensures.new)

pub invariant_of-cache : goal.invariant_of-cache
invariant_of-cache c = record { some = search rules; within_limit = search rules; alike = have_one_table c.args.config.now c.in-Ok-Some.arenas.items (some_of (λ made. All (IsNewShard c.args.config.now) made.0.items) c.in-Ok-Some.field-0 (c.in-Ok-Some.arenas, c.in-Ok-Some.workers, c.in-Ok-Some.tender) c.in-Ok-Some.field-0-is c.in-Ok-Some.ensures.new) }
