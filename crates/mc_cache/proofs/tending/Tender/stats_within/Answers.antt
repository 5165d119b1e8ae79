use Rattle.std.proofs.Common.{◌≡◌, ◌<◌, ◌++◌, ◌∷◌, [], Err, Result, ap, arith, length}
use Rattle.std.proofs.lemmas.List.{length-set}
use Rattle.mc_mover.specs.declared.within.SurveyWithin.{SurveyWithin}
use Rattle.mc_mover.specs.declared.within.SurveyWithin.TheVariants as survey_error
use Rattle.mc_cache.specs.declared.stats.CacheStats.{CacheStats}
use Rattle.mc_cache.specs.Tending.{tender_hands}
use Rattle.mc_cache.specs.WindowsWithin.{MissesEachTime}
use Rattle.mc_cache.proofs.Acts.{same_error}
use Rattle.mc_cache.proofs.EachShard.{at_last, one_surveyed, surveyed_before}
use Rattle.mc_cache.proofs.Rests.{rests_after}
use Rattle.mc_cache.proofs.Tendings.{still_behind, still_unsaid}
use Rattle.mc_cache.proofs.tending.Tender.stats_within.Goals as goal

-- a miss is one in whichever answer
missed_again : (error : SurveyWithin) → ◌≡◌ {A = Result CacheStats SurveyWithin} (Err error) (Err survey_error.Held) → ◌≡◌ {A = Result (Unit {0}) SurveyWithin} (Err error) (Err survey_error.Held)
missed_again error is = ap Err (same_error error survey_error.Held is)

pub returns-in-Err-clause-rests : goal.returns-in-Err-clause-rests
returns-in-Err-clause-rests c =
    let in_range : c.loop-shard.shard < length c.args.cache.now.arenas.items = omega (arith, c.loop-shard-test.true) in
    let tender = c.loop-shard.invariant.rests in record {
      hands = rests_after c.args.cache.now.arenas.items c.loop-shard.self.worker.hands.items c.loop-shard.shard c.index-arena.result.now c.count_shard_within.new.hand in_range c.index-arena.ensures c.count_shard_within.ensures.idle tender.hands;
      deciders = tender.deciders;
    }

pub returns-in-Err-clause-stores_nothing : goal.returns-in-Err-clause-stores_nothing
returns-in-Err-clause-stores_nothing c =
    let in_range : c.loop-shard.shard < length c.loop-shard.self.worker.hands.items = omega (arith, c.loop-shard-test.true, c.loop-shard.invariant.rests.hands.count) in
    still_unsaid (tender_hands c.args.self.now) c.loop-shard.self.worker.hands.items c.loop-shard.shard c.index_mut-hand.result.now c.count_shard_within.new.hand c.loop-shard.invariant.count in_range c.index_mut-hand.ensures.value c.count_shard_within.ensures.stores_nothing c.loop-shard.invariant.stores_nothing

pub returns-in-Err-clause-refused : goal.returns-in-Err-clause-refused
returns-in-Err-clause-refused c = λ is.
    let done = c.loop-shard.invariant.done in record {
      count = c.loop-shard.shard;
      in_range = omega (arith, c.loop-shard-test.true);
      surveys = done.0;
      surveyed = surveyed_before c.loop-shard.shard (tender_hands c.args.self.now) c.loop-shard.self.worker.hands.items done.0 c.count_shard_within.new.hand done.1;
      left = still_behind c.loop-shard.shard (tender_hands c.args.self.now) c.loop-shard.self.worker.hands.items c.count_shard_within.new.hand done.1.left;
    }

pub returns-in-Err-clause-held : goal.returns-in-Err-clause-held
returns-in-Err-clause-held c = λ is.
    let inv = c.loop-shard.invariant in
    let done = inv.done in
    let near_hand : c.loop-shard.shard < length c.loop-shard.self.worker.hands.items = omega (arith, c.loop-shard-test.true, inv.rests.hands.count) in
    record {
      count = c.loop-shard.shard;
      in_range = omega (arith, c.loop-shard-test.true);
      surveys = done.0;
      surveyed = surveyed_before c.loop-shard.shard (tender_hands c.args.self.now) c.loop-shard.self.worker.hands.items done.0 c.count_shard_within.new.hand done.1;
      misses = at_last (MissesEachTime c.args.tries) c.loop-shard.shard (tender_hands c.args.self.now) c.loop-shard.self.worker.hands.items c.index_mut-hand.result.now c.count_shard_within.new.hand near_hand c.index_mut-hand.ensures.value done.1.left (c.in-Err.ensures.held (missed_again c.in-Err.error is));
      left = still_behind c.loop-shard.shard (tender_hands c.args.self.now) c.loop-shard.self.worker.hands.items c.count_shard_within.new.hand done.1.left;
    }

pub loop-shard-preserved : goal.loop-shard-preserved
loop-shard-preserved c =
    let inv = c.loop-shard.invariant in
    let counts = c.in_default.ensures.counts in
    let in_range : c.loop-shard.shard < length c.args.cache.now.arenas.items = omega (arith, c.loop-shard-test.true) in
    let near_hand : c.loop-shard.shard < length c.loop-shard.self.worker.hands.items = omega (arith, in_range, inv.rests.hands.count) in
    record {
      rests = record {
        hands = rests_after c.args.cache.now.arenas.items c.loop-shard.self.worker.hands.items c.loop-shard.shard c.index-arena.result.now c.count_shard_within.new.hand in_range c.index-arena.ensures c.count_shard_within.ensures.idle inv.rests.hands;
        deciders = inv.rests.deciders;
      };
      stores_nothing = still_unsaid (tender_hands c.args.self.now) c.loop-shard.self.worker.hands.items c.loop-shard.shard c.index_mut-hand.result.now c.count_shard_within.new.hand inv.count near_hand c.index_mut-hand.ensures.value c.count_shard_within.ensures.stores_nothing inv.stores_nothing;
      count = omega (arith, inv.count, length-set c.loop-shard.self.worker.hands.items c.loop-shard.shard c.count_shard_within.new.hand);
      deciders = inv.deciders;
      done = (
        inv.done.0 ++ counts.survey ∷ [],
        one_surveyed c.loop-shard.shard (tender_hands c.args.self.now) c.loop-shard.self.worker.hands.items inv.done.0 counts.survey c.index_mut-hand.result.now c.count_shard_within.new.hand near_hand c.index_mut-hand.ensures.value counts.surveys inv.done.1,
        counts.adds inv.done.0 inv.done.2,
      );
    }
