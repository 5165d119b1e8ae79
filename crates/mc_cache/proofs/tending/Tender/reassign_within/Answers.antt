use Rattle.std.proofs.Common.{◌<◌, ◌∙◌, ap, arith, length, refl}
use Rattle.std.proofs.lemmas.Result.{IfOk-weaker, on_err_weaker}
use Rattle.mc_words.specs.hand.View.{View}
use Rattle.mc_words.specs.page.Moves.{Reassigns}
use Rattle.mc_mover.specs.Acting.{ActsOnceByNumber}
use Rattle.mc_shard.specs.Hands.{IsIdleHandOf}
use Rattle.mc_cache.specs.Tending.{tender_hands}
use Rattle.mc_cache.specs.WindowsWithin.{MissesEachTime}
use Rattle.mc_cache.proofs.Acts.{acts}
use Rattle.mc_cache.proofs.Opened.{stays_idle}
use Rattle.mc_cache.proofs.Recalls.{acts_before, misses_before}
use Rattle.mc_cache.proofs.Rests.{rests_after}
use Rattle.mc_cache.proofs.Tendings.{none_said, still_unsaid}
use Rattle.mc_cache.proofs.tending.Tender.reassign_within.Goals as goal

pub returns-clause-rests : goal.returns-clause-rests
returns-clause-rests c =
    let now : IsIdleHandOf c.index-arena.result.now c.reassign_within.new.hand = stays_idle c.index-arena.result.now c.recall.new.hand c.reassign_within.new.hand c.recall.ensures.idle c.reassign_within.ensures.hand.arena c.reassign_within.ensures.hand.ready c.reassign_within.ensures.holdings.same in
    record {
      hands = rests_after c.args.cache.now.arenas.items c.args.self.now.worker.hands.items c.args.shard c.index-arena.result.now c.reassign_within.new.hand c.requires.in_range c.index-arena.ensures now c.requires.tender.hands;
      deciders = c.requires.tender.deciders;
    }

pub returns-clause-stores_nothing : goal.returns-clause-stores_nothing
returns-clause-stores_nothing c =
    let near_hand : c.args.shard < length c.args.self.now.worker.hands.items = omega (arith, c.requires.in_range, c.requires.tender.hands.count) in
    still_unsaid (tender_hands c.args.self.now) c.args.self.now.worker.hands.items c.args.shard c.index_mut-hand.result.now c.reassign_within.new.hand refl near_hand c.index_mut-hand.ensures.value (c.reassign_within.ensures.stores_nothing ∙ ap (λ (v : View). v.row.knows.stored) c.recall.ensures.same) (none_said (tender_hands c.args.self.now))

pub returns-clause-reassigns : goal.returns-clause-reassigns
returns-clause-reassigns c =
    IfOk-weaker c.reassign_within.result _ _ (λ answer does. acts c.args.cache.now.arenas.items c.args.self.now.worker.hands.items c.args.shard c.index-arena.result.now c.index_mut-hand.result.now c.reassign_within.new.hand
    (λ arena hand after. ActsOnceByNumber (λ number. Reassigns number c.args.src c.args.dst answer) hand after) c.requires.in_range c.requires.tender.hands.count c.index-arena.ensures c.index_mut-hand.ensures.value
    (acts_before c.index_mut-hand.result.now c.recall.new.hand c.recall.ensures.same c.recall.ensures.number (λ number. Reassigns number c.args.src c.args.dst answer) c.reassign_within.new.hand does)) c.reassign_within.ensures.reassigns

pub returns-clause-held : goal.returns-clause-held
returns-clause-held c =
    on_err_weaker c.reassign_within.result (λ missed. acts c.args.cache.now.arenas.items c.args.self.now.worker.hands.items c.args.shard c.index-arena.result.now c.index_mut-hand.result.now c.reassign_within.new.hand (λ arena hand after. MissesEachTime c.args.tries hand after) c.requires.in_range c.requires.tender.hands.count c.index-arena.ensures c.index_mut-hand.ensures.value
    (misses_before c.index_mut-hand.result.now c.recall.new.hand c.recall.ensures.same c.recall.ensures.number c.args.tries c.reassign_within.new.hand missed)) c.reassign_within.ensures.missed
