use Rattle.std.proofs.Common.{◌+◌, ◌-◌, ◌≡◌, ◌∙◌, List, Ok, arith, drop, length, subst, sym, take}
use Rattle.std.proofs.lemmas.List.{take_at}
use Rattle.mc_words.specs.declared.arena.Arena.{Arena}
use Rattle.mc_words.specs.hand.Arenas.{setup_of}
use Rattle.mc_words.specs.hand.Hands.{IsMadeWith}
use Rattle.mc_cache.specs.declared.cache.Worker.{Worker}
use Rattle.mc_cache.specs.Belonging.{HaveUnusedHands}
use Rattle.mc_cache.specs.Opening.{KeepsNoHistory}
use Rattle.mc_cache.specs.Shards.{AreUnusedHandsOf}
use Rattle.mc_cache.proofs.Opened.{have_front, one_arena_more, own_last}
use Rattle.mc_cache.proofs.Rests.{some_of}
use Rattle.mc_cache.proofs.opening_within.add_shard_within.Goals as goal

pub deal-requires-clause-own : goal.deal-requires-clause-own
deal-requires-clause-own c =
    own_last c.args.arenas.now.items c.as_slice.result.now c.in-Some.arena c.in-Some.hands.items (c.as_slice.ensures.value ∙ c.in_ok-push.ensures.items)
    (some_of (λ made. AreUnusedHandsOf made.0 made.1.items) c.in_ok-arena.field-0 (c.in-Some.arena, c.in-Some.hands) c.in-Some.is c.in_ok-arena.ensures.hands)

pub deal-requires-clause-workers : goal.deal-requires-clause-workers
deal-requires-clause-workers c =
    subst (λ (workers : List Worker). HaveUnusedHands (take (length c.as_slice.result.now - 1) c.as_slice.result.now) workers) (sym c.as_mut_slice.ensures.value)
    (have_front c.args.arenas.now.items c.as_slice.result.now c.in-Some.arena c.args.workers.now.items (c.as_slice.ensures.value ∙ c.in_ok-push.ensures.items) c.requires.hands)

pub returns-clause-hands : goal.returns-clause-hands
returns-clause-hands c = λ is.
    let len : length c.deal.new.workers ≡ c.args.workers.now.len = omega (arith, c.deal.auto.workers, c.as_mut_slice.ensures.len) in
    let same = take_at c.deal.new.workers (drop (length c.deal.new.workers) c.args.workers.now.items) c.args.workers.now.len len in
    subst (λ (workers : List Worker). HaveUnusedHands c.push.new.list.items workers) (sym same) (subst (λ (arenas : List Arena). HaveUnusedHands arenas c.deal.new.workers) c.as_slice.ensures.value c.in_ok-deal.ensures)

pub returns-clause-new : goal.returns-clause-new
returns-clause-new c = λ is.
    one_arena_more {T = Unit {0}} {E = Unit {0}} c.args.config.now (Ok tt) c.args.arenas.now.items c.push.new.list.items c.in-Some.arena c.in_ok-push.ensures.items (record {
      made = some_of (λ made. IsMadeWith c.args.config.now.arena (c.args.config.now.workers + 1) 0 (setup_of made.0)) c.in_ok-arena.field-0 (c.in-Some.arena, c.in-Some.hands) c.in-Some.is c.in_ok-arena.ensures.made;
      history = some_of (λ made. KeepsNoHistory made.0) c.in_ok-arena.field-0 (c.in-Some.arena, c.in-Some.hands) c.in-Some.is c.in_ok-arena.ensures.history;
    }) c.requires.shards.1
