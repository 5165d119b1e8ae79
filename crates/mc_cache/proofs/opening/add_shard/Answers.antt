use Rattle.std.proofs.Common.{◌-◌, ◌≡◌, ◌∙◌, List, arith, drop, length, subst, sym, take}
use Rattle.std.proofs.lemmas.List.{take_at}
use Rattle.std.proofs.lemmas.Result.{on_ok_weaker}
use Rattle.mc_words.specs.declared.arena.Arena.{Arena}
use Rattle.mc_cache.specs.declared.cache.Worker.{Worker}
use Rattle.mc_cache.specs.Belonging.{HaveUnusedHands}
use Rattle.mc_cache.proofs.Opened.{have_front, one_arena_more, own_last}
use Rattle.mc_cache.proofs.opening.add_shard.Goals as goal

pub deal-requires-clause-own : goal.deal-requires-clause-own
deal-requires-clause-own g c = own_last c.args.arenas.now.items c.as_slice.result.now c.in_ok-arena.arena c.in_ok-arena.hands.items (c.as_slice.ensures.value ∙ c.in-Ok.ensures.items) c.in_ok-arena.ensures.hands

pub deal-requires-clause-workers : goal.deal-requires-clause-workers
deal-requires-clause-workers g c =
    subst (λ (workers : List Worker). HaveUnusedHands (take (length c.as_slice.result.now - 1) c.as_slice.result.now) workers) (sym c.as_mut_slice.ensures.value)
    (have_front c.args.arenas.now.items c.as_slice.result.now c.in_ok-arena.arena c.args.workers.now.items (c.as_slice.ensures.value ∙ c.in-Ok.ensures.items) c.requires.hands)

pub returns-in-Ok-clause-hands : goal.returns-in-Ok-clause-hands
returns-in-Ok-clause-hands g c =
    let len : length c.deal.new.workers ≡ c.args.workers.now.len = omega (arith, c.deal.auto.workers, c.as_mut_slice.ensures.len) in
    let same = take_at c.deal.new.workers (drop (length c.deal.new.workers) c.args.workers.now.items) c.args.workers.now.len len in
    on_ok_weaker c.deal.result
    (λ (have : HaveUnusedHands c.as_slice.result.now c.deal.new.workers).
    subst (λ (workers : List Worker). HaveUnusedHands c.push.new.list.items workers) (sym same) (subst (λ (arenas : List Arena). HaveUnusedHands arenas c.deal.new.workers) c.as_slice.ensures.value have))
    c.deal.ensures

pub returns-in-Ok-clause-new : goal.returns-in-Ok-clause-new
returns-in-Ok-clause-new g c =
    one_arena_more c.args.config.now c.deal.result c.args.arenas.now.items c.push.new.list.items c.in_ok-arena.arena c.in-Ok.ensures.items (record { made = c.in_ok-arena.ensures.made; history = c.in_ok-arena.ensures.history }) c.requires.shards.1
