use Rattle.std.proofs.Common.{List, drop, subst, ℕ}
use Rattle.mc_packing.specs.Packing.{AreWords}
use Rattle.mc_words.specs.hand.Arenas.{view}
use Rattle.mc_items.specs.ItemRefs.{item_words}
use Rattle.mc_shard.proofs.WordsRead.{is_of_key}
use Rattle.mc_shard.proofs.reading.is_of.Goals as goal

pub returns-in-Some-clause-own : goal.returns-in-Some-clause-own
returns-in-Some-clause-own c = λ is.
    let ws : List ℕ = item_words (view c.args.hand.now) c.args.item.now in
    let fits : AreWords (drop c.value_place.result ws) = subst (λ (l : List ℕ). AreWords (drop c.value_place.result l)) c.value_len.ensures.reads.words c.pass_words.ensures.words in
    is_of_key c.args.key.now ws c.in-Some._count c.value_place.result c.value_place.ensures.place c.in-Some.ensures.looks fits
