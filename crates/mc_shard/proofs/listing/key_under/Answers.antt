use Rattle.std.proofs.Common.{Ok, ap}
use Rattle.mc_words.specs.hand.Arenas.{setup_of, view}
use Rattle.mc_items.specs.ItemRefs.{item_words}
use Rattle.mc_packing.specs.Packing.{IsPackingOf}
use Rattle.mc_shard.specs.Finding.{FindsKey}
use Rattle.mc_shard.proofs.Found.{finds_key, the_item}
use Rattle.mc_shard.proofs.Keyed.{no_item, no_key, ok_some_map}
use Rattle.mc_shard.proofs.Recorded.{get_at_most}
use Rattle.mc_shard.proofs.Slabs.{still_left}
use Rattle.mc_shard.proofs.listing.key_under.Goals as goal

pub returns-in-Ok-Some-clause-key : goal.returns-in-Ok-Some-clause-key
returns-in-Ok-Some-clause-key g c =
    let setup = setup_of c.args.arena.now in
    let words = item_words (view c.get_item.new.hand) c.in-Ok-Some.item in
    let finds = (the_item c.args.arena.now c.args.hash c.args.hand.now c.get_item.new.hand _ c.in-Ok-Some.item c.in-Ok-Some.field-0-is c.in-Ok-Some.ensures.item).finds in
    ok_some_map (λ key. IsPackingOf key.items words) (λ key. FindsKey setup c.args.hash key.items c.args.hand.now) c.take_key.result
    (λ key own. finds_key setup c.args.hash key.items c.args.hand.now words finds own) c.take_key.ensures.own

pub returns-in-Ok-Some-clause-none : goal.returns-in-Ok-Some-clause-none
returns-in-Ok-Some-clause-none g c is =
    let words = item_words (view c.get_item.new.hand) c.in-Ok-Some.item in
    let finds = (the_item c.args.arena.now c.args.hash c.args.hand.now c.get_item.new.hand _ c.in-Ok-Some.item c.in-Ok-Some.field-0-is c.in-Ok-Some.ensures.item).finds in
    no_key (setup_of c.args.arena.now) c.args.hash c.args.hand.now words finds (c.take_key.ensures.none is)

pub returns-in-Ok-Some-clause-calls : goal.returns-in-Ok-Some-clause-calls
returns-in-Ok-Some-clause-calls g c = get_at_most (setup_of c.args.arena.now) c.args.hash c.args.hand.now c.get_item.new.hand c.take_key.new.hand c.get_item.ensures.calls c.take_key.ensures.calls

pub returns-in-Ok-Some-clause-slabs : goal.returns-in-Ok-Some-clause-slabs
returns-in-Ok-Some-clause-slabs g c = still_left (view c.args.hand.now) (view c.get_item.new.hand) (view c.take_key.new.hand) c.get_item.ensures.slabs c.take_key.ensures.slabs

pub returns-in-Ok-None-clause-none : goal.returns-in-Ok-None-clause-none
returns-in-Ok-None-clause-none g c _ = no_item (setup_of c.args.arena.now) c.args.hash c.args.hand.now (c.in-Ok-None.ensures.none (ap Ok c.in-Ok-None.field-0-is)).0

pub returns-in-Ok-None-clause-idle : goal.returns-in-Ok-None-clause-idle
returns-in-Ok-None-clause-idle g c = (c.in-Ok-None.ensures.none (ap Ok c.in-Ok-None.field-0-is)).1
