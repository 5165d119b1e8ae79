use Rattle.std.proofs.Common.{Err, None, Ok, ap}
use Rattle.mc_words.specs.hand.Arenas.{setup_of, view}
use Rattle.mc_items.specs.ItemRefs.{item_words}
use Rattle.mc_packing.specs.Packing.{IsPackingOf}
use Rattle.mc_shard.specs.Finding.{FindsKey}
use Rattle.mc_shard.proofs.Found.{finds_key, same_ok, the_item}
use Rattle.mc_shard.proofs.Keyed.{no_item, no_key, ok_some_map}
use Rattle.mc_shard.proofs.Recorded.{get_at_most}
use Rattle.mc_shard.proofs.Slabs.{still_left}
use Rattle.mc_shard.proofs.listing_within.key_under_within.Goals as goal

pub returns-in-Ok-clause-key : goal.returns-in-Ok-clause-key
returns-in-Ok-clause-key c =
    let setup = setup_of c.args.arena.now in
    let words = item_words (view c.item_within.new.hand) c.in-Ok-Some.item in
    let finds = (the_item c.args.arena.now c.args.hash c.args.hand.now c.item_within.new.hand _ c.in-Ok-Some.item c.in-Ok-Some.field-0-is c.in-Ok-Some.ensures.item).finds in
    ok_some_map {E = Unit {0}} (λ key. IsPackingOf key.items words) (λ key. FindsKey setup c.args.hash key.items c.args.hand.now) (Ok c.in-Ok.key)
    (λ key own. finds_key setup c.args.hash key.items c.args.hand.now words finds own) c.in-Ok.ensures.own

pub returns-in-Ok-clause-none : goal.returns-in-Ok-clause-none
returns-in-Ok-clause-none c is =
    let words = item_words (view c.item_within.new.hand) c.in-Ok-Some.item in
    let finds = (the_item c.args.arena.now c.args.hash c.args.hand.now c.item_within.new.hand _ c.in-Ok-Some.item c.in-Ok-Some.field-0-is c.in-Ok-Some.ensures.item).finds in
    no_key (setup_of c.args.arena.now) c.args.hash c.args.hand.now words finds (c.in-Ok.ensures.none (ap Ok (same_ok c.in-Ok.key None is)))

pub returns-in-Ok-clause-calls : goal.returns-in-Ok-clause-calls
returns-in-Ok-clause-calls c = get_at_most (setup_of c.args.arena.now) c.args.hash c.args.hand.now c.item_within.new.hand c.take_key.new.hand c.item_within.ensures.calls c.take_key.ensures.calls

pub returns-in-Err-clause-calls : goal.returns-in-Err-clause-calls
returns-in-Err-clause-calls c = get_at_most (setup_of c.args.arena.now) c.args.hash c.args.hand.now c.item_within.new.hand c.take_key.new.hand c.item_within.ensures.calls c.take_key.ensures.calls

pub returns-in-Ok-clause-slabs : goal.returns-in-Ok-clause-slabs
returns-in-Ok-clause-slabs c = still_left (view c.args.hand.now) (view c.item_within.new.hand) (view c.take_key.new.hand) c.item_within.ensures.slabs c.take_key.ensures.slabs

pub returns-in-Err-clause-slabs : goal.returns-in-Err-clause-slabs
returns-in-Err-clause-slabs c = still_left (view c.args.hand.now) (view c.item_within.new.hand) (view c.take_key.new.hand) c.item_within.ensures.slabs c.take_key.ensures.slabs

pub returns-in-Ok-None-clause-none : goal.returns-in-Ok-None-clause-none
returns-in-Ok-None-clause-none c _ = no_item (setup_of c.args.arena.now) c.args.hash c.args.hand.now (c.in-Ok-None.ensures.none (ap Ok c.in-Ok-None.field-0-is)).0

pub returns-in-Ok-None-clause-idle : goal.returns-in-Ok-None-clause-idle
returns-in-Ok-None-clause-idle c = (c.in-Ok-None.ensures.none (ap Ok c.in-Ok-None.field-0-is)).1

pub returns-in-Err-Held-clause-held : goal.returns-in-Err-Held-clause-held
returns-in-Err-Held-clause-held c _ = c.in-Err-Held.ensures.held (ap Err c.in-Err-Held.field-0-is)
