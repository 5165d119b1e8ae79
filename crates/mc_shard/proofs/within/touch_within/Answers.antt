use Rattle.std.proofs.Common.{◌∙◌, ◌+◌, ℕ, Bool, Err, None, Ok, OnErr, Result, ap, inl, inr, subst}
use Rattle.mc_packing.specs.Packing.{IsPackingOf}
use Rattle.mc_words.specs.hand.Arenas.{setup_of, view}
use Rattle.mc_items.specs.ItemRefs.{item_words}
use Rattle.mc_items.specs.declared.within.error.WithinError.{WithinError}
use Rattle.mc_shard.specs.Finding.{BumpsItem}
use Rattle.mc_shard.proofs.Found.{finds_key, finds_other, the_item, touches_key}
use Rattle.mc_shard.proofs.Recorded.{get_at_most}
use Rattle.mc_shard.proofs.Slabs.{still_left}
use Rattle.mc_shard.proofs.within.touch_within.Goals as goal

pub returns-in-Ok-Some-clause-touches : goal.returns-in-Ok-Some-clause-touches
returns-in-Ok-Some-clause-touches c = λ is.
    let bumps = subst (λ (n : ℕ). BumpsItem n c.in-Ok-Some.item c.touch_own_within.new.hand) c.item_within.ensures.number (c.touch_own_within.ensures.bumps is) in
    touches_key c.args.arena.now c.args.at.hash c.args.at.key.now c.args.hand.now c.item_within.new.hand c.in-Ok-Some.item (the_item c.args.arena.now c.args.at.hash c.args.hand.now c.item_within.new.hand c.in-Ok-Some.field-0 c.in-Ok-Some.item c.in-Ok-Some.field-0-is c.in-Ok-Some.ensures.item) (c.touch_own_within.ensures.own is) c.touch_own_within.new.hand bumps

pub returns-in-Ok-Some-clause-none : goal.returns-in-Ok-Some-clause-none
returns-in-Ok-Some-clause-none c = λ is. finds_other (setup_of c.args.arena.now) c.args.at.hash c.args.at.key.now c.args.hand.now (item_words (view c.item_within.new.hand) c.in-Ok-Some.item) (the_item c.args.arena.now c.args.at.hash c.args.hand.now c.item_within.new.hand c.in-Ok-Some.field-0 c.in-Ok-Some.item c.in-Ok-Some.field-0-is c.in-Ok-Some.ensures.item).finds (c.touch_own_within.ensures.other is)

pub returns-in-Ok-Some-clause-held : goal.returns-in-Ok-Some-clause-held
returns-in-Ok-Some-clause-held c = λ is. inr (finds_key (setup_of c.args.arena.now) c.args.at.hash c.args.at.key.now c.args.hand.now (item_words (view c.item_within.new.hand) c.in-Ok-Some.item) (the_item c.args.arena.now c.args.at.hash c.args.hand.now c.item_within.new.hand c.in-Ok-Some.field-0 c.in-Ok-Some.item c.in-Ok-Some.field-0-is c.in-Ok-Some.ensures.item).finds
    (subst (λ (r : Result Bool WithinError). OnErr r (IsPackingOf c.args.at.key.now (item_words (view c.item_within.new.hand) c.in-Ok-Some.item))) is c.touch_own_within.ensures.held))

pub returns-in-Ok-Some-clause-full : goal.returns-in-Ok-Some-clause-full
returns-in-Ok-Some-clause-full c = λ is. absurd (c.touch_own_within.ensures.memory is)

pub returns-in-Ok-Some-clause-calls : goal.returns-in-Ok-Some-clause-calls
returns-in-Ok-Some-clause-calls c = get_at_most (setup_of c.args.arena.now) c.args.at.hash c.args.hand.now c.item_within.new.hand c.touch_own_within.new.hand c.item_within.ensures.calls c.touch_own_within.ensures.calls

pub returns-in-Ok-Some-clause-once : goal.returns-in-Ok-Some-clause-once
returns-in-Ok-Some-clause-once c = λ is. c.touch_own_within.ensures.once is ∙ ap (λ (n : ℕ). n + 1) c.item_within.ensures.slabs

pub returns-in-Ok-Some-clause-slabs : goal.returns-in-Ok-Some-clause-slabs
returns-in-Ok-Some-clause-slabs c = λ isnt. still_left (view c.args.hand.now) (view c.item_within.new.hand) (view c.touch_own_within.new.hand) c.item_within.ensures.slabs (c.touch_own_within.ensures.slabs isnt)

pub returns-in-Ok-None-clause-none : goal.returns-in-Ok-None-clause-none
returns-in-Ok-None-clause-none c = λ is. record { words = None; finds = (c.in-Ok-None.ensures.none (ap Ok c.in-Ok-None.field-0-is)).0; other = tt }

pub returns-in-Err-NoMemory-clause-full : goal.returns-in-Err-NoMemory-clause-full
returns-in-Err-NoMemory-clause-full c = λ is. c.in-Err-NoMemory.ensures.full (ap Err c.in-Err-NoMemory.field-0-is)

pub returns-in-Err-Held-clause-held : goal.returns-in-Err-Held-clause-held
returns-in-Err-Held-clause-held c = λ is. inl (c.in-Err-Held.ensures.held (ap Err c.in-Err-Held.field-0-is))
