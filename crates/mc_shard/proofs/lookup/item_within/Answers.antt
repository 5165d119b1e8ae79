use Rattle.std.proofs.Common.{Err, Option, ◌∙◌, ap, inl, refl, subst}
use Rattle.mc_words.specs.hand.Arenas.{setup_of, view}
use Rattle.mc_items.specs.declared.refs.Ref.{Ref}
use Rattle.mc_items.specs.Keeping.{HoldsToo}
use Rattle.mc_shard.proofs.Found.{found_item, none_words, the_item}
use Rattle.mc_shard.proofs.Slabs.{got_leaves, lock_missed_leaves, no_room_leaves, still_left}
use Rattle.mc_shard.proofs.Recorded.{get_behind_hint}
use Rattle.mc_shard.proofs.lookup.item_within.Goals as goal

pub returns-in-Ok-Some-clause-item : goal.returns-in-Ok-Some-clause-item
returns-in-Ok-Some-clause-item c =
    the_item c.args.arena.now c.args.hash c.args.hand.now c.get_within.new.hand _ c.in-Ok-Some.item c.in-Ok-Some.field-0-is
    (found_item c.args.arena.now c.args.hash c.args.hand.now c.get_hinted.new.hand c.get_within.new.hand _ (c.in_default.ensures.tries refl) c.get_hinted.ensures.calls c.get_within.ensures.hand.arena c.get_within.ensures.hand.ready (c.get_within.ensures.stores_nothing ∙ c.get_hinted.ensures.stores_nothing)
    (inl c.in-Ok-Some.ensures.gets) c.in-Ok-Some.ensures.item (c.in_default.ensures.none refl).none c.in-Ok-Some.ensures.holdings)

pub returns-in-Ok-Some-clause-slabs : goal.returns-in-Ok-Some-clause-slabs
returns-in-Ok-Some-clause-slabs c =
    still_left (view c.args.hand.now) (view c.get_hinted.new.hand) (view c.get_within.new.hand) c.get_hinted.ensures.slabs
    (got_leaves (setup_of c.args.arena.now) c.args.hash _ c.get_hinted.new.hand c.get_within.new.hand c.in-Ok-Some.ensures.gets)

pub returns-in-Ok-None-clause-none : goal.returns-in-Ok-None-clause-none
returns-in-Ok-None-clause-none c = λ is. (
  none_words (setup_of c.args.arena.now) c.args.hash c.args.hand.now c.get_hinted.new.hand c.get_within.new.hand _ (c.in_default.ensures.tries refl) c.in-Ok-None.field-0-is c.in-Ok-None.ensures.gets,
  record {
    of_arena = c.get_within.ensures.hand.arena;
    ready = c.get_within.ensures.hand.ready;
    none = subst (λ (o : Option Ref). HoldsToo o (view c.get_hinted.new.hand) (view c.get_within.new.hand)) c.in-Ok-None.field-0-is c.in-Ok-None.ensures.holdings ∙ (c.in_default.ensures.none refl).none;
  },
)

pub returns-in-Ok-None-clause-slabs : goal.returns-in-Ok-None-clause-slabs
returns-in-Ok-None-clause-slabs c =
    still_left (view c.args.hand.now) (view c.get_hinted.new.hand) (view c.get_within.new.hand) c.get_hinted.ensures.slabs
    (got_leaves (setup_of c.args.arena.now) c.args.hash _ c.get_hinted.new.hand c.get_within.new.hand c.in-Ok-None.ensures.gets)

pub returns-in-Err-NoMemory-clause-slabs : goal.returns-in-Err-NoMemory-clause-slabs
returns-in-Err-NoMemory-clause-slabs c =
    still_left (view c.args.hand.now) (view c.get_hinted.new.hand) (view c.get_within.new.hand) c.get_hinted.ensures.slabs
    (no_room_leaves (setup_of c.args.arena.now) c.args.hash c.get_hinted.new.hand c.get_within.new.hand (c.in-Err-NoMemory.ensures.no_memory (ap Err c.in-Err-NoMemory.field-0-is)))

pub returns-in-Err-NoMemory-clause-full : goal.returns-in-Err-NoMemory-clause-full
returns-in-Err-NoMemory-clause-full c = λ is. record {
  tried = c.get_hinted.new.hand;
  tries = c.in_default.ensures.tries refl;
  full = c.in-Err-NoMemory.ensures.no_memory (ap Err c.in-Err-NoMemory.field-0-is);
}

pub returns-in-Ok-Some-clause-calls : goal.returns-in-Ok-Some-clause-calls
returns-in-Ok-Some-clause-calls c = get_behind_hint (setup_of c.args.arena.now) c.args.hash _ c.args.hand.now c.get_hinted.new.hand c.get_within.new.hand c.get_hinted.ensures.number c.get_hinted.ensures.calls c.in-Ok-Some.ensures.calls

pub returns-in-Ok-None-clause-calls : goal.returns-in-Ok-None-clause-calls
returns-in-Ok-None-clause-calls c = get_behind_hint (setup_of c.args.arena.now) c.args.hash _ c.args.hand.now c.get_hinted.new.hand c.get_within.new.hand c.get_hinted.ensures.number c.get_hinted.ensures.calls c.in-Ok-None.ensures.calls

pub returns-in-Err-Held-clause-slabs : goal.returns-in-Err-Held-clause-slabs
returns-in-Err-Held-clause-slabs c =
    still_left (view c.args.hand.now) (view c.get_hinted.new.hand) (view c.get_within.new.hand) c.get_hinted.ensures.slabs
    (lock_missed_leaves (setup_of c.args.arena.now) c.args.tries c.args.hash c.get_hinted.new.hand c.get_within.new.hand (c.in-Err-Held.ensures.held (ap Err c.in-Err-Held.field-0-is)))

pub returns-in-Err-Held-clause-held : goal.returns-in-Err-Held-clause-held
returns-in-Err-Held-clause-held c = λ is. record {
  tried = c.get_hinted.new.hand;
  hint = c.in_default.ensures.tries refl;
  missed = c.in-Err-Held.ensures.held (ap Err c.in-Err-Held.field-0-is);
}
