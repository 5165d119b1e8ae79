use Rattle.std.proofs.Common.{◌∙◌, false, inl, length, refl, subst, sym, true, true≢false}
use Rattle.mc_packing.specs.Packing.{packed_item}
use Rattle.mc_words.specs.hand.Arenas.{setup_of, view}
use Rattle.mc_words.specs.hand.Observers.{hand_number}
use Rattle.mc_shard.proofs.Lengths.{fits, lacks_class, refused_at_once, same_error, tested_as}
use Rattle.mc_items.specs.declared.setting.SetError.TheVariants.{TooLarge}
use Rattle.mc_items.specs.declared.within.SetWithinError.TheVariants as within
use Rattle.mc_items.specs.declared.within.comparing.CompareWithinError.{CompareWithinError}
use Rattle.mc_items.specs.declared.within.comparing.CompareWithinError.TheVariants as compare_within
use Rattle.mc_items.specs.Within.{RefusesCompareWithin}
use Rattle.mc_shard.proofs.Stored.{calls_behind, evicts_behind, lacks_room_within, no_deletes, refuses_compare_within_behind, room_alone, sets_behind}
use Rattle.mc_shard.proofs.comparing.set_where_within.Goals as goal

pub returns-then-not-has_class-clause-refused : goal.returns-then-not-has_class-clause-refused
returns-then-not-has_class-clause-refused c =
    inl (refused_at_once c.args.arena.now c.args.hand.now c.requires c.args.at.key.now c.args.value.now (hand_number c.args.hand.now) c.args.at.hash
    (tested_as c.classes.result.now (setup_of c.args.arena.now).table (length c.args.at.key.now) (length c.args.value.now) c.has_class.result false c.classes.ensures.classes c.has_class.ensures c.if-not-has_class.true))

pub returns-then-not-has_class-clause-evicts : goal.returns-then-not-has_class-clause-evicts
returns-then-not-has_class-clause-evicts c = room_alone (hand_number c.args.hand.now) c.args.hand.now c.args.hand.now (no_deletes (hand_number c.args.hand.now) (view c.args.hand.now))

pub returns-in-Err-compare_and_set_within-clause-too_large : goal.returns-in-Err-compare_and_set_within-clause-too_large
returns-in-Err-compare_and_set_within-clause-too_large c = (
  λ is.
      let refuses = subst (λ (e : CompareWithinError). RefusesCompareWithin c.args.expected (hand_number c.room_within.new.hand) c.args.tries c.args.at.hash c.deref-2.result.now e (view c.room_within.new.hand) (view c.compare_and_set_within.new.hand)) (same_error c.in-Err-compare_and_set_within.error (compare_within.Refused (within.Refused TooLarge)) is) c.in-Err-compare_and_set_within.ensures.refused in
      lacks_class c.args.arena.now c.room_within.new.hand c.room_within.ensures.idle c.args.at.key.now c.args.value.now c.deref-2.result.now (c.deref-2.ensures.value ∙ c.in_default.ensures.packed) refuses.0,
  λ lacks. absurd (true≢false (sym (tested_as c.classes.result.now (setup_of c.args.arena.now).table (length c.args.at.key.now) (length c.args.value.now) c.has_class.result true c.classes.ensures.classes c.has_class.ensures c.if-not-has_class.false) ∙ lacks)),
)

pub returns-in-Err-clause-evicts : goal.returns-in-Err-clause-evicts
returns-in-Err-clause-evicts c = room_alone (hand_number c.args.hand.now) c.args.hand.now c.args.hand.now (no_deletes (hand_number c.args.hand.now) (view c.args.hand.now))

pub returns-in-Err-clause-refused : goal.returns-in-Err-clause-refused
returns-in-Err-clause-refused c = inl (inl refl)

pub returns-in-Err-room_within-clause-refused : goal.returns-in-Err-room_within-clause-refused
returns-in-Err-room_within-clause-refused c =
    lacks_room_within (hand_number c.args.hand.now) (hand_number c.args.hand.now) c.args.at.hash refl c.deref.result.now c.deref.result.now (packed_item c.args.at.key.now c.args.value.now) (c.deref.ensures.value ∙ c.in_default.ensures.packed) (c.deref.ensures.value ∙ c.in_default.ensures.packed) c.args.hand.now c.room_within.new.hand c.room_within.new.hand c.args.expected c.args.tries c.in-Err-room_within.error c.in-Err-room_within.ensures.refused

pub returns-in-Err-room_within-clause-evicts : goal.returns-in-Err-room_within-clause-evicts
returns-in-Err-room_within-clause-evicts c = room_alone (hand_number c.args.hand.now) c.args.hand.now c.room_within.new.hand c.room_within.ensures.calls

pub returns-in-Ok-clause-sets : goal.returns-in-Ok-clause-sets
returns-in-Ok-clause-sets c =
    sets_behind (hand_number c.args.hand.now) (hand_number c.room_within.new.hand) c.args.at.hash c.room_within.ensures.number c.deref.result.now c.deref-2.result.now (packed_item c.args.at.key.now c.args.value.now) (c.deref.ensures.value ∙ c.in_default.ensures.packed) (c.deref-2.ensures.value ∙ c.in_default.ensures.packed)
    c.args.hand.now c.room_within.new.hand c.compare_and_set_within.new.hand c.args.expected c.in-Ok.item.stamp c.in_default-room_within.ensures.makes c.in-Ok.ensures.sets.0

pub returns-in-Ok-clause-calls : goal.returns-in-Ok-clause-calls
returns-in-Ok-clause-calls c =
    calls_behind (hand_number c.args.hand.now) (hand_number c.room_within.new.hand) c.args.at.hash c.room_within.ensures.number c.deref.result.now c.deref-2.result.now (packed_item c.args.at.key.now c.args.value.now) (c.deref.ensures.value ∙ c.in_default.ensures.packed) (c.deref-2.ensures.value ∙ c.in_default.ensures.packed)
    c.args.hand.now c.room_within.new.hand c.compare_and_set_within.new.hand c.in-Ok.item.stamp c.room_within.ensures.calls c.in-Ok.ensures.calls

pub returns-in-Err-compare_and_set_within-clause-refused : goal.returns-in-Err-compare_and_set_within-clause-refused
returns-in-Err-compare_and_set_within-clause-refused c =
    refuses_compare_within_behind (hand_number c.args.hand.now) (hand_number c.room_within.new.hand) c.args.at.hash c.room_within.ensures.number c.deref.result.now c.deref-2.result.now (packed_item c.args.at.key.now c.args.value.now) (c.deref.ensures.value ∙ c.in_default.ensures.packed) (c.deref-2.ensures.value ∙ c.in_default.ensures.packed)
    c.args.hand.now c.room_within.new.hand c.compare_and_set_within.new.hand
    (fits c.args.arena.now c.room_within.new.hand c.room_within.ensures.idle c.args.at.key.now c.args.value.now c.deref-2.result.now (c.deref-2.ensures.value ∙ c.in_default.ensures.packed)
    (tested_as c.classes.result.now (setup_of c.args.arena.now).table (length c.args.at.key.now) (length c.args.value.now) c.has_class.result true c.classes.ensures.classes c.has_class.ensures c.if-not-has_class.false))
    c.args.expected c.args.tries c.in-Err-compare_and_set_within.error c.in_default-room_within.ensures.makes c.in-Err-compare_and_set_within.ensures.refused

pub returns-in-Err-compare_and_set_within-clause-evicts : goal.returns-in-Err-compare_and_set_within-clause-evicts
returns-in-Err-compare_and_set_within-clause-evicts c =
    evicts_behind (hand_number c.args.hand.now) (hand_number c.room_within.new.hand) c.args.at.hash c.room_within.ensures.number c.deref.result.now c.deref-2.result.now (packed_item c.args.at.key.now c.args.value.now) (c.deref.ensures.value ∙ c.in_default.ensures.packed) (c.deref-2.ensures.value ∙ c.in_default.ensures.packed)
    c.args.hand.now c.room_within.new.hand c.compare_and_set_within.new.hand c.room_within.ensures.calls c.in-Err-compare_and_set_within.ensures.evicts
