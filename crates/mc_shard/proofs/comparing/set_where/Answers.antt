use Rattle.std.proofs.Common.{◌∙◌, false, inl, length, refl, subst, sym, true, true≢false}
use Rattle.mc_packing.specs.Packing.{packed_item}
use Rattle.mc_words.specs.hand.Arenas.{setup_of, view}
use Rattle.mc_words.specs.hand.Observers.{hand_number}
use Rattle.mc_shard.proofs.Lengths.{fits, lacks_class, refused_at_once, same_error, tested_as}
use Rattle.mc_items.specs.declared.setting.SetError.TheVariants.{TooLarge}
use Rattle.mc_items.specs.declared.comparing.CompareError.{CompareError}
use Rattle.mc_items.specs.declared.comparing.CompareError.TheVariants as compare
use Rattle.mc_items.specs.Setting.{RefusesCompare}
use Rattle.mc_shard.proofs.Stored.{calls_behind, evicts_behind, lacks_room, no_deletes, refuses_compare_behind, room_alone, sets_behind}
use Rattle.mc_shard.proofs.comparing.set_where.Goals as goal

pub returns-then-not-has_class-clause-refused : goal.returns-then-not-has_class-clause-refused
returns-then-not-has_class-clause-refused g c =
    inl (refused_at_once c.args.arena.now c.args.hand.now c.requires c.args.at.key.now c.args.value.now (hand_number c.args.hand.now) c.args.at.hash
    (tested_as c.classes.result.now (setup_of c.args.arena.now).table (length c.args.at.key.now) (length c.args.value.now) c.has_class.result false c.classes.ensures.classes c.has_class.ensures c.if-not-has_class.true))

pub returns-then-not-has_class-clause-evicts : goal.returns-then-not-has_class-clause-evicts
returns-then-not-has_class-clause-evicts g c = room_alone (hand_number c.args.hand.now) c.args.hand.now c.args.hand.now (no_deletes (hand_number c.args.hand.now) (view c.args.hand.now))

pub returns-in-Err-compare_and_set-clause-too_large : goal.returns-in-Err-compare_and_set-clause-too_large
returns-in-Err-compare_and_set-clause-too_large g c = (
  λ is.
      let refuses = subst (λ (e : CompareError). RefusesCompare c.args.expected (hand_number c.make_room_for.new.hand) c.args.at.hash c.deref-2.result.now e (view c.make_room_for.new.hand) (view c.compare_and_set.new.hand)) (same_error c.in-Err-compare_and_set.error (compare.Refused TooLarge) is) c.in-Err-compare_and_set.ensures.refused in
      lacks_class c.args.arena.now c.make_room_for.new.hand c.make_room_for.ensures.idle c.args.at.key.now c.args.value.now c.deref-2.result.now (c.deref-2.ensures.value ∙ c.in_default.ensures.packed) refuses.0,
  λ lacks. absurd (true≢false (sym (tested_as c.classes.result.now (setup_of c.args.arena.now).table (length c.args.at.key.now) (length c.args.value.now) c.has_class.result true c.classes.ensures.classes c.has_class.ensures c.if-not-has_class.false) ∙ lacks)),
)

pub returns-in-Err-clause-evicts : goal.returns-in-Err-clause-evicts
returns-in-Err-clause-evicts g c = room_alone (hand_number c.args.hand.now) c.args.hand.now c.args.hand.now (no_deletes (hand_number c.args.hand.now) (view c.args.hand.now))

pub returns-in-Err-clause-refused : goal.returns-in-Err-clause-refused
returns-in-Err-clause-refused g c = inl (inl refl)

pub returns-in-Err-make_room_for-clause-refused : goal.returns-in-Err-make_room_for-clause-refused
returns-in-Err-make_room_for-clause-refused g c =
    lacks_room (hand_number c.args.hand.now) (hand_number c.args.hand.now) c.args.at.hash refl c.deref.result.now c.deref.result.now (packed_item c.args.at.key.now c.args.value.now) (c.deref.ensures.value ∙ c.in_default.ensures.packed) (c.deref.ensures.value ∙ c.in_default.ensures.packed) c.args.hand.now c.make_room_for.new.hand c.make_room_for.new.hand c.args.expected c.in-Err-make_room_for.error c.in-Err-make_room_for.ensures.refused

pub returns-in-Err-make_room_for-clause-evicts : goal.returns-in-Err-make_room_for-clause-evicts
returns-in-Err-make_room_for-clause-evicts g c = room_alone (hand_number c.args.hand.now) c.args.hand.now c.make_room_for.new.hand c.make_room_for.ensures.calls

pub returns-in-Ok-clause-sets : goal.returns-in-Ok-clause-sets
returns-in-Ok-clause-sets g c =
    sets_behind (hand_number c.args.hand.now) (hand_number c.make_room_for.new.hand) c.args.at.hash c.make_room_for.ensures.number c.deref.result.now c.deref-2.result.now (packed_item c.args.at.key.now c.args.value.now) (c.deref.ensures.value ∙ c.in_default.ensures.packed) (c.deref-2.ensures.value ∙ c.in_default.ensures.packed)
    c.args.hand.now c.make_room_for.new.hand c.compare_and_set.new.hand c.args.expected c.in-Ok.item.stamp c.in_default-make_room_for.ensures.makes c.in-Ok.ensures.sets.0

pub returns-in-Ok-clause-calls : goal.returns-in-Ok-clause-calls
returns-in-Ok-clause-calls g c =
    calls_behind (hand_number c.args.hand.now) (hand_number c.make_room_for.new.hand) c.args.at.hash c.make_room_for.ensures.number c.deref.result.now c.deref-2.result.now (packed_item c.args.at.key.now c.args.value.now) (c.deref.ensures.value ∙ c.in_default.ensures.packed) (c.deref-2.ensures.value ∙ c.in_default.ensures.packed)
    c.args.hand.now c.make_room_for.new.hand c.compare_and_set.new.hand c.in-Ok.item.stamp c.make_room_for.ensures.calls c.in-Ok.ensures.calls

pub returns-in-Err-compare_and_set-clause-refused : goal.returns-in-Err-compare_and_set-clause-refused
returns-in-Err-compare_and_set-clause-refused g c =
    refuses_compare_behind (hand_number c.args.hand.now) (hand_number c.make_room_for.new.hand) c.args.at.hash c.make_room_for.ensures.number c.deref.result.now c.deref-2.result.now (packed_item c.args.at.key.now c.args.value.now) (c.deref.ensures.value ∙ c.in_default.ensures.packed) (c.deref-2.ensures.value ∙ c.in_default.ensures.packed)
    c.args.hand.now c.make_room_for.new.hand c.compare_and_set.new.hand
    (fits c.args.arena.now c.make_room_for.new.hand c.make_room_for.ensures.idle c.args.at.key.now c.args.value.now c.deref-2.result.now (c.deref-2.ensures.value ∙ c.in_default.ensures.packed)
    (tested_as c.classes.result.now (setup_of c.args.arena.now).table (length c.args.at.key.now) (length c.args.value.now) c.has_class.result true c.classes.ensures.classes c.has_class.ensures c.if-not-has_class.false))
    c.args.expected c.in-Err-compare_and_set.error c.in_default-make_room_for.ensures.makes c.in-Err-compare_and_set.ensures.refused

pub returns-in-Err-compare_and_set-clause-evicts : goal.returns-in-Err-compare_and_set-clause-evicts
returns-in-Err-compare_and_set-clause-evicts g c =
    evicts_behind (hand_number c.args.hand.now) (hand_number c.make_room_for.new.hand) c.args.at.hash c.make_room_for.ensures.number c.deref.result.now c.deref-2.result.now (packed_item c.args.at.key.now c.args.value.now) (c.deref.ensures.value ∙ c.in_default.ensures.packed) (c.deref-2.ensures.value ∙ c.in_default.ensures.packed)
    c.args.hand.now c.make_room_for.new.hand c.compare_and_set.new.hand c.make_room_for.ensures.calls c.in-Err-compare_and_set.ensures.evicts
