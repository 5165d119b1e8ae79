use Rattle.std.proofs.Common.{Err, ◌≡◌, ◌+◌, ◌*◌, ◌≤◌, ◌∙◌, ℕ, List, Option, Some, IfSome, ap, inl, inr, length, refl, subst, sym}
use Rattle.mc_classes.specs.Classes.{Classes, IsClass, class_of, size_of}
use Rattle.mc_words.specs.hand.Arenas.{setup_of, view}
use Rattle.mc_words.specs.hand.View.{Setup, View}
use Rattle.mc_items.specs.Setting.{class_for_words}
use Rattle.mc_words.specs.hand.Observers.{hand_number}
use Rattle.mc_items.specs.MakingRoom.{MakesRoom}
use Rattle.mc_items.specs.OnKeys.{ActsOnce}
use Rattle.mc_items.specs.declared.making_room.Room.{Room}
use Rattle.mc_items.proofs.Sets.{class_there}
use Rattle.mc_shard.proofs.setting_within.room_within.Goals as goal

-- the class that was found is the words' class
class_is : (view : View) (setup : Setup) (table : Classes) (words : List ℕ) (found wanted : Option ℕ) → view.setup ≡ setup → table ≡ setup.table → found ≡ class_of table (24 + 8 * length words) → found ≡ wanted → class_for_words view words ≡ wanted
class_is view setup table words found wanted of same was is = ap (λ (s : Setup). class_of s.table (24 + 8 * length words)) of ∙ (ap (λ (t : Classes). class_of t (24 + 8 * length words)) (sym same) ∙ (sym was ∙ is))

pub make_room_within-requires-clause-class : goal.make_room_within-requires-clause-class
make_room_within-requires-clause-class c =
    let fits = subst (λ (o : Option ℕ). IfSome o (λ class. IsClass c.classes.result.now class × (24 + 8 * length c.args.words.now ≤ size_of c.classes.result.now class))) c.in-Some.is c.class_for.ensures.fits in
    class_there (setup_of c.args.arena.now).table c.in-Some.class (subst (λ (t : Classes). IsClass t c.in-Some.class) c.classes.ensures.classes fits.0)

pub returns-in-Ok-clause-makes : goal.returns-in-Ok-clause-makes
returns-in-Ok-clause-makes c = inr (c.in-Some.class, class_is (view c.args.hand.now) (setup_of c.args.arena.now) c.classes.result.now c.args.words.now c.class_for.result (Some c.in-Some.class) c.requires.of_arena.setup c.classes.ensures.classes c.class_for.ensures.class c.in-Some.is, c.in-Ok._room, c.in-Ok.ensures.makes)

pub returns-then-is_some-clause-refused : goal.returns-then-is_some-clause-refused
returns-then-is_some-clause-refused c =
    inr (refl, c.kept_for-kept.ensures.item (sym c.is_some.ensures ∙ c.if-is_some.true), (c.in-Some.class, class_is (view c.args.hand.now) (setup_of c.args.arena.now) c.classes.result.now c.args.words.now c.class_for.result (Some c.in-Some.class) c.requires.of_arena.setup c.classes.ensures.classes c.class_for.ensures.class c.in-Some.is, subst (λ (room : Room). ActsOnce (MakesRoom (hand_number c.args.hand.now) c.in-Some.class room) c.args.hand.now c.make_room_within.new.hand) c.in-Ok-Full.field-0-is c.in-Ok-Full.ensures.makes))

pub returns-else-is_some-clause-makes : goal.returns-else-is_some-clause-makes
returns-else-is_some-clause-makes c = inr (c.in-Some.class, class_is (view c.args.hand.now) (setup_of c.args.arena.now) c.classes.result.now c.args.words.now c.class_for.result (Some c.in-Some.class) c.requires.of_arena.setup c.classes.ensures.classes c.class_for.ensures.class c.in-Some.is, c.in-Ok-Full.field-0, c.in-Ok-Full.ensures.makes)

pub returns-in-Err-NoMemory-clause-refused : goal.returns-in-Err-NoMemory-clause-refused
returns-in-Err-NoMemory-clause-refused c = inl (refl, (c.in-Some.class, class_is (view c.args.hand.now) (setup_of c.args.arena.now) c.classes.result.now c.args.words.now c.class_for.result (Some c.in-Some.class) c.requires.of_arena.setup c.classes.ensures.classes c.class_for.ensures.class c.in-Some.is, c.in-Err-NoMemory.ensures.refused (ap Err c.in-Err-NoMemory.field-0-is)))

pub returns-in-Err-Held-clause-refused : goal.returns-in-Err-Held-clause-refused
returns-in-Err-Held-clause-refused c = c.in-Err-Held.ensures.held (ap Err c.in-Err-Held.field-0-is)
