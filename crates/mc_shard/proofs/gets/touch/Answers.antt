use Rattle.std.proofs.Common.{◌≡◌, ◌∙◌, ◌+◌, ℕ, Bool, Ok, ap, false, refl, true, subst}
use Rattle.mc_words.specs.hand.Arenas.{setup_of, view}
use Rattle.mc_items.specs.ItemRefs.{item_words}
use Rattle.mc_shard.specs.Finding.{BumpsItem}
use Rattle.mc_shard.proofs.Found.{finds_other, same_ok, the_item, touches_key}
use Rattle.mc_shard.proofs.Recorded.{get_at_most}
use Rattle.mc_shard.proofs.Slabs.{still_left}
use Rattle.mc_shard.proofs.gets.touch.Goals as goal

not_true : (own : Bool) → (own ≡ true → ⊥) → own ≡ false
not_true true isnt = absurd (isnt refl)
not_true false isnt = refl

pub returns-clause-touches : goal.returns-clause-touches
returns-clause-touches g c = λ is.
    let own = same_ok c.touch_own.result true is in
    let bumps = subst (λ (n : ℕ). BumpsItem n c.in-Some.item c.touch_own.new.hand) c.get_item.ensures.number (c.touch_own.ensures.bumps own) in
    touches_key c.args.arena.now c.args.at.hash c.args.at.key.now c.args.hand.now c.get_item.new.hand c.in-Some.item (the_item c.args.arena.now c.args.at.hash c.args.hand.now c.get_item.new.hand c.in_ok-item.field-0 c.in-Some.item c.in-Some.is c.in_ok-item.ensures.item) (c.touch_own.ensures.own own) c.touch_own.new.hand bumps

pub returns-clause-none : goal.returns-clause-none
returns-clause-none g c = λ is. finds_other (setup_of c.args.arena.now) c.args.at.hash c.args.at.key.now c.args.hand.now (item_words (view c.get_item.new.hand) c.in-Some.item) (the_item c.args.arena.now c.args.at.hash c.args.hand.now c.get_item.new.hand c.in_ok-item.field-0 c.in-Some.item c.in-Some.is c.in_ok-item.ensures.item).finds (c.touch_own.ensures.other (same_ok c.touch_own.result false is))

pub returns-clause-calls : goal.returns-clause-calls
returns-clause-calls g c = get_at_most (setup_of c.args.arena.now) c.args.at.hash c.args.hand.now c.get_item.new.hand c.touch_own.new.hand c.get_item.ensures.calls c.touch_own.ensures.calls

pub returns-clause-once : goal.returns-clause-once
returns-clause-once g c = λ is. c.touch_own.ensures.once (same_ok c.touch_own.result true is) ∙ ap (λ (n : ℕ). n + 1) c.get_item.ensures.slabs

pub returns-clause-slabs : goal.returns-clause-slabs
returns-clause-slabs g c = λ isnt.
    still_left (view c.args.hand.now) (view c.get_item.new.hand) (view c.touch_own.new.hand) c.get_item.ensures.slabs
    (c.touch_own.ensures.slabs (not_true c.touch_own.result (λ own. isnt (ap Ok own))))
