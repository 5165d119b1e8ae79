use Rattle.std.proofs.Common.{List, ℕ, ◌-◌, length, arith, ap, sym, subst, ◌∙◌, refl}
use Rattle.atomic_table.specs.Table.{opening}
use Rattle.mc_words.specs.declared.lock.slot.Slot.{Slot}
use Rattle.mc_words.specs.declared.lock.locks.Locks.TheVariants.{Neither}
use Rattle.mc_words.specs.hand.View.{Setup, View}
use Rattle.mc_words.specs.rule.Joins.{Rule}
use Rattle.mc_words.specs.rule.Happens.{LawfulView}
use Rattle.mc_words.specs.rule.Beginning.{first_view}
use Rattle.mc_words.specs.lock.Out.{IsNoted}
use Rattle.mc_words.specs.hand.Tallies.{IsTallied}
use Rattle.mc_words.specs.rule.Told.{Sits}
use Rattle.mc_words.proofs.Rules.Opens.{rule_first, new_lawful, new_noted, slots_long}
use Rattle.mc_words.proofs.arena.Arena.open.Goals as goal

pub table-requires : goal.table-requires
table-requires c =
    let setup : Setup = c.args.plan in
    let told = c.places-places.ensures in
    subst (λ (p : List ℕ × List Slot). Rule setup (opening p.0 p.1 (first_view setup))) (λ k. (sym (c.as_slice.ensures.value ∙ c.in_ok-words.ensures.words) k, sym c.in_ok-slots.ensures.slots k))
    (rule_first setup told.sound told.stripes.0 told.hands.0 told.hands.1 told.start)

pub invariant_of-hand : goal.invariant_of-hand
invariant_of-hand c = record { noted = subst (λ (me : Sits). IsNoted me 0 0 Neither) (sym c.in_ok-table.ensures.ok.4) (let setup : Setup = c.args.plan in new_noted setup 0 (setup.hands - 1) (omega arith)); tallied = subst (λ (me : Sits). IsTallied me 0 0) (sym c.in_ok-table.ensures.ok.4) (refl, refl) }

pub returns-clause-arena : goal.returns-clause-arena
returns-clause-arena c =
    let setup : Setup = c.args.plan in
    let told = c.places-places.ensures in
    let ok = c.in_ok-table.ensures.ok in
    let view = ap (λ (me : Sits). me.0) ok.4 in (
      record {
        same_table = ok.2;
        setup = ap (λ (v : View). v.setup) view ∙ sym ok.5;
        lawful = subst LawfulView (sym view) (new_lawful setup told.sound told.stripes.0 told.hands.0 told.hands.1 told.start 0 (setup.hands - 1) (let some = told.hands.0 in omega arith));
      },
      ok.5,
    )

pub invariant_of-arena-clause-slots : goal.invariant_of-arena-clause-slots
invariant_of-arena-clause-slots c = c.in_ok-table.ensures.ok.1 ∙ (ap length c.in_ok-slots.ensures.slots ∙ slots_long c.args.plan)
