use Rattle.std.proofs.Common.{◌≡◌, ℕ, ◌-◌, ◌≤◌, [], sym, ap, subst, ◌∙◌, arith, refl}
use Rattle.mc_classes.specs.Classes.{IsSound}
use Rattle.mc_core.specs.run.Chunks.{most_issue}
use Rattle.mc_words.specs.declared.arena.Arena.{Arena}
use Rattle.mc_words.specs.declared.lock.locks.Locks.TheVariants.{Neither}
use Rattle.mc_words.specs.hand.View.{Setup, View, new_view}
use Rattle.mc_words.specs.rule.Happens.{LawfulView}
use Rattle.mc_words.specs.rule.Beginning.{next_view}
use Rattle.mc_words.specs.lock.Out.{IsNoted}
use Rattle.mc_words.specs.hand.Tallies.{IsTallied}
use Rattle.mc_words.specs.rule.Told.{Sits}
use Rattle.mc_words.proofs.Rules.Opens.{new_lawful, new_noted}
use Rattle.mc_words.proofs.Hands.Splits.{splits, one_lawful, next_is}
use Rattle.mc_words.proofs.arena.Arena.make.Goals as goal

pub split_seat-seat-requires : goal.split_seat-seat-requires
split_seat-seat-requires c =
    let arena : Arena = c.args.self.now in
    let setup : Setup = arena.table.shared.key in
    let view : View = c.args.first.now.seat.me.0 in
    let is : view ≡ new_view setup 0 (setup.hands - c.args.number) = c.requires.first in
    let spare : view.spare ≡ setup.hands - c.args.number = ap (λ (v : View). v.spare) is in
    let in_range = c.requires.number.1 in (
      c.requires.arena.same_table,
      (let e = arena.words in omega arith),
      splits setup c.args.first.now.seat.id view (omega arith) (ap (λ (v : View). v.setup) is) (ap (λ (v : View). v.made_of) is),
    )

pub invariant_of-result : goal.invariant_of-result
invariant_of-result c =
    let arena : Arena = c.args.self.now in
    let setup : Setup = arena.table.shared.key in
    let number : ℕ = c.args.number in
    let within_limit : setup.hands ≤ 64 = subst (λ (s : Setup). s.hands ≤ 64) (sym arena.planned) arena.hands.1 in
    let in_range = c.requires.number.1 in
    let me : c.split_seat-seat.result.me ≡ (new_view setup number 0, []) =
    c.split_seat-seat.ensures.4 ∙ ap (λ (v : View). (v, [])) (ap next_view c.requires.first ∙ next_is setup number in_range) in
    record { noted = subst (λ (me : Sits). IsNoted me number 0 Neither) (sym me) (new_noted setup number 0 (omega arith)); tallied = subst (λ (me : Sits). IsTallied me 0 0) (sym me) (refl, refl) }

pub returns-clause-arena : goal.returns-clause-arena
returns-clause-arena c =
    let arena : Arena = c.args.self.now in
    let setup : Setup = arena.table.shared.key in
    let number : ℕ = c.args.number in
    let plan = sym arena.planned in
    let sound : IsSound setup.table = subst (λ (s : Setup). IsSound s.table) plan arena.sound in
    let some : 1 ≤ setup.config.stripes = subst (λ (s : Setup). 1 ≤ s.config.stripes) plan arena.some in
    let hands : (1 ≤ setup.hands) × (setup.hands ≤ 64) = subst (λ (s : Setup). (1 ≤ s.hands) × (s.hands ≤ 64)) plan arena.hands in
    let begun : setup.start ≤ most_issue = subst (λ (s : Setup). s.start ≤ most_issue) plan arena.begun in
    let told = c.split_seat-seat.ensures in
    let one = ap (λ (me : Sits). me.0) told.2 in
    let other = ap (λ (me : Sits). me.0) told.4 ∙ (ap next_view c.requires.first ∙ next_is setup number c.requires.number.1) in (
      record {
        same_table = told.0 ∙ c.requires.arena.same_table;
        setup = ap (λ (v : View). v.setup) one ∙ c.requires.arena.setup;
        lawful = subst LawfulView (sym one) (one_lawful c.args.first.now.seat.me.0 c.requires.arena.lawful);
      },
      record {
        same_table = told.3 ∙ c.requires.arena.same_table;
        setup = ap (λ (v : View). v.setup) other;
        lawful = subst LawfulView (sym other) (new_lawful setup sound some hands.0 hands.1 begun number 0 c.requires.number.1);
      },
    )
