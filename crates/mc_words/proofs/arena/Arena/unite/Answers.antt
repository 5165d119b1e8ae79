use Rattle.std.proofs.Common.{◌≡◌, ◌<◌, refl, sym, ap, subst, ◌∙◌, is_some, arith}
use Rattle.mc_words.specs.hand.View.{View, just_made}
use Rattle.mc_words.specs.rule.Told.{Sits}
use Rattle.mc_words.specs.rule.Joins.{IsMade, Joins}
use Rattle.mc_words.proofs.Rules.Quiet.{has_number}
use Rattle.mc_words.proofs.Hands.Joined.{unites, tells_made}
use Rattle.mc_words.proofs.arena.Arena.unite.Goals as goal

pub join_seat-requires : goal.join_seat-requires
join_seat-requires c =
    let seat = c.requires.seat in
    let spent = c.requires.spent in
    let idle = c.requires.idle in
    let a = c.args.self.now in
    let count = a.words in (
      seat.same_table,
      spent.same_table,
      c.requires.none,
      omega arith,
      unites a.table.shared.key c.args.seat.now.id c.args.seat.now.me.0 c.args.spent.me.0 (has_number _ seat.lawful) seat.setup c.args.spent.id (has_number _ spent.lawful) idle.0 idle.1,
    )

pub load-requires : goal.load-requires
load-requires c =
    let seat = c.requires.seat in
    let a = c.args.self.now in
    let count = a.words in
    let me = c.join_seat.ensures.2 in (
      c.join_seat.ensures.0 ∙ seat.same_table,
      omega arith,
      tells_made a.table.shared.key _ _ c.join_seat.new.seat.me (ap (λ (m : Sits). is_some m.0.row.ids.number) me ∙ (has_number _ seat.lawful).0) (ap (λ (m : Sits). m.0.setup) me ∙ seat.setup) 0 0 0,
    )

pub returns-clause-joins : goal.returns-clause-joins
returns-clause-joins c =
    let v = c.args.seat.now.me.0 in
    let w = c.args.spent.me.0 in
    let told = c.load.ensures.2 in
    let me = ap (λ (m : Sits). m.0) c.join_seat.ensures.2 in
    let made : IsMade (just_made v w) = subst IsMade me told.made in
    let plain = (has_number _ c.requires.seat.lawful).1 in
    let now = ap (λ (m : Sits). m.0) told.is in
    subst (λ (p : View × View). Joins p.0 w.row w.events p.1) (λ k. (record v { made_of = sym plain k }, (ap (λ (m : View). record m { made_of = Rattle.std.proofs.Common.None }) (sym me) ∙ sym now) k)) (made v.row w.row v.events w.events refl)
