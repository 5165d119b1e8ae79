use Rattle.std.proofs.Common.{ap, sym, subst, ◌∙◌, is_some, arith}
use Rattle.mc_words.specs.hand.View.{View}
use Rattle.mc_words.specs.rule.Happens.{LawfulView}
use Rattle.mc_words.specs.lock.Out.{IsNoted}
use Rattle.mc_words.specs.hand.Tallies.{IsTallied}
use Rattle.mc_words.specs.rule.Told.{Sits}
use Rattle.mc_words.proofs.Rules.Peeks.{shows}
use Rattle.mc_words.proofs.arena.Arena.recall.Goals as goal

pub load-requires : goal.load-requires
load-requires c =
    let seated = c.requires.seated in
    let hand = c.args.hand.now in
    let a = c.args.self.now in
    let count = a.words in
    (seated.same_table, omega arith, shows a.table.shared.key _ _ hand.seat.me (ap is_some hand.noted.0, seated.told) seated.setup 0 0 0)

pub invariant_of-hand : goal.invariant_of-hand
invariant_of-hand c =
    let hand = c.args.hand.now in
    let same = sym c.load.ensures.2.0 in
    record { noted = subst (λ (me : Sits). IsNoted me hand.number hand.chunks hand.locks) same hand.noted; tallied = subst (λ (me : Sits). IsTallied me hand.stamps hand.fresh) same hand.tallied }

pub returns-clause-arena : goal.returns-clause-arena
returns-clause-arena c =
    let seated = c.requires.seated in
    let told = c.load.ensures.2 in
    let view = ap (λ (me : Sits). me.0) told.0 in
    record { same_table = c.load.ensures.0 ∙ seated.same_table; setup = ap (λ (v : View). v.setup) view ∙ seated.setup; lawful = subst LawfulView (sym view) told.1.0 }

pub returns-clause-same : goal.returns-clause-same
returns-clause-same c = ap (λ (me : Sits). me.0) c.load.ensures.2.0
