use Rattle.std.proofs.Common.{Some, IfSome, Option, sym, ap, subst, ◌∙◌}
use Rattle.std.specs.Slots.{slots_items}
use Rattle.mc_pages.specs.SlabState.{SlabState}
use Rattle.mc_core.specs.model.InOrder.{IsOfTable}
use Rattle.mc_words.specs.rule.End.{ArenaEnd, slabs_in}
use Rattle.mc_words.proofs.Rules.Ends.{slabs_told}
use Rattle.mc_words.proofs.arena.end.Final.slabs.Goals as goal

pub returns-in-OfSlabs-clause-slabs : goal.returns-in-OfSlabs-clause-slabs
returns-in-OfSlabs-clause-slabs c =
    let f = c.self.inside in
    ap Some c.slabs.ensures.slabs
    ∙ (ap slabs_in (sym c.in-OfSlabs.is)
    ∙ (slabs_told f.plan (slots_items f.closed.words) (slots_items f.closed.slots) c.self.invariant.2 c.word.result c.word.ensures c.if-word-ne0.false c.get.result.now c.get.ensures
    ∙ ap (λ (l : ArenaEnd). l.slabs) c.self.view_is))

pub returns-in-OfSlabs-clause-accounted : goal.returns-in-OfSlabs-clause-accounted
returns-in-OfSlabs-clause-accounted c =
    let f = c.self.inside in
    let is = ap Some c.slabs.ensures.slabs
    ∙ (ap slabs_in (sym c.in-OfSlabs.is)
    ∙ slabs_told f.plan (slots_items f.closed.words) (slots_items f.closed.slots) c.self.invariant.2 c.word.result c.word.ensures c.if-word-ne0.false c.get.result.now c.get.ensures) in
    subst (λ (l : ArenaEnd). IsOfTable l.setup.table c.slabs.result.now.state) c.self.view_is
    (subst (λ (o : Option SlabState). IfSome o (λ slabs. IsOfTable f.plan.table slabs)) (sym is) c.self.invariant.2.slabs)
