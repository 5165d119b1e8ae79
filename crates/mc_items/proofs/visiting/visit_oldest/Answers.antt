use Rattle.std.proofs.Common.{◌+◌, ◌∷◌, Option, Result, Ok, IfOk, IfSome, ap, sym, subst, ◌∙◌, arith}
use Rattle.std.specs.Prelude.{⊤}
use Rattle.mc_core.specs.model.Holdings.{has_fresh}
use Rattle.mc_words.specs.lock.Out.{locks_have_no_stripe}
use Rattle.mc_words.proofs.Hands.HandNumbers.{number_stays}
use Rattle.mc_words.proofs.Locks.Unlocked.{no_stripe_from, no_stripes_there}
use Rattle.mc_items.specs.declared.visiting.Visit.{Visit}
use Rattle.mc_items.specs.Visiting.{VisitsFirst, evicted_by, freed_by}
use Rattle.mc_items.proofs.Freed.{as_error, on_error}
use Rattle.mc_items.proofs.Visits.{each_deletes, evicts_one, frees_one}
use Rattle.mc_items.proofs.visiting.visit_oldest.Goals as goal

pub visit_first-requires-clause-one : goal.visit_first-requires-clause-one
visit_first-requires-clause-one g c =
    let hand = c.args.hand.now in
    let now = c.loop.hand in
    no_stripes_there now.seat.me.0 now.locks now.noted.4 (ap locks_have_no_stripe c.loop.invariant.locks ∙ no_stripe_from hand.seat.me.0 hand.locks hand.noted.4 c.requires.one)

pub visit_first-requires-clause-fresh : goal.visit_first-requires-clause-fresh
visit_first-requires-clause-fresh g c =
    let inv = c.loop.invariant in
    let deletes = each_deletes c.args.hand.now.number c.args.class inv.visits c.args.hand.now.seat.me.0 c.args.slabs.now.shared c.loop.hand.seat.me.0 c.loop.slabs.shared inv.each in
    ap has_fresh deletes.0.holdings ∙ c.requires.fresh

pub returns-in_err-visit-clause-no_memory : goal.returns-in_err-visit-clause-no_memory
returns-in_err-visit-clause-no_memory g c =
    let inv = c.loop.invariant in
    as_error c.from_residual.result
    (record { visits = inv.visits; visited = c.loop.hand.seat.me.0; between = c.loop.slabs.shared; each = inv.each; lacks = on_error c.visit_first.result c.in_err-visit.field-0.0 c.in_err-visit.was c.visit_first.ensures.no_memory })

pub loop-preserved : goal.loop-preserved
loop-preserved g c =
    let inv = c.loop.invariant in
    let hand = c.args.hand.now in
    let now = c.loop.hand in
    let next = c.visit_first.new in
    let visit = c.in-Some.visit in
    let class = c.args.class in
    let deletes = each_deletes hand.number class inv.visits hand.seat.me.0 c.args.slabs.now.shared now.seat.me.0 c.loop.slabs.shared inv.each in
    let number = number_stays hand now deletes.0.ids in
    let visits = subst (λ (r : Result (Option Visit) ⊤). IfOk r (λ visited. IfSome visited (λ visit. VisitsFirst now.number class visit now.seat.me.0 c.loop.slabs.shared next.hand.seat.me.0 next.slabs.shared))) (c.in_ok-visit.was ∙ ap (λ o. Ok o) c.in-Some.is) c.visit_first.ensures.visits in
    let evicted = c.with-tally.ensures.evicted in
    let freed = c.with-tally.ensures.freed in record {
      arena = c.visit_first.ensures.arena;
      locks = c.visit_first.ensures.locks ∙ inv.locks;
      slabs = c.visit_first.ensures.slabs;
      visits = visit ∷ inv.visits;
      count = let at = inv.count in omega arith;
      each = (now.seat.me.0, c.loop.slabs.shared, inv.each, subst (λ n. VisitsFirst n class visit now.seat.me.0 c.loop.slabs.shared next.hand.seat.me.0 next.slabs.shared) number visits);
      evicted_is = ap (λ n. n + evicted_by visit) inv.evicted_is ∙ sym evicted;
      freed_is = ap (λ n. n + freed_by visit) inv.freed_is ∙ sym freed;
      evictions_within_limit = let one = evicts_one visit in let test = c.if-tally-eq-ROOM_ITEMS.false in let few = inv.evictions_within_limit in omega arith;
      freed_within_limit = let one = frees_one visit in let few = inv.freed_within_limit in omega arith;
    }
