use Rattle.std.proofs.Common.{subst, arith}
use Rattle.std.proofs.lemmas.List.{nil_from_length}
use Rattle.mc_words.specs.hand.Arenas.{view}
use Rattle.mc_items.specs.ItemRefs.{RefersToEach}
use Rattle.testlib_threads.proofs.KeptRefs.{kept_but_last, last_kept, none_kept}
use Rattle.testlib_threads.proofs.races.holding.give_all_back.Goals as goal

pub release-requires-clause-item : goal.release-requires-clause-item
release-requires-clause-item c = last_kept (view c.loop-item.hand) c.pop.new.self.items c.in-Some.item (subst (RefersToEach (view c.loop-item.hand)) c.in-Some.ensures.items c.loop-item.invariant.1)

-- the last one less
pub loop-item-preserved : goal.loop-item-preserved
loop-item-preserved c =
    let before = view c.loop-item.hand in
    let now = view c.release.new.hand in
    ((c.release.ensures.hand.arena, c.release.ensures.hand.ready), kept_but_last before now c.pop.new.self.items c.in-Some.item (subst (RefersToEach before) c.in-Some.ensures.items c.loop-item.invariant.1) c.release.ensures.keeps c.release.ensures.holdings)

pub returns : goal.returns
returns c = record {
  hand = (
    c.loop-item.invariant.0,
    none_kept (view c.loop-item.hand)
        (subst (RefersToEach (view c.loop-item.hand)) (nil_from_length c.loop-item.kept.items (let none = c.in_default.ensures.cases.0 in omega (arith, c.loop-item.kept.ok.0))) c.loop-item.invariant.1),
  );
}
