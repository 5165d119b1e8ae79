use Rattle.std.proofs.Common.{◌<◌, length, rules, sym, subst}
use Rattle.std.proofs.lemmas.List.Elements.{All-get_or}
use Rattle.mc_words.specs.hand.Arenas.{view}
use Rattle.mc_items.specs.ItemRefs.{RefersToEach, IsItemRef}
use Rattle.testlib_threads.proofs.KeptRefs.{kept_without}
use Rattle.testlib_threads.proofs.races.holding.give_back.Goals as goal

-- the one that is taken out was kept
pub release-requires-clause-item : goal.release-requires-clause-item
release-requires-clause-item c =
    let before = view c.args.hand.now in
    let kept = c.args.kept.now.items in
    let within : c.args.place < length kept = search rules in
    subst (IsItemRef before) (sym c.remove-item.ensures.value) (All-get_or (IsItemRef before) kept c.args.place c.remove-item.result within c.requires.keeper.1.items)

-- one less is kept
pub returns : goal.returns
returns c =
    let before = view c.args.hand.now in
    let now = view c.release.new.hand in
    let kept = c.args.kept.now.items in
    let within : c.args.place < length kept = search rules in
    record { keeper = ((c.release.ensures.hand.arena, c.release.ensures.hand.ready), subst (RefersToEach now) (sym c.remove-item.ensures.items) (kept_without before now kept c.args.place c.remove-item.result within c.remove-item.ensures.value c.requires.keeper.1 c.release.ensures.keeps c.release.ensures.holdings)) }
