use Rattle.std.proofs.Common.{List, ap, sym, subst, ◌∙◌, arith}
use Rattle.std.proofs.lemmas.List.{nil_from_length}
use Rattle.mc_words.specs.hand.Arenas.{view}
use Rattle.mc_items.specs.ItemRefs.{RefersToEach}
use Rattle.mc_items.specs.declared.refs.Ref.{Ref}
use Rattle.mc_workers.specs.Lines.{all_released}
use Rattle.mc_workers.proofs.KeptRefs.{idle_then, kept_but_last, last_kept, released_last}
use Rattle.mc_workers.proofs.keeping.release_all.Goals as goal

pub release-requires-clause-item : goal.release-requires-clause-item
release-requires-clause-item c = last_kept (view c.loop-item.hand) c.pop.new.self.items c.in-Some.item (subst (RefersToEach (view c.loop-item.hand)) c.in-Some.ensures.items c.loop-item.invariant.kept)

-- the last one less
pub loop-item-preserved : goal.loop-item-preserved
loop-item-preserved c =
    let before = view c.loop-item.hand in
    let now = view c.release.new.hand in
    let left = c.pop.new.self.items in
    let item = c.in-Some.item in
    let stays = c.release.ensures.hand in
    record {
      hand = record {
        arena = stays.arena;
        ready = stays.ready;
        locks = stays.locks ∙ c.loop-item.invariant.hand.locks;
        number = stays.number ∙ c.loop-item.invariant.hand.number;
      };
      kept = kept_but_last before now left item (subst (RefersToEach before) c.in-Some.ensures.items c.loop-item.invariant.kept) c.release.ensures.keeps c.release.ensures.holdings;
      released = c.loop-item.invariant.released ∙ (ap (λ (l : List Ref). all_released l before) c.in-Some.ensures.items ∙ (released_last left item before ∙ ap (all_released left) (sym c.release.ensures.dropped)));
    }

pub returns-clause-idle : goal.returns-clause-idle
returns-clause-idle c = idle_then (view c.loop-item.hand) c.loop-item.invariant.hand.ready
    (subst (RefersToEach (view c.loop-item.hand)) (nil_from_length c.loop-item.kept.items (let none = c.in_default.ensures.cases.0 in omega (arith, c.loop-item.kept.ok.0))) c.loop-item.invariant.kept)
