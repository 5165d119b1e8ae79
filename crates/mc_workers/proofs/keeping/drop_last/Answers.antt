use Rattle.std.proofs.Common.{◌≡◌, suc, List, ◌++◌, take, drop, All, ap, refl, sym, subst, ◌∙◌}
use Rattle.std.proofs.lemmas.List.{get_or_default}
use Rattle.mc_words.specs.hand.Arenas.{view}
use Rattle.mc_words.specs.hand.Views.{chunk_released}
use Rattle.mc_items.specs.declared.refs.Ref.{Ref}
use Rattle.mc_items.specs.ItemRefs.{RefersToEach, item_chunk, item_len, item_words}
use Rattle.mc_items.specs.Reading.{words_seen}
use Rattle.mc_workers.specs.Kept.{IsLastAt, IsLastOf, IsToOther, hold_of, kept_references}
use Rattle.mc_workers.proofs.LastKept.{last_held, none_held}
use Rattle.mc_workers.proofs.KeptRefs.{holds_without, kept_without}
use Rattle.mc_workers.proofs.keeping.drop_last.Goals as goal

pub returns-in_default-clause-answers : goal.returns-in_default-clause-answers
returns-in_default-clause-answers c =
    (none_held c.args.key (view c.args.hand.now) c.args.kept.now.items (subst (All (IsToOther c.args.key)) c.deref.ensures.value (c.place_of_last.ensures.none c.in_default.is)), refl, refl)

pub returns-clause-stays : goal.returns-clause-stays
returns-clause-stays c =
    let there : IsLastAt c.args.key c.args.kept.now.items c.in-Some.place = subst (λ (l : List Ref). IsLastAt c.args.key l c.in-Some.place) c.deref.ensures.value c.in-Some.ensures.last in
    record {
      hand_is = (c.release.ensures.hand.arena, c.release.ensures.hand.ready);
      number = c.release.ensures.hand.number ∙ c.in-Ok.ensures.hand.number;
      keeps = subst (RefersToEach (view c.release.new.hand)) (sym c.remove-item.ensures.items)
          (kept_without (view c.args.hand.now) (view c.read.new.hand) (view c.release.new.hand) c.args.kept.now.items c.in-Some.place c.remove-item.result there.there c.remove-item.ensures.value
          c.requires.keeping.keeps c.in-Ok.ensures.holdings c.release.ensures.keeps c.release.ensures.holdings);
    }

pub returns-clause-answers : goal.returns-clause-answers
returns-clause-answers c =
    let before = view c.args.hand.now in
    let kept = c.args.kept.now.items in
    let item = c.remove-item.result in
    let there : IsLastAt c.args.key kept c.in-Some.place = subst (λ (l : List Ref). IsLastAt c.args.key l c.in-Some.place) c.deref.ensures.value c.in-Some.ensures.last in
    let index : c.index.result.now ≡ item = c.index.ensures ∙ (get_or_default kept c.in-Some.place c.index.result.now item there.there ∙ sym c.remove-item.ensures.value) in
    let left = ap (kept_references (view c.release.new.hand)) c.remove-item.ensures.items
    ∙ holds_without before (view c.read.new.hand) (view c.release.new.hand) kept c.in-Some.place item there.there c.remove-item.ensures.value
    c.requires.keeping.keeps c.in-Ok.ensures.holdings c.release.ensures.keeps c.release.ensures.holdings in
    record {
      last = hold_of before item;
      is = subst (IsLastOf c.args.key (kept_references before kept) (hold_of before item)) (sym left)
          (subst (λ (r : Ref). IsLastOf c.args.key (kept_references before kept) (hold_of before r) (kept_references before (take c.in-Some.place kept ++ drop (suc c.in-Some.place) kept))) (sym c.remove-item.ensures.value)
          (last_held c.args.key before kept c.in-Some.place item there));
      are = c.in-Ok.ensures.words ∙ ap (item_words before) index;
      released = c.release.ensures.dropped ∙ (ap (chunk_released (item_chunk item)) c.in-Ok.ensures.view ∙ ap (λ (r : Ref). chunk_released (item_chunk item) (words_seen (item_chunk r) 3 (item_len r) before)) index);
    }
