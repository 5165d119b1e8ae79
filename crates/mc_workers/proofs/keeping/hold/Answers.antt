use Rattle.std.proofs.Common.{◌≡◌, List, [], ◌∷◌, ◌++◌, Option, IfSome, ap, sym, subst, ◌∙◌}
use Rattle.mc_words.specs.hand.Arenas.{setup_of, view}
use Rattle.mc_items.specs.declared.refs.Ref.{Ref}
use Rattle.mc_items.specs.ItemRefs.{RefersToEach, IsItemRef, item_key}
use Rattle.mc_items.specs.Keeping.{HoldsToo}
use Rattle.mc_workers.specs.Kept.{kept_references}
use Rattle.mc_workers.specs.Serving.{FindsForLine}
use Rattle.mc_workers.proofs.KeptRefs.{holds_stay, holds_too, kept_beside, kept_too}
use Rattle.mc_workers.proofs.keeping.hold.Goals as goal

-- one more is kept
pub returns-in-Ok-Some-clause-stays : goal.returns-in-Ok-Some-clause-stays
returns-in-Ok-Some-clause-stays g c =
    let before = view c.args.hand.now in
    let now = view c.get.new.hand in
    let kept = c.args.kept.now.items in
    let item = c.in-Ok-Some.item in
    let gained = subst (λ (o : Option Ref). HoldsToo o before now) c.in-Ok-Some.field-0-is c.in-Ok-Some.ensures.holdings in
    record {
      hand_is = (c.get.ensures.hand.arena, c.get.ensures.hand.ready);
      number = c.get.ensures.hand.number;
      keeps = subst (RefersToEach now) (sym (c.push_reserved.ensures.items ∙ ap (λ (l : List Ref). l ++ item ∷ []) c.reserve.ensures.items))
          (kept_too before now kept item c.requires.keeping.keeps c.get.ensures.keeps gained (subst (λ (o : Option Ref). IfSome o (λ item. IsItemRef now item × (item_key item ≡ c.args.key))) c.in-Ok-Some.field-0-is c.in-Ok-Some.ensures.item).0);
    }

pub returns-in-Ok-Some-clause-answers : goal.returns-in-Ok-Some-clause-answers
returns-in-Ok-Some-clause-answers g c =
    let before = view c.args.hand.now in
    let now = view c.get.new.hand in
    let kept = c.args.kept.now.items in
    let item = c.in-Ok-Some.item in
    record {
      item = item;
      finds = subst (λ (o : Option Ref). FindsForLine (setup_of c.args.arena.now) c.args.key o c.args.hand.now c.get.new.hand) c.in-Ok-Some.field-0-is (c.in-Ok-Some.ensures.gets, c.in-Ok-Some.ensures.calls);
      left_is = ap (kept_references now) (c.push_reserved.ensures.items ∙ ap (λ (l : List Ref). l ++ item ∷ []) c.reserve.ensures.items) ∙ holds_too before now kept item c.requires.keeping.keeps c.get.ensures.keeps;
    }

-- nothing more is kept
pub returns-in-Ok-None-clause-stays : goal.returns-in-Ok-None-clause-stays
returns-in-Ok-None-clause-stays g c =
    let before = view c.args.hand.now in
    let now = view c.get.new.hand in
    let same = subst (λ (o : Option Ref). HoldsToo o before now) c.in-Ok-None.field-0-is c.in-Ok-None.ensures.holdings in
    record {
      hand_is = (c.get.ensures.hand.arena, c.get.ensures.hand.ready);
      number = c.get.ensures.hand.number;
      keeps = subst (RefersToEach now) (sym c.reserve.ensures.items) (kept_beside before now c.args.kept.now.items c.requires.keeping.keeps (record { same = same; references = c.get.ensures.keeps }));
    }

pub returns-in-Ok-None-clause-answers : goal.returns-in-Ok-None-clause-answers
returns-in-Ok-None-clause-answers g c =
    let before = view c.args.hand.now in
    let now = view c.get.new.hand in (
      subst (λ (o : Option Ref). FindsForLine (setup_of c.args.arena.now) c.args.key o c.args.hand.now c.get.new.hand) c.in-Ok-None.field-0-is (c.in-Ok-None.ensures.gets, c.in-Ok-None.ensures.calls),
      ap (kept_references now) c.reserve.ensures.items ∙ holds_stay before now c.args.kept.now.items c.get.ensures.keeps c.requires.keeping.keeps.items,
    )

pub returns-in-Err-NoMemory-clause-stays : goal.returns-in-Err-NoMemory-clause-stays
returns-in-Err-NoMemory-clause-stays g c =
    let before = view c.args.hand.now in
    let now = view c.get.new.hand in
    record {
      hand_is = (c.get.ensures.hand.arena, c.get.ensures.hand.ready);
      number = c.get.ensures.hand.number;
      keeps = subst (RefersToEach now) (sym c.reserve.ensures.items) (kept_beside before now c.args.kept.now.items c.requires.keeping.keeps (record { same = c.in-Err-NoMemory.ensures.no_more; references = c.get.ensures.keeps }));
    }
