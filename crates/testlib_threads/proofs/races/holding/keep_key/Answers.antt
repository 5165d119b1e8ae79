use Rattle.std.proofs.Common.{List, [], ◌∷◌, ◌++◌, Option, IfSome, ap, sym, subst, ◌∙◌}
use Rattle.mc_words.specs.hand.Arenas.{view}
use Rattle.mc_items.specs.declared.refs.Ref.{Ref}
use Rattle.mc_items.specs.ItemRefs.{RefersToEach, IsItemRef}
use Rattle.mc_items.specs.Keeping.{HoldsToo}
use Rattle.testlib_threads.proofs.KeptRefs.{kept_beside, kept_too}
use Rattle.testlib_threads.proofs.races.holding.keep_key.Goals as goal

-- one more is kept
pub returns-in-Ok-Some-clause-keeper : goal.returns-in-Ok-Some-clause-keeper
returns-in-Ok-Some-clause-keeper g c =
    let before = view c.args.hand.now in
    let now = view c.item_of.new.hand in
    let item = c.in-Ok-Some.item in
    let gained = subst (λ (o : Option Ref). HoldsToo o before now) c.in-Ok-Some.field-0-is c.in-Ok-Some.ensures.holdings in
    let is = subst (λ (o : Option Ref). IfSome o (λ item. IsItemRef now item)) c.in-Ok-Some.field-0-is c.in-Ok-Some.ensures.item in
    let items = c.push_reserved.ensures.items ∙ ap (λ (l : List Ref). l ++ item ∷ []) c.reserve.ensures.items in
    (c.item_of.ensures.arena, subst (RefersToEach now) (sym items) (kept_too before now c.args.kept.now.items item c.requires.keeper.1 c.item_of.ensures.keeps gained is))

-- nothing more is kept
pub returns-in-Ok-None-clause-keeper : goal.returns-in-Ok-None-clause-keeper
returns-in-Ok-None-clause-keeper g c =
    let before = view c.args.hand.now in
    let now = view c.item_of.new.hand in
    let same = subst (λ (o : Option Ref). HoldsToo o before now) c.in-Ok-None.field-0-is c.in-Ok-None.ensures.holdings in
    (c.item_of.ensures.arena, subst (RefersToEach now) (sym c.reserve.ensures.items) (kept_beside before now c.args.kept.now.items c.requires.keeper.1 (record { same = same; references = c.item_of.ensures.keeps })))

pub returns-in-Err-clause-keeper : goal.returns-in-Err-clause-keeper
returns-in-Err-clause-keeper g c =
    let before = view c.args.hand.now in
    let now = view c.item_of.new.hand in
    (c.item_of.ensures.arena, subst (RefersToEach now) (sym c.reserve.ensures.items) (kept_beside before now c.args.kept.now.items c.requires.keeper.1 (record { same = c.in-Err.ensures.no_more; references = c.item_of.ensures.keeps })))
