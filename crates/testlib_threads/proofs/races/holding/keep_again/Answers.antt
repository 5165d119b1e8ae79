use Rattle.std.proofs.Common.{List, [], ◌∷◌, ◌++◌, ap, sym, subst, ◌∙◌}
use Rattle.mc_words.specs.hand.Arenas.{view}
use Rattle.mc_items.specs.ItemRefs.{RefersToEach}
use Rattle.mc_items.specs.declared.refs.Ref.{Ref}
use Rattle.testlib_threads.proofs.KeptRefs.{kept_beside, kept_too}
use Rattle.testlib_threads.proofs.races.holding.keep_again.Goals as goal

-- one more is kept
pub returns-in-Ok-again : goal.returns-in-Ok-again
returns-in-Ok-again c =
    let before = view c.args.hand.now in
    let now = view c.again.new.hand in
    let item = c.in-Ok-again.item in
    let items = c.push_reserved.ensures.items ∙ ap (λ (l : List Ref). l ++ item ∷ []) c.reserve.ensures.items in
    record { keeper = ((c.again.ensures.hand.arena, c.again.ensures.hand.ready), subst (RefersToEach now) (sym items) (kept_too before now c.args.kept.now.items item c.requires.keeper.1 c.again.ensures.keeps c.in-Ok-again.ensures.holdings c.in-Ok-again.ensures.item)) }

-- nothing more is kept
pub returns-in-Err : goal.returns-in-Err
returns-in-Err c =
    let before = view c.args.hand.now in
    let now = view c.again.new.hand in
    record { keeper = ((c.again.ensures.hand.arena, c.again.ensures.hand.ready), subst (RefersToEach now) (sym c.reserve.ensures.items) (kept_beside before now c.args.kept.now.items c.requires.keeper.1 (record { same = c.in-Err.ensures.no_more; references = c.again.ensures.keeps }))) }
