use Rattle.std.proofs.Common.{[], ◌∷◌, ◌++◌, refl, sym, ◌∙◌, arith}
use Rattle.mc_pages.specs.declared.rows.ListName.TheVariants.{Free, HandedOut}
use Rattle.mc_pages.specs.ClassState.{without, class_after_pop}
use Rattle.mc_pages.specs.Linked.{list_chunks}
use Rattle.mc_pages.specs.ClassRows.{with_lists}
use Rattle.mc_pages.proofs.RowFields.{IsRow-sizes}
use Rattle.mc_pages.proofs.ClassRows.{handed_out≢free, unlisted, length-kept, first_is, first_there, became_free, became_handed_out, became_then, popped_some}
use Rattle.mc_pages.proofs.rows.fields.Rows.pop.Goals as goal

pub unlink-requires-clause-there : goal.unlink-requires-clause-there
unlink-requires-clause-there c = first_there c.in-Some.head (list_chunks c.args.self.now (Free c.args.class)) (sym (first_is c.args.self.now (Free c.args.class) c.requires.linked) ∙ (sym c.get.ensures ∙ c.in-Some.is))

pub put_last-requires-clause-row : goal.put_last-requires-clause-row
put_last-requires-clause-row c =
    let there = first_there c.in-Some.head (list_chunks c.args.self.now (Free c.args.class)) (sym (first_is c.args.self.now (Free c.args.class) c.requires.linked) ∙ (sym c.get.ensures ∙ c.in-Some.is)) in
    IsRow-sizes c.args.self.now c.unlink.new.self c.in-Some.head c.unlink.ensures.sizes (c.requires.linked.placed (Free c.args.class) c.in-Some.head there)

pub put_last-requires-clause-unlisted : goal.put_last-requires-clause-unlisted
put_last-requires-clause-unlisted c =
    let there = first_there c.in-Some.head (list_chunks c.args.self.now (Free c.args.class)) (sym (first_is c.args.self.now (Free c.args.class) c.requires.linked) ∙ (sym c.get.ensures ∙ c.in-Some.is)) in
    unlisted c.args.self.now c.unlink.new.self (Free c.args.class) c.in-Some.head c.requires.linked there c.unlink.ensures.lists

pub put_last-requires-clause-below : goal.put_last-requires-clause-below
put_last-requires-clause-below c =
    omega (arith, length-kept c.args.self.now _ (Free c.args.class) (HandedOut c.args.class) _ c.requires.linked c.unlink.ensures.linked (handed_out≢free c.args.class c.args.class) c.unlink.ensures.lists, c.requires.below)

pub returns-clause-chunk : goal.returns-clause-chunk
returns-clause-chunk c = sym (sym (first_is c.args.self.now (Free c.args.class) c.requires.linked) ∙ (sym c.get.ensures ∙ c.in-Some.is))

pub returns-clause-popped : goal.returns-clause-popped
returns-clause-popped c =
    let at = sym (first_is c.args.self.now (Free c.args.class) c.requires.linked) ∙ (sym c.get.ensures ∙ c.in-Some.is) in
    became_then c.args.self.now c.unlink.new.self _ c.args.class (λ state. record state { free = without c.in-Some.head state.free }) (λ state. record state { order = state.order ++ c.in-Some.head ∷ [] }) class_after_pop
    (became_free c.args.self.now _ c.args.class _ _ c.unlink.ensures.sizes c.unlink.ensures.lists (λ state. refl))
    (became_handed_out _ _ c.args.class _ _ c.put_last.ensures.sizes c.put_last.ensures.lists (λ state. refl))
    (λ state. popped_some (with_lists state c.args.self.now c.args.class) c.in-Some.head at) c.put_last.ensures.linked
