use Rattle.std.proofs.Common.{◌≤◌, refl, arith, ap}
use Rattle.mc_pages.specs.declared.rows.ListName.TheVariants.{Free, HandedOut}
use Rattle.mc_pages.specs.ClassState.{times_in, without, with_before, class_after_replacement}
use Rattle.mc_pages.specs.Linked.{list_chunks}
use Rattle.mc_pages.proofs.Chunks.{times_from_Contains}
use Rattle.mc_pages.proofs.RowFields.{IsRow-sizes}
use Rattle.mc_pages.proofs.ClassRows.{handed_out≢free, unlisted, changed-other, length-kept, became_free, became_handed_out, became_then}
use Rattle.mc_pages.proofs.rows.fields.Rows.replace.Goals as goal
use Rattle.mc_pages.proofs.rows.fields.Rows.replace.Goals.{Start}

-- the new chunk is free
is_free : (c : Start) → 1 ≤ times_in c.args.new (list_chunks c.args.self.now (Free c.args.class))
is_free c = times_from_Contains c.args.new (list_chunks c.args.self.now (Free c.args.class)) c.requires.free

pub put_before-requires-clause-row : goal.put_before-requires-clause-row
put_before-requires-clause-row c =
    IsRow-sizes c.args.self.now c.unlink.new.self c.args.new c.unlink.ensures.sizes (c.requires.linked.placed (Free c.args.class) c.args.new (is_free (goal.at.put_before-requires-clause-row c).Start))

pub put_before-requires-clause-unlisted : goal.put_before-requires-clause-unlisted
put_before-requires-clause-unlisted c =
    unlisted c.args.self.now c.unlink.new.self (Free c.args.class) c.args.new c.requires.linked (is_free (goal.at.put_before-requires-clause-unlisted c).Start) c.unlink.ensures.lists

pub put_before-requires-clause-there : goal.put_before-requires-clause-there
put_before-requires-clause-there c =
    let before = times_from_Contains c.args.old (list_chunks c.args.self.now (HandedOut c.args.class)) c.requires.handed_out in
    let kept = changed-other (list_chunks c.args.self.now) _ (Free c.args.class) (HandedOut c.args.class) _ (handed_out≢free c.args.class c.args.class) c.unlink.ensures.lists in
    omega (arith, before, ap (times_in c.args.old) kept)

pub put_before-requires-clause-below : goal.put_before-requires-clause-below
put_before-requires-clause-below c =
    omega (arith, length-kept c.args.self.now _ (Free c.args.class) (HandedOut c.args.class) _ c.requires.linked c.unlink.ensures.linked (handed_out≢free c.args.class c.args.class) c.unlink.ensures.lists, c.requires.below)

pub returns-clause-replaced : goal.returns-clause-replaced
returns-clause-replaced c =
    became_then c.args.self.now c.unlink.new.self _ c.args.class (λ state. record state { free = without c.args.new state.free }) (λ state. record state { order = with_before c.args.new c.args.old state.order }) (λ state. class_after_replacement state c.args.new c.args.old)
    (became_free c.args.self.now _ c.args.class _ _ c.unlink.ensures.sizes c.unlink.ensures.lists (λ state. refl))
    (became_handed_out _ _ c.args.class _ _ c.put_before.ensures.sizes c.put_before.ensures.lists (λ state. refl))
    (λ state. refl) c.put_before.ensures.linked
