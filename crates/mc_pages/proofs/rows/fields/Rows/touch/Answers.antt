use Rattle.std.proofs.Common.{◌≤◌, [], ◌∷◌, ◌++◌, refl, arith}
use Rattle.mc_pages.specs.declared.rows.ListName.TheVariants.{HandedOut}
use Rattle.mc_pages.specs.ClassState.{times_in, without, class_after_touch}
use Rattle.mc_pages.specs.Linked.{list_chunks}
use Rattle.mc_pages.proofs.Chunks.{times_from_Contains, length-without}
use Rattle.mc_pages.proofs.RowFields.{IsRow-sizes}
use Rattle.mc_pages.proofs.ClassRows.{unlisted, length-changed, became_handed_out, became_then}
use Rattle.mc_pages.proofs.rows.fields.Rows.touch.Goals as goal
use Rattle.mc_pages.proofs.rows.fields.Rows.touch.Goals.{Start}

-- the chunk is handed out
handed : (c : Start) → 1 ≤ times_in c.args.chunk (list_chunks c.args.self.now (HandedOut c.args.class))
handed c = times_from_Contains c.args.chunk (list_chunks c.args.self.now (HandedOut c.args.class)) c.requires.handed_out

pub put_last-requires-clause-row : goal.put_last-requires-clause-row
put_last-requires-clause-row c =
    IsRow-sizes c.args.self.now c.unlink.new.self c.args.chunk c.unlink.ensures.sizes (c.requires.linked.placed (HandedOut c.args.class) c.args.chunk (handed (goal.at.put_last-requires-clause-row c).Start))

pub put_last-requires-clause-unlisted : goal.put_last-requires-clause-unlisted
put_last-requires-clause-unlisted c =
    unlisted c.args.self.now c.unlink.new.self (HandedOut c.args.class) c.args.chunk c.requires.linked (handed (goal.at.put_last-requires-clause-unlisted c).Start) c.unlink.ensures.lists

pub put_last-requires-clause-below : goal.put_last-requires-clause-below
put_last-requires-clause-below c =
    let there = handed (goal.at.put_last-requires-clause-below c).Start in
    omega (arith, length-changed c.args.self.now _ (HandedOut c.args.class) _ c.unlink.ensures.linked c.unlink.ensures.lists, length-without c.args.chunk (list_chunks c.args.self.now (HandedOut c.args.class)) there, c.requires.linked.long (HandedOut c.args.class), c.requires.below)

pub returns-clause-touched : goal.returns-clause-touched
returns-clause-touched c =
    became_then c.args.self.now c.unlink.new.self _ c.args.class (λ state. record state { order = without c.args.chunk state.order }) (λ state. record state { order = state.order ++ c.args.chunk ∷ [] }) (λ state. class_after_touch state c.args.chunk)
    (became_handed_out c.args.self.now _ c.args.class _ _ c.unlink.ensures.sizes c.unlink.ensures.lists (λ state. refl))
    (became_handed_out _ _ c.args.class _ _ c.put_last.ensures.sizes c.put_last.ensures.lists (λ state. refl))
    (λ state. refl) c.put_last.ensures.linked
