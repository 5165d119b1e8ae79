use Rattle.std.proofs.Common.{◌≤◌, ◌∷◌, refl, arith}
use Rattle.mc_pages.specs.declared.rows.ListName.TheVariants.{Free, HandedOut}
use Rattle.mc_pages.specs.ClassState.{times_in, without, put_back}
use Rattle.mc_pages.specs.Linked.{list_chunks}
use Rattle.mc_pages.proofs.Chunks.{times_from_Contains}
use Rattle.mc_pages.proofs.RowFields.{IsRow-sizes}
use Rattle.mc_pages.proofs.ClassRows.{free≢handed_out, unlisted, length-kept, became_free, became_handed_out, became_then}
use Rattle.mc_pages.proofs.rows.fields.Rows.back.Goals as goal
use Rattle.mc_pages.proofs.rows.fields.Rows.back.Goals.{Start}

-- the chunk is handed out
handed : (c : Start) → 1 ≤ times_in c.args.chunk (list_chunks c.args.self.now (HandedOut c.args.class))
handed c = times_from_Contains c.args.chunk (list_chunks c.args.self.now (HandedOut c.args.class)) c.requires.handed_out

pub put_first-requires-clause-row : goal.put_first-requires-clause-row
put_first-requires-clause-row c =
    IsRow-sizes c.args.self.now c.unlink.new.self c.args.chunk c.unlink.ensures.sizes (c.requires.linked.placed (HandedOut c.args.class) c.args.chunk (handed (goal.at.put_first-requires-clause-row c).Start))

pub put_first-requires-clause-unlisted : goal.put_first-requires-clause-unlisted
put_first-requires-clause-unlisted c =
    unlisted c.args.self.now c.unlink.new.self (HandedOut c.args.class) c.args.chunk c.requires.linked (handed (goal.at.put_first-requires-clause-unlisted c).Start) c.unlink.ensures.lists

pub put_first-requires-clause-below : goal.put_first-requires-clause-below
put_first-requires-clause-below c =
    omega (arith, length-kept c.args.self.now _ (HandedOut c.args.class) (Free c.args.class) _ c.requires.linked c.unlink.ensures.linked (free≢handed_out c.args.class c.args.class) c.unlink.ensures.lists, c.requires.below)

pub returns-clause-back : goal.returns-clause-back
returns-clause-back c =
    became_then c.args.self.now c.unlink.new.self _ c.args.class (λ state. record state { order = without c.args.chunk state.order }) (λ state. record state { free = c.args.chunk ∷ state.free }) (λ state. put_back state c.args.chunk)
    (became_handed_out c.args.self.now _ c.args.class _ _ c.unlink.ensures.sizes c.unlink.ensures.lists (λ state. refl))
    (became_free _ _ c.args.class _ _ c.put_first.ensures.sizes c.put_first.ensures.lists (λ state. refl))
    (λ state. refl) c.put_first.ensures.linked
