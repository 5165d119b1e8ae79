use Rattle.std.proofs.Common.{rules, ◌≡◌, List, position, reverse, ap, ◌∙◌}
use borrow.Author.Tests.{tests}
use Rattle.std.proofs.lemmas.Iterator.Search.{position_from_yields_List}
use Rattle.std.proofs.lemmas.Iterator.Adapters.{YieldsList-from_rev_slice}
use Rattle.mc_pages.specs.declared.ids.ChunkId.{ChunkId}
use Rattle.mc_serial_spec.specs.Items.{has_key}
use Rattle.mc_serial_spec.specs.Holds.{held_by}
use Rattle.mc_serial_spec.specs.Machine.{Machine}
use Rattle.mc_keeper.proofs.keeper.Keeper.place_held.Goals as goal

pub returns : goal.returns
returns c =
    let found = position_from_yields_List (has_key c.args.self.now.items c.args.key) _ _ _ c.position.ensures.ran
    (YieldsList-from_rev_slice c.of.result.now (cc)) (λ x b q k. search (rules, tests)) in
    let held : reverse c.of.result.now ≡ held_by c.args.self.now.holds c.args.worker
    = c.of.ensures.chunks ∙ ap (λ (m : Machine). held_by m.holds c.args.worker) c.self.view_is in
    record {
      place = found ∙ ap (λ (chunks : List ChunkId). position (has_key c.args.self.now.items c.args.key) chunks) held;
    }
