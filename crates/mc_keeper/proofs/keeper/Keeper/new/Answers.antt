use Rattle.std.proofs.Common.{◌≡◌, ℕ, length, replicate, ap, ◌∙◌}
use Rattle.std.proofs.lemmas.List.{length-map}
use Rattle.mc_pages.specs.SlabState.{SlabState, fresh_slabs}
use Rattle.mc_serial_spec.specs.Machine.{with_mode}
use Rattle.mc_keeper.proofs.Counted.{counted_fresh, counted_owned}
use Rattle.mc_serial_spec.proofs.KeptChanges.{kept_fresh}
use Rattle.mc_keeper.proofs.Watched.{watched_fresh}
use Rattle.mc_keeper.proofs.Indexed.{indexed_fresh}
use Rattle.mc_keeper.proofs.keeper.Keeper.new.Goals as goal

pub invariant_of-result : goal.invariant_of-result
invariant_of-result c =
    let slabs : c.set_automove.new.self.state ≡ with_mode (fresh_slabs c.args.table) c.args.mode
    = c.set_automove.ensures.mode ∙ ap (λ (s : SlabState). with_mode s c.args.mode) c.in_ok-slabs.ensures.fresh in
    let dead : c.in_ok-dead.dead ≡ replicate (length c.args.table.sizes) 0 = c.in_ok-dead.ensures.fresh ∙ ap (λ (n : ℕ). replicate n 0) c.count.ensures.count in
    record {
      kept = kept_fresh _ c.args.mode _ _ c.requires.sound slabs c.set_automove.ensures.accounted c.new-7.ensures.empty;
      indexed = indexed_fresh _ _ c.in_ok-index.ensures.empty c.new-7.ensures.empty;
      watched = watched_fresh c.args.table c.args.mode _ _ slabs c.in_ok-decider.ensures;
      counted = rw (slabs, c.new-7.ensures.empty, dead) (counted_owned _ _ _ _ _ _ (counted_fresh _ _ _) (length-map _ _));
      bulk = c.requires.bulk;
    }
