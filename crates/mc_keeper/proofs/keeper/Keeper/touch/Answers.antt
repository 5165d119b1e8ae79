use Rattle.std.proofs.Common.{◌≡◌, Some, sym, ◌∙◌}
use Rattle.mc_serial_spec.proofs.KeptTouch.{leads_to_handed_out, kept_touch}
use Rattle.mc_keeper.proofs.Watched.{watched-touch}
use Rattle.std.proofs.lemmas.List.{length-set}
use Rattle.mc_keeper.proofs.Counted.{counted_owned}
use Rattle.mc_serial_spec.specs.Items.{linked_chunk}
use Rattle.mc_keeper.proofs.keeper.Keeper.touch.Goals as goal

pub touch-requires : goal.touch-requires
touch-requires c =
    let found : linked_chunk c.self.inside.items c.args.key ≡ Some c.in-Some.chunk = sym (c.self.invariant.indexed c.args.key) ∙ sym c.in-Some.ensures.chunk in
    leads_to_handed_out _ _ _ c.args.key c.in-Some.chunk c.self.invariant.kept found

pub invariant_of-self : goal.invariant_of-self
invariant_of-self c =
    let found : linked_chunk c.self.inside.items c.args.key ≡ Some c.in-Some.chunk = sym (c.self.invariant.indexed c.args.key) ∙ sym c.in-Some.ensures.chunk in
    record {
      kept = rw c.touch.ensures.touched (kept_touch _ _ _ c.in-Some.chunk c.self.invariant.kept
          (leads_to_handed_out _ _ _ c.args.key c.in-Some.chunk c.self.invariant.kept found)
          (rw c.touch.ensures.touched at c.touch.ensures.accounted));
      watched = rw c.touch.ensures.touched (watched-touch c.self.inside.slabs.state _ c.self.invariant.watched c.in-Some.chunk);
      counted = rw c.touch.ensures.touched (counted_owned _ _ _ _ _ _ c.self.invariant.counted (length-set c.self.inside.slabs.state.classes _ _));
      indexed = c.self.invariant.indexed;
      bulk = c.self.invariant.bulk;
    }
