use Rattle.std.proofs.Common.{◌≡◌, Option, ap, ◌∙◌, arith}
use Rattle.std.specs.Option.{option_map}
use Rattle.std.proofs.lemmas.Option.{none-some, same_Some}
use Rattle.mc_serial_spec.specs.Item.{Item}
use Rattle.mc_serial_spec.proofs.KeptMoverClear.{cleared_after, idle_here, handed_item, kept_cleared}
use Rattle.mc_keeper.proofs.Watched.{watched-clear}
use Rattle.std.proofs.lemmas.List.{length-set}
use Rattle.mc_keeper.proofs.Counted.{counted_gone}
use Rattle.mc_keeper.proofs.keeper.Keeper.evict_moving.Goals.{in-Some, in_default}
use Rattle.mc_keeper.proofs.Indexed.{indexed_gone}
use Rattle.mc_keeper.proofs.keeper.Keeper.evict_moving.Goals as goal

pub clear-requires-clause-listed : goal.clear-requires-clause-listed
clear-requires-clause-listed c =
    let found = idle_here _ _ c.args.chunk c.self.view_is c.requires.unheld in
    let handed = handed_item _ _ _ c.args.chunk found.0 c.self.invariant.kept found.1 in
    elim c.match-remove.branch [
      | in-Some w ↦ rw w.self-inside-is (omega (arith, handed))
      | in_default w ↦ rw w.self-inside-is (omega (arith, handed))
    ]

pub invariant_of-self : goal.invariant_of-self
invariant_of-self c =
    let found = idle_here _ _ c.args.chunk c.self.view_is c.requires.unheld in
    elim c.match-remove.branch [
      | in-Some w ↦
          let key : w.in-Some.key ≡ found.0.key
          = same_Some w.in-Some.key found.0.key (w.in-Some.ensures.key ∙ ap (λ (o : Option Item). option_map (λ (item : Item). item.key) o) found.1) in
          let cleared = rw w.self-inside-is at c.clear.ensures.cleared in
          rw (cleared, w.self-inside-is) (record {
            kept = rw c.remove.ensures.entries (kept_cleared _ _ _ c.args.chunk found.0 c.self.invariant.kept found.1
                (rw cleared at c.clear.ensures.accounted));
            indexed = rw c.remove.ensures.entries
                (indexed_gone _ _ _ c.args.chunk found.0 w.in-Some.key c.self.invariant.indexed c.self.invariant.kept.one_link found.1 found.2 key w.remove-in-Some.ensures.led);
            watched = watched-clear c.self.inside.slabs.state _ c.self.invariant.watched c.args.chunk;
            counted = rw c.remove.ensures.entries (counted_gone _ _ _ _ _ _ c.args.chunk found.0 c.self.invariant.counted (length-set c.self.inside.slabs.state.classes _ _) found.1 found.2);
            bulk = c.self.invariant.bulk;
          })
      | in_default w ↦ absurd (none-some found.0.key (w.in_default.ensures.key ∙ ap (λ (o : Option Item). option_map (λ (item : Item). item.key) o) found.1))
    ]

pub returns-clause-clears : goal.returns-clause-clears
returns-clause-clears c =
    let found = idle_here _ _ c.args.chunk c.self.view_is c.requires.unheld in
    let handed = handed_item _ _ _ c.args.chunk found.0 c.self.invariant.kept found.1 in
    elim c.match-remove.branch [
      | in-Some w ↦
          let cleared = rw w.self-inside-is at c.clear.ensures.cleared in
          rw (← c.self.view_is, cleared)
          (cleared_after c.self.inside.slabs.state c.args.chunk c.self.invariant.kept.accounted (rw cleared at c.clear.ensures.accounted) (omega (arith, handed)))
      | in_default w ↦ absurd (none-some found.0.key (w.in_default.ensures.key ∙ ap (λ (o : Option Item). option_map (λ (item : Item). item.key) o) found.1))
    ]
