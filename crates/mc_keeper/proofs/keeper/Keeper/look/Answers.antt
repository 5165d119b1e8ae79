use Rattle.std.proofs.Common.{◌≡◌, true, false, Some, ap, sym, ◌∙◌, refl}
use Rattle.mc_serial_spec.specs.Holds.{is_held}
use Rattle.mc_serial_spec.specs.Items.{item_in_chunk}
use Rattle.mc_serial_spec.specs.Machine.{Machine, is_dead_in, has_unheld_linked_item}
use Rattle.mc_serial_spec.proofs.MoverSaves.{busy_if_held, dead_if_unlinked, idle_if_linked, looked_with_item, not_dead}
use Rattle.mc_keeper.proofs.keeper.Keeper.look.Goals as goal

pub returns-then-is_held-clause-looked : goal.returns-then-is_held-clause-looked
returns-then-is_held-clause-looked c =
    let held : is_held c.args.self.now.holds c.args.chunk ≡ true = ap (λ (m : Machine). is_held m.holds c.args.chunk) (sym c.self.view_is) ∙ sym c.is_held.ensures.held ∙ c.if-is_held.true in
    looked_with_item _ _ c.args.class c.args.chunk c.in-Some.item.now c.self.invariant.kept c.self.view_is c.requires.class c.requires.cut (sym c.in-Some.ensures.value)
    ∙ busy_if_held c.args.self.now c.args.class c.args.chunk held

pub returns-then-is_linked-clause-looked : goal.returns-then-is_linked-clause-looked
returns-then-is_linked-clause-looked c =
    let free : is_held c.args.self.now.holds c.args.chunk ≡ false = ap (λ (m : Machine). is_held m.holds c.args.chunk) (sym c.self.view_is) ∙ sym c.is_held.ensures.held ∙ c.if-is_held.false in
    let there : item_in_chunk c.args.self.now.items c.args.chunk ≡ Some c.in-Some.item.now = ap (λ (m : Machine). item_in_chunk m.items c.args.chunk) (sym c.self.view_is) ∙ sym c.in-Some.ensures.value in
    let idle : has_unheld_linked_item c.args.self.now c.args.chunk ≡ true = idle_if_linked c.args.self.now c.args.chunk c.in-Some.item.now there free (sym c.is_linked-is_linked.ensures.linked ∙ c.if-is_linked.true) in
    let alive : is_dead_in c.args.self.now c.args.chunk ≡ false = not_dead c.args.self.now c.args.chunk idle in
    rw (looked_with_item _ _ c.args.class c.args.chunk c.in-Some.item.now c.self.invariant.kept c.self.view_is c.requires.class c.requires.cut (sym c.in-Some.ensures.value), alive, idle) c.save.ensures.saved

pub returns-clause-looked : goal.returns-clause-looked
returns-clause-looked c =
    let free : is_held c.args.self.now.holds c.args.chunk ≡ false = ap (λ (m : Machine). is_held m.holds c.args.chunk) (sym c.self.view_is) ∙ sym c.is_held.ensures.held ∙ c.if-is_held.false in
    let there : item_in_chunk c.args.self.now.items c.args.chunk ≡ Some c.in-Some.item.now = ap (λ (m : Machine). item_in_chunk m.items c.args.chunk) (sym c.self.view_is) ∙ sym c.in-Some.ensures.value in
    let dead : is_dead_in c.args.self.now c.args.chunk ≡ true = dead_if_unlinked c.args.self.now c.args.chunk c.in-Some.item.now there free (sym c.is_linked-is_linked.ensures.linked ∙ c.if-is_linked.false) in
    looked_with_item _ _ c.args.class c.args.chunk c.in-Some.item.now c.self.invariant.kept c.self.view_is c.requires.class c.requires.cut (sym c.in-Some.ensures.value)
    ∙ rw (dead, c.clear.ensures.cleared) refl
