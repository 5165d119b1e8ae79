use Rattle.std.proofs.Common.{◌≡◌, List, Some, position, reverse, sym, ap, ◌∙◌, get_or}
use Rattle.mc_pages.specs.declared.ids.ChunkId.{ChunkId}
use Rattle.mc_pages.specs.ClassState.{is_chunk}
use Rattle.mc_serial_spec.specs.Items.{has_key}
use Rattle.mc_serial_spec.specs.Holds.{held_by}
use Rattle.mc_serial_spec.specs.Machine.{Machine}
use Rattle.mc_serial_parts.proofs.FoundHolds.{first_place, none_found}
use Rattle.mc_keeper.proofs.keeper.Keeper.last_hold.Goals as goal

pub returns-in-Some-clause-hold : goal.returns-in-Some-clause-hold
returns-in-Some-clause-hold c =
    let held : reverse c.of.result.now ≡ held_by c.args.self.now.holds c.args.worker
    = c.of.ensures.chunks ∙ ap (λ (m : Machine). held_by m.holds c.args.worker) c.self.view_is in
    let first = first_place (has_key c.args.self.now.items c.args.key) (held_by c.args.self.now.holds c.args.worker) c.in-Some.place c.hold_at.result (sym c.in-Some.ensures.place) in
    sym (first.0 ∙ ap Some (sym (c.hold_at.ensures.chunk c.hold_at.result ∙ ap (λ (chunks : List ChunkId). get_or chunks c.in-Some.place c.hold_at.result) held)))

pub returns-in-Some-clause-first : goal.returns-in-Some-clause-first
returns-in-Some-clause-first c =
    let held : reverse c.of.result.now ≡ held_by c.args.self.now.holds c.args.worker
    = c.of.ensures.chunks ∙ ap (λ (m : Machine). held_by m.holds c.args.worker) c.self.view_is in
    let first = first_place (has_key c.args.self.now.items c.args.key) (held_by c.args.self.now.holds c.args.worker) c.in-Some.place c.hold_at.result (sym c.in-Some.ensures.place) in
    let same = c.hold_at.ensures.chunk c.hold_at.result ∙ ap (λ (chunks : List ChunkId). get_or chunks c.in-Some.place c.hold_at.result) held in
    ap (λ (chunk : ChunkId). position (λ x. is_chunk x chunk) (held_by c.args.self.now.holds c.args.worker)) same ∙ first.1

pub returns-in-None-clause-hold : goal.returns-in-None-clause-hold
returns-in-None-clause-hold c = sym (none_found (has_key c.args.self.now.items c.args.key) (held_by c.args.self.now.holds c.args.worker) (sym c.in-None.ensures.place))
