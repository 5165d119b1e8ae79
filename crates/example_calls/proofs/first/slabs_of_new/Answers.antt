use Rattle.std.proofs.Common.{◌∙◌, is_some, ap, subst}
use Rattle.mc_classes.specs.Classes.{IsSound}
use Rattle.mc_pages.specs.Changes.{next_page}
use Rattle.mc_pages.specs.SlabState.{SlabState}
use Rattle.mc_words.specs.hand.View.{Setup, View}
use Rattle.example_calls.proofs.Begun.{lock_free, next_fresh, taken_fresh}
use Rattle.example_calls.proofs.first.slabs_of_new.Goals as goal

pub unreachable-requires : goal.unreachable-requires
unreachable-requires c =
    let view : View = c.args.hand.now.seat.me.0 in
    let now : View = c.try_slabs.new.hand.seat.me.0 in
    let held = c.in-Err.ensures.held in
    held.1 (lock_free view now held.0 (ap (λ (s : Setup). s.hands) c.requires.arena.setup ∙ c.requires.alone) (ap (λ (v : View). v.events) c.requires.new) c.in-Err.ensures.missed held.2)

pub returns-clause-next : goal.returns-clause-next
returns-clause-next c class =
    let view : View = c.args.hand.now.seat.me.0 in
    let now : View = c.try_slabs.new.hand.seat.me.0 in
    let was = c.requires.arena.lawful in
    let slabs : SlabState = c.in-Ok.held.shared in
    let fresh = taken_fresh view now slabs (ap (λ (s : Setup). s.hands) c.requires.arena.setup ∙ c.requires.alone) (ap (λ (v : View). v.events) c.requires.new) c.in-Ok.ensures.taken c.in-Ok.ensures.whole.mine in
    ap (λ (s : SlabState). is_some (next_page s class)) fresh ∙ ap is_some (next_fresh view.setup.table class (subst IsSound was.same_table was.lawful.sized.sound))
