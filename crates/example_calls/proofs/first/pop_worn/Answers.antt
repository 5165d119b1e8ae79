use Rattle.std.proofs.Common.{◌≡◌, ◌∙◌, ℕ, Option, IfSome, ap, subst}
use Rattle.mc_pages.specs.Changes.{after_pop}
use Rattle.mc_pages.specs.SlabState.{SlabState}
use Rattle.mc_core.specs.model.State.{is_class}
use Rattle.mc_words.specs.page.Owner.{PopsFirst}
use Rattle.mc_words.specs.hand.View.{Setup, View}
use Rattle.mc_words.specs.declared.hand.held.Fresh.{Fresh}
use Rattle.example_calls.proofs.Rising.{none_popped}
use Rattle.example_calls.proofs.first.pop_worn.Goals as goal

pub unreachable-requires : goal.unreachable-requires
unreachable-requires c =
    let view : View = c.args.hand.now.seat.me.0 in
    let now : View = c.pop.new.hand.seat.me.0 in
    let slabs : SlabState = c.args.held.now.shared in
    let class : ℕ = c.args.class in
    let same = c.requires.arena.setup in
    let popped = subst (λ (o : Option Fresh). IfSome o (λ fresh. PopsFirst view slabs class fresh.chunk now × (c.pop.new.held.shared ≡ after_pop slabs class))) c.in-Ok-Some.field-0-is c.in-Ok-Some.ensures.popped in
    none_popped view now slabs class c.in-Ok-Some.fresh.chunk c.requires.arena.lawful c.requires.held (ap (λ (s : Setup). is_class s.table class) same ∙ c.requires.class)
    (ap (λ (s : Setup). s.start) same ∙ c.requires.worn) popped.0
