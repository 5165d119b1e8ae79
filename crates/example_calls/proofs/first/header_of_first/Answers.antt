use Rattle.std.proofs.Common.{◌≡◌, ◌<◌, ◌≤◌, ◌∙◌, ℕ, [], Option, IfSome, ap, subst}
use Rattle.mc_pages.specs.Changes.{after_pop}
use Rattle.mc_pages.specs.declared.ids.ChunkId.{ChunkId}
use Rattle.mc_pages.specs.SlabState.{SlabState}
use Rattle.mc_core.specs.run.Chunks.{most_issue}
use Rattle.mc_core.specs.model.Head.{code, decode}
use Rattle.mc_core.specs.declared.event.Step.TheVariants as step
use Rattle.mc_core.specs.model.State.{is_class}
use Rattle.mc_words.specs.rule.Happens.{Happens}
use Rattle.mc_words.specs.page.Owner.{PopsFirst}
use Rattle.mc_words.specs.hand.View.{Setup, View}
use Rattle.mc_words.specs.hand.Views.{head_seen}
use Rattle.mc_words.specs.declared.hand.held.Fresh.{Fresh}
use Rattle.example_calls.specs.Preparing.{first_out}
use Rattle.example_calls.proofs.Popped.{header_is, start_left, worn_start}
use Rattle.example_calls.proofs.first.header_of_first.Goals as goal

pub returns-in-Ok-Some-clause-header : goal.returns-in-Ok-Some-clause-header
returns-in-Ok-Some-clause-header c =
    let view : View = c.args.hand.now.seat.me.0 in
    let now : View = c.pop.new.hand.seat.me.0 in
    let slabs : SlabState = c.args.held.now.shared in
    let class : ℕ = c.args.class in
    let same = c.requires.arena.setup in
    let popped = subst (λ (o : Option Fresh). IfSome o (λ fresh. PopsFirst view slabs class fresh.chunk now × (c.pop.new.held.shared ≡ after_pop slabs class))) c.in-Ok-Some.field-0-is c.in-Ok-Some.ensures.popped in
    header_is view now slabs class c.in-Ok-Some.fresh.chunk c.requires.arena.lawful c.requires.held (ap (λ (s : Setup). is_class s.table class) same ∙ c.requires.class)
    (ap (λ (s : Setup). s.hands) same ∙ c.requires.alone) c.requires.before popped.0 c.head-word.new.hand.seat.me.0 c.head-word.result
    (subst (λ (chunk : ChunkId). Happens now [] (step.Head chunk) c.head-word.new.hand.seat.me.0) c.chunk.ensures.chunk c.head-word.ensures.happens)
    (c.head-word.ensures.seen ∙ ap (λ (chunk : ChunkId). head_seen chunk (decode c.head-word.result) now) c.chunk.ensures.chunk)
    ∙ ap (λ (s : Setup). code (first_out s.start)) same

pub returns-in-Ok-Some-clause-unused : goal.returns-in-Ok-Some-clause-unused
returns-in-Ok-Some-clause-unused c =
    let view : View = c.args.hand.now.seat.me.0 in
    let now : View = c.pop.new.hand.seat.me.0 in
    let slabs : SlabState = c.args.held.now.shared in
    let class : ℕ = c.args.class in
    let same = c.requires.arena.setup in
    let popped = subst (λ (o : Option Fresh). IfSome o (λ fresh. PopsFirst view slabs class fresh.chunk now × (c.pop.new.held.shared ≡ after_pop slabs class))) c.in-Ok-Some.field-0-is c.in-Ok-Some.ensures.popped in
    subst (λ (s : Setup). s.start < most_issue) same
    (start_left view now slabs class c.in-Ok-Some.fresh.chunk c.requires.arena.lawful c.requires.held (ap (λ (s : Setup). is_class s.table class) same ∙ c.requires.class)
    (ap (λ (s : Setup). s.hands) same ∙ c.requires.alone) c.requires.before popped.0)

pub returns-in-Err-clause-worn : goal.returns-in-Err-clause-worn
returns-in-Err-clause-worn c =
    let view : View = c.args.hand.now.seat.me.0 in
    let class : ℕ = c.args.class in
    let same = c.requires.arena.setup in
    subst (λ (s : Setup). most_issue ≤ s.start) same
    (worn_start view c.pop.new.hand.seat.me.0 c.args.held.now.shared class c.requires.arena.lawful c.requires.held (ap (λ (s : Setup). is_class s.table class) same ∙ c.requires.class)
    (ap (λ (s : Setup). s.hands) same ∙ c.requires.alone) c.requires.before c.in-Err.ensures.worn.0)
