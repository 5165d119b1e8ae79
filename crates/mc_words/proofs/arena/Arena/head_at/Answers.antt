use Rattle.std.proofs.Common.{◌≡◌, ℕ, refl, ap, sym, subst, ◌∙◌, length, true, []}
use Rattle.mc_core.specs.past.Past.{header}
use Rattle.mc_core.specs.model.Head.{decode}
use Rattle.mc_core.specs.model.State.{has_chunk}
use Rattle.mc_core.specs.declared.look.Look.TheVariants.{Saw}
use Rattle.mc_core.specs.declared.event.Step.TheVariants as core
use Rattle.mc_words.specs.hand.View.{View, Setup}
use Rattle.mc_words.specs.rule.Layout.{head_word}
use Rattle.mc_words.specs.rule.Happens.{MayWrite, HappensAt}
use Rattle.mc_words.specs.hand.Views.{view_after_sight}
use Rattle.mc_words.proofs.Chunks.Heads.{may_look}
use Rattle.mc_words.proofs.Locks.Locked.{noted_same}
use Rattle.mc_words.proofs.Locks.LockViews.{seen_head, look_holds}
use Rattle.mc_words.proofs.Hands.Tallies.{tallied_same}
use Rattle.mc_words.proofs.arena.Arena.head_at.Goals as goal

pub look-requires : goal.look-requires
look-requires c =
    let arena = c.requires.arena in
    let view = c.args.hand.now.seat.me.0 in
    let in_range : has_chunk view.setup.table c.args.chunk ≡ true = subst (λ (s : Setup). has_chunk s.table c.args.chunk ≡ true) (sym arena.setup) c.requires.in_range in
    let place : c.args.word ≡ head_word view.setup c.args.chunk = c.requires.word ∙ ap (λ (s : Setup). head_word s c.args.chunk) (sym arena.setup) in
    (refl, (refl, (c.requires.within, (arena, subst (λ (n : ℕ). MayWrite view (core.Head c.args.chunk) n (λ found. found)) (sym place) (may_look view c.args.chunk in_range)))))

pub invariant_of-hand : goal.invariant_of-hand
invariant_of-hand c =
    let a = c.args.hand.now in
    let arena = c.requires.arena in
    let view = a.seat.me.0 in
    let in_range : has_chunk view.setup.table c.args.chunk ≡ true = subst (λ (s : Setup). has_chunk s.table c.args.chunk ≡ true) (sym arena.setup) c.requires.in_range in
    let place : c.args.word ≡ head_word view.setup c.args.chunk = c.requires.word ∙ ap (λ (s : Setup). head_word s c.args.chunk) (sym arena.setup) in
    let at = subst (λ (n : ℕ). HappensAt n c.look.result view [] (core.Head c.args.chunk) c.look.new.seat.me.0) place c.look.ensures.happens in
    let is = seen_head view c.look.new.seat.me.0 c.args.chunk c.look.result in_range at in
    let held = ap (λ (v : View). v.row.holdings) is ∙ look_holds (Saw c.args.chunk (decode c.look.result)) (view_after_sight (header c.args.chunk (decode c.look.result)) view) in
    record { noted = noted_same a.seat.me c.look.new.seat.me a.number a.chunks a.chunks a.locks a.noted c.look.ensures.out c.look.ensures.hand (a.noted.2 ∙ ap length (sym held)); tallied = tallied_same a.seat.me c.look.new.seat.me a.stamps a.fresh a.tallied (ap (λ (v : View). v.row.ids) is) (ap (λ (v : View). v.row.holdings) is) }

pub returns-clause-happens : goal.returns-clause-happens
returns-clause-happens c = c.look.ensures.happens.0

pub returns-clause-seen : goal.returns-clause-seen
returns-clause-seen c =
    let arena = c.requires.arena in
    let view = c.args.hand.now.seat.me.0 in
    let in_range : has_chunk view.setup.table c.args.chunk ≡ true = subst (λ (s : Setup). has_chunk s.table c.args.chunk ≡ true) (sym arena.setup) c.requires.in_range in
    let place : c.args.word ≡ head_word view.setup c.args.chunk = c.requires.word ∙ ap (λ (s : Setup). head_word s c.args.chunk) (sym arena.setup) in
    seen_head view c.look.new.seat.me.0 c.args.chunk c.look.result in_range (subst (λ (n : ℕ). HappensAt n c.look.result view [] (core.Head c.args.chunk) c.look.new.seat.me.0) place c.look.ensures.happens)
