use Rattle.std.proofs.Common.{◌≡◌, ◌-◌, ℕ, true, refl, ap, sym, subst, arith, length, ◌∙◌}
use Rattle.mc_pages.specs.Accounted.{truth}
use Rattle.mc_core.specs.model.Codes.{word_minus}
use Rattle.mc_core.specs.model.State.{has_chunk}
use Rattle.mc_core.specs.declared.event.Step.TheVariants as core
use Rattle.mc_words.specs.hand.View.{View, Setup}
use Rattle.mc_words.specs.rule.Layout.{head_word}
use Rattle.mc_words.specs.hand.Tallies.{fresh_count}
use Rattle.mc_words.specs.rule.Happens.{MayWrite}
use Rattle.mc_words.proofs.Pages.Owners.{one_less}
use Rattle.mc_words.proofs.Items.Releases.{held_is_near, may_release, released_chunk}
use Rattle.mc_words.proofs.Locks.Locked.{noted_same}
use Rattle.mc_words.proofs.Hands.Tallies.{fresh_less, tallied_fresh}
use Rattle.mc_words.proofs.arena.Arena.release.Goals as goal

pub head_word-word-requires : goal.head_word-word-requires
head_word-word-requires c =
    let ref = c.requires.reference in
    let arena = c.requires.arena in
    record { in_range = subst (λ (s : Setup). has_chunk s.table c.args.reference.chunk ≡ true) arena.setup (held_is_near c.args.hand.now.seat.me.0 arena.lawful c.args.reference.chunk ref.holding ref.found) }

pub subtract-found-requires : goal.subtract-found-requires
subtract-found-requires c =
    let ref = c.requires.reference in
    let arena = c.requires.arena in
    let view = c.args.hand.now.seat.me.0 in
    let in_range = held_is_near view arena.lawful c.args.reference.chunk ref.holding ref.found in
    let place : c.head_word-word.result ≡ head_word view.setup c.args.reference.chunk = c.head_word-word.ensures.word ∙ ap (λ (s : Setup). head_word s c.args.reference.chunk) (sym arena.setup) in
    (refl, (refl, (c.head_word-word.ensures.in_range, (arena, subst (λ (n : ℕ). MayWrite view (core.Release c.args.reference.chunk) n (word_minus 1)) (sym place) (may_release view c.args.reference.chunk ref.holding in_range ref.found ref.linked)))))

pub invariant_of-hand : goal.invariant_of-hand
invariant_of-hand c =
    let a = c.args.hand.now in
    let is = released_chunk a.seat.me.0 c.subtract-found.new.seat.me.0 c.args.reference.chunk c.subtract-found.ensures.happens in
    let less = one_less c.args.reference.chunk a.seat.me.0.row.holdings c.requires.reference.holding c.requires.reference.found in
    let count = a.noted.2 in
    let fills = a.tallied.1 in
    let fewer = fresh_less c.args.reference.chunk a.seat.me.0.row.holdings c.requires.reference.holding c.requires.reference.found in
    let kind = ap truth c.requires.reference.linked in
    record { noted = noted_same a.seat.me c.subtract-found.new.seat.me a.number a.chunks (a.chunks - 1) a.locks a.noted c.subtract-found.ensures.out c.subtract-found.ensures.hand ((omega arith) ∙ ap (λ (v : View). length v.row.holdings) (sym is)); tallied = tallied_fresh a.seat.me c.subtract-found.new.seat.me a.stamps a.fresh a.fresh a.tallied (ap (λ (v : View). v.row.ids) is) ((omega arith) ∙ ap (λ (v : View). fresh_count v.row.holdings) (sym is)) }

pub returns-clause-dropped : goal.returns-clause-dropped
returns-clause-dropped c = released_chunk c.args.hand.now.seat.me.0 c.subtract-found.new.seat.me.0 c.args.reference.chunk c.subtract-found.ensures.happens
