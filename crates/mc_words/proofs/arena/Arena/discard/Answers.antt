use Rattle.std.proofs.Common.{◌≡◌, ◌-◌, ℕ, true, refl, ap, sym, subst, arith, length, ◌∙◌}
use Rattle.mc_pages.specs.Accounted.{truth}
use Rattle.mc_core.specs.model.Codes.{word_minus}
use Rattle.mc_core.specs.model.State.{has_chunk}
use Rattle.mc_core.specs.declared.event.Step.TheVariants as core
use Rattle.mc_words.specs.hand.View.{View, Setup}
use Rattle.mc_words.specs.rule.Layout.{head_word}
use Rattle.mc_words.specs.hand.Tallies.{fresh_count}
use Rattle.mc_words.specs.rule.Happens.{MayWrite}
use Rattle.mc_words.proofs.Pages.Owners.{may_discard, holding_near, one_less}
use Rattle.mc_words.proofs.Pages.OwnerViews.{discarded_chunk}
use Rattle.mc_words.proofs.Locks.Locked.{noted_same}
use Rattle.mc_words.proofs.Hands.Tallies.{fresh_less, tallied_fresh}
use Rattle.mc_words.proofs.arena.Arena.discard.Goals as goal

pub head_word-word-requires : goal.head_word-word-requires
head_word-word-requires c =
    let fresh = c.requires.fresh in
    let arena = c.requires.arena in
    record { in_range = subst (λ (s : Setup). has_chunk s.table c.args.fresh.chunk ≡ true) arena.setup (holding_near c.args.hand.now.seat.me.0 arena.lawful c.args.fresh.chunk fresh.holding fresh.found fresh.fresh) }

pub subtract-found-requires : goal.subtract-found-requires
subtract-found-requires c =
    let fresh = c.requires.fresh in
    let arena = c.requires.arena in
    let view = c.args.hand.now.seat.me.0 in
    let in_range = holding_near view arena.lawful c.args.fresh.chunk fresh.holding fresh.found fresh.fresh in
    let place : c.head_word-word.result ≡ head_word view.setup c.args.fresh.chunk = c.head_word-word.ensures.word ∙ ap (λ (s : Setup). head_word s c.args.fresh.chunk) (sym arena.setup) in
    (refl, (refl, (c.head_word-word.ensures.in_range, (arena, subst (λ (n : ℕ). MayWrite view (core.Discard c.args.fresh.chunk) n (word_minus 1)) (sym place) (may_discard view c.args.fresh.chunk fresh.holding in_range fresh.found fresh.fresh)))))

pub invariant_of-hand : goal.invariant_of-hand
invariant_of-hand c =
    let a = c.args.hand.now in
    let is = discarded_chunk a.seat.me.0 c.subtract-found.new.seat.me.0 c.args.fresh.chunk c.subtract-found.ensures.happens in
    let less = one_less c.args.fresh.chunk a.seat.me.0.row.holdings c.requires.fresh.holding c.requires.fresh.found in
    let count = a.noted.2 in
    let fills = a.tallied.1 in
    let fewer = fresh_less c.args.fresh.chunk a.seat.me.0.row.holdings c.requires.fresh.holding c.requires.fresh.found in
    let kind = ap truth c.requires.fresh.fresh in
    record { noted = noted_same a.seat.me c.subtract-found.new.seat.me a.number a.chunks (a.chunks - 1) a.locks a.noted c.subtract-found.ensures.out c.subtract-found.ensures.hand ((omega arith) ∙ ap (λ (v : View). length v.row.holdings) (sym is)); tallied = tallied_fresh a.seat.me c.subtract-found.new.seat.me a.stamps a.fresh (a.fresh - 1) a.tallied (ap (λ (v : View). v.row.ids) is) ((omega arith) ∙ ap (λ (v : View). fresh_count v.row.holdings) (sym is)) }

pub returns-clause-dropped : goal.returns-clause-dropped
returns-clause-dropped c = discarded_chunk c.args.hand.now.seat.me.0 c.subtract-found.new.seat.me.0 c.args.fresh.chunk c.subtract-found.ensures.happens

pub overflow_sub-hand-2 : goal.overflow_sub-hand-2
overflow_sub-hand-2 c =
    let a = c.args.hand.now in
    let fills = a.tallied.1 in
    let fewer = fresh_less c.args.fresh.chunk a.seat.me.0.row.holdings c.requires.fresh.holding c.requires.fresh.found in
    let kind = ap truth c.requires.fresh.fresh in
    omega arith
