use Rattle.std.proofs.Common.{◌≡◌, ℕ, ◌+◌, true, [], ◌∷◌, refl, ap, sym, subst, ◌∙◌, length, length-append, arith}
use Rattle.mc_core.specs.model.State.{has_chunk}
use Rattle.mc_core.specs.declared.event.Step.TheVariants as core
use Rattle.mc_words.specs.hand.View.{View, Setup}
use Rattle.mc_words.specs.rule.Layout.{head_word}
use Rattle.mc_words.specs.item.Items.{held_item}
use Rattle.mc_words.specs.item.Refs.{IsRefOf, IsIssueOf}
use Rattle.mc_words.specs.item.Again.{RefersAgain}
use Rattle.mc_words.specs.rule.Happens.{MayWrite, MayExchange, HappensAt}
use Rattle.mc_words.specs.hand.Tallies.{fresh_count}
use Rattle.mc_words.proofs.Items.Agains.{may_again, again_one, again_view, again_ref, again_issue, again_known, refers_again}
use Rattle.mc_words.proofs.Chunks.Heads.{may_look}
use Rattle.mc_words.proofs.Locks.LockViews.{seen_head}
use Rattle.mc_words.proofs.Hands.Tallies.{fresh_more, tallied_fresh, tallied_same}
use Rattle.mc_words.proofs.Locks.Locked.{noted_same}
use Rattle.mc_words.proofs.arena.Arena.refer_again.Goals as goal

pub exchange-found-requires : goal.exchange-found-requires
exchange-found-requires c =
    let a = c.args.hand.now in
    let arena = c.requires.arena in
    let view = a.seat.me.0 in
    let chunk = c.args.hint.chunk in
    let issue = c.args.hint.issue in
    let in_range : has_chunk view.setup.table chunk ≡ true = subst (λ (s : Setup). has_chunk s.table chunk ≡ true) (sym arena.setup) c.requires.in_range in
    let place : c.head_word-word.result ≡ head_word view.setup chunk = c.head_word-word.ensures.word ∙ ap (λ (s : Setup). head_word s chunk) (sym arena.setup) in (
      refl,
      (
        (refl, refl),
        (
          c.head_word-word.ensures.in_range,
          (
            arena,
            (
              subst (λ (n : ℕ). MayExchange view (core.Again chunk issue) n c.args.head (c.args.head + 1)) (sym place) (may_again view chunk issue c.args.head in_range c.requires.within_limit c.requires.there c.requires.small),
              subst (λ (n : ℕ). MayWrite view (core.Head chunk) n (λ found. found)) (sym place) (may_look view chunk in_range),
            ),
          ),
        ),
      ),
    )

pub invariant_of-hand : goal.invariant_of-hand
invariant_of-hand c =
    let a = c.args.hand.now in
    let arena = c.requires.arena in
    let view = a.seat.me.0 in
    let chunk = c.args.hint.chunk in
    let issue = c.args.hint.issue in
    let in_range : has_chunk view.setup.table chunk ≡ true = subst (λ (s : Setup). has_chunk s.table chunk ≡ true) (sym arena.setup) c.requires.in_range in
    let place : c.head_word-word.result ≡ head_word view.setup chunk = c.head_word-word.ensures.word ∙ ap (λ (s : Setup). head_word s chunk) (sym arena.setup) in
    let now = c.exchange-found.new.seat.me.0 in
    let at = subst (λ (n : ℕ). HappensAt n c.exchange-found.result view [] (core.Head chunk) now) place (c.exchange-found.ensures.missed c.if-found-head.true) in
    let is = seen_head view now chunk c.exchange-found.result in_range at in
    let held = ap (λ (v : View). v.row.holdings) is in
    record { noted = noted_same a.seat.me c.exchange-found.new.seat.me a.number a.chunks a.chunks a.locks a.noted c.exchange-found.ensures.out c.exchange-found.ensures.hand (a.noted.2 ∙ ap length (sym held)); tallied = tallied_same a.seat.me c.exchange-found.new.seat.me a.stamps a.fresh a.tallied (ap (λ (v : View). v.row.ids) is) held }

pub returns-then-found-head-clause-missed : goal.returns-then-found-head-clause-missed
returns-then-found-head-clause-missed c =
    let a = c.args.hand.now in
    let arena = c.requires.arena in
    let view = a.seat.me.0 in
    let chunk = c.args.hint.chunk in
    let issue = c.args.hint.issue in
    let in_range : has_chunk view.setup.table chunk ≡ true = subst (λ (s : Setup). has_chunk s.table chunk ≡ true) (sym arena.setup) c.requires.in_range in
    let place : c.head_word-word.result ≡ head_word view.setup chunk = c.head_word-word.ensures.word ∙ ap (λ (s : Setup). head_word s chunk) (sym arena.setup) in
    let now = c.exchange-found.new.seat.me.0 in
    let at = subst (λ (n : ℕ). HappensAt n c.exchange-found.result view [] (core.Head chunk) now) place (c.exchange-found.ensures.missed c.if-found-head.true) in
    (c.if-found-head.true, at.0, seen_head view now chunk c.exchange-found.result in_range at)

pub invariant_of-hand-2 : goal.invariant_of-hand-2
invariant_of-hand-2 c =
    let a = c.args.hand.now in
    let arena = c.requires.arena in
    let view = a.seat.me.0 in
    let chunk = c.args.hint.chunk in
    let issue = c.args.hint.issue in
    let now = c.exchange-found.new.seat.me.0 in
    let h = (c.exchange-found.ensures.happens c.if-found-head.false).0 in
    let one = again_one view now chunk issue h in
    let is = again_view view now chunk issue h in
    let more = length-append view.row.holdings (one ∷ []) in
    let count = a.noted.2 in
    let fills = a.tallied.1 in
    let fuller = fresh_more view.row.holdings one in
    record { noted = noted_same a.seat.me c.exchange-found.new.seat.me a.number a.chunks (a.chunks + 1) a.locks a.noted c.exchange-found.ensures.out c.exchange-found.ensures.hand ((omega arith) ∙ (sym more ∙ ap (λ (v : View). length v.row.holdings) (sym is))); tallied = tallied_fresh a.seat.me c.exchange-found.new.seat.me a.stamps a.fresh a.fresh a.tallied (ap (λ (v : View). v.row.ids) is) ((omega arith) ∙ (sym fuller ∙ ap (λ (v : View). fresh_count v.row.holdings) (sym is))) }

pub room-room-requires-clause-reference : goal.room-room-requires-clause-reference
room-room-requires-clause-reference c =
    let a = c.args.hand.now in
    let arena = c.requires.arena in
    let view = a.seat.me.0 in
    let chunk = c.args.hint.chunk in
    let issue = c.args.hint.issue in
    let now = c.exchange-found.new.seat.me.0 in
    (_, again_ref view now chunk issue (c.exchange-found.ensures.happens c.if-found-head.false).0 c.exchange-found.ensures.seat.lawful)

pub returns-clause-refers : goal.returns-clause-refers
returns-clause-refers c =
    let a = c.args.hand.now in
    let arena = c.requires.arena in
    let view = a.seat.me.0 in
    let chunk = c.args.hint.chunk in
    let issue = c.args.hint.issue in
    let now = c.exchange-found.new.seat.me.0 in
    let ref = subst (λ (v : View). IsRefOf v chunk c.room-room.result) c.room-room.ensures.same c.room-room.ensures.room in
    subst (RefersAgain view chunk issue c.room-room.result) (sym c.room-room.ensures.same)
    (refers_again view now chunk issue (c.exchange-found.ensures.happens c.if-found-head.false).0 c.exchange-found.ensures.seat.lawful c.room-room.result ref)

pub returns-clause-reference : goal.returns-clause-reference
returns-clause-reference c =
    let a = c.args.hand.now in
    let arena = c.requires.arena in
    let view = a.seat.me.0 in
    let chunk = c.args.hint.chunk in
    let issue = c.args.hint.issue in
    let now = c.exchange-found.new.seat.me.0 in
    (c.room-room.ensures.room, subst (λ (v : View). IsIssueOf v chunk issue) (sym c.room-room.ensures.same) (again_issue view now chunk issue (c.exchange-found.ensures.happens c.if-found-head.false).0 c.exchange-found.ensures.seat.lawful))

pub returns-clause-known : goal.returns-clause-known
returns-clause-known c k among same_chunk same_issue =
    let a = c.args.hand.now in
    let arena = c.requires.arena in
    let view = a.seat.me.0 in
    let chunk = c.args.hint.chunk in
    let issue = c.args.hint.issue in
    let now = c.exchange-found.new.seat.me.0 in
    ap (λ (v : View). held_item v chunk) c.room-room.ensures.same
    ∙ again_known view now chunk issue (c.exchange-found.ensures.happens c.if-found-head.false).0 c.exchange-found.ensures.seat.lawful k among same_chunk same_issue
