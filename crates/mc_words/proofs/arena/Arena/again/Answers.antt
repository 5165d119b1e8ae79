use Rattle.std.proofs.Common.{◌≡◌, ◌≢◌, true, false, sym, subst, inr}
use Rattle.mc_core.specs.model.Head.{decode}
use Rattle.mc_core.specs.model.State.{has_chunk}
use Rattle.std.specs.Prelude.{Contains}
use Rattle.mc_words.specs.hand.View.{View, Setup}
use Rattle.mc_words.specs.item.Again.{is_there}
use Rattle.mc_words.proofs.Items.Agains.{seen_small, finds_other, other_count, other_header}
use Rattle.mc_words.proofs.arena.Arena.again.Goals as goal

pub refer_again-requires-clause-small : goal.refer_again-requires-clause-small
refer_again-requires-clause-small c =
    let arena = c.requires.arena in
    let view = c.args.hand.now.seat.me.0 in
    let chunk = c.args.hint.chunk in
    let in_range : has_chunk view.setup.table chunk ≡ true = subst (λ (s : Setup). has_chunk s.table chunk ≡ true) (sym arena.setup) c.requires.in_range in
    seen_small view c.head-head.new.hand.seat.me.0 chunk c.head-head.result in_range c.head-head.ensures.happens c.head-head.ensures.seen

pub returns-in-Ok-clause-known : goal.returns-in-Ok-clause-known
returns-in-Ok-clause-known c k among same_chunk same_issue =
    c.in-Ok.ensures.known k (subst (λ (v : View). Contains v.row.knows.known k) (sym c.head-head.ensures.seen) among) same_chunk same_issue

pub returns-in-Err-clause-contended : goal.returns-in-Err-clause-contended
returns-in-Err-clause-contended c why =
    let missed = c.in-Err.ensures.missed in
    finds_other c.args.hand.now.seat.me.0 c.head-head.new.hand.seat.me.0 c.refer_again.new.hand.seat.me.0 c.args.hint.chunk c.args.hint.issue c.head-head.result c.in-Err.found (λ head other. (is_there c.args.hint.issue other ≡ true) × (other.count ≢ head.count))
    c.if-not-is_there.ensures.there c.head-head.ensures.happens c.head-head.ensures.seen missed.0
    (sym c.if-is_there.ensures.there, other_count c.args.hint.issue (decode c.in-Err.found) (decode c.head-head.result) (sym c.if-is_there.ensures.there) (sym c.if-not-is_there.ensures.there) (other_header c.in-Err.found c.head-head.result missed.0)) missed.1 missed.2

pub returns-in-Err-2-clause-gone : goal.returns-in-Err-2-clause-gone
returns-in-Err-2-clause-gone c why =
    let missed = c.in-Err.ensures.missed in
    inr
    (finds_other c.args.hand.now.seat.me.0 c.head-head.new.hand.seat.me.0 c.refer_again.new.hand.seat.me.0 c.args.hint.chunk c.args.hint.issue c.head-head.result c.in-Err.found (λ head other. is_there c.args.hint.issue other ≡ false)
    c.if-not-is_there.ensures.there c.head-head.ensures.happens c.head-head.ensures.seen missed.0 (sym c.if-is_there.ensures.there) missed.1 missed.2)
