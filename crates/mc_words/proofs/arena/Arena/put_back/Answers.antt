use Rattle.std.proofs.Common.{◌≡◌, ℕ, true, false, Some, refl, ap, sym, subst, ◌∙◌, length}
use Rattle.std.specs.Prelude.{Contains}
use Rattle.mc_pages.specs.Changes.{after_back}
use Rattle.mc_pages.specs.SlabState.{SlabState, class_of_chunk}
use Rattle.mc_core.specs.model.Codes.{word_minus}
use Rattle.mc_core.specs.model.Head.{decode}
use Rattle.mc_core.specs.model.State.{has_chunk}
use Rattle.mc_core.specs.declared.event.Step.TheVariants as core
use Rattle.mc_words.specs.hand.View.{View, Setup}
use Rattle.mc_words.specs.rule.Layout.{head_word}
use Rattle.mc_words.specs.rule.Happens.{MayWrite}
use Rattle.mc_words.proofs.Pages.Owners.{may_put_back}
use Rattle.mc_words.proofs.Chunks.DeadAgain.{found_dead}
use Rattle.mc_words.proofs.Chunks.Judging.{after_slabs, after_last, put_back_after, puts_back, stands_out, word_dead, word_alive}
use Rattle.mc_words.proofs.Locks.Locked.{noted_same}
use Rattle.mc_words.proofs.Hands.Tallies.{tallied_same}
use Rattle.mc_words.proofs.arena.Arena.put_back.Goals as goal

pub subtract-requires : goal.subtract-requires
subtract-requires c =
    let chunk = c.args.chunk in
    let slabs = c.args.held.now.shared in
    let arena = c.head-head.ensures.arena in
    let view = c.args.hand.now.seat.me.0 in
    let seen = c.head-head.new.hand.seat.me.0 in
    let head = decode c.head-head.result in
    let in_range = subst (λ (s : Setup). has_chunk s.table chunk ≡ true) (sym arena.setup) c.requires.in_range in
    let place : c.head_word-word.result ≡ head_word seen.setup chunk = c.head_word-word.ensures.word ∙ ap (λ (s : Setup). head_word s chunk) (sym arena.setup) in
    let mine = after_slabs view seen seen slabs chunk head c.requires.held c.head-head.ensures.seen c.head-head.ensures.happens in
    let last = after_last view seen seen slabs chunk head c.requires.held c.head-head.ensures.seen c.head-head.ensures.happens in
    (refl, (refl, (c.head_word-word.ensures.in_range, (arena, subst (λ (n : ℕ). MayWrite seen (core.PutBack chunk) n (word_minus 65536)) (sym place) (may_put_back seen slabs chunk head mine in_range last (word_dead c.head-head.result c.if-head-ne-DEAD.false))))))

pub invariant_of-hand : goal.invariant_of-hand
invariant_of-hand c =
    let chunk = c.args.chunk in
    let slabs = c.args.held.now.shared in
    let arena = c.head-head.ensures.arena in
    let view = c.args.hand.now.seat.me.0 in
    let a = c.head-head.new.hand in
    let seen = a.seat.me.0 in
    let head = decode c.head-head.result in
    let in_range = subst (λ (s : Setup). has_chunk s.table chunk ≡ true) (sym arena.setup) c.requires.in_range in
    let mine = after_slabs view seen seen slabs chunk head c.requires.held c.head-head.ensures.seen c.head-head.ensures.happens in
    let last = after_last view seen seen slabs chunk head c.requires.held c.head-head.ensures.seen c.head-head.ensures.happens in
    let is = puts_back seen c.subtract.new.seat.me.0 slabs mine chunk head in_range last (word_dead c.head-head.result c.if-head-ne-DEAD.false) c.subtract.ensures.happens in
    record { noted = noted_same a.seat.me c.subtract.new.seat.me a.number a.chunks a.chunks a.locks a.noted c.subtract.ensures.out c.subtract.ensures.hand (a.noted.2 ∙ ap (λ (v : View). length v.row.holdings) (sym is)); tallied = tallied_same a.seat.me c.subtract.new.seat.me a.stamps a.fresh a.tallied (ap (λ (v : View). v.row.ids) is) (ap (λ (v : View). v.row.holdings) is) }

pub back-requires : goal.back-requires
back-requires c =
    let chunk = c.args.chunk in
    let slabs = c.args.held.now.shared in
    let arena = c.head-head.ensures.arena in
    let view = c.args.hand.now.seat.me.0 in
    let seen = c.head-head.new.hand.seat.me.0 in
    let head = decode c.head-head.result in
    let in_range = subst (λ (s : Setup). has_chunk s.table chunk ≡ true) (sym arena.setup) c.requires.in_range in
    let dead = word_dead c.head-head.result c.if-head-ne-DEAD.false in
    let looks = c.head-head.ensures.happens in
    let is = c.head-head.ensures.seen in
    let mine = after_slabs view seen seen slabs chunk head c.requires.held is looks in
    let last = after_last view seen seen slabs chunk head c.requires.held is looks in
    subst (λ (x : SlabState). Contains (class_of_chunk x chunk).order chunk) (sym c.slabs_mut.ensures.slabs) (stands_out seen seen slabs mine chunk head in_range last dead arena.lawful)

pub returns-then-head-ne-DEAD-clause-moved : goal.returns-then-head-ne-DEAD-clause-moved
returns-then-head-ne-DEAD-clause-moved c = (
  record {
    chunk = c.args.chunk;
    is_asked = refl;
    head = decode c.head-head.result;
    other = word_alive c.head-head.result c.if-head-ne-DEAD.true;
    happens = c.head-head.ensures.happens;
    is = c.head-head.ensures.seen;
  },
  refl,
)

pub returns-clause-held : goal.returns-clause-held
returns-clause-held c =
    let chunk = c.args.chunk in
    let slabs = c.args.held.now.shared in
    let arena = c.head-head.ensures.arena in
    let view = c.args.hand.now.seat.me.0 in
    let seen = c.head-head.new.hand.seat.me.0 in
    let now = c.subtract.new.seat.me.0 in
    let head = decode c.head-head.result in
    let in_range = subst (λ (s : Setup). has_chunk s.table chunk ≡ true) (sym arena.setup) c.requires.in_range in
    let dead = word_dead c.head-head.result c.if-head-ne-DEAD.false in
    let looks = c.head-head.ensures.happens in
    let is = c.head-head.ensures.seen in
    let back = put_back_after view seen now slabs chunk head c.requires.held is looks in_range dead c.subtract.ensures.happens in
    ap (λ (v : View). v.slabs) back.is ∙ ap Some (ap (λ slabs. after_back slabs chunk) (sym c.slabs_mut.ensures.slabs) ∙ sym c.back.ensures.back)

pub returns-clause-back : goal.returns-clause-back
returns-clause-back c =
    let chunk = c.args.chunk in
    let slabs = c.args.held.now.shared in
    let arena = c.head-head.ensures.arena in
    let view = c.args.hand.now.seat.me.0 in
    let seen = c.head-head.new.hand.seat.me.0 in
    let now = c.subtract.new.seat.me.0 in
    let head = decode c.head-head.result in
    let in_range = subst (λ (s : Setup). has_chunk s.table chunk ≡ true) (sym arena.setup) c.requires.in_range in
    let dead = word_dead c.head-head.result c.if-head-ne-DEAD.false in
    let looks = c.head-head.ensures.happens in
    let is = c.head-head.ensures.seen in
    (put_back_after view seen now slabs chunk head c.requires.held is looks in_range dead c.subtract.ensures.happens, c.back.ensures.back ∙ ap (λ slabs. after_back slabs chunk) c.slabs_mut.ensures.slabs)

pub returns-then-head-ne-DEAD-clause-succeeds : goal.returns-then-head-ne-DEAD-clause-succeeds
returns-then-head-ne-DEAD-clause-succeeds c dead =
    let in_range = subst (λ (s : Setup). has_chunk s.table c.args.chunk ≡ true) (sym c.requires.arena.setup) c.requires.in_range in
    let gone = found_dead c.args.hand.now.seat.me.0 c.head-head.new.hand.seat.me.0 c.args.held.now.shared c.args.chunk (decode c.head-head.result) c.requires.held in_range dead c.head-head.ensures.happens c.head-head.ensures.seen in
    absurd (let never : true ≡ false = sym gone ∙ word_alive c.head-head.result c.if-head-ne-DEAD.true in cc)
