use Rattle.std.proofs.Common.{◌≡◌, ◌*◌, ◌/◌, ◌%◌, ℕ, true, false, Some, refl, ap, sym, subst, ◌∙◌, length, ◌≤◌}
use Rattle.mc_pages.specs.Accounted.{places_in}
use Rattle.mc_pages.specs.Changes.{after_clear}
use Rattle.mc_pages.specs.Pages.{is_on_the_move}
use Rattle.mc_pages.specs.SlabState.{SlabState, class_of_page}
use Rattle.mc_core.specs.model.Codes.{word_minus}
use Rattle.mc_core.specs.model.Head.{decode}
use Rattle.mc_core.specs.model.State.{has_chunk}
use Rattle.mc_core.specs.declared.event.Step.TheVariants as core
use Rattle.mc_core.proofs.Steps.Listed.{page_of_move}
use Rattle.mc_words.specs.hand.View.{View, Setup}
use Rattle.mc_words.specs.rule.Layout.{head_word}
use Rattle.mc_words.specs.rule.Happens.{MayWrite}
use Rattle.mc_words.proofs.Chunks.Clears.{clear_after, clears_it, found_unused, may_clear, stands_listed}
use Rattle.mc_words.proofs.Chunks.Judging.{after_slabs, after_last}
use Rattle.mc_words.proofs.Locks.Locked.{noted_same}
use Rattle.mc_words.proofs.Hands.Tallies.{tallied_same}
use Rattle.mc_words.proofs.arena.Arena.clear.Goals as goal

pub subtract-requires : goal.subtract-requires
subtract-requires c =
    let chunk = c.args.chunk in
    let slabs = c.args.held.now.shared in
    let arena = c.head-head.ensures.arena in
    let view = c.args.hand.now.seat.me.0 in
    let a = c.head-head.new.hand in
    let seen = a.seat.me.0 in
    let word = c.head-head.result in
    let looks = c.head-head.ensures.happens in
    let is = c.head-head.ensures.seen in
    let in_range = subst (λ (s : Setup). has_chunk s.table chunk ≡ true) (sym arena.setup) c.requires.in_range in
    let mine = after_slabs view seen seen slabs chunk (decode word) c.requires.held is looks in
    let last = after_last view seen seen slabs chunk (decode word) c.requires.held is looks in
    let unused = sym c.is_unused.ensures.unused ∙ c.if-not-is_unused.false in
    let place : c.head_word-word.result ≡ head_word seen.setup chunk = c.head_word-word.ensures.word ∙ ap (λ (s : Setup). head_word s chunk) (sym arena.setup) in
    (refl, (refl, (c.head_word-word.ensures.in_range, (arena, subst (λ (n : ℕ). MayWrite seen (core.Clear chunk) n (word_minus (word / 65536 % 4 * 65536))) (sym place) (may_clear seen slabs chunk word mine in_range c.requires.moving last unused)))))

pub invariant_of-hand : goal.invariant_of-hand
invariant_of-hand c =
    let chunk = c.args.chunk in
    let slabs = c.args.held.now.shared in
    let arena = c.head-head.ensures.arena in
    let view = c.args.hand.now.seat.me.0 in
    let a = c.head-head.new.hand in
    let seen = a.seat.me.0 in
    let word = c.head-head.result in
    let looks = c.head-head.ensures.happens in
    let is = c.head-head.ensures.seen in
    let in_range = subst (λ (s : Setup). has_chunk s.table chunk ≡ true) (sym arena.setup) c.requires.in_range in
    let mine = after_slabs view seen seen slabs chunk (decode word) c.requires.held is looks in
    let last = after_last view seen seen slabs chunk (decode word) c.requires.held is looks in
    let unused = sym c.is_unused.ensures.unused ∙ c.if-not-is_unused.false in
    let is = clears_it seen slabs chunk word mine in_range c.requires.moving last unused c.subtract.new.seat.me.0 c.subtract.ensures.happens in
    record { noted = noted_same a.seat.me c.subtract.new.seat.me a.number a.chunks a.chunks a.locks a.noted c.subtract.ensures.out c.subtract.ensures.hand (a.noted.2 ∙ ap (λ (v : View). length v.row.holdings) (sym is)); tallied = tallied_same a.seat.me c.subtract.new.seat.me a.stamps a.fresh a.tallied (ap (λ (v : View). v.row.ids) is) (ap (λ (v : View). v.row.holdings) is) }

pub clear-requires-clause-moving : goal.clear-requires-clause-moving
clear-requires-clause-moving c =
    page_of_move c.slabs_mut.result.now.state.moving c.args.chunk.page (subst (λ (x : SlabState). is_on_the_move x c.args.chunk.page ≡ true) (sym c.slabs_mut.ensures.slabs) c.requires.moving)

pub clear-requires-clause-listed : goal.clear-requires-clause-listed
clear-requires-clause-listed c =
    let chunk = c.args.chunk in
    let slabs = c.args.held.now.shared in
    let arena = c.head-head.ensures.arena in
    let view = c.args.hand.now.seat.me.0 in
    let a = c.head-head.new.hand in
    let seen = a.seat.me.0 in
    let word = c.head-head.result in
    let looks = c.head-head.ensures.happens in
    let is = c.head-head.ensures.seen in
    let in_range = subst (λ (s : Setup). has_chunk s.table chunk ≡ true) (sym arena.setup) c.requires.in_range in
    let mine = after_slabs view seen seen slabs chunk (decode word) c.requires.held is looks in
    let last = after_last view seen seen slabs chunk (decode word) c.requires.held is looks in
    let unused = sym c.is_unused.ensures.unused ∙ c.if-not-is_unused.false in
    subst (λ (x : SlabState). 1 ≤ places_in x (class_of_page x chunk.page) chunk) (sym c.slabs_mut.ensures.slabs) (stands_listed seen slabs chunk word mine in_range c.requires.moving last unused arena.lawful)

pub returns-clause-held : goal.returns-clause-held
returns-clause-held c =
    let chunk = c.args.chunk in
    let slabs = c.args.held.now.shared in
    let arena = c.head-head.ensures.arena in
    let view = c.args.hand.now.seat.me.0 in
    let a = c.head-head.new.hand in
    let seen = a.seat.me.0 in
    let word = c.head-head.result in
    let looks = c.head-head.ensures.happens in
    let is = c.head-head.ensures.seen in
    let in_range = subst (λ (s : Setup). has_chunk s.table chunk ≡ true) (sym arena.setup) c.requires.in_range in
    let mine = after_slabs view seen seen slabs chunk (decode word) c.requires.held is looks in
    let last = after_last view seen seen slabs chunk (decode word) c.requires.held is looks in
    let unused = sym c.is_unused.ensures.unused ∙ c.if-not-is_unused.false in
    let clears = clear_after view seen c.subtract.new.seat.me.0 slabs chunk word c.requires.held is looks in_range c.requires.moving unused c.subtract.ensures.happens in
    ap (λ (v : View). v.slabs) clears.is ∙ ap Some (ap (λ slabs. after_clear slabs chunk) (sym c.slabs_mut.ensures.slabs) ∙ sym c.clear.ensures.cleared)

pub returns-clause-cleared : goal.returns-clause-cleared
returns-clause-cleared c =
    let chunk = c.args.chunk in
    let slabs = c.args.held.now.shared in
    let arena = c.head-head.ensures.arena in
    let view = c.args.hand.now.seat.me.0 in
    let a = c.head-head.new.hand in
    let seen = a.seat.me.0 in
    let word = c.head-head.result in
    let looks = c.head-head.ensures.happens in
    let is = c.head-head.ensures.seen in
    let in_range = subst (λ (s : Setup). has_chunk s.table chunk ≡ true) (sym arena.setup) c.requires.in_range in
    let mine = after_slabs view seen seen slabs chunk (decode word) c.requires.held is looks in
    let last = after_last view seen seen slabs chunk (decode word) c.requires.held is looks in
    let unused = sym c.is_unused.ensures.unused ∙ c.if-not-is_unused.false in
    (clear_after view seen c.subtract.new.seat.me.0 slabs chunk word c.requires.held is looks in_range c.requires.moving unused c.subtract.ensures.happens, c.clear.ensures.cleared ∙ ap (λ slabs. after_clear slabs chunk) c.slabs_mut.ensures.slabs)

pub returns-then-not-is_unused-clause-succeeds : goal.returns-then-not-is_unused-clause-succeeds
returns-then-not-is_unused-clause-succeeds c seen =
    let in_range = subst (λ (s : Setup). has_chunk s.table c.args.chunk ≡ true) (sym c.requires.arena.setup) c.requires.in_range in
    let unused = found_unused c.args.hand.now.seat.me.0 c.head-head.new.hand.seat.me.0 c.args.held.now.shared c.args.chunk (decode c.head-head.result) c.requires.held in_range c.requires.moving seen c.head-head.ensures.happens c.head-head.ensures.seen in
    absurd (let never : true ≡ false = sym unused ∙ (sym c.is_unused.ensures.unused ∙ c.if-not-is_unused.true) in cc)
