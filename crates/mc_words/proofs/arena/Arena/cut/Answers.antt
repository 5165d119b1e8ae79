use Rattle.std.proofs.Common.{◌≡◌, ℕ, refl, ap, sym, subst, ◌∙◌, length, true}
use Rattle.mc_pages.specs.declared.ids.ChunkId.{ChunkId}
use Rattle.mc_core.specs.model.Codes.{word_plus}
use Rattle.mc_core.specs.model.State.{has_chunk}
use Rattle.mc_core.specs.declared.event.Step.TheVariants as core
use Rattle.mc_words.specs.hand.View.{View, Setup}
use Rattle.mc_words.specs.rule.Layout.{head_word}
use Rattle.mc_words.specs.rule.Happens.{MayWrite}
use Rattle.mc_words.proofs.Pages.Owners.{may_cut, uncut_near}
use Rattle.mc_words.proofs.Chunks.Judging.{cuts}
use Rattle.mc_words.proofs.Locks.Locked.{noted_same}
use Rattle.mc_words.proofs.Hands.Tallies.{tallied_same}
use Rattle.mc_words.proofs.arena.Arena.cut.Goals as goal

pub head_word-word-requires : goal.head_word-word-requires
head_word-word-requires c =
    let arena = c.requires.arena in
    let in_range = uncut_near c.args.hand.now.seat.me.0 arena.lawful c.args.held.now.shared (record { page = c.args.page; index = c.args.index }) c.requires.held c.requires.next in
    record { in_range = subst (λ (s : Setup). has_chunk s.table (record { page = c.args.page; index = c.args.index }) ≡ true) arena.setup in_range }

pub add-requires : goal.add-requires
add-requires c =
    let arena = c.requires.arena in
    let view = c.args.hand.now.seat.me.0 in
    let chunk : ChunkId = record { page = c.args.page; index = c.args.index } in
    let slabs = c.args.held.now.shared in
    let in_range = uncut_near view arena.lawful slabs chunk c.requires.held c.requires.next in
    let place : c.head_word-word.result ≡ head_word view.setup chunk = c.head_word-word.ensures.word ∙ ap (λ (s : Setup). head_word s chunk) (sym arena.setup) in
    (refl, (refl, (c.head_word-word.ensures.in_range, (arena, subst (λ (n : ℕ). MayWrite view (core.Cut c.args.page c.args.index) n (word_plus 65536)) (sym place) (may_cut view slabs c.args.page c.args.index c.requires.held in_range c.requires.next)))))

pub invariant_of-hand : goal.invariant_of-hand
invariant_of-hand c =
    let a = c.args.hand.now in
    let cut = cuts a.seat.me.0 c.add.new.seat.me.0 c.args.held.now.shared c.args.page c.args.index c.requires.held c.requires.next c.add.ensures.happens in
    record { noted = noted_same a.seat.me c.add.new.seat.me a.number a.chunks a.chunks a.locks a.noted c.add.ensures.out c.add.ensures.hand (a.noted.2 ∙ ap (λ (v : View). length v.row.holdings) (sym cut.is)); tallied = tallied_same a.seat.me c.add.new.seat.me a.stamps a.fresh a.tallied (ap (λ (v : View). v.row.ids) cut.is) (ap (λ (v : View). v.row.holdings) cut.is) }

pub returns-clause-cut : goal.returns-clause-cut
returns-clause-cut c = cuts c.args.hand.now.seat.me.0 c.add.new.seat.me.0 c.args.held.now.shared c.args.page c.args.index c.requires.held c.requires.next c.add.ensures.happens
