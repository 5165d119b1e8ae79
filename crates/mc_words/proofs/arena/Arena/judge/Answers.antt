use Rattle.std.proofs.Common.{◌≡◌, ℕ, true, Some, refl, sym, subst, List, []}
use Rattle.std.specs.Prelude.{Contains}
use Rattle.mc_pages.specs.declared.ids.ChunkId.{ChunkId}
use Rattle.mc_pages.specs.SlabState.{SlabState, class_of_chunk, class_of_page}
use Rattle.mc_core.specs.model.Head.{decode, is_dead}
use Rattle.mc_core.specs.model.State.{has_chunk}
use Rattle.mc_core.specs.declared.event.Step.TheVariants as core
use Rattle.mc_core.specs.declared.look.Look.{Look}
use Rattle.mc_words.specs.hand.Arenas.{setup_of}
use Rattle.mc_words.specs.chunk.Dead.{IsAliveOrNoted}
use Rattle.mc_words.specs.rule.Happens.{Happens, LawfulView}
use Rattle.mc_words.specs.hand.View.{View, Setup}
use Rattle.mc_words.specs.hand.Views.{head_seen}
use Rattle.mc_words.proofs.Pages.Judged.{alive_judged, alive_kept, looks_more, noted_judged, noted_kept, noted_out}
use Rattle.mc_words.proofs.Chunks.Judging.{after_last, after_slabs, stands_out, word_alive, word_dead}
use Rattle.mc_words.proofs.arena.Arena.judge.Goals as goal

-- where the dead chunk stands
module _ (view seen : View) (was : LawfulView seen) (slabs : SlabState) (mine : view.slabs ≡ Some slabs) (chunk : ChunkId) (word : ℕ) (in_range : has_chunk seen.setup.table chunk ≡ true) (dead : is_dead (decode word) ≡ true) (is : seen ≡ head_seen chunk (decode word) view) (looks : Happens view [] (core.Head chunk) seen) where
  pub there : Contains (class_of_chunk slabs chunk).order chunk
  there = stands_out seen seen slabs (after_slabs view seen seen slabs chunk (decode word) mine is looks) chunk (decode word) in_range (after_last view seen seen slabs chunk (decode word) mine is looks) dead was

pub returns-then-head-eq-DEAD-clause-out : goal.returns-then-head-eq-DEAD-clause-out
returns-then-head-eq-DEAD-clause-out c =
    let chunk = c.args.chunk in
    let slabs = c.args.held.now.shared in
    let in_range = subst (λ (s : Setup). has_chunk s.table chunk ≡ true) (sym c.head_at-head.ensures.arena.setup) c.requires.in_range in
    let listed = there c.args.hand.now.seat.me.0 c.head_at-head.new.hand.seat.me.0 c.head_at-head.ensures.arena.lawful slabs c.requires.held chunk c.head_at-head.result in_range (word_dead c.head_at-head.result c.if-head-eq-DEAD.true) c.head_at-head.ensures.seen c.head_at-head.ensures.happens in
    noted_out (setup_of c.args.self.now).table slabs (class_of_page slabs chunk.page) chunk c.args.dead.now c.note.new.self c.note.ensures.notes c.requires.out (record { in_range = c.requires.in_range; own = refl; listed = listed })

pub returns-then-head-eq-DEAD-clause-judged : goal.returns-then-head-eq-DEAD-clause-judged
returns-then-head-eq-DEAD-clause-judged c =
    let view = c.args.hand.now.seat.me.0 in
    let chunk = c.args.chunk in
    let now = c.note.new.self in
    let is = looks_more view c.head_at-head.new.hand.seat.me.0 chunk c.head_at-head.result c.args.held.now.shared c.requires.held c.head_at-head.ensures.seen in
    subst (λ (looks : List Look). IsAliveOrNoted looks now chunk) (sym is) (noted_judged view.row.looks chunk (decode c.head_at-head.result) c.args.dead.now now c.note.ensures.notes)

pub returns-then-head-eq-DEAD-clause-kept : goal.returns-then-head-eq-DEAD-clause-kept
returns-then-head-eq-DEAD-clause-kept c other judged =
    let view = c.args.hand.now.seat.me.0 in
    let chunk = c.args.chunk in
    let now = c.note.new.self in
    let is = looks_more view c.head_at-head.new.hand.seat.me.0 chunk c.head_at-head.result c.args.held.now.shared c.requires.held c.head_at-head.ensures.seen in
    subst (λ (looks : List Look). IsAliveOrNoted looks now other) (sym is) (noted_kept view.row.looks chunk (decode c.head_at-head.result) c.args.dead.now now c.note.ensures.notes other judged)

pub returns-else-head-eq-DEAD-clause-judged : goal.returns-else-head-eq-DEAD-clause-judged
returns-else-head-eq-DEAD-clause-judged c =
    let view = c.args.hand.now.seat.me.0 in
    let chunk = c.args.chunk in
    let is = looks_more view c.head_at-head.new.hand.seat.me.0 chunk c.head_at-head.result c.args.held.now.shared c.requires.held c.head_at-head.ensures.seen in
    subst (λ (looks : List Look). IsAliveOrNoted looks c.args.dead.now chunk) (sym is) (alive_judged view.row.looks chunk (decode c.head_at-head.result) c.args.dead.now (word_alive c.head_at-head.result c.if-head-eq-DEAD.false))

pub returns-else-head-eq-DEAD-clause-kept : goal.returns-else-head-eq-DEAD-clause-kept
returns-else-head-eq-DEAD-clause-kept c other judged =
    let view = c.args.hand.now.seat.me.0 in
    let chunk = c.args.chunk in
    let is = looks_more view c.head_at-head.new.hand.seat.me.0 chunk c.head_at-head.result c.args.held.now.shared c.requires.held c.head_at-head.ensures.seen in
    subst (λ (looks : List Look). IsAliveOrNoted looks c.args.dead.now other) (sym is) (alive_kept view.row.looks chunk (decode c.head_at-head.result) c.args.dead.now (word_alive c.head_at-head.result c.if-head-eq-DEAD.false) other judged)
