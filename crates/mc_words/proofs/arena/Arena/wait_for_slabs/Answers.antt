use Rattle.std.proofs.Common.{◌≡◌, ◌≢◌, ℕ, List, [], ◌∷◌, ◌++◌, sym, ap, subst, ◌∙◌}
use Rattle.mc_words.specs.declared.hand.Hand.{Hand}
use Rattle.mc_words.specs.hand.Arenas.{IsHandOf}
use Rattle.mc_words.specs.lock.Wait.{MissesSlabs}
use Rattle.mc_words.proofs.Locks.Waits.{last_or, last_added, missed_again, not_free}
use Rattle.mc_words.proofs.arena.Arena.wait_for_slabs.Goals as goal
use Rattle.mc_words.proofs.arena.Arena.wait_for_slabs.Goals.{then-free+in_default, else-free}

pub returns-in-Ok-clause-waits : goal.returns-in-Ok-clause-waits
returns-in-Ok-clause-waits g c =
    let (words, misses, _) = c.loop.invariant.2 in
    record { words = words; before = c.loop.hand.seat.me.0; misses = misses; taken = c.in-Ok.ensures.taken; is = c.in-Ok.ensures.lent }

pub slabs_word-free-requires : goal.slabs_word-free-requires
slabs_word-free-requires g c = record {
  arena = elim c.if-free.branch [
    | then-free+in_default w ↦ subst (IsHandOf c.args.self.now) (sym w.hand-is) w.in_default.ensures.arena
    | else-free w ↦ subst (IsHandOf c.args.self.now) (sym w.hand-is) c.loop.invariant.0
  ];
}

pub loop-preserved : goal.loop-preserved
loop-preserved g c =
    let (old, misses, busy) = c.loop.invariant.2 in
    let view = c.args.hand.now.seat.me.0 in
    let seen = c.slabs_word-free.result in
    let (words, missed, last) : (words : List ℕ) × MissesSlabs words view c.if-free.hand.seat.me.0 × (last_or words 1 ≢ 0) = elim c.if-free.branch [
      | then-free+in_default w ↦
          let (word, held, is) = w.in_default.ensures.held in
          subst (λ (h : Hand). (words : List ℕ) × MissesSlabs words view h.seat.me.0 × (last_or words 1 ≢ 0)) (sym w.hand-is)
          (old ++ word ∷ [], missed_again c.loop.hand.seat.me.0 w.try_slabs.new.hand.seat.me.0 word old view 1 (λ _. held) w.in_default.ensures.missed is misses, λ zero_is. held (sym (last_added old word 1) ∙ zero_is))
      | else-free w ↦ subst (λ (h : Hand). (words : List ℕ) × MissesSlabs words view h.seat.me.0 × (last_or words 1 ≢ 0)) (sym w.hand-is) (old, misses, busy w.if-free.false)
    ] in
    let locks : c.if-free.hand.locks ≡ c.args.hand.now.locks = elim c.if-free.branch [
      | then-free+in_default w ↦ ap (λ (h : Hand). h.locks) w.hand-is ∙ (w.in_default.ensures.same ∙ c.loop.invariant.1)
      | else-free w ↦ ap (λ (h : Hand). h.locks) w.hand-is ∙ c.loop.invariant.1
    ] in (
      c.slabs_word-free.ensures.arena,
      c.slabs_word-free.ensures.locks ∙ locks,
      (
        words ++ seen ∷ [],
        missed_again c.if-free.hand.seat.me.0 c.slabs_word-free.new.hand.seat.me.0 seen words view 1 (λ zero_is. absurd (last zero_is)) c.slabs_word-free.ensures.happens c.slabs_word-free.ensures.seen missed,
        not_free words seen 1,
      ),
    )
