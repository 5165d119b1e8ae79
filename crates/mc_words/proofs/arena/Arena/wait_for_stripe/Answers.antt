use Rattle.std.proofs.Common.{◌≡◌, ◌≢◌, ℕ, List, [], ◌∷◌, ◌++◌, sym, ap, subst, ◌∙◌, slice_get}
use Rattle.mc_stripe.specs.declared.history.Call.{Call}
use Rattle.mc_words.specs.declared.hand.Hand.{Hand}
use Rattle.mc_words.specs.hand.Arenas.{IsHandOf}
use Rattle.mc_words.specs.lock.Out.{locks_have_no_stripe}
use Rattle.mc_words.specs.lock.Wait.{MissesStripe}
use Rattle.mc_words.proofs.Locks.Unlocked.{unlocked_from, no_stripe_unlocked, no_stripes_there}
use Rattle.mc_words.proofs.Locks.Waits.{last_or, last_added, missed_stripe_again, misses_seen, not_free}
use Rattle.mc_words.proofs.arena.Arena.wait_for_stripe.Goals as goal
use Rattle.mc_words.proofs.arena.Arena.wait_for_stripe.Goals.{then-free+in_default, else-free}

pub try_stripe-requires : goal.try_stripe-requires
try_stripe-requires g c =
    let a = c.args.hand.now in
    let b = c.loop.hand in
    record { arena = c.loop.invariant.0; in_range = c.requires.in_range; one = no_stripes_there b.seat.me.0 b.locks b.noted.4 (ap locks_have_no_stripe c.loop.invariant.1 ∙ no_stripe_unlocked a.locks (unlocked_from a.seat.me.0 a.locks a.noted.4 ∙ c.requires.unlocked)) }

pub returns-in-Ok-clause-waits : goal.returns-in-Ok-clause-waits
returns-in-Ok-clause-waits g c =
    let (words, misses, _) = c.loop.invariant.2 in
    record { words = words; before = c.loop.hand.seat.me.0; misses = misses; taken = c.in-Ok.ensures.taken; is = c.in-Ok.ensures.lent; begins = λ seen is. c.in-Ok.ensures.seen seen (ap (λ (all : List (List Call)). slice_get all c.args.stripe) (misses_seen c.args.stripe words c.args.hand.now.seat.me.0 c.loop.hand.seat.me.0 misses) ∙ is) }

pub stripe_word-free-requires : goal.stripe_word-free-requires
stripe_word-free-requires g c = record {
  arena = elim c.if-free.branch [
    | then-free+in_default w ↦ subst (IsHandOf c.args.self.now) (sym w.hand-is) w.in_default.ensures.arena
    | else-free w ↦ subst (IsHandOf c.args.self.now) (sym w.hand-is) c.loop.invariant.0
  ];
  in_range = c.requires.in_range;
}

pub loop-preserved : goal.loop-preserved
loop-preserved g c =
    let (old, misses, busy) = c.loop.invariant.2 in
    let view = c.args.hand.now.seat.me.0 in
    let stripe = c.args.stripe in
    let seen = c.stripe_word-free.result in
    let (words, missed, last) : (words : List ℕ) × MissesStripe stripe words view c.if-free.hand.seat.me.0 × (last_or words 1 ≢ 0) = elim c.if-free.branch [
      | then-free+in_default w ↦
          let (word, held, is) = w.in_default.ensures.held in
          subst (λ (h : Hand). (words : List ℕ) × MissesStripe stripe words view h.seat.me.0 × (last_or words 1 ≢ 0)) (sym w.hand-is)
          (old ++ word ∷ [], missed_stripe_again c.loop.hand.seat.me.0 w.try_stripe.new.hand.seat.me.0 word stripe old view 1 (λ _. held) w.in_default.ensures.missed is misses, λ zero_is. held (sym (last_added old word 1) ∙ zero_is))
      | else-free w ↦ subst (λ (h : Hand). (words : List ℕ) × MissesStripe stripe words view h.seat.me.0 × (last_or words 1 ≢ 0)) (sym w.hand-is) (old, misses, busy w.if-free.false)
    ] in
    let locks : c.if-free.hand.locks ≡ c.args.hand.now.locks = elim c.if-free.branch [
      | then-free+in_default w ↦ ap (λ (h : Hand). h.locks) w.hand-is ∙ (w.in_default.ensures.same ∙ c.loop.invariant.1)
      | else-free w ↦ ap (λ (h : Hand). h.locks) w.hand-is ∙ c.loop.invariant.1
    ] in (
      c.stripe_word-free.ensures.arena,
      c.stripe_word-free.ensures.locks ∙ locks,
      (
        words ++ seen ∷ [],
        missed_stripe_again c.if-free.hand.seat.me.0 c.stripe_word-free.new.hand.seat.me.0 seen stripe words view 1 (λ zero_is. absurd (last zero_is)) c.stripe_word-free.ensures.happens c.stripe_word-free.ensures.seen missed,
        not_free words seen 1,
      ),
    )
