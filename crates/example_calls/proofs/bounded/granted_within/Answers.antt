use Rattle.std.proofs.Common.{◌≡◌, [], ◌∷◌, ◌++◌, length, refl, ap, ◌∙◌, arith}
use Rattle.mc_core.specs.declared.event.Step.TheVariants as step
use Rattle.mc_words.specs.hand.Arenas.{view}
use Rattle.mc_words.specs.hand.View.{View, made}
use Rattle.mc_words.specs.lock.Out.{without_slabs}
use Rattle.mc_items.proofs.Chains.{ready_still}
use Rattle.mc_items.proofs.Locks.{slabs_back, waits_slabs_keep}
use Rattle.mc_items.proofs.Missed.{missed_holds}
use Rattle.example_calls.proofs.Misses.{misses_slabs, one_more, waits_slabs}
use Rattle.example_calls.proofs.bounded.granted_within.Goals as goal

pub returns-in_default-clause-ready : goal.returns-in_default-clause-ready
returns-in_default-clause-ready c =
    let missed = c.in_default.ensures in
    let now = c.slabs_within.new.hand in
    (missed.arena, ready_still c.args.hand.now now missed.same (missed_holds c.args.tries (view c.args.hand.now) (view now) missed.missed) c.requires.1)

pub returns-in_default-clause-missed : goal.returns-in_default-clause-missed
returns-in_default-clause-missed c =
    let missed = c.in_default.ensures.missed in
    let more = misses_slabs missed.words (view c.args.hand.now) (view c.slabs_within.new.hand) missed.misses in
    let count = missed.count in
    omega (arith, more, count)

pub returns-clause-ready : goal.returns-clause-ready
returns-clause-ready c =
    let hand = c.args.hand.now in
    let now = c.give_slabs.new.hand in
    let held = c.in-Ok in
    let waited = waits_slabs_keep (λ (v : View). v.row.holdings) (λ word v. refl) (λ slabs v. refl) (view hand) held.held.shared (view c.slabs_within.new.hand) held.ensures.within.waits in (
      c.give_slabs.ensures.arena,
      ready_still hand now (c.give_slabs.ensures.locks ∙ (ap without_slabs held.ensures.locks ∙ slabs_back hand c.requires.1.unlocked))
          (ap (λ (v : View). v.row.holdings) c.give_slabs.ensures.left ∙ waited) c.requires.1,
    )

pub returns-clause-within_limit : goal.returns-clause-within_limit
returns-clause-within_limit c =
    let taken : View = view c.slabs_within.new.hand in
    let within = c.in-Ok.ensures.within in
    let within_limit = within.within_limit in
    let waits = waits_slabs (view c.args.hand.now) c.in-Ok.held.shared taken within.waits in
    let one = one_more taken.events (made [] step.GiveSlabs) in
    let given : length (view c.give_slabs.new.hand).events ≡ length (taken.events ++ made [] step.GiveSlabs ∷ []) = ap (λ (v : View). length v.events) c.give_slabs.ensures.left in
    omega (arith, within_limit, waits, one, given)
