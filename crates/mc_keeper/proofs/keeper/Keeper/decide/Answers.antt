use Rattle.std.proofs.Common.{rules, ◌≡◌, Option, Some, None, Result, Ok, Err, ap, sym, ◌∙◌}
use Rattle.std.specs.Prelude.{IfErr}
use Rattle.std.specs.Result.{IsOk}
use Rattle.std.proofs.lemmas.Option.{none-some}
use Rattle.mc_watch.specs.declared.decider.Decision.{Decision}
use Rattle.mc_watch.specs.declared.refusal.Feed.{Feed}
use Rattle.mc_watch.specs.Decider.{feed_refusal}
use Rattle.mc_serial_spec.specs.Machine.{Machine}
use Rattle.mc_keeper.proofs.Watched.{taken_fed, watched_fed}
use Rattle.mc_keeper.proofs.keeper.Keeper.decide.Goals as goal

pub invariant_of-self : goal.invariant_of-self
invariant_of-self c = record {
  kept = c.self.invariant.kept;
  watched = watched_fed c.self.inside.slabs.state c.args.self.now.slabs c.self.inside.decider _ _ _ _ c.self.invariant.watched (sym (ap (λ (m : Machine). m.slabs) c.self.view_is))
      (c.deref.ensures.value ∙ c.in_ok-counts.ensures.evictions) (c.deref-2.ensures.value ∙ c.in_ok-counts.ensures.pages) (c.deref-3.ensures.value ∙ c.in_ok-counts.ensures.free)
      (rw c.unwrap-decision.ensures at c.feed.ensures.noted);
  counted = c.self.invariant.counted;
  indexed = c.self.invariant.indexed;
  bulk = c.self.invariant.bulk;
}

pub invariant_of-self-2 : goal.invariant_of-self-2
invariant_of-self-2 c = record {
  kept = c.self.invariant.kept;
  watched = watched_fed c.self.inside.slabs.state c.args.self.now.slabs c.self.inside.decider _ _ _ _ c.self.invariant.watched (sym (ap (λ (m : Machine). m.slabs) c.self.view_is))
      (c.deref.ensures.value ∙ c.in_ok-counts.ensures.evictions) (c.deref-2.ensures.value ∙ c.in_ok-counts.ensures.pages) (c.deref-3.ensures.value ∙ c.in_ok-counts.ensures.free)
      (rw c.unwrap-decision.ensures at c.feed.ensures.noted);
  counted = c.self.invariant.counted;
  indexed = c.self.invariant.indexed;
  bulk = c.self.invariant.bulk;
}

-- what is refused by no test isn't refused
never_refused : (result : Result (Option Decision) Feed) (refusal : Option Feed) → IfErr result (λ r. refusal ≡ Some r) → refusal ≡ None → IsOk result
never_refused (Ok decision) refusal told none = search rules
never_refused (Err r) refusal told none = absurd (none-some r (sym none ∙ told))

pub unwrap-decision-requires : goal.unwrap-decision-requires
unwrap-decision-requires c =
    never_refused c.feed.result (feed_refusal c.self.inside.decider c.deref.result.now c.deref-2.result.now c.deref-3.result.now) c.feed.ensures.refused
    (taken_fed c.self.inside.slabs.state c.args.self.now.slabs c.self.inside.decider _ _ _ c.self.invariant.watched (sym (ap (λ (m : Machine). m.slabs) c.self.view_is))
    (c.deref.ensures.value ∙ c.in_ok-counts.ensures.evictions) (c.deref-2.ensures.value ∙ c.in_ok-counts.ensures.pages) (c.deref-3.ensures.value ∙ c.in_ok-counts.ensures.free))
