use Rattle.std.proofs.Common.{Ok, Result, inl, refl, sym, subst, ◌∙◌}
use Rattle.mc_words.specs.hand.Observers.{hand_number}
use Rattle.mc_items.specs.declared.comparing.Expected.{Expected}
use Rattle.mc_shard.specs.declared.conditions.Outcome.{Outcome}
use Rattle.mc_shard.specs.Conditions.{DoesBehindLookWithin}
use Rattle.mc_shard.proofs.Lengths.{too_large_of_within}
use Rattle.mc_shard.proofs.Tried.{tried_within}
use Rattle.mc_shard.proofs.conditions.set_if_within.Goals as goal

pub returns-in-Ok-expected_behind-clause-sets : goal.returns-in-Ok-expected_behind-clause-sets
returns-in-Ok-expected_behind-clause-sets c =
    let stored = c.set_where_within-stored in
    inl (record {
      seen = c.in-Ok.seen;
      sees = c.in-Ok.ensures.sees;
      between = c.look_within.new.hand;
      looks = record { calls = c.look_within.ensures.calls; stores_nothing = c.look_within.ensures.stores_nothing; slabs = c.look_within.ensures.slabs; number = c.look_within.ensures.number };
      does = subst (λ (choice : Result Expected Outcome). DoesBehindLookWithin c.args.tries choice (hand_number c.args.hand.now) c.args.at.hash c.args.at.key.now c.args.value.now c.store_outcome_within.result c.look_within.new.hand stored.new.hand) (sym c.in-Ok-expected_behind.is ∙ c.expected_behind.ensures)
          (stored.result, c.store_outcome_within.ensures, tried_within (hand_number c.args.hand.now) (hand_number c.look_within.new.hand) c.args.at.hash c.look_within.ensures.number c.args.at.key.now c.args.value.now c.look_within.new.hand stored.new.hand c.args.tries c.in-Ok-expected_behind.expected stored.result stored.ensures.sets stored.ensures.stores_words stored.ensures.calls stored.ensures.refused stored.ensures.evicts stored.ensures.stores_nothing);
    })

pub returns-in-Err-clause-sets : goal.returns-in-Err-clause-sets
returns-in-Err-clause-sets c =
    inl (record {
      seen = c.in-Ok.seen;
      sees = c.in-Ok.ensures.sees;
      between = c.look_within.new.hand;
      looks = record { calls = c.look_within.ensures.calls; stores_nothing = c.look_within.ensures.stores_nothing; slabs = c.look_within.ensures.slabs; number = c.look_within.ensures.number };
      does = subst (λ (choice : Result Expected Outcome). DoesBehindLookWithin c.args.tries choice (hand_number c.args.hand.now) c.args.at.hash c.args.at.key.now c.args.value.now (Ok c.in-Err.refused) c.look_within.new.hand c.look_within.new.hand) (sym c.in-Err.is ∙ c.expected_behind.ensures) (refl, refl);
    })

pub returns-in-Ok-expected_behind-clause-too_large : goal.returns-in-Ok-expected_behind-clause-too_large
returns-in-Ok-expected_behind-clause-too_large c = λ is. c.set_where_within-stored.ensures.too_large.0 (too_large_of_within c.set_where_within-stored.result (sym c.store_outcome_within.ensures ∙ is))
