use Rattle.std.proofs.Common.{Ok, Result, inl, refl, sym, subst, ◌∙◌}
use Rattle.mc_words.specs.hand.Observers.{hand_number}
use Rattle.mc_items.specs.declared.comparing.Expected.{Expected}
use Rattle.mc_shard.specs.declared.conditions.Outcome.{Outcome}
use Rattle.mc_shard.specs.Conditions.{DoesBehindLook}
use Rattle.mc_shard.proofs.Lengths.{too_large_of}
use Rattle.mc_shard.proofs.Tried.{tried}
use Rattle.mc_shard.proofs.conditions.set_if.Goals as goal

pub returns-in-Ok-expected_behind-clause-sets : goal.returns-in-Ok-expected_behind-clause-sets
returns-in-Ok-expected_behind-clause-sets g c =
    let stored = c.set_where-stored in
    inl (record {
      seen = c.in-Ok.seen;
      sees = c.in-Ok.ensures.sees;
      between = c.look.new.hand;
      looks = record { calls = c.look.ensures.calls; stores_nothing = c.look.ensures.stores_nothing; slabs = c.look.ensures.slabs; number = c.look.ensures.number };
      does = subst (λ (choice : Result Expected Outcome). DoesBehindLook choice (hand_number c.args.hand.now) c.args.at.hash c.args.at.key.now c.args.value.now c.store_outcome.result c.look.new.hand stored.new.hand) (sym c.in-Ok-expected_behind.is ∙ c.expected_behind.ensures)
          (stored.result, c.store_outcome.ensures, tried (hand_number c.args.hand.now) (hand_number c.look.new.hand) c.args.at.hash c.look.ensures.number c.args.at.key.now c.args.value.now c.look.new.hand stored.new.hand c.in-Ok-expected_behind.expected stored.result stored.ensures.sets stored.ensures.stores_words stored.ensures.calls stored.ensures.refused stored.ensures.evicts stored.ensures.stores_nothing);
    })

pub returns-in-Err-expected_behind-clause-sets : goal.returns-in-Err-expected_behind-clause-sets
returns-in-Err-expected_behind-clause-sets g c =
    inl (record {
      seen = c.in-Ok.seen;
      sees = c.in-Ok.ensures.sees;
      between = c.look.new.hand;
      looks = record { calls = c.look.ensures.calls; stores_nothing = c.look.ensures.stores_nothing; slabs = c.look.ensures.slabs; number = c.look.ensures.number };
      does = subst (λ (choice : Result Expected Outcome). DoesBehindLook choice (hand_number c.args.hand.now) c.args.at.hash c.args.at.key.now c.args.value.now (Ok c.in-Err-expected_behind.refused) c.look.new.hand c.look.new.hand) (sym c.in-Err-expected_behind.is ∙ c.expected_behind.ensures) (refl, refl);
    })

pub returns-in-Ok-expected_behind-clause-too_large : goal.returns-in-Ok-expected_behind-clause-too_large
returns-in-Ok-expected_behind-clause-too_large g c = λ is. c.set_where-stored.ensures.too_large.0 (too_large_of c.set_where-stored.result (sym c.store_outcome.ensures ∙ is))
