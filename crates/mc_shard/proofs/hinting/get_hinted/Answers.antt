use Rattle.std.proofs.Common.{◌∙◌, Some, inr, refl, sym}
use Rattle.mc_words.specs.hand.Arenas.{view}
use Rattle.mc_shard.proofs.Found.{found_item, no_hint}
use Rattle.mc_shard.proofs.Idle.{alone, none_left}
use Rattle.mc_shard.proofs.Slabs.{missed_in_vain}
use Rattle.mc_shard.proofs.hinting.get_hinted.Goals as goal

pub returns-then-key-hash-clause-item : goal.returns-then-key-hash-clause-item
returns-then-key-hash-clause-item c =
    let key = sym c.key.ensures.key ∙ c.if-key-hash.true in
    found_item c.args.arena.now c.args.hash c.args.hand.now c.args.hand.now c.again.new.hand (Some c.in-Ok.item) (no_hint c.args.hash c.args.hand.now) refl c.again.ensures.hand.arena c.again.ensures.hand.ready c.in-Ok.ensures.stores_nothing
    (inr (c.in_ok-hint.hint, c.in-Ok.ensures.current, key)) (c.in-Ok.ensures.item, key) c.requires.none c.in-Ok.ensures.holdings

pub returns-else-key-hash-clause-none : goal.returns-else-key-hash-clause-none
returns-else-key-hash-clause-none c = λ is. record {
  of_arena = c.release.ensures.hand.arena;
  ready = c.release.ensures.hand.ready;
  none = none_left (view c.again.new.hand) (view c.again.new.hand) (view c.release.new.hand) c.in-Ok.item (alone (view c.args.hand.now) (view c.again.new.hand) c.in-Ok.item c.requires.none c.in-Ok.ensures.holdings) refl c.release.ensures.holdings;
}

pub returns-else-key-hash-clause-tries : goal.returns-else-key-hash-clause-tries
returns-else-key-hash-clause-tries c = λ is. record {
  number = c.release.ensures.hand.number ∙ c.again.ensures.hand.number;
  did = inr (c.in_ok-hint.hint, inr (inr (view c.again.new.hand, c.in-Ok.item, c.in-Ok.ensures.current, (λ same. c.if-key-hash.false (c.key.ensures.key ∙ same)), c.release.ensures.dropped)));
}

pub returns-in-Err-clause-tries : goal.returns-in-Err-clause-tries
returns-in-Err-clause-tries c = λ is. record {
  number = c.again.ensures.hand.number;
  did = missed_in_vain c.in-Err.field-0 c.args.hash c.in_ok-hint.hint (view c.args.hand.now) (view c.again.new.hand)
      (λ e. c.in-Err.ensures.gone e) (λ e. c.in-Err.ensures.contended e) (λ e. c.in-Err.ensures.refused e);
}
