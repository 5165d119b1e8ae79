use Rattle.std.proofs.Common.{Option, ap, subst, ◌∙◌}
use Rattle.mc_words.specs.hand.Arenas.{setup_of, view}
use Rattle.mc_words.specs.hand.Views.{chunk_released}
use Rattle.mc_items.specs.declared.refs.Ref.{Ref}
use Rattle.mc_items.specs.ItemRefs.{item_chunk}
use Rattle.mc_workers.specs.Serving.{FindsForLine}
use Rattle.mc_workers.proofs.KeptRefs.{gained, kept_again}
use Rattle.mc_workers.proofs.line.get_words.Goals as goal

-- what was got was read and released
pub returns-in-Ok-clause-answers : goal.returns-in-Ok-clause-answers
returns-in-Ok-clause-answers g c = record {
  item = c.in-Ok-Some.item;
  got = c.get.new.hand;
  finds = subst (λ (o : Option Ref). FindsForLine (setup_of c.args.arena.now) c.args.key o c.args.hand.now c.get.new.hand) c.in-Ok-Some.field-0-is (c.in-Ok-Some.ensures.gets, c.in-Ok-Some.ensures.calls);
  are = c.in-Ok.ensures.words;
  released = c.release.ensures.dropped ∙ ap (chunk_released (item_chunk c.in-Ok-Some.item)) c.in-Ok.ensures.view;
}

pub returns-in-Ok-clause-holdings : goal.returns-in-Ok-clause-holdings
returns-in-Ok-clause-holdings g c = kept_again (view c.args.hand.now) (view c.get.new.hand) (view c.read-words.new.hand) (view c.release.new.hand) c.in-Ok-Some.item c.get.ensures.keeps
    (gained (view c.args.hand.now) (view c.get.new.hand) c.in-Ok-Some.field-0 c.in-Ok-Some.item c.in-Ok-Some.field-0-is c.in-Ok-Some.ensures.holdings) c.read-words.ensures.holdings c.release.ensures.keeps c.release.ensures.holdings

-- it was released after a read that failed, too
pub returns-in-Err-clause-holdings : goal.returns-in-Err-clause-holdings
returns-in-Err-clause-holdings g c = kept_again (view c.args.hand.now) (view c.get.new.hand) (view c.read-words.new.hand) (view c.release.new.hand) c.in-Ok-Some.item c.get.ensures.keeps
    (gained (view c.args.hand.now) (view c.get.new.hand) c.in-Ok-Some.field-0 c.in-Ok-Some.item c.in-Ok-Some.field-0-is c.in-Ok-Some.ensures.holdings) c.read-words.ensures.holdings c.release.ensures.keeps c.release.ensures.holdings
