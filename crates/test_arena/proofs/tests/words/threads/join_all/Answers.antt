use Rattle.std.proofs.Common.{Some, rules}
use Rattle.std.proofs.lemmas.List.Elements.{All-pop}
use Rattle.mc_words.specs.hand.Arenas.{IsHandOf}
use Rattle.test_arena.proofs.tests.words.threads.join_all.Goals as goal

pub both-requires-clause-second : goal.both-requires-clause-second
both-requires-clause-second c = (All-pop (λ worked. IsHandOf c.args.arena.now worked.hand) c.loop-worked.all.items c.pop-in-loop-worked.new.self.items (Some c.in-Some.worked) c.in-Some.ensures.items c.loop-worked.invariant.1).1

pub loop-worked-preserved : goal.loop-worked-preserved
loop-worked-preserved c = (search rules, (All-pop (λ worked. IsHandOf c.args.arena.now worked.hand) c.loop-worked.all.items c.pop-in-loop-worked.new.self.items (Some c.in-Some.worked) c.in-Some.ensures.items c.loop-worked.invariant.1).0)
