use Rattle.std.proofs.Common.{refl}
use Rattle.mcmap.proofs.PlayedMore.{leads_nowhere, leads_on}
use Rattle.mcmap.proofs.show.play_all.Goals as goal

pub loop-command-preserved : goal.loop-command-preserved
loop-command-preserved c = λ after later rest.
    c.loop-command.invariant after later
    (leads_on c.args.commands.now c.loop-command.command-index _ _ c.loop-command.player.keeper c.play.new.self.keeper after c.loop-command.player.books c.play.new.self.books later
    c.loop-command-test.true refl c.in_ok-play.ensures.machine c.in_ok-play.ensures.books rest)

pub returns : goal.returns
returns c = record {
  played = c.loop-command.invariant c.loop-command.player.keeper c.loop-command.player.books
      (leads_nowhere c.args.commands.now c.loop-command.command-index c.loop-command.player.keeper c.loop-command.player.books c.loop-command-test.false);
}
