use Rattle.std.proofs.Common.{◌+◌, ◌∙◌, [], ◌∷◌, ◌++◌}
use Rattle.mc_pages.specs.declared.ids.ChunkId.{ChunkId}
use Rattle.mc_words.proofs.Pages.Judged.{judged_more}
use Rattle.mc_words.proofs.Pages.LookedOver.{sees_more}
use Rattle.mc_words.proofs.arena.Arena.look_at_each.Goals as goal

pub loop-preserved : goal.loop-preserved
loop-preserved c =
    let inv = c.loop.invariant in
    let chunk : ChunkId = record { page = c.args.first.page; index = c.args.first.index + c.from.result } in record {
      arena = c.judge.ensures.arena;
      locks = c.judge.ensures.locks ∙ inv.locks;
      held = c.judge.ensures.held;
      out = c.judge.ensures.out;
      looked = inv.looked ++ chunk ∷ [];
      sees = sees_more inv.looked chunk c.args.hand.now.seat.me.0 c.loop.hand.seat.me.0 c.judge.new.hand.seat.me.0 inv.sees c.judge.ensures.sees;
      judged = judged_more inv.looked chunk c.loop.hand.seat.me.0.row.looks c.judge.new.hand.seat.me.0.row.looks c.loop.dead c.judge.new.dead inv.judged c.judge.ensures.kept c.judge.ensures.judged;
      kept = λ other judged. c.judge.ensures.kept other (inv.kept other judged);
    }
