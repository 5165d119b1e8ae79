use Rattle.std.proofs.Common.{◌∙◌, ◌++◌}
use Rattle.mc_words.proofs.Pages.Judged.{judged_both}
use Rattle.mc_words.proofs.Pages.LookedOver.{sees_both}
use Rattle.mc_words.proofs.arena.Arena.look_at_page.Goals as goal

pub loop-word-preserved : goal.loop-word-preserved
loop-word-preserved c =
    let inv = c.loop-word.invariant in
    let each = c.look_at_each.ensures in
    let (more, sees, judged) = each.sees in record {
      arena = each.arena;
      locks = each.locks ∙ inv.locks;
      held = each.held;
      out = each.out;
      looked = inv.looked ++ more;
      sees = sees_both inv.looked more c.args.hand.now.seat.me.0 c.loop-word.hand.seat.me.0 c.look_at_each.new.hand.seat.me.0 inv.sees sees;
      judged = judged_both inv.looked more c.loop-word.hand.seat.me.0.row.looks c.look_at_each.new.hand.seat.me.0.row.looks c.loop-word.dead c.look_at_each.new.dead inv.judged each.kept judged;
      kept = λ other before. each.kept other (inv.kept other before);
    }
