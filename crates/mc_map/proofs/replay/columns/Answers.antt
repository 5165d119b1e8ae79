use Rattle.std.proofs.Common.{◌≡◌, ◌++◌, ◌∷◌, [], take, Some, arith, rules}
use Rattle.mc_pages.specs.Ledger.{all_untouched, replay}
use Rattle.mc_map.proofs.ReplaysMore.{one_more}
use Rattle.mc_map.proofs.replay.columns.Goals as goal

pub loop-count-preserved : goal.loop-count-preserved
loop-count-preserved c =
    let pushed : c.push.new.list.items ≡ c.loop-count.columns.items ++ c.in_ok-owners.owners ∷ [] = search rules in
    let shows : Some c.in_ok-owners.owners.items ≡ replay (all_untouched c.args.pages) (take c.loop-count.count c.args.entries.now) = search rules in
    one_more (λ column. Some column.items) c.loop-count.columns.items c.push.new.list.items c.in_ok-owners.owners c.args.pages c.loop-count.count c.args.entries.now pushed shows c.loop-count.invariant
