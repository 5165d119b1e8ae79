use Rattle.std.proofs.Common.{◌∙◌, ◌<◌, sym, ap, if◌then◌else◌, length, set, arith}
use Rattle.mc_core.specs.declared.holding.Holding.{Holding}
use Rattle.mc_core.specs.model.Holdings.{is_of_chunk}
use Rattle.mc_core.specs.run.Chunks.{holding_with_word}
use Rattle.mc_core.proofs.Steps.Lists.{changed_more, changed_whole}
use Rattle.mc_core.proofs.holding.fill_chunk.Goals as goal

pub loop-holding-init : goal.loop-holding-init
loop-holding-init c = c.deref_mut-holding-items.ensures.value ∙ c.holdings.view_is

pub loop-holding-preserved : goal.loop-holding-preserved
loop-holding-preserved c =
    let change = λ (holding : Holding). if is_of_chunk c.args.chunk holding then holding_with_word c.args.place c.args.word holding else holding in
    let long = c.loop-holding.auto.holding-items in
    let test = c.loop-holding-test.true in
    let within : c.loop-holding.holding-index < length c.loop-holding.holding-items = omega arith in
    let place = c.loop-holding.holding-index in
    changed_more change c.args.holdings.now c.loop-holding.holding-items _ place c.holding-item.result c.loop-holding.invariant within (sym c.holding-item.is)
    (ap (set c.loop-holding.holding-items place) (c.fill.ensures ∙ ap change (sym c.holding-item.is)))

pub returns : goal.returns
returns c =
    let change = λ (holding : Holding). if is_of_chunk c.args.chunk holding then holding_with_word c.args.place c.args.word holding else holding in
    let long = c.loop-holding.auto.holding-items in
    let value = ap length (c.deref_mut-holding-items.ensures.value ∙ c.holdings.view_is) in
    let count = c.deref_mut-holding-items.ensures.len in
    let end = c.loop-holding-test.false in
    let most = c.loop-holding.auto.holding-index-end in
    changed_whole change c.args.holdings.now c.loop-holding.holding-items _ c.loop-holding.holding-index c.holdings.inside.items.len c.loop-holding.invariant (omega arith) (omega arith)
