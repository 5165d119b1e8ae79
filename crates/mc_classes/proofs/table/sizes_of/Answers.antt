use Rattle.std.proofs.Common.{ℕ, ◌*◌, ◌/◌, ◌<◌, ◌≤◌, IsTrue, List, [], ◌∷◌, ◌++◌, length, ◌∙◌, arith, refl, subst, sym}
use Rattle.std.proofs.lemmas.Bool.{ltb-false}
use Rattle.std.proofs.lemmas.List.{length_push}
use Rattle.mc_classes.specs.Classes.{ComesFrom}
use Rattle.mc_classes.specs.Refusals.{is_below_max}
use Rattle.mc_classes.proofs.Accepted.{accepted}
use Rattle.mc_classes.proofs.Begun.{IsBegun, begun_none, begun_more, begun_all, below_max, rounded_within, grown_within}
use Rattle.mc_classes.proofs.table.sizes_of.Goals as goal
use Rattle.mc_classes.proofs.table.sizes_of.Goals.{then-loop-size-test+else-is_below_max, else-loop-size-test}

pub loop-size-init : goal.loop-size-init
loop-size-init c =
    let config = c.args.config.now in
    let a = accepted config c.requires in
    record {
      small = omega (arith, a.first, a.page);
      room = omega (arith, c.in_ok-sizes.ensures.capacity);
      within_limit = subst (λ (sizes : List ℕ). length sizes ≤ 62) (sym c.in_ok-sizes.ensures.items) (omega arith);
      begun = (config.first ∷ [], subst (λ (sizes : List ℕ). IsBegun config (config.first ∷ []) sizes config.first) (sym c.in_ok-sizes.ensures.items) (begun_none config));
    }

pub rounded_up-size-requires : goal.rounded_up-size-requires
rounded_up-size-requires c =
    let config = c.args.config.now in
    let a = accepted config c.requires in
    let below = below_max config c.loop-size.raw a (sym c.is_below_max.ensures ∙ c.if-is_below_max.true) in
    omega (arith, a.max, a.page)

pub loop-size-preserved : goal.loop-size-preserved
loop-size-preserved c =
    let config = c.args.config.now in
    let raw = c.loop-size.raw in
    let size = c.rounded_up-size.result in
    let next = size * config.num / config.den in
    let sizes = c.loop-size.sizes.items in
    let a = accepted config c.requires in
    let below : IsTrue (is_below_max config raw) = sym c.is_below_max.ensures ∙ c.if-is_below_max.true in
    let within = rounded_within config raw a (below_max config raw a below) in
    let grown = grown_within config size a (omega (arith, c.rounded_up-size.ensures)) in
    let begun = c.loop-size.invariant.begun in
    let pushed = rw c.unwrap.ensures at c.push.ensures.items in
    record {
      small = grown.1;
      room = omega (arith, c.push.ensures.capacity);
      within_limit = subst (λ (all : List ℕ). length all ≤ 62) (sym pushed) (omega (arith, length_push sizes size, c.loop-size.sizes.ok.0));
      begun = (
        begun.0 ++ next ∷ [],
        subst (λ (all : List ℕ). IsBegun config (begun.0 ++ next ∷ []) all next) (sym pushed)
            (begun_more config begun.0 sizes raw size next begun.1 (record { below = below; raised = c.rounded_up-size.ensures; grown = refl })),
      );
    }

pub returns : goal.returns
returns c =
    let config = c.args.config.now in
    let raw = c.loop-size.raw in
    let sizes = c.loop-size.sizes.items in
    let begun = c.loop-size.invariant.begun in
    let pushed = rw c.unwrap-2.ensures at c.push-2.ensures.items in
    let done : length sizes < 62 → config.max * config.den ≤ raw * config.num =
    λ h. elim c.loop-size-test.branch [
      | then-loop-size-test+else-is_below_max w ↦ ltb-false (raw * config.num) (config.max * config.den) (sym w.is_below_max.ensures ∙ w.if-is_below_max.false)
      | else-loop-size-test w ↦ absurd (omega (arith, c.loop-size.sizes.ok.0))
    ] in
    (begun.0, subst (λ (all : List ℕ). ComesFrom config begun.0 all) (sym pushed) (begun_all config begun.0 sizes raw begun.1 c.loop-size.invariant.within_limit done))
