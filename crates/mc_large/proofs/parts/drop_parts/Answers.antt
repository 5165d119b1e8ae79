use Rattle.std.proofs.Common.{◌∙◌, ◌≡◌, ◌≤◌, List, arith, get_or, length, subst, sym, take, ℕ}
use Rattle.std.proofs.lemmas.List.{length-take-le, take_more}
use Rattle.mc_large.specs.Parts.{DropsPart, DropsParts}
use Rattle.mc_large.proofs.Chains.{drops_more}
use Rattle.mc_large.proofs.parts.drop_parts.Goals as goal

pub loop-number-preserved : goal.loop-number-preserved
loop-number-preserved g c =
    let cache = c.args.cache.now in
    let key = c.args.key.now in
    let versions = c.args.versions.now in
    let i = c.loop-number.number in
    let within : i ≤ length versions = omega (arith, c.loop-number-test.true) in
    let count : length (take i versions) ≡ i = length-take-le i versions within in
    let drops = subst (λ (p : List ℕ). DropsPart cache p (get_or versions i 0) c.loop-number.worker c.drop_part.new.worker) (c.as_slice.ensures.value ∙ c.part_key-part.ensures) c.drop_part.ensures.drops in (
      c.drop_part.ensures.belongs,
      subst (λ (vs : List ℕ). DropsParts cache key 0 vs c.args.worker.now c.drop_part.new.worker) (sym (take_more versions i 0 c.loop-number-test.true))
          (drops_more cache key 0 i (take i versions) (get_or versions i 0) c.args.worker.now c.loop-number.worker c.drop_part.new.worker (omega (arith, count)) c.loop-number.invariant.1 drops),
    )
