use Rattle.std.proofs.Common.{ℕ, ◌+◌, ◌%◌, ◌^◌, List, [], ◌∷◌, ◌++◌, length, ap, sym, ◌∙◌, arith}
use Rattle.std.proofs.lemmas.List.FromFn.{length-map-range_with_len, map-range_with_len_more}
use Rattle.mc_workers.proofs.setting.count_up.Goals as goal

-- so many are there, and there is room for all
pub push_reserved-requires : goal.push_reserved-requires
push_reserved-requires c =
    let long = ap (λ (l : List ℕ). length l) c.loop-place.invariant.1 in
    let words = length-map-range_with_len (λ (i : ℕ). (c.args.base + i) % 2 ^ 64) 0 c.loop-place.place in
    let room = c.loop-place.invariant.0 in
    let in_range = c.loop-place-test.true in
    let same = c.loop-place.words.len in
    omega arith

-- one word more
pub loop-place-preserved : goal.loop-place-preserved
loop-place-preserved c = (
  (let room = c.loop-place.invariant.0 in let kept = c.push_reserved.ensures.capacity in omega arith),
  c.push_reserved.ensures.items ∙ (ap (λ (l : List ℕ). l ++ (c.args.base + c.loop-place.place) % 2 ^ 64 ∷ []) c.loop-place.invariant.1
      ∙ sym (map-range_with_len_more (λ (i : ℕ). (c.args.base + i) % 2 ^ 64) 0 c.loop-place.place c.loop-place.place (omega arith))),
)
