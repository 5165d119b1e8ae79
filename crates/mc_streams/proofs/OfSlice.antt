-- A reader that gives the bytes of a slice, from a place on.
use Rattle.std.proofs.Common.{◌≡◌, ℕ, ◌+◌, ◌-◌, ◌≤◌, List, ◌++◌, length, take, drop, ap, sym, ◌∙◌, arith}
use Rattle.std.proofs.lemmas.List.{take_at, take-append-drop, length-drop, length-take-le, drop-drop}
use lib.Seq.{take-add, take-take}

-- what a read wrote to the front of its buffer
module _ (at count : ℕ) (all written behind : List ℕ) (within : count ≤ length all - at)
    (is : written ≡ take count (take (length all - at) (drop at all))) where
  front : take count (written ++ behind) ≡ take count (drop at all)
  front =
      let same : written ≡ take count (drop at all) = is ∙ take-take count (length all - at) (drop at all) within in
      let long : length written ≡ count = ap length same ∙ length-take-le count (drop at all) (omega (arith, length-drop at all)) in
      take_at written behind count long ∙ same

  -- it was given
  pub given_more : take (at + count) all ≡ take at all ++ take count (written ++ behind)
  given_more = take-add at count all ∙ ap (λ bytes. take at all ++ bytes) (sym front)

  -- it is left no more
  pub left_behind : drop at all ≡ take count (written ++ behind) ++ drop (at + count) all
  left_behind =
      sym (take-append-drop count (drop at all)) ∙ ap (λ bytes. bytes ++ drop count (drop at all)) (sym front)
      ∙ ap (λ bytes. take count (written ++ behind) ++ bytes) (drop-drop count at all)
