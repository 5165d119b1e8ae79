use Rattle.std.proofs.Common.{◌≡◌, ◌∙◌, ℕ, ◌-◌, suc, List, ◌∷◌, drop, get_or, nat_cmp, sym, ap, arith}
use Rattle.std.proofs.Math.Seq.{drop-cons}
use Rattle.std.specs.BTreeSet.{insert_key}
use Rattle.mc_stripe.specs.Entries.{by_key}
use Rattle.mc_replay.proofs.Keys.{keys_of, keys_with}
use Rattle.mc_replay.proofs.write.stripes.add_left.Goals as goal

pub loop-place-preserved : goal.loop-place-preserved
loop-place-preserved c =
    let base = c.args.base.now in
    let place = c.loop-place.place - 1 in
    let entry = get_or base place (0, 0) in
    let (keys, most) = c.loop-place.invariant in
    let some = c.loop-place-test.true in
    let before : c.loop-place.place ≡ suc place = omega (arith, some) in
    let front : drop place base ≡ entry ∷ drop (suc place) base = drop-cons base place (0, 0) (omega (arith, some, most)) in (
      c.in_ok-insert.ensures.keys
          ∙ (ap (λ ks. insert_key nat_cmp ks entry.0) (keys ∙ ap (λ (n : ℕ). keys_of (by_key (drop n base))) before)
          ∙ (sym (keys_with (by_key (drop (suc place) base)) entry.0 entry.1)
          ∙ ap (λ (es : List (ℕ × ℕ)). keys_of (by_key es)) (sym front))),
      omega (arith, most),
    )
