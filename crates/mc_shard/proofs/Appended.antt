-- Bytes that a vector was given room for, and that were written there.
use Rattle.std.proofs.Common.{◌≡◌, ℕ, ◌+◌, ◌-◌, ◌≤◌, List, [], ◌++◌, if◌then◌else◌, is_ok, length, take, drop, ap, arith, ◌∙◌, append-nil, length-append, IsOk, Err, Ok, Result, Vec}
use Rattle.std.proofs.lemmas.List.{drop_all, length-drop, length-take, take_all, take_at, with_items_is}
use Rattle.std.specs.Vec.{with_items}
use borrow.Rule.Slice.PartMut.{post_of, put_mid}

-- a call that succeeded left the first of the two
pub is_first : {A E X : Type 0} (r : Result A E) (x a b : X) → IsOk r → x ≡ (if is_ok r then a else b) → x ≡ a
is_first (Ok v) x a b ok is = is
is_first (Err e) x a b ok is = absurd (cc)

-- what was there stands in front
pub front_kept : {X : Type 0} (items more : List X) (begin n : ℕ) → length items ≡ begin → begin ≤ n → take begin (take n items ++ more) ≡ items
front_kept items more begin n len less = take_at (take n items) more begin (omega (arith, length-take n items)) ∙ take_all n items (omega arith)

-- and behind it what was written over the rest
pub appended : {X Z : Type 0} (v : Vec X Z) (s room old : List X) (begin : ℕ) → length s ≡ v.len → begin + length room ≡ v.len → take begin s ≡ old → length old ≡ begin → (with_items v (put_mid begin (length s - begin) s room)).items ≡ old ++ room
appended {X} v s room old begin long whole front len =
    let none : post_of begin (length s - begin) s ≡ [] = drop_all (length s - begin) (drop begin s) (omega (arith, length-drop begin s)) in
    let same : put_mid begin (length s - begin) s room ≡ old ++ room = (λ i. front i ++ (room ++ none i)) ∙ ap (λ (r : List X). old ++ r) (append-nil room) in
    with_items_is v (put_mid begin (length s - begin) s room) (omega (arith, ap length same, length-append old room, whole, len)) ∙ same
