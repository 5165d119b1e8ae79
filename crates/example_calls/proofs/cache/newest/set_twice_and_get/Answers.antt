use Rattle.std.proofs.Common.{◌∙◌, ◌++◌, ◌<◌, List, Ok, ap, inl, inr, slice_index, true, w8, ⊎_elim, ℕ}
use Rattle.std.proofs.Math.Facts.{Fits-lt-pow}
use Rattle.example_calls.proofs.Outcomes.{bytes_behind, bytes_throughout, same_ok}
use Rattle.example_calls.proofs.cache.newest.set_twice_and_get.Goals as goal

pub returns-in-Ok-clause-newest : goal.returns-in-Ok-clause-newest
returns-in-Ok-clause-newest g c = λ is.
    let law = c.own_values_are_newest.ensures in
    let found = c.in-Ok.ensures.value (ap Ok (same_ok c.in-Ok.found true is)) in
    let last = law.sets c.args.cache.now c.args.key.now c.args.second.now c.set.new.self c.set-2.new.self c.set-2.ensures.belongs c.in_default-set.ensures.stores in
    let bytes : (place : ℕ) → slice_index c.args.second.now place < 256 = λ place. Fits-lt-pow {w = w8} (c.type_inv.second place) in
    let behind : (place : ℕ) → slice_index c.get.new.into.items place < 256 = bytes_throughout c.get.new.into.items c.type_inv.into in
    ⊎_elim
    (λ same. inl (found.2 ∙ ap (λ (value : List ℕ). c.args.into.now.items ++ value) same))
    (λ other. inr (c.set-2.new.self, (found.0, other, found.2)))
    (law.finds c.args.cache.now c.args.key.now c.args.second.now found.0 c.set-2.new.self c.get.new.self bytes (bytes_behind c.args.into.now.items found.0 c.get.new.into.items found.2 behind) c.set-2.ensures.belongs last found.1)

pub returns-in-Ok-clause-kept : goal.returns-in-Ok-clause-kept
returns-in-Ok-clause-kept g c = λ isnt. c.in-Ok.ensures.kept (λ is. isnt (ap Ok (same_ok c.in-Ok.found true is)))
