use Rattle.std.proofs.Common.{◌<◌, Ok, ap, inl, inr, slice_index, true, w8, ⊎_elim, ℕ}
use Rattle.std.proofs.Math.Facts.{Fits-lt-pow}
use Rattle.example_calls.proofs.Outcomes.{bytes_throughout, same_ok}
use Rattle.example_calls.proofs.cache.whole.set_and_get_whole.Goals as goal

pub returns-in-Ok-clause-whole : goal.returns-in-Ok-clause-whole
returns-in-Ok-clause-whole g c = λ is.
    let law = c.own_large_values_are_whole.ensures in
    let found = c.in-Ok.ensures.value (ap Ok (same_ok c.in-Ok.found true is)) in
    let last = law.sets c.args.cache.now c.args.key.now c.args.value.now c.args.worker.now c.set.new.worker c.set.ensures.belongs c.in_default.ensures.stores in
    let bytes : (place : ℕ) → slice_index c.args.value.now place < 256 = λ place. Fits-lt-pow {w = w8} (c.type_inv.value place) in
    let behind : (place : ℕ) → slice_index c.get.new.into.items place < 256 = bytes_throughout c.get.new.into.items c.type_inv.into in
    ⊎_elim
    (λ same. inl same)
    (λ other. inr (c.set.new.worker, other))
    (law.finds c.args.cache.now c.args.key.now c.args.value.now c.args.into.now.items c.get.new.into.items c.set.new.worker c.get.new.worker bytes behind c.set.ensures.belongs last found)

pub returns-in-Ok-clause-kept : goal.returns-in-Ok-clause-kept
returns-in-Ok-clause-kept g c = λ isnt. c.in-Ok.ensures.kept (λ is. isnt (ap Ok (same_ok c.in-Ok.found true is)))
