-- How many words an item that comes has.
use Rattle.std.proofs.Common.{◌≡◌, ℕ, ◌+◌, ◌%◌, ◌^◌, length}
use Rattle.std.proofs.lemmas.List.FromFn.{length-map-range_with_len}
use Rattle.mc_serial_spec.specs.Item.{counting_words}

-- as many as are counted up
pub length-words_from : (base count : ℕ) → length (counting_words base count) ≡ count
length-words_from base count = length-map-range_with_len (λ i. (base + i) % 2 ^ 64) 0 count
