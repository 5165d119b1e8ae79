use Rattle.std.proofs.Common.{◌≡◌, ℕ, ◌+◌, ◌%◌, ◌^◌, ◌<◌, List, ap, refl, subst, sym, ◌∙◌, arith, length, take_all, get_or}
use Rattle.std.specs.List.{fold}
use Rattle.std.specs.Hash.{le_bytes}
use Rattle.std.specs.declared.hash.DefaultHasher.{DefaultHasher}
use Rattle.std.specs.Hash.DefaultHasher.{initial, read_word, write, write_byte, write_word}
use Rattle.mc_cache.specs.declared.sip.Lanes.{Lanes}
use Rattle.mc_cache.specs.Hashing.{started_by}
use Rattle.mc_cache.specs.Sip.{hasher_of}
use Rattle.mc_cache.proofs.SipWords.{with_tail, word_more}
use Rattle.mc_cache.proofs.hashing.KeyedHasher.new.Goals as goal

-- a word of eight bytes that a hasher takes in between two words
one_more : (begun : DefaultHasher) (before after : Lanes) (count word : ℕ) (bytes : List ℕ) → length bytes ≡ 8 → get_or bytes 0 0 < 256 → count + 8 < 2 ^ 64 → count % 8 ≡ 0
    → hasher_of before 0 count ≡ begun → word ≡ read_word bytes 0 → hasher_of after 0 count ≡ write_word (hasher_of before 0 count) word
    → hasher_of after 0 (count + 8) ≡ fold write_byte begun bytes
one_more begun before after count word bytes eight byte fits whole is word_is taken =
    let next : count + 8 ≡ (count + 8) % 2 ^ 64 = omega arith in
    (λ i. with_tail ((taken ∙ ap (write_word (hasher_of before 0 count)) word_is) i) 0 (next i))
    ∙ (word_more begun (hasher_of before 0 count) bytes 0 (omega arith) byte (omega arith) whole refl is
    ∙ ap (fold write_byte begun) (take_all 8 bytes (omega arith)))

pub invariant_of-result : goal.invariant_of-result
unfolding started_by write le_bytes
invariant_of-result c =
    let first = c.to_le_bytes in
    let second = c.to_le_bytes-2 in
    let one = one_more initial c.new.result c.with_word.result 0 c.word_at-first.result first.result (ap length first.ensures) (subst (λ (b : List ℕ). get_or b 0 0 < 256) (sym first.ensures) (omega arith)) (omega arith) refl c.new.ensures c.word_at-first.ensures (c.with_word.ensures 0 0) in
    one_more (fold write_byte initial first.result) c.with_word.result c.with_word-start.result 8 c.word_at-second.result second.result (ap length second.ensures) (subst (λ (b : List ℕ). get_or b 0 0 < 256) (sym second.ensures) (omega arith)) (omega arith) refl one c.word_at-second.ensures (c.with_word-start.ensures 0 8)
    ∙ (λ i. fold write_byte (fold write_byte initial (first.ensures i)) (second.ensures i))
