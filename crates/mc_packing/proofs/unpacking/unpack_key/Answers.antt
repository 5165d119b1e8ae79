use Rattle.std.proofs.Common.{◌≡◌, ◌-◌, ◌++◌, ℕ, List, ap, arith, drop, get_or, length, refl, subst, sym, take, ◌∙◌}
use Rattle.std.proofs.lemmas.List.{take_rest}
use Rattle.mc_packing.specs.Packing.{AreBytes, IsPackingOf, bytes_of_words, packed_key, value_in}
use Rattle.mc_packing.proofs.Packs.{key_unpacks, packing_len}
use Rattle.mc_packing.proofs.unpacking.unpack_key.Goals as goal

pub returns-then-words-lt2-clause-none : goal.returns-then-words-lt2-clause-none
returns-then-words-lt2-clause-none c _ key bytes is = omega (arith, packing_len key c.args.words.now is, c.if-words-lt2.true)

-- the key of words that are a packing of one is that key
key_is : (key words : List ℕ) → AreBytes key → IsPackingOf key words → packed_key words ≡ key
key_is key words bytes is = ap packed_key is ∙ key_unpacks key (value_in words) bytes

pub returns-clause-none : goal.returns-clause-none
returns-clause-none c _ key bytes is =
    let words = c.args.words.now in
    let put : c.deref.result.now ≡ packed_key words =
    c.deref.ensures.value ∙ (c.in_ok-push_bytes.ensures.bytes
    ∙ (ap (λ (old : List ℕ). old ++ bytes_of_words (get_or words 0 0) (take (length words - 2) (drop 2 words))) c.new-key.ensures.items
    ∙ ap (bytes_of_words (get_or words 0 0)) (take_rest words 2))) in
    c.if-is_packing_of.ensures.other refl (subst (λ (k : List ℕ). IsPackingOf k words) (sym (put ∙ key_is key words bytes is)) is)
