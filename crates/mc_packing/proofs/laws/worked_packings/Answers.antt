use Rattle.std.proofs.Common.{refl}
use Rattle.mc_packing.specs.Packing.{bytes_of_word, bytes_of_words, packed_item, packed_word, packed_words_from}
use Rattle.mc_packing.proofs.laws.worked_packings.Goals as goal

pub returns-clause-no_value : goal.returns-clause-no_value
unfolding packed_item packed_words_from packed_word
returns-clause-no_value c = refl

pub returns-clause-nine_bytes : goal.returns-clause-nine_bytes
unfolding packed_item packed_words_from packed_word
returns-clause-nine_bytes c = refl

pub returns-clause-zeros_count : goal.returns-clause-zeros_count
unfolding packed_item packed_words_from packed_word
returns-clause-zeros_count c = (refl, refl)

pub returns-clause-no_packings : goal.returns-clause-no_packings
unfolding packed_item packed_words_from packed_word bytes_of_words bytes_of_word
returns-clause-no_packings c = (λ same. cc, λ same. cc)

pub returns-clause-value_read : goal.returns-clause-value_read
unfolding bytes_of_words bytes_of_word
returns-clause-value_read c = refl
