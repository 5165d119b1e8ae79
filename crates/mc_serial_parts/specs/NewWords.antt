-- The words of an item that comes.
use Rattle.std.specs.Prelude.{ℕ, List}
use Rattle.mc_serial_spec.specs.Item.{counting_words}
use Rattle.mc_serial_parts.specs.declared.item.NewWords.{NewWords}
use Rattle.mc_serial_parts.specs.declared.item.NewWords.TheVariants.{Copied, Counted}

-- the words of a new item: copied words, or those that count up
abbrev pub words_of_new : NewWords → List ℕ
words_of_new (Copied words) = words.now
words_of_new (Counted base count) = counting_words base count
