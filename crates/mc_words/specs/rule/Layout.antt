-- The place of each word of the table.
use Rattle.std.specs.Prelude.{ℕ, ◌+◌, ◌-◌, ◌*◌, List, [], ◌∷◌, ◌++◌, replicate}
use Rattle.mc_classes.specs.declared.config.Config.{Config}
use Rattle.mc_classes.specs.Classes.{arena_pages_of}
use Rattle.mc_pages.specs.declared.ids.ChunkId.{ChunkId}
use Rattle.mc_core.specs.model.State.{most_of, page_words, head_place}
use Rattle.mc_words.specs.hand.View.{Setup}

-- the words of 8 bytes from one lock's word to the next, and to what is written before and behind: 128 bytes, so that no two are in one
-- line of a cache
abbrev pub words_apart : ℕ
words_apart = 16

-- how many words are between those of two locks
abbrev pub words_between : ℕ
words_between = words_apart - 1

-- each element of the list, with n copies of the other behind it
abbrev pub spread : {A : Type 0} → ℕ → A → List A → List A
spread between other [] = []
spread between other (x ∷ xs) = x ∷ (replicate between other ++ spread between other xs)

-- the place of the word of the lock of this number. The slabs lock is number 0, and the lock of stripe i is number i + 1. Before them is
-- word 0, which makes and joins hands
abbrev pub lock_address : ℕ → ℕ
lock_address lock = words_apart * (1 + lock)

-- the place of the slabs lock's word
abbrev pub slabs_word : ℕ
slabs_word = lock_address 0

-- the place where the words of pages begin, behind those of the locks; each page has one
abbrev pub pages_from : Setup → ℕ
pages_from setup = words_apart * (2 + setup.config.stripes)

-- the place of a page's word, which is the class that has the page, or 0 where none has
abbrev pub page_word : Setup → ℕ → ℕ
page_word setup page = pages_from setup + page

-- the place where the headers begin, behind the words of pages
abbrev pub heads_from : Setup → ℕ
heads_from setup = pages_from setup + arena_pages_of setup.table

-- how many headers there are: one for each index of each page
abbrev pub head_count : Setup → ℕ
head_count setup = arena_pages_of setup.table * most_of setup.table

-- the place of a chunk's header
abbrev pub head_word : Setup → ChunkId → ℕ
head_word setup chunk = heads_from setup + head_place setup.table chunk

-- the place where the data words begin, behind the headers
abbrev pub data_from : Setup → ℕ
data_from setup = heads_from setup + head_count setup

-- how many data words all pages have
abbrev pub data_count : Setup → ℕ
data_count setup = arena_pages_of setup.table * page_words setup.table

-- the place of a data word, of a chunk with room for n words
abbrev pub data_word : Setup → ℕ → ChunkId → ℕ → ℕ
data_word setup room chunk place = data_from setup + (chunk.page * page_words setup.table + chunk.index * room + place)

-- the place where the configuration begins, which is last and never changes
abbrev pub config_from : Setup → ℕ
config_from setup = data_from setup + data_count setup

-- the configuration as eight words
abbrev pub config_words : Config → List ℕ
config_words config = config.page ∷ config.limit ∷ config.first ∷ config.num ∷ config.den ∷ config.max ∷ config.stripes ∷ config.bulk ∷ []

-- how many words the table has, the configuration's counted in
abbrev pub word_count : Setup → ℕ
word_count setup = config_from setup + 8
