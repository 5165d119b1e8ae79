-- How many bytes a new cache takes of the allocator.
use Rattle.std.specs.Prelude.{ℕ, zero, suc, ◌+◌, ◌*◌, ◌/◌, if◌then◌else◌, max, List, [], ◌∷◌}
use Rattle.mc_classes.specs.Limits.{most_classes}
use Rattle.mc_classes.specs.declared.config.Config.{Config}
use Rattle.mc_classes.specs.Refusals.{first_size, is_below_max, rounded_up}
use Rattle.mc_words.specs.declared.arena.Arena.{Arena}
use Rattle.mc_words.specs.hand.Arenas.{setup_of}
use Rattle.mc_words.specs.rule.Layout.{word_count, words_apart}
use Rattle.mc_cache.specs.declared.cache.Cache.{Cache}
use Rattle.mc_cache.specs.declared.opening.CacheConfig.{CacheConfig}
use Rattle.mc_cache.specs.Observers.{arenas_of}

-- the words of a page: one for its class, a header for each chunk that the first class has of it, and its data
abbrev pub words_a_page : Config → ℕ
words_a_page config = 1 + config.page / first_size config + config.page / 8

-- how many classes come from this raw size on, at most n + 1. While a raw size times the factor is below the greatest size, a class comes
-- of it, and the factor gives the next. One class of the greatest size comes last
unfoldable pub classes_from : ℕ → Config → ℕ → ℕ
classes_from zero config raw = 1
classes_from (suc more) config raw = if is_below_max config raw then classes_from more config (rounded_up raw * config.num / config.den) + 1 else 1

-- how many classes there are
abbrev pub class_count : Config → ℕ
class_count config = classes_from 62 config config.first

-- the pages of an arena: those within the limit, and one beyond it for each class
abbrev pub pages_in_all : Config → ℕ
pages_in_all config = config.limit / config.page + class_count config

-- the words of an arena's table: those of the locks, of all pages, one beyond the limit for each class counted in, and eight for the
-- configuration
abbrev pub words_an_arena : Config → ℕ
words_an_arena config = words_apart * (2 + config.stripes) + pages_in_all config * words_a_page config + 8

-- the bytes of the words of all tables, at eight a word
abbrev pub config_table_bytes : CacheConfig → ℕ
config_table_bytes config = config.shards * (8 * words_an_arena config.arena)

-- how many elements an empty vector has room for once it grew to n elements: four at least
abbrev pub room_for : ℕ → ℕ
room_for count = max 4 count

-- the bytes of what is behind an arena's locks: 128 bytes a lock in the table, 440 of the pages and lists, and 384 a stripe
abbrev pub lock_bytes : ℕ → ℕ
lock_bytes stripes = 128 * (1 + stripes) + 440 + 384 * stripes

-- the bytes of n classes: room for the sizes of the most classes, and for each class 56 of its numbers, 48 in the decider, and 20 for each of two lists
abbrev pub class_bytes : ℕ → ℕ
class_bytes classes = 8 * most_classes + (56 + 48) * classes + 2 * 20 * room_for classes

-- the bytes of n pages beside their words: 24 of the owner, and 40 of what the ledger's entries leave
abbrev pub page_list_bytes : ℕ → ℕ
page_list_bytes pages = (24 + 40) * room_for pages

-- the bytes of the rows of n chunks: 12 of the links and the mark, and 8 of the age
abbrev pub row_bytes : ℕ → ℕ
row_bytes chunks = (12 + 8) * room_for chunks

-- the bytes that an arena takes beside its own 656 and its decider's 72: its table, what is behind its locks, its classes, pages and rows,
-- and 508 words of hints of dead chunks
abbrev pub arena_bytes : Config → ℕ
arena_bytes config =
    8 * words_an_arena config + lock_bytes config.stripes + class_bytes (class_count config) + page_list_bytes (pages_in_all config)
    + row_bytes (pages_in_all config * (config.page / first_size config)) + 8 * 508

-- the bytes that a shard takes: those of its arena and its decider, and 56 for each hand
abbrev pub shard_bytes : CacheConfig → ℕ
shard_bytes config = arena_bytes config.arena + 656 + 72 + 56 * (config.workers + 1)

-- the bytes that the workers and the tender take beside their hands
abbrev pub worker_bytes : CacheConfig → ℕ
worker_bytes config = 48 * (config.workers + 1)

-- the places for hints of items: one for each 128 bytes of the limits
abbrev pub hint_place_count : CacheConfig → ℕ
hint_place_count config = config.shards * (config.arena.limit / 128)

-- the bytes that a new cache takes: those of its shards, of the workers and the tender, and of the hints
abbrev pub cache_bytes : CacheConfig → ℕ
cache_bytes config = config.shards * shard_bytes config + worker_bytes config + 8 * hint_place_count config

-- how many words the tables of these arenas have
unfoldable pub words_of_arenas : List Arena → ℕ
words_of_arenas [] = 0
words_of_arenas (arena ∷ arenas) = word_count (setup_of arena) + words_of_arenas arenas

-- how many bytes the tables of a cache have
abbrev pub table_bytes : Cache → ℕ
table_bytes cache = 8 * words_of_arenas (arenas_of cache)
