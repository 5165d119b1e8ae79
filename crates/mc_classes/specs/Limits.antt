-- The limits of a slab memory, as numbers.
use Rattle.std.specs.Prelude.{ℕ, ◌+◌}
use Rattle.mc_classes.specs.declared.limits.TheConstants.{LEAST_PAGE_BYTES, MOST_PAGE_BYTES, MOST_PAGES, MOST_CLASSES, MOST_STRIPES, MOST_PAGE_CHUNKS, MOST_BULK, MOST_HANDS, MOST_WORKERS, MOST_REFS}

-- the least bytes of a page
abbrev pub least_page_bytes : ℕ
least_page_bytes = LEAST_PAGE_BYTES

-- the most bytes of a page
abbrev pub most_page_bytes : ℕ
most_page_bytes = MOST_PAGE_BYTES

-- the most pages within the limit
abbrev pub most_pages : ℕ
most_pages = MOST_PAGES

-- the most classes of a table
abbrev pub most_classes : ℕ
most_classes = MOST_CLASSES

-- the most pages of all: those within the limit, and for each class one beyond it
abbrev pub most_arena_pages : ℕ
most_arena_pages = most_pages + most_classes

-- the most stripes
abbrev pub most_stripes : ℕ
most_stripes = MOST_STRIPES

-- the most chunks of a page
abbrev pub most_page_chunks : ℕ
most_page_chunks = MOST_PAGE_CHUNKS

-- the most chunks that the mover looks at in a turn
abbrev pub most_bulk : ℕ
most_bulk = MOST_BULK

-- the most hands of an arena
abbrev pub most_hands : ℕ
most_hands = MOST_HANDS

-- the most workers of a script or a cache
abbrev pub most_workers : ℕ
most_workers = MOST_WORKERS

-- a hand or worker that holds as many chunks gets no reference
abbrev pub most_refs : ℕ
most_refs = MOST_REFS
