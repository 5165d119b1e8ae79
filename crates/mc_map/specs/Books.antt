-- What the books record of all pages, and what each change adds to that.
use Rattle.std.specs.Prelude.{ℕ, ◌-◌, ◌/◌, ◌==◌, ◌||◌, nat_le, nat_lt, if◌then◌else◌, List, [], ◌∷◌, ◌++◌, length, take, position, slice_get, slice_set, Option, Some, None}
use Rattle.mc_classes.specs.Classes.{Classes, arena_pages_of, page_limit}
use Rattle.mc_pages.specs.declared.ids.Moving.{Moving}
use Rattle.mc_pages.specs.declared.ledger.Owner.{Owner}
use Rattle.mc_pages.specs.declared.ledger.Owner.TheVariants.{Pool, Class}
use Rattle.mc_pages.specs.declared.ledger.Owner.TheVariants as owner
use Rattle.mc_pages.specs.declared.ledger.Entry.{Entry}
use Rattle.mc_pages.specs.declared.ledger.Entry.TheVariants.{Granted, Taken, Began, Ended}
use Rattle.mc_pages.specs.Ledger.{all_untouched}
use Rattle.mc_pages.specs.SlabState.{SlabState, is_untouched, granted_count}
use Rattle.mc_map.specs.declared.glance.Glance.{Glance}

-- how many pages the limit has; the owner of each page; the pool with the page that came last at the end; and each change of an owner
pub record Book : Type 0 where
  pub within : ℕ
  pub owners : List Owner
  pub pool : List ℕ
  pub ledger : List Entry

-- the book of a memory of which no page was granted
abbrev pub fresh_books : Classes → Book
fresh_books table = record { within = page_limit table; owners = all_untouched (arena_pages_of table); pool = []; ledger = [] }

-- the book of a slab memory
abbrev pub book_of : SlabState → Book
book_of slabs = record { within = slabs.limit / slabs.page; owners = slabs.owners; pool = slabs.pool; ledger = slabs.ledger }

-- what a slab memory shows of its pages at a glance
abbrev pub glance_of : SlabState → Glance
glance_of slabs = record { granted = granted_count slabs; pool = length slabs.pool; moving = slabs.moving }

-- the page that came last into the pool
abbrev pub last_pooled_page : Book → Option ℕ
last_pooled_page book = slice_get book.pool (length book.pool - 1)

-- a page has this owner now, by this entry
abbrev pub book_after_change : Book → ℕ → Entry → Owner → Book
book_after_change book page entry owner = record book { owners = slice_set book.owners page owner; ledger = book.ledger ++ entry ∷ [] }

-- the class got the page that came last into the pool; or else this untouched one, if there is one. Pages are granted in the order of their
-- numbers, those within the limit first
abbrev pub book_after_growth : Book → ℕ → Option ℕ → Option ℕ → Book
book_after_growth book class (Some page) untouched = record (book_after_change book page (Taken page class) (Class class)) { pool = take (length book.pool - 1) book.pool }
book_after_growth book class None (Some page) = book_after_change book page (Granted page class (nat_le book.within page)) (Class class)
book_after_growth book class None None = book

-- the class got the page that comes next
abbrev pub grown_next : Book → ℕ → Book
grown_next book class = book_after_growth book class (last_pooled_page book) (position is_untouched book.owners)

-- a page began to move
abbrev pub with_began : Book → Moving → Book
with_began book move = book_after_change book move.page (Began move.page move.src move.dst) (owner.Moving move.src move.dst)

-- a moving page has come to its class, or to the pool
abbrev pub with_ended : Book → Moving → Book
with_ended book move =
    if move.dst == 0 then record (book_after_change book move.page (Ended move.page move.dst) Pool) { pool = book.pool ++ move.page ∷ [] }
    else book_after_change book move.page (Ended move.page move.dst) (Class move.dst)

-- the books after no page was given: a page began to move, or a moving one came to its end
abbrev pub noted_move : Book → Option Moving → Option Moving → Book
noted_move book None (Some move) = with_began book move
noted_move book (Some move) None = with_ended book move
noted_move book None None = book
noted_move book (Some move) (Some later) = book

-- what is noted of two glances between which at most one page changed hands: a page that was given went to this class
abbrev pub book_after : Book → ℕ → Glance → Glance → Book
book_after book class before after =
    if nat_lt before.granted after.granted || nat_lt after.pool before.pool then grown_next book class
    else noted_move book before.moving after.moving
