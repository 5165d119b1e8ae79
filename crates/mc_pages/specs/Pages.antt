-- In how many places each page is: with a class, in the pool, on the move, or among those that were never granted.
use Rattle.std.specs.Prelude.{ℕ, ◌+◌, ◌==◌, Bool, false, ◌&&◌, nat_lt, if◌then◌else◌, count_by, sum_by}
use Rattle.std.specs.Option.{option_map_or}
use Rattle.mc_pages.specs.Ledger.{owner_at}
use Rattle.mc_pages.specs.SlabState.{SlabState, page_count, is_untouched}
use Rattle.mc_pages.specs.Accounted.{truth}

-- how often the page is in the page lists of all classes
abbrev pub times_listed : SlabState → ℕ → ℕ
times_listed slabs page = sum_by (λ class. count_by (λ p. p == page) class.pages) slabs.classes

-- the page is on the move
abbrev pub is_on_the_move : SlabState → ℕ → Bool
is_on_the_move slabs page = option_map_or (λ move. move.page == page) slabs.moving false

-- how often a class has the page to stay; a page on the move is in its source's list, and doesn't stay
abbrev pub times_with_a_class : SlabState → ℕ → ℕ
times_with_a_class slabs page = if is_on_the_move slabs page then 0 else times_listed slabs page

-- how often the page is in the pool's list
abbrev pub times_pooled : SlabState → ℕ → ℕ
times_pooled slabs page = count_by (λ p. p == page) slabs.pool

-- the page was never granted
abbrev pub is_left : SlabState → ℕ → Bool
is_left slabs page = nat_lt page (page_count slabs) && is_untouched (owner_at slabs.owners page)

-- in how many places the page is
abbrev pub page_places : SlabState → ℕ → ℕ
page_places slabs page = times_with_a_class slabs page + times_pooled slabs page + truth (is_on_the_move slabs page) + truth (is_left slabs page)
