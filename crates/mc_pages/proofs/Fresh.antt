-- Before any page is granted all is accounted for, in order.
use Rattle.std.proofs.Common.{◌≡◌, ℕ, ◌+◌, ◌-◌, ◌*◌, ◌/◌, ◌≤◌, ◌==◌, false, length, count_by, Some, sym, ap, ◌∙◌, inl, inr, arith}
use Rattle.std.proofs.lemmas.Bool.{cases_lt, and_left, both_ways}
use Rattle.std.proofs.lemmas.Option.{none-some}
use Rattle.std.proofs.lemmas.List.{length-map, length-replicate, get_or-replicate, get_or_past, get_or-map}
use Rattle.mc_classes.specs.Classes.{Classes, arena_pages_of, size_of, IsSound}
use Rattle.mc_pages.specs.declared.ledger.Owner.{Owner}
use Rattle.mc_pages.specs.declared.ledger.Owner.TheVariants.{Untouched}
use Rattle.mc_pages.specs.Ledger.{all_untouched, owner_at}
use Rattle.mc_pages.specs.ClassState.{ClassState, new_class, times_in}
use Rattle.mc_pages.specs.SlabState.{SlabState, HasClass, class_at, fresh_slabs}
use Rattle.mc_pages.specs.Accounted.{truth, is_of_class, is_pool, is_moving, is_cut, IsAccounted}
use Rattle.mc_pages.specs.InOrder.{AreGranted, AreSlabsInOrder}
use Rattle.mc_pages.proofs.Cleared.{is_cleared-still}

-- each page is untouched
untouched_at : (pages page : ℕ) → owner_at (all_untouched pages) page ≡ Untouched
untouched_at pages page =
    elim (cases_lt page pages) [
      | inl within ↦ get_or-replicate pages page Untouched Untouched within
      | inr past ↦ get_or_past (all_untouched pages) page Untouched (omega (arith, length-replicate pages Untouched))
    ]

-- no page is granted
AreGranted-none : (pages : ℕ) → AreGranted (all_untouched pages) 0
AreGranted-none pages = record { within = omega arith; below = λ page h. absurd (omega (arith, h)); rest = λ page h. untouched_at pages page }

-- each class is one of the table, without pages
class_at-fresh : (table : Classes) (class : ℕ) → HasClass (fresh_slabs table) class → class_at (fresh_slabs table) class ≡ new_class (size_of table class) (table.page / size_of table class)
class_at-fresh table class is =
    let made : ℕ → ClassState = λ size. new_class size (table.page / size) in
    get_or-map made table.sizes (class - 1) 0 (new_class 0 0) (omega (arith, is.0, is.1, length-map table.sizes made))

-- nothing is to be accounted for
pub IsAccounted-fresh : (table : Classes) → 1 ≤ length table.sizes → IsAccounted (fresh_slabs table)
IsAccounted-fresh table some =
    let fresh : SlabState = fresh_slabs table in
    let pages = arena_pages_of table in
    let owner = untouched_at pages in
    let still = λ (page : ℕ). ap is_moving (owner page) in
    record {
      replays = ap (λ (n : ℕ). Some (all_untouched (table.limit / table.page + n))) (length-map table.sizes (λ (size : ℕ). new_class size (table.page / size)));
      pages = λ class page is. ap (λ (c : ClassState). count_by (λ p. p == page) c.pages) (class_at-fresh table class is) ∙ sym (ap (λ (o : Owner). truth (is_of_class class o)) (owner page));
      owned = λ class page h. absurd (both_ways _ (ap (λ (o : Owner). is_of_class class o) (owner page)) h);
      pool = λ page. sym (ap (λ (o : Owner). truth (is_pool o)) (owner page));
      one_move = λ page h. absurd (both_ways _ (still page) h);
      move = λ move h. absurd (none-some move h);
      limit = omega arith;
      grace = record { once = λ class. omega arith; stays = λ class some. absurd (omega (arith, some)) };
      chunks = λ class chunk is.
          let lists = ap (λ (c : ClassState). times_in chunk c.free + times_in chunk c.order) (class_at-fresh table class is) in
          let cut : is_cut fresh class chunk ≡ false = and_left _ _ (ap (λ (o : Owner). is_of_class class o) (owner chunk.page)) in
          omega (arith, lists, ap truth (is_cleared-still fresh class chunk (still chunk.page)), ap truth cut);
      total = λ class is.
          let lists = ap (λ (c : ClassState). length c.free + length c.order) (class_at-fresh table class is) in
          let product = ap (λ (c : ClassState). length c.pages * c.per_page) (class_at-fresh table class is) in
          omega (arith, lists, product);
      cursor = (some, omega (arith, length-map table.sizes (λ (size : ℕ). new_class size (table.page / size))));
      mode = omega arith;
    }

-- nothing is granted yet
pub IsInOrder-fresh : (table : Classes) → IsSound table → AreSlabsInOrder (fresh_slabs table) 0
IsInOrder-fresh table sound =
    let made : ℕ → ClassState = λ size. new_class size (table.page / size) in
    record {
      accounted = IsAccounted-fresh table sound.count.0;
      lowest = AreGranted-none (arena_pages_of table);
      graced = omega arith;
      pages = omega (arith, length-replicate (arena_pages_of table) Untouched, sound.pages.1, sound.count.1);
      per_page = λ class is. omega (arith, ap (λ (c : ClassState). c.per_page) (class_at-fresh table class is), (sound.chunks class (is.0, omega (arith, is.1, length-map table.sizes made))).0);
      at_most = λ class is. omega (arith, ap (λ (c : ClassState). c.per_page) (class_at-fresh table class is), (sound.chunks class (is.0, omega (arith, is.1, length-map table.sizes made))).1);
      uncut = λ chunk h. absurd (none-some chunk h);
    }
