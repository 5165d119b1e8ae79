-- Items that were counted in the rows of their classes, shard by shard.
use Rattle.std.proofs.Common.{◌≡◌, ◌∙◌, ◌+◌, ◌-◌, ◌++◌, ◌<◌, ℕ, List, Option, Some, IsSomeAnd, add-one, ap, append-nil, arith, drop, get_or, length, refl, set, subst, sym, take, ⊎_elim}
use Rattle.std.proofs.lemmas.Bool.{cases_eq}
use Rattle.std.proofs.lemmas.List.{drop_all, get_or-set_other, length-replicate, take_all}
use Rattle.mc_classes.specs.Classes.{Classes}
use Rattle.mc_words.specs.declared.arena.Arena.{Arena}
use Rattle.mc_words.specs.declared.hand.Hand.{Hand}
use Rattle.mc_words.specs.hand.Arenas.{setup_of, view}
use Rattle.mc_shard.specs.declared.class_items.ClassItems.{ClassItems}
use Rattle.mc_shard.specs.declared.class_items.ItemSize.{ItemSize}
use Rattle.mc_shard.specs.ClassItems.{CountsShardByClass, no_items, rows_with_items}
use Rattle.mc_shard.specs.Reading.{LeavesSlabs}
use Rattle.mc_shard.proofs.ByClass.{adds_on}
use Rattle.mc_shard.proofs.Sums.{length_with_items, rows_are_sums}
use Rattle.mc_cache.specs.declared.cache.Cache.{Cache}
use Rattle.mc_cache.specs.declared.cache.Worker.{Worker}
use Rattle.mc_cache.specs.ClassItems.{AddsItemsInFirst, AreSumsOf, CountsCacheByClass, EachShardCounts, FindsSizesInFirst, FindsSizesInShard, HasRowOfEach, TouchNothing, empty_rows}
use Rattle.mc_cache.specs.Observers.{classes_of}
use Rattle.mc_cache.specs.Shards.{ActsOnShard}
use Rattle.mc_cache.proofs.Acts.{acts}
use Rattle.mc_cache.proofs.Classes.{classes_are}
use Rattle.mc_cache.proofs.Tendings.{at_place}

same_some : {A : Type 0} (x y : A) → ◌≡◌ {A = Option A} (Some x) (Some y) → x ≡ y
same_some x y is = cc

-- one shard more
pub one_counted : (cache : Cache) (shard : ℕ) (old middle new : List ClassItems) (hands hands_now : List Hand) (arena : Arena) (hand after : Hand) → shard < length cache.arenas.items → length hands_now ≡ length cache.arenas.items
    → arena ≡ get_or cache.arenas.items shard arena → hand ≡ get_or hands_now shard hand → CountsShardByClass (setup_of arena) middle new hand after → AddsItemsInFirst cache shard old middle hands hands_now → AddsItemsInFirst cache (shard + 1) old new hands (set hands_now shard after)
one_counted cache shard old middle new hands hands_now arena hand after in_range count is_arena is_hand counts are classes is =
    let arenas = cache.arenas.items in
    let same : (setup_of arena).table ≡ classes = same_some (setup_of arena).table classes (sym (classes_are cache arena shard in_range is_arena) ∙ is) in
    let did = acts arenas hands_now shard arena hand after (FindsSizesInShard counts.sizes) in_range count is_arena is_hand counts.finds in
    adds_on (λ sizes. FindsSizesInFirst arenas shard sizes hands hands_now) (λ sizes. FindsSizesInFirst arenas (shard + 1) sizes hands (set hands_now shard after)) classes old middle new counts.sizes (are classes is)
    (subst (λ (t : Classes). new ≡ rows_with_items t middle counts.sizes) same counts.added)
    (λ others done. subst (λ (n : ℕ). FindsSizesInFirst arenas n (others ++ counts.sizes) hands (set hands_now shard after)) (sym (add-one shard)) (others, hands_now, counts.sizes, done, did, refl))

-- all shards
pub all_counted : (cache : Cache) (shards : ℕ) (old new : List ClassItems) (hands hands_now : List Hand) → shards ≡ length cache.arenas.items → AddsItemsInFirst cache shards old new hands hands_now → AddsItemsInFirst cache (length cache.arenas.items) old new hands hands_now
all_counted cache shards old new hands hands_now ends are = subst (λ (n : ℕ). AddsItemsInFirst cache n old new hands hands_now) ends are

-- the rows of the cache's classes
module _ (cache : Cache) (classes : Classes) (is : classes_of cache ≡ Some classes) (before now : Worker) (new : List ClassItems) (are : AddsItemsInFirst cache (length cache.arenas.items) (empty_rows (length classes.sizes)) new before.hands.items now.hands.items) where
  pub has_row_of_each : HasRowOfEach cache new
  has_row_of_each =
      subst (λ (o : Option Classes). IsSomeAnd o (λ classes. length new ≡ length classes.sizes)) (sym is)
      (ap length (are classes is).added ∙ (length_with_items classes (empty_rows (length classes.sizes)) (are classes is).sizes ∙ length-replicate (length classes.sizes) no_items))

  pub counts_cache : CountsCacheByClass cache new before now
  counts_cache =
      let adds = are classes is in
      record {
        sizes = adds.sizes;
        finds = adds.finds;
        sums = subst (λ (o : Option Classes). IsSomeAnd o (AreSumsOf adds.sizes new)) (sym is)
            (λ class in_range. ap (λ (rows : List ClassItems). get_or rows (class - 1) no_items) adds.added ∙ rows_are_sums classes adds.sizes (length classes.sizes) class in_range.0 in_range.1);
      }

-- there are as many rows as before
pub as_many_rows : (cache : Cache) (classes : Classes) (shards : ℕ) (old new : List ClassItems) (hands hands_now : List Hand) → classes_of cache ≡ Some classes → AddsItemsInFirst cache shards old new hands hands_now → length new ≡ length old
as_many_rows cache classes shards old new hands hands_now is are = ap length (are classes is).added ∙ length_with_items classes old (are classes is).sizes

-- so rows that were lent are all of them
pub whole_rows : (len : ℕ) (lent rows new : List ClassItems) → lent ≡ rows → length lent ≡ len → length new ≡ length lent → take len (new ++ drop (length new) rows) ≡ new
whole_rows len lent rows new is long same =
    ap (λ (l : List ClassItems). take len (new ++ l)) (drop_all (length new) rows (omega (arith, ap length is, same))) ∙ (ap (take len) (append-nil new) ∙ take_all len new (omega (arith, long, same)))

-- the items of two shards
pub each_shard_counts : EachShardCounts
each_shard_counts arenas sizes before now (others, between, second, (none, start, first, (empty, same), finds_first, first_is), finds_second, all) = record {
  first = first;
  second = second;
  between = between;
  finds_first = subst (λ (hands : List Hand). ActsOnShard arenas 0 (FindsSizesInShard first) hands between) same finds_first;
  finds_second = finds_second;
  all = all ∙ ap (λ (l : List ItemSize). l ++ second) (first_is ∙ ap (λ (l : List ItemSize). l ++ first) empty);
}

-- one hand more was used, and didn't take it
pub still_untouched : (hands hands_now : List Hand) (count : ℕ) (hand now : Hand) → length hands ≡ length hands_now → count < length hands_now → hand ≡ get_or hands_now count hand → LeavesSlabs (view hand) (view now) → TouchNothing hands hands_now → TouchNothing hands (set hands_now count now)
still_untouched hands hands_now count hand now len in_range is leaves h = λ k a b less.
    ⊎_elim
    (λ (same : k ≡ count).
    let here : get_or (set hands_now count now) k b ≡ now = at_place hands_now count k now b same in_range in
    let was : get_or hands_now k hand ≡ hand = ap (λ (n : ℕ). get_or hands_now n hand) same ∙ sym is in
    ap (λ (x : Hand). (view x).row.knows.hold.count) here ∙ leaves ∙ ap (λ (x : Hand). (view x).row.knows.hold.count) (sym was) ∙ h k a hand less)
    (λ (other : k ≡ count → ⊥). ap (λ (x : Hand). (view x).row.knows.hold.count) (get_or-set_other hands_now count k now b other) ∙ h k a b less)
    (cases_eq k count)
