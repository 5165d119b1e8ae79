-- Items that were counted in the rows of their classes: one more, and all of a stripe.
use Rattle.std.proofs.Common.{◌≡◌, ◌∙◌, ◌+◌, ◌++◌, ◌<◌, ℕ, List, [], Option, Some, None, Ok, Err, Result, IfSome, OnOk, add-one, ap, length, refl, slice_index, subst, sym}
use Rattle.std.specs.Bool.{⊤}
use Rattle.std.proofs.lemmas.List.Sums.{fold-append}
use Rattle.std.specs.Option.{option_to_list}
use Rattle.mc_classes.specs.Classes.{Classes}
use Rattle.mc_words.specs.declared.hand.Hand.{Hand}
use Rattle.mc_words.specs.hand.Arenas.{view}
use Rattle.mc_words.specs.hand.View.{Setup}
use Rattle.mc_items.specs.Calls.{FindsStripe}
use Rattle.mc_items.specs.Listing.{HasKeysPut}
use Rattle.mc_shard.specs.declared.class_items.ClassItems.{ClassItems}
use Rattle.mc_shard.specs.declared.class_items.ItemSize.{ItemSize}
use Rattle.mc_shard.specs.ClassItems.{AddsFound, AddsSomeItems, CountsHashesByClass, CountsStripeByClass, FindsSizes, FindsSizesBelow, FindsSizesUnder, IsSizeIn, LooksForSize, ShowsSize, rows_with, rows_with_items}
use Rattle.mc_shard.specs.Finding.{FindsWords}
use Rattle.mc_shard.specs.ItemCases.{EachStripeCounts}

-- more items were found, and added behind the others
pub adds_on : (Finds More : List ItemSize → Type 0) (classes : Classes) (old middle new : List ClassItems) (here : List ItemSize) → AddsFound Finds classes old middle → new ≡ rows_with_items classes middle here → ((others : List ItemSize) → Finds others → More (others ++ here))
    → AddsFound More classes old new
adds_on Finds More classes old middle new here adds is next = record {
  sizes = adds.sizes ++ here;
  finds = next adds.sizes adds.finds;
  added = is ∙ (ap (λ (rows : List ClassItems). rows_with_items classes rows here) adds.added ∙ sym (fold-append (rows_with classes) old adds.sizes here));
}

-- what was found, said otherwise
pub adds_as : (Finds More : List ItemSize → Type 0) (classes : Classes) (old new : List ClassItems) → ((sizes : List ItemSize) → Finds sizes → More sizes) → AddsFound Finds classes old new → AddsFound More classes old new
adds_as Finds More classes old new next adds = record { sizes = adds.sizes; finds = next adds.sizes adds.finds; added = adds.added }

-- nothing was found so far
pub adds_none : (Finds : List ItemSize → Type 0) (classes : Classes) (old : List ClassItems) → Finds [] → AddsFound Finds classes old old
adds_none Finds classes old finds = record { sizes = []; finds = finds; added = refl }

-- some items were added
pub adds_some : (Finds : List ItemSize → Type 0) (classes : Classes) (old new : List ClassItems) → AddsFound Finds classes old new → AddsSomeItems classes old new
adds_some Finds classes old new adds = record { sizes = adds.sizes; finds = tt; added = adds.added }

-- one hash more was looked up
pub one_more_size : (setup : Setup) (hashes : List ℕ) (place : ℕ) (found : Option ItemSize) (old middle new : List ClassItems) (before between now : Hand) (hash : ℕ) → hash ≡ slice_index hashes place → AddsFound (λ sizes. FindsSizesUnder setup hashes place sizes before between) setup.table old middle
    → LooksForSize setup hash found between now → new ≡ rows_with_items setup.table middle (option_to_list found) → AddsFound (λ sizes. FindsSizesUnder setup hashes (place + 1) sizes before now) setup.table old new
one_more_size setup hashes place found old middle new before between now hash at adds looks is =
    adds_on (λ sizes. FindsSizesUnder setup hashes place sizes before between) (λ sizes. FindsSizesUnder setup hashes (place + 1) sizes before now) setup.table old middle new (option_to_list found) adds is
    (λ others done. subst (λ (n : ℕ). FindsSizesUnder setup hashes n (others ++ option_to_list found) before now) (sym (add-one place)) (others, between, found, done, subst (λ (h : ℕ). LooksForSize setup h found between now) at looks, refl))

-- one stripe more
pub one_more_stripe : (setup : Setup) (stripe : ℕ) (old middle new : List ClassItems) (before between now : Hand) → AddsFound (λ sizes. FindsSizesBelow setup stripe sizes before between) setup.table old middle → CountsStripeByClass setup stripe middle new between now
    → AddsFound (λ sizes. FindsSizesBelow setup (stripe + 1) sizes before now) setup.table old new
one_more_stripe setup stripe old middle new before between now adds counts =
    adds_on (λ sizes. FindsSizesBelow setup stripe sizes before between) (λ sizes. FindsSizesBelow setup (stripe + 1) sizes before now) setup.table old middle new counts.sizes adds counts.added
    (λ others done. subst (λ (n : ℕ). FindsSizesBelow setup n (others ++ counts.sizes) before now) (sym (add-one stripe)) (others, between, counts.sizes, done, counts.finds, refl))

-- some of a stripe more, where memory was refused
pub some_more : (Finds : List ItemSize → Type 0) (classes : Classes) (old middle new : List ClassItems) → AddsFound Finds classes old middle → AddsSomeItems classes middle new → AddsSomeItems classes old new
some_more Finds classes old middle new adds more = adds_on Finds (λ sizes. ⊤) classes old middle new more.sizes adds more.added (λ others done. tt)

-- all hashes of a stripe were looked up
pub counts_stripe : {E : Type 0} (setup : Setup) (stripe : ℕ) (hashes none : List ℕ) (old new : List ClassItems) (before between now : Hand) (r : Result (Unit {0}) E) → none ≡ [] → FindsStripe (HasKeysPut none hashes) stripe (view before) (view between)
    → OnOk r (CountsHashesByClass setup hashes old new between now) → OnOk r (CountsStripeByClass setup stripe old new before now)
counts_stripe setup stripe hashes none old new before between now (Ok done) empty lists counts =
    adds_as (λ sizes. FindsSizesUnder setup hashes (length hashes) sizes between now) (λ sizes. FindsSizes setup stripe sizes before now) setup.table old new
    (λ sizes looks. record {
      hashes = hashes;
      between = between;
      lists = subst (λ (l : List ℕ). FindsStripe (HasKeysPut l hashes) stripe (view before) (view between)) empty lists;
      looks = looks;
    })
    counts
counts_stripe setup stripe hashes none old new before between now (Err error) empty lists counts = tt

-- what a look shows of an item that was got, or of none
pub shows_size : (setup : Setup) (hash : ℕ) (before : Hand) (words : List ℕ) (found : Option ItemSize) → FindsWords setup hash before (Some words) → IfSome found (IsSizeIn words) → (found ≡ None → length words < 2) → ShowsSize setup hash found before
shows_size setup hash before words (Some size) finds own none = (words, finds, own)
shows_size setup hash before words None finds own none = record { words = Some words; finds = finds; none = none refl }

pub shows_none : (setup : Setup) (hash : ℕ) (before : Hand) → FindsWords setup hash before None → ShowsSize setup hash None before
shows_none setup hash before finds = record { words = None; finds = finds; none = tt }

-- the items of two stripes
pub each_stripe_counts : EachStripeCounts
each_stripe_counts setup sizes before now (others, between, second, (none, start, first, (empty, same), finds_first, first_is), finds_second, all) = record {
  first = first;
  second = second;
  between = between;
  finds_first = subst (λ (hand : Hand). FindsSizes setup 0 first hand between) same finds_first;
  finds_second = finds_second;
  all = all ∙ ap (λ (l : List ItemSize). l ++ second) (first_is ∙ ap (λ (l : List ItemSize). l ++ first) empty);
}
