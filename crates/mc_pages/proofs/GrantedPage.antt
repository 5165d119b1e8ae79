-- How many pages there are, and how many a class has at most.
use Rattle.std.proofs.Common.{◌≡◌, ℕ, ◌≤◌, length, ap, ◌∙◌, arith}
use Rattle.std.proofs.lemmas.List.{length-replicate, get_or_past}
use Rattle.mc_pages.specs.declared.ledger.Owner.{Owner}
use Rattle.mc_pages.specs.declared.ledger.Owner.TheVariants.{Untouched}
use Rattle.mc_pages.specs.Ledger.{owner_at}
use Rattle.mc_pages.specs.SlabState.{SlabState, HasClass, class_at, page_count}
use Rattle.mc_pages.specs.Accounted.{truth, is_of_class, IsAccounted}
use Rattle.mc_pages.proofs.Cleared.{truth-le_one}
use Rattle.mc_pages.proofs.Owners.{length-le_from_counts}
use Rattle.mc_pages.proofs.Replays.{length-replay}

-- as many as the limit has room for, and one for each class
pub length-owners : (slabs : SlabState) → IsAccounted slabs → length slabs.owners ≡ page_count slabs
length-owners slabs all = length-replay _ slabs.owners slabs.ledger all.replays ∙ length-replicate (page_count slabs) Untouched

-- no class has more pages than there are
pub length-pages_le : (slabs : SlabState) (class : ℕ) → IsAccounted slabs → HasClass slabs class → length (class_at slabs class).pages ≤ length slabs.owners
length-pages_le slabs class all is =
    length-le_from_counts (class_at slabs class).pages (length slabs.owners)
    (λ page. omega (arith, all.pages class page is, truth-le_one (is_of_class class (owner_at slabs.owners page))))
    (λ page past. all.pages class page is ∙ ap (λ (o : Owner). truth (is_of_class class o)) (get_or_past slabs.owners page Untouched past))
