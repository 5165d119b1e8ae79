-- One column more.
use Rattle.std.proofs.Common.{◌≡◌, ℕ, ◌+◌, List, [], ◌∷◌, ◌++◌, take, refl, ap, ap₂, sym, ◌∙◌, Option, arith}
use Rattle.std.specs.Prelude.{map}
use Rattle.std.proofs.lemmas.List.{map-append}
use Rattle.std.proofs.lemmas.List.FromFn.{map-range_with_len_more}
use Rattle.mc_pages.specs.declared.ledger.Owner.{Owner}
use Rattle.mc_pages.specs.declared.ledger.Entry.{Entry}
use Rattle.mc_pages.specs.Ledger.{all_untouched, replay}
use Rattle.mc_map.specs.Replays.{replayed_owners}

-- a column behind those that are there, which shows the replay of as many entries
pub one_more : {X : Type 0} (f : X → Option (List Owner)) (columns new : List X) (column : X) (pages count : ℕ) (entries : List Entry)
    → new ≡ columns ++ column ∷ [] → f column ≡ replay (all_untouched pages) (take count entries)
    → map f columns ≡ replayed_owners pages entries count → map f new ≡ replayed_owners pages entries (count + 1)
one_more f columns new column pages count entries new_is shows before =
    ap (map f) new_is
    ∙ map-append f columns (column ∷ [])
    ∙ ap₂ (λ (a : List (Option (List Owner))) (o : Option (List Owner)). a ++ o ∷ []) before shows
    ∙ sym (map-range_with_len_more (λ (k : ℕ). replay (all_untouched pages) (take k entries)) 0 count count (omega arith))
