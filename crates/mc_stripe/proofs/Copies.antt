-- The stamps of an index, as they are copied.
use Rattle.std.proofs.Common.{◌≡◌, ℕ, List, [], ◌∷◌, ◌++◌, refl, sym, ap, ◌∙◌}
use Rattle.mc_stripe.specs.Entries.{with_entry, by_key}
use Rattle.mc_stripe.specs.StripeState.{Index, index_stamps}
use Rattle.mc_stripe.proofs.Stamps.{stamps-with_entry}

-- stamps of entries in any order
pub stamps_by_key : (entries : Index) → by_key (index_stamps entries) ≡ index_stamps (by_key entries)
stamps_by_key [] = refl
stamps_by_key (entry ∷ entries) =
    ap (λ (stamps : List (ℕ × ℕ)). with_entry stamps entry.0 entry.1.1) (stamps_by_key entries) ∙ sym (stamps-with_entry (by_key entries) entry.0 entry.1)

-- the stamps were put into an empty list
pub copied_all : (entries : Index) (before after : List (ℕ × ℕ)) → before ≡ [] → after ≡ before ++ index_stamps entries → by_key after ≡ index_stamps (by_key entries)
copied_all entries before after empty is = ap by_key (is ∙ ap (λ (l : List (ℕ × ℕ)). l ++ index_stamps entries) empty) ∙ stamps_by_key entries
