-- The parts of a value that a worker stored so far.
use Rattle.std.proofs.Common.{◌≡◌, ◌∙◌, ◌≤◌, ◌<◌, ◌+◌, ◌-◌, ◌++◌, ◌∷◌, [], All, ℕ, List, length, take, drop, min, ap, arith, inl, lit<, ◌^◌, refl, subst, sym, append-nil, append_assoc, length-append}
use Rattle.std.specs.List.{concat}
use Rattle.std.proofs.lemmas.List.{length-drop, length-take, take-append-drop, take_min}
use Rattle.std.proofs.lemmas.List.Elements.{All-head, All-nil, All-push, All-tail}
use Rattle.std.proofs.lemmas.List.Folds.{concat-append}
use Rattle.mc_cache.specs.declared.cache.Cache.{Cache}
use Rattle.mc_cache.specs.declared.cache.Worker.{Worker}
use Rattle.mc_items.specs.declared.setting.SetError as items
use Rattle.mc_cache.specs.declared.working.SetError.TheVariants as set_error
use Rattle.std.proofs.Common.{Err}
use Rattle.mc_large.specs.Keys.{part_key}
use Rattle.mc_large.specs.Parts.{IsCutSoFar, RefusesPieces, SetsPiece, StoresPart, StoresParts, StoresPieces}
use Rattle.mc_large.specs.Pieces.{FillParts}
use Rattle.mc_packing.specs.Packing.{AreWords}
use Rattle.mc_large.specs.Roots.{IsLargeRoot, large_root, most_large_value}
use Rattle.mc_large.proofs.Words.{words_more}
use Rattle.mc_large.proofs.Chains.{stores_alike, stores_more}

-- behind full pieces a last one fills what it likes
fill_more : (room : ℕ) (pieces : List (List ℕ)) (piece : List ℕ) → All (λ (p : List ℕ). length p ≡ room) pieces → 1 ≤ length piece → length piece ≤ room → FillParts room (pieces ++ piece ∷ [])
fill_more room [] piece full some few = (some, few)
fill_more room (first ∷ []) piece full some few = (All-head (λ (p : List ℕ). length p ≡ room) first [] full, (some, few))
fill_more room (first ∷ next ∷ pieces) piece full some few =
    (All-head (λ (p : List ℕ). length p ≡ room) first (next ∷ pieces) full, fill_more room (next ∷ pieces) piece (All-tail (λ (p : List ℕ). length p ≡ room) first (next ∷ pieces) full) some few)

-- the parts of the value that were stored so far, before a rest
pub record AreStored (cache : Cache) (key : List ℕ) (room : ℕ) (value rest versions : List ℕ) (before now : Worker) : Type 0 where
  pub pieces : List (List ℕ)
  pub cut : IsCutSoFar room value pieces rest
  pub stores : StoresParts cache key 0 pieces versions before now
  pub few : length versions + length rest ≤ length value
  pub words : AreWords versions

module _ (cache : Cache) (key : List ℕ) (room : ℕ) (value : List ℕ) where
  pub none_stored : (before : Worker) → AreStored cache key room value value [] before before
  none_stored before = record {
    pieces = [];
    cut = record { together = refl; fill = tt; full = λ some. All-nil (λ (p : List ℕ). length p ≡ room) };
    stores = refl;
    few = omega arith;
    words = λ k. lit< tt;
  }

  -- one part more
  pub one_stored : (rest versions piece more : List ℕ) (version taken : ℕ) (before between now : Worker) → version < 2 ^ 64 → 1 ≤ room → 1 ≤ length rest → taken ≡ min room (length rest) → piece ≡ take taken rest → more ≡ drop taken rest
      → AreStored cache key room value rest versions before between → StoresPart cache key (length versions) piece version between now → AreStored cache key room value more (versions ++ version ∷ []) before now
  one_stored rest versions piece more version taken before between now word some left is_taken is_piece is_more were stores =
      let lengths : length piece ≡ taken = ap length is_piece ∙ (length-take taken rest ∙ omega (arith, is_taken)) in
      let behind : length more ≡ length rest - taken = ap length is_more ∙ length-drop taken rest in
      let count : length versions ≡ length were.pieces = sym (stores_alike cache key 0 were.pieces versions before between were.stores) in
      let split : piece ++ more ≡ rest = ap (λ (p : List ℕ). p ++ more) is_piece ∙ (ap (λ (m : List ℕ). take taken rest ++ m) is_more ∙ take-append-drop taken rest) in
      record {
        pieces = were.pieces ++ piece ∷ [];
        cut = record {
          together = ap (λ (p : List ℕ). p ++ more) (concat-append were.pieces (piece ∷ []) ∙ ap (λ (p : List ℕ). concat were.pieces ++ p) (append-nil piece))
              ∙ (append_assoc (concat were.pieces) piece more
              ∙ (ap (λ (r : List ℕ). concat were.pieces ++ r) split
              ∙ were.cut.together));
          fill = fill_more room were.pieces piece (were.cut.full left) (omega (arith, lengths, is_taken, some, left)) (omega (arith, lengths, is_taken));
          full = λ left_too. All-push (λ (p : List ℕ). length p ≡ room) were.pieces piece (were.cut.full left) (omega (arith, lengths, is_taken, behind, left_too));
        };
        stores = stores_more cache key 0 (length versions) were.pieces versions piece version before between now (omega (arith, count)) were.stores stores;
        few = omega (arith, were.few, behind, is_taken, some, left, length-append versions (version ∷ []));
        words = words_more versions version word were.words;
      }

  -- where nothing is left, the value is stored
  pub all_stored : (rest versions : List ℕ) (before now : Worker) → length rest ≡ 0 → AreStored cache key room value rest versions before now → StoresPieces cache key room value versions before now
  all_stored [] versions before now none were = record { pieces = were.pieces; cut = record { together = sym (append-nil (concat were.pieces)) ∙ were.cut.together; fill = were.cut.fill }; stores = were.stores }
  all_stored (b ∷ rest) versions before now none were = absurd (omega (arith, none))

  -- and its root is one
  pub root_stored : (rest versions : List ℕ) (before now : Worker) → length value ≤ most_large_value → AreStored cache key room value rest versions before now → IsLargeRoot (large_root (length value) versions) (length value) versions
  root_stored rest versions before now within were = record { is_root = refl; within_limit = within; few = omega (arith, were.few); are_words = were.words }

  -- where the next piece was refused
  pub next_refused : (rest versions piece : List ℕ) (taken : ℕ) (error : items.SetError) (before between now : Worker) → taken ≡ min room (length rest) → piece ≡ take taken rest → AreStored cache key room value rest versions before between
      → SetsPiece cache (part_key key (length versions)) piece (Err (set_error.Item error)) between now → RefusesPieces cache key room value error before now
  next_refused rest versions piece taken error before between now is_taken is_piece were refuses =
      let count : length versions ≡ length were.pieces = sym (stores_alike cache key 0 were.pieces versions before between were.stores) in
      let whole : piece ≡ take room rest = is_piece ∙ (ap (λ (n : ℕ). take n rest) is_taken ∙ take_min room rest) in
      record {
        pieces = were.pieces;
        rest = rest;
        cut = were.cut;
        versions = versions;
        between = between;
        stores = were.stores;
        refuses = inl (subst (λ (n : ℕ). SetsPiece cache (part_key key n) (take room rest) (Err (set_error.Item error)) between now) count
            (subst (λ (p : List ℕ). SetsPiece cache (part_key key (length versions)) p (Err (set_error.Item error)) between now) whole refuses));
      }
