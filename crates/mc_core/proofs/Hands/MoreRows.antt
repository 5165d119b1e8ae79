-- Rows of hands, of which one gets more.
use Rattle.std.proofs.Common.{◌≡◌, ◌≢◌, ℕ, ◌<◌, List, [], ◌∷◌, ◌++◌, length, set, get_or, refl, sym, ap, subst, ◌∙◌, inl, inr, arith, append-nil, get_or-set_same, get_or-set_other, slice_set, slice_index_or, Contains, All}
use Rattle.std.proofs.lemmas.Bool.{cases_lt, cases_eq}
use Rattle.std.proofs.lemmas.List.{get_or_default, set-get_or, set_past}
use Rattle.std.proofs.lemmas.List.Elements.{All-nil, All-cons, All-append, All-contains, Contains-append_left, Contains-append_right}
use Rattle.mc_core.specs.model.Columns.{Each}
use Rattle.mc_core.specs.past.Past.{with_more}
use Rattle.mc_core.proofs.Steps.Base.{each_row, each_set}

-- the row of a hand
abbrev pub row_of : {X : Type 0} → List (List X) → ℕ → List X
row_of rows hand = slice_index_or rows hand []

-- nothing more
pub with_none : {X : Type 0} (rows : List (List X)) (hand : ℕ) → with_more rows hand [] ≡ rows
with_none rows hand = ap (set rows hand) (append-nil (get_or rows hand [])) ∙ set-get_or rows hand []

pub row_same : {X : Type 0} (rows : List (List X)) (hand : ℕ) (row : List X) → hand < length rows → row_of (slice_set rows hand row) hand ≡ row
row_same rows hand row within = get_or-set_same rows hand row [] within

pub row_other : {X : Type 0} (rows : List (List X)) (hand other : ℕ) (row : List X) → other ≢ hand → row_of (slice_set rows hand row) other ≡ row_of rows other
row_other rows hand other row apart = get_or-set_other rows hand other row [] apart

-- what a row had it still has
pub more_contains : {X : Type 0} (rows : List (List X)) (hand other : ℕ) (more : List X) (x : X) → Contains (row_of rows other) x → Contains (row_of (with_more rows hand more) other) x
more_contains {X} rows hand other more x has =
    elim (cases_eq other hand) [
      | inl same ↦
          elim (cases_lt hand (length rows)) [
            | inl within ↦
                let there : Contains (row_of rows hand ++ more) x = Contains-append_left (row_of rows hand) more x (subst (λ n. Contains (row_of rows n) x) same has) in
                subst (λ n. Contains (row_of (with_more rows hand more) n) x) (sym same) (subst (λ (r : List X). Contains r x) (sym (row_same rows hand (row_of rows hand ++ more) within)) there)
            | inr past ↦ subst (λ (rs : List (List X)). Contains (row_of rs other) x) (sym (set_past rows hand (row_of rows hand ++ more) past)) has
          ]
      | inr differs ↦ subst (λ (r : List X). Contains r x) (sym (row_other rows hand other (row_of rows hand ++ more) differs)) has
    ]

-- and what came to it
pub more_added : {X : Type 0} (rows : List (List X)) (hand : ℕ) (more : List X) (x : X) → hand < length rows → Contains more x → Contains (row_of (with_more rows hand more) hand) x
more_added {X} rows hand more x within has =
    subst (λ (r : List X). Contains r x) (sym (row_same rows hand (row_of rows hand ++ more) within)) (Contains-append_right (row_of rows hand) more x has)

pub one_contained : {X : Type 0} (x : X) → Contains (x ∷ []) x
one_contained x = (0, omega arith, refl)

pub all_one : {X : Type 0} (P : X → Type 0) (x : X) → P x → All P (x ∷ [])
all_one P x p = All-cons P x [] p (All-nil P)

pub each_contained : {X : Type 0} (P : X → Type 0) (rows : List (List X)) (hand : ℕ) (x : X) → Each P rows → Contains (row_of rows hand) x → P x
each_contained P rows hand x each has = All-contains P (row_of rows hand) x (each_row P rows hand each) has

pub each_more : {X : Type 0} (P : X → Type 0) (rows : List (List X)) (hand : ℕ) (more : List X) → Each P rows → All P more → Each P (with_more rows hand more)
each_more P rows hand more each all = each_set P rows hand (row_of rows hand ++ more) each (All-append P (row_of rows hand) more (each_row P rows hand each) all)

-- what two facts of each entry give
pub each_both : {X : Type 0} (P Q R : X → Type 0) (rows : List (List X)) → ((x : X) → P x → Q x → R x) → Each P rows → Each Q rows → Each R rows
each_both P Q R rows f p q = λ k row within i x inside. f (get_or (get_or rows k row) i x) (p k row within i x inside) (q k row within i x inside)

-- each entry of each row is contained
pub each_from_contained : {X : Type 0} (P : X → Type 0) (rows : List (List X)) → ((hand : ℕ) (x : X) → Contains (row_of rows hand) x → P x) → Each P rows
each_from_contained {X} P rows f = λ k row within i x inside.
    let there = get_or (get_or rows k row) i x in
    let same : get_or rows k row ≡ row_of rows k = get_or_default rows k row [] within in
    f k there (subst (λ (r : List X). Contains r there) same (i, inside, get_or_default (get_or rows k row) i there x inside))

-- the rows of two hands put together, of which the second is then empty
abbrev pub joined_rows : {X : Type 0} → List (List X) → ℕ → ℕ → List (List X)
joined_rows rows kept spent = slice_set (with_more rows kept (row_of rows spent)) spent []

pub each_joined : {X : Type 0} (P : X → Type 0) (rows : List (List X)) (kept spent : ℕ) → Each P rows → Each P (joined_rows rows kept spent)
each_joined P rows kept spent each =
    each_set P (with_more rows kept (row_of rows spent)) spent [] (each_more P rows kept (row_of rows spent) each (each_row P rows spent each)) (All-nil P)

-- nothing is lost
pub joined_contains : {X : Type 0} (rows : List (List X)) (kept spent other : ℕ) (x : X) → kept ≢ spent → kept < length rows → Contains (row_of rows other) x → (hand : ℕ) × Contains (row_of (joined_rows rows kept spent) hand) x
joined_contains {X} rows kept spent other x apart within has =
    let more = with_more rows kept (row_of rows spent) in
    elim (cases_eq other spent) [
      | inl same ↦
          let came : Contains (row_of more kept) x = more_added rows kept (row_of rows spent) x within (subst (λ n. Contains (row_of rows n) x) same has) in
          (kept, subst (λ (r : List X). Contains r x) (sym (row_other more spent kept [] apart)) came)
      | inr differs ↦
          let stays : Contains (row_of more other) x = more_contains rows kept other (row_of rows spent) x has in
          (other, subst (λ (r : List X). Contains r x) (sym (row_other more spent other [] differs)) stays)
    ]

-- what holds of each row, and depends on its hand
pub rows_set : {X : Type 0} (P : ℕ → X → Type 0) (rows : List (List X)) (hand : ℕ) (row : List X) → ((other : ℕ) → All (P other) (row_of rows other)) → All (P hand) row → (other : ℕ) → All (P other) (row_of (slice_set rows hand row) other)
rows_set {X} P rows hand row were is other =
    elim (cases_eq other hand) [
      | inl same ↦
          elim (cases_lt hand (length rows)) [
            | inl within ↦ subst (λ n. All (P n) (row_of (slice_set rows hand row) n)) (sym same) (subst (λ (r : List X). All (P hand) r) (sym (row_same rows hand row within)) is)
            | inr past ↦ subst (λ (rs : List (List X)). All (P other) (row_of rs other)) (sym (set_past rows hand row past)) (were other)
          ]
      | inr differs ↦ subst (λ (r : List X). All (P other) r) (sym (row_other rows hand other row differs)) (were other)
    ]
