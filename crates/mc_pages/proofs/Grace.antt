-- Which pages were granted within the limit, which beyond it, and that the room for both is kept.
use Rattle.std.proofs.Common.{◌≡◌, ◌≢◌, ℕ, ◌+◌, ◌-◌, ◌/◌, ◌<◌, ◌≤◌, true, false, nat_lt, List, [], ◌∷◌, ◌++◌, length, set, sym, ap, ◌∙◌, inl, inr, arith, ltb-true, lt-ltb, le-ltb, ne_eqb}
use Rattle.std.proofs.lemmas.Bool.{cases_eq, cases_Bool, cases_lt}
use Rattle.std.proofs.lemmas.List.{length_push}
use Rattle.std.proofs.lemmas.List.Sums.{sum_by_push, sum_by-set, count_by-le-length}
use Rattle.mc_pages.specs.declared.ledger.Owner.{Owner}
use Rattle.mc_pages.specs.declared.ledger.Owner.TheVariants.{Class}
use Rattle.mc_pages.specs.declared.ledger.Entry.{Entry}
use Rattle.mc_pages.specs.declared.ledger.Entry.TheVariants.{Granted}
use Rattle.mc_pages.specs.Ledger.{KeepsGrace, grace_count, is_grace, is_ordinary, ordinary_count, owner_at}
use Rattle.mc_pages.specs.ClassState.{ClassState, new_class, with_page}
use Rattle.mc_pages.specs.SlabState.{SlabState, HasClass, class_at}
use Rattle.mc_pages.specs.Accounted.{truth, IsAccounted}
use Rattle.mc_pages.specs.Changes.{with_class, with_given, has_ordinary_page}
use Rattle.mc_pages.specs.InOrder.{populated_count}
use Rattle.mc_pages.proofs.Cleared.{truth-le_one}
use Rattle.mc_pages.proofs.OneClass.{length-with_class}
use Rattle.mc_pages.proofs.Owners.{owner_at-set_same, owner_at-set_other}

-- nothing more is as many
pub add_zero : (n : ℕ) → n + 0 ≡ n
add_zero n = omega arith

-- one more entry
pub ordinary_count-push : (ledger : List Entry) (entry : Entry) → ordinary_count (ledger ++ entry ∷ []) ≡ ordinary_count ledger + truth (is_ordinary entry)
ordinary_count-push ledger entry = sum_by_push (λ (e : Entry). truth (is_ordinary e)) ledger entry

grace_count-push : (ledger : List Entry) (class : ℕ) (entry : Entry) → grace_count (ledger ++ entry ∷ []) class ≡ grace_count ledger class + truth (is_grace class entry)
grace_count-push ledger class entry = sum_by_push (λ (e : Entry). truth (is_grace class e)) ledger entry

-- a page within the limit is granted only while there is one
pub limit-entry : (slabs : SlabState) (entry : Entry) → IsAccounted slabs → (is_ordinary entry ≡ true → has_ordinary_page slabs ≡ true) → ordinary_count (slabs.ledger ++ entry ∷ []) ≤ slabs.limit / slabs.page
limit-entry slabs entry all left =
    let more = ordinary_count-push slabs.ledger entry in
    elim (cases_Bool (is_ordinary entry)) [
      | inl ordinary ↦
          let within_limit = ltb-true (ordinary_count slabs.ledger) (slabs.limit / slabs.page) (left ordinary) in
          omega (arith, more, ap truth ordinary, within_limit)
      | inr other ↦ omega (arith, more, ap truth other, all.limit)
    ]

-- an entry of no grace leaves each class that has a page one
pub KeepsGrace-next : (owners new : List Owner) (ledger : List Entry) (entry : Entry) → KeepsGrace owners ledger → ((class : ℕ) → is_grace class entry ≡ false) → ((class page : ℕ) → owner_at owners page ≡ Class class → (other : ℕ) × (owner_at new other ≡ Class class)) → KeepsGrace new (ledger ++ entry ∷ [])
KeepsGrace-next owners new ledger entry kept none own =
    record {
      once = λ class. omega (arith, grace_count-push ledger class entry, ap truth (none class), kept.once class);
      stays = λ class some.
          let was = kept.stays class (omega (arith, grace_count-push ledger class entry, ap truth (none class), some)) in
          own class was.0 was.1;
    }

-- so does one of a page that no class had to stay
pub KeepsGrace-set : (owners : List Owner) (ledger : List Entry) (entry : Entry) (page : ℕ) (owner : Owner) → KeepsGrace owners ledger → ((class : ℕ) → is_grace class entry ≡ false) → ((class : ℕ) → owner_at owners page ≢ Class class) → KeepsGrace (set owners page owner) (ledger ++ entry ∷ [])
KeepsGrace-set owners ledger entry page owner kept none free =
    KeepsGrace-next owners (set owners page owner) ledger entry kept none
    (λ class other is. (other, owner_at-set_other owners page other owner (λ same. free class (ap (owner_at owners) (sym same) ∙ is)) ∙ is))

-- a class that has no page gets its first
pub KeepsGrace-first : (owners : List Owner) (ledger : List Entry) (page class : ℕ) → KeepsGrace owners ledger → page < length owners → ((own : ℕ) → owner_at owners page ≢ Class own) → ((other : ℕ) → owner_at owners other ≢ Class class) → KeepsGrace (set owners page (Class class)) (ledger ++ Granted page class true ∷ [])
KeepsGrace-first owners ledger page class kept within free none =
    let entry : Entry = Granted page class true in
    let before : grace_count ledger class ≡ 0 =
    elim (cases_lt 0 (grace_count ledger class)) [
      | inl some ↦ let was = kept.stays class some in absurd (none was.0 was.1)
      | inr zero ↦ omega arith
    ] in
    let here = owner_at-set_same owners page (Class class) within in
    record {
      once = λ own.
          elim (cases_eq own class) [
            | inl same ↦
                let was : grace_count ledger own ≡ 0 = ap (grace_count ledger) same ∙ before in
                omega (arith, grace_count-push ledger own entry, was, truth-le_one (is_grace own entry))
            | inr differs ↦
                let other : is_grace own entry ≡ false = ne_eqb class own (λ e. differs (sym e)) in
                omega (arith, grace_count-push ledger own entry, ap truth other, kept.once own)
          ];
      stays = λ own some.
          elim (cases_eq own class) [
            | inl same ↦ (page, here ∙ ap Class (sym same))
            | inr differs ↦
                let other : is_grace own entry ≡ false = ne_eqb class own (λ e. differs (sym e)) in
                let was = kept.stays own (omega (arith, grace_count-push ledger own entry, ap truth other, some)) in
                (was.0, owner_at-set_other owners page was.0 (Class class) (λ same. free own (ap (owner_at owners) (sym same) ∙ was.1)) ∙ was.1)
          ];
    }

-- 1 where a class has a page
abbrev populates : ClassState → ℕ
populates class = truth (nat_lt 0 (length class.pages))

-- the classes that have a page, after one of them has changed
pub populated-with_class : (slabs : SlabState) (class : ℕ) (state : ClassState) → HasClass slabs class → populated_count (with_class slabs class state).classes + truth (nat_lt 0 (length (class_at slabs class).pages)) ≡ populated_count slabs.classes + truth (nat_lt 0 (length state.pages))
populated-with_class slabs class state is = sum_by-set populates slabs.classes (class - 1) state (new_class 0 0) (omega arith)

-- they are as many where the class has a page as before
pub populated-same : (slabs : SlabState) (class : ℕ) (state : ClassState) → HasClass slabs class → nat_lt 0 (length state.pages) ≡ nat_lt 0 (length (class_at slabs class).pages) → populated_count (with_class slabs class state).classes ≡ populated_count slabs.classes
populated-same slabs class state is same = omega (arith, populated-with_class slabs class state is, ap truth same)

-- the class that was given a page has one
given_has : (slabs : SlabState) (class page : ℕ) → truth (nat_lt 0 (length (with_page (class_at slabs class) page).pages)) ≡ 1
given_has slabs class page =
    ap truth (lt-ltb 0 (length ((class_at slabs class).pages ++ page ∷ [])) (omega (arith, length_push (class_at slabs class).pages page)))

-- a page that is given to a class leaves no class without one
pub populated-given : (slabs : SlabState) (class page : ℕ) → HasClass slabs class → populated_count slabs.classes ≤ populated_count (with_given slabs class page).classes
populated-given slabs class page is =
    omega (arith, populated-with_class slabs class (with_page (class_at slabs class) page) is, given_has slabs class page, truth-le_one (nat_lt 0 (length (class_at slabs class).pages)))

-- and one class more has one where it is its first
pub populated-first : (slabs : SlabState) (class page : ℕ) → HasClass slabs class → length (class_at slabs class).pages ≡ 0 → populated_count (with_given slabs class page).classes ≡ populated_count slabs.classes + 1
populated-first slabs class page is none =
    omega (arith, populated-with_class slabs class (with_page (class_at slabs class) page) is, given_has slabs class page, ap truth (le-ltb 0 (length (class_at slabs class).pages) (omega arith)))

-- no more classes have a page than there are
pub populated-le : (slabs : SlabState) → populated_count slabs.classes ≤ length slabs.classes
populated-le slabs = count_by-le-length (λ (class : ClassState). nat_lt 0 (length class.pages)) slabs.classes

-- and fewer where one has none
pub populated-lt : (slabs : SlabState) (class : ℕ) → HasClass slabs class → length (class_at slabs class).pages ≡ 0 → populated_count slabs.classes < length slabs.classes
populated-lt slabs class is none =
    let first = populated-first slabs class 0 is none in
    omega (arith, first, populated-le (with_given slabs class 0), length-with_class slabs class (with_page (class_at slabs class) 0))
