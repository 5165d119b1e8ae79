-- The owners that a ledger's entries make.
use Rattle.std.proofs.Common.{◌≡◌, ◌<◌, true, ◌&&◌, nat_lt, List, [], ◌∷◌, ◌++◌, length, Some, None, refl, sym, ap, ◌∙◌, set, length-set, lt-ltb, inl, inr}
use Rattle.std.proofs.lemmas.Bool.{and_from, cases_Bool}
use Rattle.mc_pages.specs.declared.ledger.Owner.{Owner}
use Rattle.mc_pages.specs.declared.ledger.Entry.{Entry}
use Rattle.mc_pages.specs.Ledger.{owner_at, page_of, fits_owner, owner_after, replay}

-- a replay that stops has no owners
pub None≢Some : (owners : List Owner) → None ≡ Some owners → ⊥
None≢Some owners h = cc

-- one more entry, which fits the owner that it finds
pub replay-push : (start owners : List Owner) (ledger : List Entry) (entry : Entry) → replay start ledger ≡ Some owners → page_of entry < length owners → fits_owner entry (owner_at owners (page_of entry)) ≡ true → replay start (ledger ++ entry ∷ []) ≡ Some (set owners (page_of entry) (owner_after entry))
replay-push start owners [] entry h within fit =
    let same : start ≡ owners = cc in
    let test : (nat_lt (page_of entry) (length start) && fits_owner entry (owner_at start (page_of entry))) ≡ true =
    rw same (and_from _ _ (lt-ltb (page_of entry) (length owners) within) fit) in
    rw test (rw same refl)
replay-push start owners (e ∷ ledger) entry h within fit =
    elim (cases_Bool (nat_lt (page_of e) (length start) && fits_owner e (owner_at start (page_of e)))) [
      | inl fitting ↦ rw fitting (replay-push (set start (page_of e) (owner_after e)) owners ledger entry (rw fitting at h) within fit)
      | inr stopped ↦ absurd (None≢Some owners (rw stopped at h))
    ]

-- entries change no number of pages
pub length-replay : (start owners : List Owner) (ledger : List Entry) → replay start ledger ≡ Some owners → length owners ≡ length start
length-replay start owners [] h = let same : start ≡ owners = cc in ap length (sym same)
length-replay start owners (e ∷ ledger) h =
    elim (cases_Bool (nat_lt (page_of e) (length start) && fits_owner e (owner_at start (page_of e)))) [
      | inl fitting ↦ length-replay (set start (page_of e) (owner_after e)) owners ledger (rw fitting at h) ∙ length-set start (page_of e) (owner_after e)
      | inr stopped ↦ absurd (None≢Some owners (rw stopped at h))
    ]
