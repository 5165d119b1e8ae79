-- What the code keeps of all pages and chunks, after a move has ended.
use Rattle.std.proofs.Common.{◌≡◌, ◌≢◌, ℕ, ◌+◌, ◌*◌, ◌<◌, ◌≤◌, ◌==◌, Bool, true, List, [], ◌∷◌, ◌++◌, length, set, Option, None, if◌then◌else◌, refl, sym, ap, ◌∙◌, subst, inl, inr, arith, lt-ltb, eq-eqb, ne_eqb, length-set}
use Rattle.std.proofs.lemmas.Bool.{cases_eq, false≢true}
use Rattle.std.proofs.lemmas.Option.{none-some}
use Rattle.std.proofs.lemmas.List.{set-set}
use Rattle.mc_pages.specs.declared.ids.ChunkId.{ChunkId}
use Rattle.mc_pages.specs.declared.ids.Moving.{Moving}
use Rattle.mc_pages.specs.declared.ledger.Owner.{Owner}
use Rattle.mc_pages.specs.declared.ledger.Owner.TheVariants.{Pool, Class}
use Rattle.mc_pages.specs.declared.ledger.Entry.{Entry}
use Rattle.mc_pages.specs.declared.ledger.Entry.TheVariants.{Ended}
use Rattle.mc_pages.specs.Ledger.{KeepsGrace, ordinary_count, owner_at, fits_owner}
use Rattle.mc_pages.specs.ClassState.{counter_after, with_page, without_page}
use Rattle.mc_pages.specs.SlabState.{SlabState, HasClass, class_at, is_untouched}
use Rattle.mc_pages.specs.Changes.{with_given}
use Rattle.mc_pages.specs.Moves.{after_page_release, after_move_end, CanFinish}
use Rattle.mc_pages.specs.Accounted.{truth, is_of_class, is_pool, is_moving, uncut_count, IsMove, IsAccounted}
use Rattle.mc_pages.specs.InOrder.{AreGranted, AreSlabsInOrder, populated_count}
use Rattle.mc_pages.proofs.Owners.{owner_at-set_same, AreGranted-set}
use Rattle.mc_pages.proofs.Grace.{KeepsGrace-set, ordinary_count-push, populated-given, populated-same}
use Rattle.mc_pages.proofs.OneClass.{length-with_class, IsClass-with_class}
use Rattle.mc_pages.proofs.Placed.{ArePlaced, ArePlaced_from, IsAccounted-entry, IsAccounted-numbers}
use Rattle.mc_pages.proofs.GivenPage.{IsNoClass, owner-set_alike, ArePlaced-given}
use Rattle.mc_pages.proofs.ReleasedPage.{within_from_IsMove, length-filter_page, cleared_at_end, ArePlaced-released}
use Rattle.mc_pages.proofs.Steady.{IsSteady, IsSteady_from, IsSteady-changed, IsInOrder-given}

-- the ledger with the end of the move
abbrev ledger_ended : SlabState → Moving → List Entry
ledger_ended slabs move = slabs.ledger ++ Ended move.page move.dst ∷ []

-- the page went from its class to the pool
abbrev in_pool : SlabState → Moving → SlabState
in_pool slabs move = after_page_release slabs move.page move.src

-- the page went from its class to another
abbrev in_class : SlabState → Moving → SlabState
in_class slabs move = record (with_given (in_pool slabs move) move.dst move.page) { pool = slabs.pool }

-- the end fits the owner of the page that moves
fits-ended : (slabs : SlabState) (move : Moving) → IsMove slabs move → fits_owner (Ended move.page move.dst) (owner_at slabs.owners move.page) ≡ true
fits-ended slabs move is = ap (λ (o : Owner). fits_owner (Ended move.page move.dst) o) is.owner ∙ eq-eqb move.dst move.dst refl

-- the owners with the page in the pool are granted as before
AreGranted-in_pool : (slabs : SlabState) (granted : ℕ) (move : Moving) → IsMove slabs move → AreGranted slabs.owners granted → AreGranted (set slabs.owners move.page Pool) granted
AreGranted-in_pool slabs granted move is are = AreGranted-set slabs.owners granted move.page Pool are (ap is_untouched is.owner) refl

-- what is kept beside the accounts
IsSteady-in_pool : (slabs : SlabState) (granted : ℕ) (move : Moving) → AreSlabsInOrder slabs granted → IsMove slabs move → IsSteady (in_pool slabs move)
IsSteady-in_pool slabs granted move kept is =
    let steady = IsSteady-changed slabs move.src (without_page (class_at slabs move.src) move.page) (set slabs.owners move.page Pool) (IsSteady_from slabs granted kept) is.src refl (length-set slabs.owners move.page Pool) in
    record { pages = steady.pages; per_page = steady.per_page; at_most = steady.at_most }

-- the cursor is still at a class
cursor-in_pool : (slabs : SlabState) (move : Moving) → IsAccounted slabs → HasClass (in_pool slabs move) slabs.cursor
cursor-in_pool slabs move all = IsClass-with_class slabs move.src slabs.cursor (without_page (class_at slabs move.src) move.page) all.cursor

-- the page of the class that gives it is one of two
fewer_pages : (slabs : SlabState) (move : Moving) → IsAccounted slabs → IsMove slabs move → length (class_at slabs move.src).pages ≡ length (without_page (class_at slabs move.src) move.page).pages + 1
fewer_pages slabs move all is =
    let one = all.pages move.src move.page is.src ∙ (ap (λ (o : Owner). truth (is_of_class move.src o)) is.owner ∙ ap truth (eq-eqb move.src move.src refl)) in
    omega (arith, one, length-filter_page move.page (class_at slabs move.src).pages)

-- so it still has a page, as each class that had one
graced-in_pool : (slabs : SlabState) (granted : ℕ) (move : Moving) → AreSlabsInOrder slabs granted → IsMove slabs move → granted ≤ ordinary_count (ledger_ended slabs move) + populated_count (in_pool slabs move).classes
graced-in_pool slabs granted move kept is =
    let state = without_page (class_at slabs move.src) move.page in
    let fewer = fewer_pages slabs move kept.accounted is in
    let same = lt-ltb 0 (length state.pages) (omega (arith, fewer, is.spare)) ∙ sym (lt-ltb 0 (length (class_at slabs move.src).pages) (omega (arith, is.spare))) in
    omega (arith, kept.graced, ordinary_count-push slabs.ledger (Ended move.page move.dst), populated-same slabs move.src state is.src same)

-- and a page that no class had to stay changes its owner
grace-ended : (slabs : SlabState) (move : Moving) (owner : Owner) → IsAccounted slabs → IsMove slabs move → KeepsGrace (set slabs.owners move.page owner) (ledger_ended slabs move)
grace-ended slabs move owner all is =
    KeepsGrace-set slabs.owners slabs.ledger (Ended move.page move.dst) move.page owner all.grace (λ class. refl)
    (λ class own. false≢true (ap is_moving (sym own ∙ is.owner)))

-- the move to the pool ends
IsInOrder-in_pool : (slabs : SlabState) (granted moved : ℕ) (move : Moving) → AreSlabsInOrder slabs granted → slabs.uncut ≡ None → CanFinish slabs move → move.dst ≡ 0 → AreSlabsInOrder (record (in_pool slabs move) { ledger = ledger_ended slabs move; moved = moved }) granted
IsInOrder-in_pool slabs granted moved move kept whole can to =
    let all = kept.accounted in
    let is = all.move move can.runs in
    let new : SlabState = in_pool slabs move in
    let steady = IsSteady-in_pool slabs granted move kept is in
    let leaves : (if move.dst == 0 then Pool else Class move.dst) ≡ Pool = ap (λ b. if b then Pool else Class move.dst) (eq-eqb move.dst 0 to) in
    let placed = ArePlaced-released slabs move (ArePlaced_from slabs all) whole can in
    let at = cursor-in_pool slabs move all in
    let after = IsAccounted-entry slabs new (Ended move.page move.dst) Pool all (within_from_IsMove slabs move is) (fits-ended slabs move is) leaves placed at all.mode (λ e. absurd (false≢true e)) (grace-ended slabs move Pool all is) (length-with_class slabs move.src (without_page (class_at slabs move.src) move.page)) in
    record {
      accounted = IsAccounted-numbers (record new { ledger = ledger_ended slabs move }) slabs.cursor moved slabs.rescues slabs.evictions_nomem slabs.busy slabs.automove after at all.mode;
      lowest = AreGranted-in_pool slabs granted move is kept.lowest;
      graced = graced-in_pool slabs granted move kept is;
      pages = steady.pages;
      per_page = steady.per_page;
      at_most = steady.at_most;
      uncut = λ chunk h. absurd (none-some chunk (sym whole ∙ h));
    }

-- the page has its places in the class that it went to
ArePlaced-in_class : (slabs : SlabState) (move : Moving) → ArePlaced slabs → slabs.uncut ≡ None → CanFinish slabs move → HasClass (in_pool slabs move) move.dst → ArePlaced (in_class slabs move)
ArePlaced-in_class slabs move all whole can to =
    let is = all.move move can.runs in
    let pool : SlabState = in_pool slabs move in
    let within = within_from_IsMove slabs move is in
    let owner = owner_at-set_same slabs.owners move.page Pool within in
    let free : IsNoClass (owner_at pool.owners move.page) = record { of_class = λ class. ap (λ (o : Owner). is_of_class class o) owner; still = ap is_moving owner } in
    let inside : move.page < length pool.owners = omega (arith, within, length-set slabs.owners move.page Pool) in
    let once = set-set slabs.owners move.page Pool (Class move.dst) in
    let pooled = λ (other : ℕ).
    let kept = owner-set_alike is_pool slabs.owners move.page other (Class move.dst) within (sym (ap is_pool is.owner)) in
    let now = ap (λ (os : List Owner). is_pool (owner_at os other)) once in
    all.pool other ∙ ap truth (sym (now ∙ kept)) in
    ArePlaced-given pool move.dst move.page slabs.pool (ArePlaced-released slabs move all whole can) to whole inside free pooled

-- the move to a class ends
IsInOrder-in_class : (slabs : SlabState) (granted moved : ℕ) (move : Moving) → AreSlabsInOrder slabs granted → slabs.uncut ≡ None → CanFinish slabs move → move.dst ≢ 0 → AreSlabsInOrder (record (in_class slabs move) { ledger = ledger_ended slabs move; moved = moved }) granted
IsInOrder-in_class slabs granted moved move kept whole can to =
    let all = kept.accounted in
    let is = all.move move can.runs in
    let pool : SlabState = in_pool slabs move in
    let new : SlabState = in_class slabs move in
    let within = within_from_IsMove slabs move is in
    let class : HasClass pool move.dst = (omega arith, omega (arith, is.dst, length-with_class slabs move.src (without_page (class_at slabs move.src) move.page))) in
    let leaves : (if move.dst == 0 then Pool else Class move.dst) ≡ Class move.dst = ap (λ b. if b then Pool else Class move.dst) (ne_eqb move.dst 0 to) in
    let once = set-set slabs.owners move.page Pool (Class move.dst) in
    let at = IsClass-with_class pool move.dst slabs.cursor (with_page (class_at pool move.dst) move.page) (cursor-in_pool slabs move all) in
    let placed = subst (λ (os : List Owner). ArePlaced (record new { owners = os })) once (ArePlaced-in_class slabs move (ArePlaced_from slabs all) whole can class) in
    let at_limit = length-with_class pool move.dst (with_page (class_at pool move.dst) move.page) ∙ length-with_class slabs move.src (without_page (class_at slabs move.src) move.page) in
    let entry = IsAccounted-entry slabs new (Ended move.page move.dst) (Class move.dst) all within (fits-ended slabs move is) leaves placed at all.mode (λ e. absurd (false≢true e)) (grace-ended slabs move (Class move.dst) all is) at_limit in
    let after = subst (λ (os : List Owner). IsAccounted (record new { owners = os; ledger = ledger_ended slabs move })) (sym once) entry in
    let numbered = IsAccounted-numbers (record new { ledger = ledger_ended slabs move }) slabs.cursor moved slabs.rescues slabs.evictions_nomem slabs.busy slabs.automove after at all.mode in
    let inside : move.page < length pool.owners = omega (arith, within, length-set slabs.owners move.page Pool) in
    let owner = owner_at-set_same slabs.owners move.page Pool within in
    let are = AreGranted-set pool.owners granted move.page (Class move.dst) (AreGranted-in_pool slabs granted move is kept.lowest) (ap is_untouched owner) refl in
    IsInOrder-given pool granted move.dst move.page moved slabs.pool (ledger_ended slabs move) (IsSteady-in_pool slabs granted move kept is) class inside numbered are (omega (arith, graced-in_pool slabs granted move kept is, populated-given pool move.dst move.page class))

-- the move ends
pub IsInOrder-finished : (slabs : SlabState) (granted : ℕ) (move : Moving) → AreSlabsInOrder slabs granted → slabs.uncut ≡ None → CanFinish slabs move → AreSlabsInOrder (after_move_end slabs move) granted
IsInOrder-finished slabs granted move kept whole can =
    let moved = counter_after slabs.moved 1 in
    let ended = λ (s : SlabState). AreSlabsInOrder (record s { ledger = ledger_ended slabs move; moved = moved }) granted in
    let arrived_at = λ (b : Bool). if b then in_pool slabs move else in_class slabs move in
    elim (cases_eq move.dst 0) [
      | inl none ↦ subst ended (sym (ap arrived_at (eq-eqb move.dst 0 none))) (IsInOrder-in_pool slabs granted moved move kept whole can none)
      | inr some ↦ subst ended (sym (ap arrived_at (ne_eqb move.dst 0 some))) (IsInOrder-in_class slabs granted moved move kept whole can some)
    ]

-- without the page, the class's pages still have as many chunks as its lists
pub release_fits : (slabs : SlabState) (granted : ℕ) (move : Moving) → AreSlabsInOrder slabs granted → slabs.uncut ≡ None → CanFinish slabs move → length (class_at slabs move.src).free + length (class_at slabs move.src).order ≤ length (without_page (class_at slabs move.src) move.page).pages * (class_at slabs move.src).per_page
release_fits slabs granted move kept whole can =
    let all = kept.accounted in
    let is = all.move move can.runs in
    let own = class_at slabs move.src in
    let uncut = ap (λ (o : Option ChunkId). uncut_count slabs move.src o) whole in
    let cleared = cleared_at_end slabs move (ArePlaced_from slabs all) is can move.src in
    let test = ap (λ b. if b then own.per_page else 0) (eq-eqb move.src move.src refl) in
    let fewer = fewer_pages slabs move all is in
    let product = ap (λ (n : ℕ). n * own.per_page) fewer in
    omega (arith, uncut, cleared, test, product, all.total move.src is.src)
