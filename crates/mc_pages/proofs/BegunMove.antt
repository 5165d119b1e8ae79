-- A page of a class begins to move: all keep their places.
use Rattle.std.proofs.Common.{◌≡◌, ◌≢◌, ℕ, ◌-◌, ◌<◌, ◌≤◌, Bool, true, false, ◌&&◌, nat_lt, length, set, Option, Some, None, if◌then◌else◌, refl, sym, ap, ap₂, ◌∙◌, subst, inl, inr, arith, eqb-true, le_refl}
use Rattle.std.specs.Option.{option_map}
use Rattle.std.proofs.lemmas.Bool.{cases_eq, and_parts, both_ways, false_from_ne_true, false≢true}
use Rattle.std.proofs.lemmas.Option.{same_Some, none-some}
use Rattle.mc_pages.specs.declared.ids.ChunkId.{ChunkId}
use Rattle.mc_pages.specs.declared.ids.Moving.{Moving}
use Rattle.mc_pages.specs.declared.ledger.Owner.{Owner}
use Rattle.mc_pages.specs.declared.ledger.Owner.TheVariants.{Untouched, Pool, Class}
use Rattle.mc_pages.specs.declared.ledger.Owner.TheVariants as owner
use Rattle.mc_pages.specs.Ledger.{owner_at}
use Rattle.mc_pages.specs.SlabState.{SlabState, HasClass, class_at}
use Rattle.mc_pages.specs.Moves.{with_move}
use Rattle.mc_pages.specs.Accounted.{truth, is_of_class, is_pool, is_moving, cut_count, uncut_count, is_cut, is_cleared, first_chunks, cleared_count, IsMove}
use Rattle.mc_pages.proofs.Owners.{owner_at-set_same, owner_at-set_other}
use Rattle.mc_pages.proofs.Cleared.{count_by-none, is_cleared-still}
use Rattle.mc_pages.proofs.Placed.{ArePlaced}
use Rattle.mc_pages.proofs.GivenPage.{owner-set_alike}

-- the owner of a class's page that stands still
pub Class-from_still : (class : ℕ) (owner : Owner) → is_of_class class owner ≡ true → is_moving owner ≡ false → owner ≡ Class class
Class-from_still class Untouched of still = absurd (false≢true of)
Class-from_still class Pool of still = absurd (false≢true of)
Class-from_still class (Class own) of still = ap Class (eqb-true own class of)
Class-from_still class (owner.Moving src dst) of still = absurd (false≢true (sym still))

-- no page moves where there is no move
pub still_at_rest : (slabs : SlabState) → ArePlaced slabs → slabs.moving ≡ None → (page : ℕ) → is_moving (owner_at slabs.owners page) ≡ false
still_at_rest slabs all rest page =
    false_from_ne_true _ (λ e. none-some page (sym (ap (λ (o : Option Moving). option_map (λ (m : Moving). m.page) o) rest) ∙ all.one_move page e))

-- as many chunks of the class are uncut where each page is its own as before
uncut_count-alike : (slabs new : SlabState) (class : ℕ) (uncut : Option ChunkId) → ((page : ℕ) → is_of_class class (owner_at new.owners page) ≡ is_of_class class (owner_at slabs.owners page)) → (class_at new class).per_page ≡ (class_at slabs class).per_page → uncut_count new class uncut ≡ uncut_count slabs class uncut
uncut_count-alike slabs new class None owners size = refl
uncut_count-alike slabs new class (Some next) owners size = ap₂ (λ (b : Bool) (n : ℕ). if b then n - next.index else 0) (owners next.page) size

-- each page is a class's as before
is_of_class-begun : (slabs : SlabState) (page src dst : ℕ) → owner_at slabs.owners page ≡ Class src → page < length slabs.owners → (class other : ℕ) → is_of_class class (owner_at (set slabs.owners page (owner.Moving src dst)) other) ≡ is_of_class class (owner_at slabs.owners other)
is_of_class-begun slabs page src dst owned within class other =
    owner-set_alike (λ (o : Owner). is_of_class class o) slabs.owners page other (owner.Moving src dst) within (ap (λ (o : Owner). is_of_class class o) (sym owned))

-- each chunk is cut as before
is_cut-begun : (slabs : SlabState) (page src dst : ℕ) → owner_at slabs.owners page ≡ Class src → page < length slabs.owners → (class : ℕ) (chunk : ChunkId) → is_cut (with_move slabs page src dst) class chunk ≡ is_cut slabs class chunk
is_cut-begun slabs page src dst owned within class chunk =
    ap (λ b. b && nat_lt chunk.index (cut_count slabs.uncut chunk.page (class_at slabs class).per_page)) (is_of_class-begun slabs page src dst owned within class chunk.page)

-- no chunk is cleared yet
is_cleared-begun : (slabs : SlabState) (page src dst : ℕ) → ArePlaced slabs → slabs.moving ≡ None → owner_at slabs.owners page ≡ Class src → page < length slabs.owners → (class : ℕ) (chunk : ChunkId) → HasClass slabs class → is_cleared (with_move slabs page src dst) class chunk ≡ false
is_cleared-begun slabs page src dst all rest owned within class chunk here =
    false_from_ne_true _ (λ e.
    let parts = and_parts _ _ e in
    let cut = and_parts _ _ parts.0 in
    let none = eqb-true _ _ parts.1 in
    let before = is_cleared-still slabs class chunk (still_at_rest slabs all rest chunk.page) in
    let was = sym (is_cut-begun slabs page src dst owned within class chunk) ∙ cut.1 in
    omega (arith, none, ap truth before, ap truth was, all.chunks class chunk here))

-- the move is at its beginning
IsMove-begun : (slabs : SlabState) (page src dst : ℕ) → HasClass slabs src → 2 ≤ length (class_at slabs src).pages → dst ≤ length slabs.classes → src ≢ dst → page < length slabs.owners → IsMove (with_move slabs page src dst) (record { page = page; src = src; dst = dst; at = 0; busy = 0 })
IsMove-begun slabs page src dst is two to apart within =
    record {
      owner = owner_at-set_same slabs.owners page (owner.Moving src dst) within;
      src = is;
      spare = two;
      dst = to;
      apart = apart;
      within = omega arith;
      busy = le_refl 0;
      passed = le_refl 0;
    }

-- a page of a class begins to move
pub ArePlaced-begun : (slabs : SlabState) (page src dst : ℕ) → ArePlaced slabs → slabs.moving ≡ None → HasClass slabs src → 2 ≤ length (class_at slabs src).pages → dst ≤ length slabs.classes → src ≢ dst → owner_at slabs.owners page ≡ Class src → page < length slabs.owners → ArePlaced (with_move slabs page src dst)
ArePlaced-begun slabs page src dst all rest is two to apart owned within =
    let new : SlabState = with_move slabs page src dst in
    let first : Moving = record { page = page; src = src; dst = dst; at = 0; busy = 0 } in
    record {
      pages = λ class other here. all.pages class other here ∙ ap truth (sym (is_of_class-begun slabs page src dst owned within class other));
      owned = λ class other h. all.owned class other (sym (is_of_class-begun slabs page src dst owned within class other) ∙ h);
      pool = λ other. all.pool other ∙ ap truth (sym (owner-set_alike is_pool slabs.owners page other (owner.Moving src dst) within (ap is_pool (sym owned))));
      one_move = λ other h.
          elim (cases_eq other page) [
            | inl same ↦ ap (λ (p : ℕ). Some p) (sym same)
            | inr differs ↦ absurd (both_ways _ (still_at_rest slabs all rest other) (sym (ap is_moving (owner_at-set_other slabs.owners page other (owner.Moving src dst) differs)) ∙ h))
          ];
      move = λ move h. subst (λ (m : Moving). IsMove new m) (same_Some first move h) (IsMove-begun slabs page src dst is two to apart within);
      chunks = λ class chunk here.
          let cleared = is_cleared-begun slabs page src dst all rest owned within class chunk here in
          let before = is_cleared-still slabs class chunk (still_at_rest slabs all rest chunk.page) in
          omega (arith, ap truth (is_cut-begun slabs page src dst owned within class chunk), ap truth cleared, ap truth before, all.chunks class chunk here);
      total = λ class here.
          let uncut = uncut_count-alike slabs new class slabs.uncut (is_of_class-begun slabs page src dst owned within class) refl in
          let none = count_by-none (is_cleared new class) (first_chunks page (class_at slabs class).per_page) (λ chunk. is_cleared-begun slabs page src dst all rest owned within class chunk here) in
          let before = ap (λ (o : Option Moving). cleared_count slabs class o) rest in
          omega (arith, uncut, none, before, all.total class here);
    }
