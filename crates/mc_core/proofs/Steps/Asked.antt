-- What the calls on a move ask, from the tests of the core.
use Rattle.std.proofs.Common.{◌≡◌, ℕ, ◌<◌, ◌==◌, ◌∙◌, ◌||◌, Bool, true, false, not, Option, Some, None, refl, sym, ap, subst, arith, eqb-true, leb-true, ltb-true, is_none, nat_lt, nat_le, eq-eqb}
use Rattle.std.proofs.lemmas.Bool.{and_parts, and_from}
use Rattle.mc_classes.specs.Classes.{Classes, per_page_of}
use Rattle.mc_pages.specs.declared.ids.ChunkId.{ChunkId}
use Rattle.mc_pages.specs.declared.ids.Moving.{Moving}
use Rattle.mc_pages.specs.declared.moves.Found.{Found}
use Rattle.mc_pages.specs.Ledger.{owner_at}
use Rattle.mc_pages.specs.ClassState.{times_in}
use Rattle.mc_pages.specs.SlabState.{SlabState, class_at}
use Rattle.mc_pages.specs.Accounted.{is_moving, is_of_class, cut_count, is_cleared, places_in}
use Rattle.mc_pages.specs.Moves.{is_held_up, chunk_at_position, CanPass, CanWrap, CanFinish}
use Rattle.mc_core.specs.run.Silent.{is_among, is_listed, has_page, has_listed, run_of, is_cleared_at, can_finish, can_pass, can_wrap}
use Rattle.mc_core.specs.model.InOrder.{IsOfTable}
use Rattle.mc_core.proofs.Steps.Listed.{none_among, none_of_page, or_none, per_page_is, cleared_from}

not_true : (b : Bool) → not b ≡ true → b ≡ false
not_true true h = absurd (cc)
not_true false h = refl

none_listed : (slabs : SlabState) (class : ℕ) (chunk : ChunkId) → is_listed slabs class chunk ≡ false → places_in slabs class chunk ≡ 0
none_listed slabs class chunk h =
    let parts = or_none (is_among (class_at slabs class).free chunk) (is_among (class_at slabs class).order chunk) h in
    let free : times_in chunk (class_at slabs class).free ≡ 0 = none_among (class_at slabs class).free chunk parts.0 in
    let order : times_in chunk (class_at slabs class).order ≡ 0 = none_among (class_at slabs class).order chunk parts.1 in
    omega arith

pub wrap_asked : (table : Classes) (slabs : SlabState) (moving : Option Moving) → IsOfTable table slabs → slabs.moving ≡ moving → can_wrap (run_of table moving) ≡ true → (move : Moving) × CanWrap slabs move
wrap_asked table slabs None of runs h = absurd (cc)
wrap_asked table slabs (Some move) of runs h =
    let move_is = of.accounted.move move runs in
    let parts = and_parts (move.at == per_page_of table move.src) (nat_le 1 move.busy) h in (
      move,
      record {
        runs = runs;
        at_end = eqb-true move.at (per_page_of table move.src) parts.0 ∙ sym (per_page_is table slabs move.src of move_is.src);
        held_up = leb-true 1 move.busy parts.1;
      },
    )

pub pass_asked : (table : Classes) (slabs : SlabState) (found : Found) (moving : Option Moving) → IsOfTable table slabs → slabs.moving ≡ moving → can_pass slabs found (run_of table moving) ≡ true → (move : Moving) × CanPass slabs found move
pass_asked table slabs found None of runs h = absurd (cc)
pass_asked table slabs found (Some move) of runs h =
    let move_is = of.accounted.move move runs in
    let per_page = per_page_is table slabs move.src of move_is.src in
    let chunk = chunk_at_position move in
    let parts = and_parts (nat_lt move.at (per_page_of table move.src)) (is_held_up found || is_cleared_at slabs (per_page_of table move.src) move) h in
    let below : move.at < per_page_of table move.src = ltb-true move.at (per_page_of table move.src) parts.0 in
    let cleared : is_cleared_at slabs (per_page_of table move.src) move ≡ true → is_cleared slabs move.src chunk ≡ true = λ is.
    let cut = and_parts (nat_lt move.at (cut_count slabs.uncut move.page (per_page_of table move.src))) (not (is_listed slabs move.src chunk)) is in
    let moves : is_moving (owner_at slabs.owners move.page) ≡ true = ap is_moving move_is.owner in
    let own : is_of_class move.src (owner_at slabs.owners move.page) ≡ true = ap (is_of_class move.src) move_is.owner ∙ eq-eqb move.src move.src refl in
    let was_cut : nat_lt move.at (cut_count slabs.uncut move.page (class_at slabs move.src).per_page) ≡ true =
    ap (λ n. nat_lt move.at (cut_count slabs.uncut move.page n)) per_page ∙ cut.0 in
    let none = none_listed slabs move.src chunk (not_true (is_listed slabs move.src chunk) cut.1) in
    and_from _ _ (and_from _ _ moves (and_from _ _ own was_cut)) (eq-eqb (places_in slabs move.src chunk) 0 none) in (
      move,
      record {
        runs = runs;
        within = omega (arith, below, per_page);
        done = λ held. cleared (subst (λ b. (b || is_cleared_at slabs (per_page_of table move.src) move) ≡ true) held parts.1);
      },
    )

whole_is : (uncut : Option ChunkId) → is_none uncut ≡ true → uncut ≡ None
whole_is None h = refl
whole_is (Some chunk) h = absurd (cc)

pub finish_asked : (table : Classes) (slabs : SlabState) (moving : Option Moving) → IsOfTable table slabs → slabs.moving ≡ moving → can_finish slabs moving ≡ true → (slabs.uncut ≡ None) × ((move : Moving) × CanFinish slabs move)
finish_asked table slabs None of runs h = absurd (cc)
finish_asked table slabs (Some move) of runs h =
    let parts = and_parts (is_none slabs.uncut) (not (has_listed slabs move.src move.page)) h in
    let whole = whole_is slabs.uncut parts.0 in
    let neither = or_none (has_page (class_at slabs move.src).free move.page) (has_page (class_at slabs move.src).order move.page)
    (not_true (has_listed slabs move.src move.page) parts.1) in (
      whole,
      (
        move,
        record {
          runs = runs;
          all_cleared = λ index within.
              let chunk : ChunkId = record { page = move.page; index = index } in
              let free : times_in chunk (class_at slabs move.src).free ≡ 0 = none_of_page (class_at slabs move.src).free chunk neither.0 in
              let order : times_in chunk (class_at slabs move.src).order ≡ 0 = none_of_page (class_at slabs move.src).order chunk neither.1 in
              cleared_from slabs move index of.accounted runs whole within (omega arith);
        },
      ),
    )
