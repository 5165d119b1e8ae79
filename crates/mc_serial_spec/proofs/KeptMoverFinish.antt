-- A move ends, and a class cuts the page: the machine stays consistent.
use Rattle.std.proofs.Common.{◌≡◌, ◌≢◌, ℕ, ◌<◌, ◌≤◌, List, length, set, Bool, true, false, Option, Some, None, inl, inr, refl, ap, sym, ◌∙◌, arith, eqb-true, eq-eqb, ne_eqb}
use Rattle.std.specs.Prelude.{◌==◌, fold, map, nat_lt, if◌then◌else◌}
use Rattle.std.proofs.lemmas.Bool.{cases_Bool, cases_lt, and_parts, ltb-true}
use Rattle.std.proofs.lemmas.List.{length-set}
use Rattle.mc_classes.specs.Classes.{Classes}
use Rattle.mc_pages.specs.declared.ids.ChunkId.{ChunkId}
use Rattle.mc_pages.specs.declared.ids.Moving.{Moving}
use Rattle.mc_pages.specs.declared.ledger.Owner.{Owner}
use Rattle.mc_pages.specs.declared.ledger.Owner.TheVariants.{Pool, Class}
use Rattle.mc_pages.specs.Ledger.{owner_at}
use Rattle.mc_pages.specs.ClassState.{ClassState, times_in, without_page, with_page}
use Rattle.mc_pages.specs.SlabState.{SlabState, HasClass, class_at, class_of_owner, class_of_page, class_of_chunk}
use Rattle.mc_pages.specs.Accounted.{truth, is_of_class, cut_count, is_cut, places_in, first_chunks, IsMove, IsAccounted}
use Rattle.mc_pages.specs.Changes.{with_given, after_cut}
use Rattle.mc_pages.specs.Moves.{after_page_release, after_move_end, CanFinish}
use Rattle.mc_pages.proofs.HandedOut.{IsClass-placed}
use Rattle.mc_pages.proofs.Owners.{owner_at-set_same, owner_at-set_other}
use Rattle.mc_pages.proofs.ReleasedPage.{within_from_IsMove}
use Rattle.mc_serial_spec.specs.Items.{Items}
use Rattle.mc_serial_spec.specs.Consistent.{place_count, IsConsistent}
use Rattle.mc_serial_spec.specs.Machine.{Machine, with_cut_page}
use Rattle.mc_serial_spec.specs.Mover.{with_finish}
use Rattle.mc_pages.proofs.ClassChanges.{order-with_class, per_pages-with_class, classes-cuts, order-cuts, owners-cuts, per_pages-cuts, page-cuts, limit-cuts}
use Rattle.mc_pages.proofs.Cuts.{per_page-map}

-- a chunk of the page that was cleared has no place in its class
none_placed : (slabs : SlabState) (move : Moving) (chunk : ChunkId) → IsAccounted slabs → slabs.uncut ≡ None → CanFinish slabs move → chunk.page ≡ move.page
    → places_in slabs move.src chunk ≡ 0
none_placed slabs move chunk accounted whole can on =
    let is : IsMove slabs move = accounted.move move can.runs in
    elim (cases_Bool (is_cut slabs move.src chunk)) [
      | inl cut ↦
          let parts = and_parts (is_of_class move.src (owner_at slabs.owners chunk.page)) (nat_lt chunk.index (cut_count slabs.uncut chunk.page (class_at slabs move.src).per_page)) cut in
          let below : chunk.index < cut_count slabs.uncut chunk.page (class_at slabs move.src).per_page
          = ltb-true chunk.index (cut_count slabs.uncut chunk.page (class_at slabs move.src).per_page) parts.1 in
          let count = ap (λ (o : Option ChunkId). cut_count o chunk.page (class_at slabs move.src).per_page) whole in
          let cleared = and_parts _ _ (can.all_cleared chunk.index (omega (arith, below, count))) in
          ap (λ (p : ℕ). places_in slabs move.src (record { page = p; index = chunk.index })) on ∙ eqb-true _ _ cleared.1
      | inr uncut ↦ omega (arith, accounted.chunks move.src chunk is.src, ap truth uncut)
    ]

-- what the page's way to a class or the pool leaves
pub record Arrives (slabs new : SlabState) (page : ℕ) : Type 0 where
  pub classes : length new.classes ≡ length slabs.classes
  pub per_page : map (λ (c : ClassState). c.per_page) new.classes ≡ map (λ (c : ClassState). c.per_page) slabs.classes
  pub page_size : new.page ≡ slabs.page
  pub limit : new.limit ≡ slabs.limit
  pub owners : (other : ℕ) → other ≢ page → owner_at new.owners other ≡ owner_at slabs.owners other
  pub order : (class : ℕ) → HasClass slabs class → (class_at new class).order ≡ (class_at slabs class).order

arrives_pool : (slabs : SlabState) (page src : ℕ) → Arrives slabs (after_page_release slabs page src) page
arrives_pool slabs page src = record {
  classes = length-set slabs.classes _ _;
  per_page = per_pages-with_class slabs src (without_page (class_at slabs src) page) refl;
  page_size = refl;
  limit = refl;
  owners = λ other apart. owner_at-set_other slabs.owners page other Pool apart;
  order = λ class valid. order-with_class slabs src class (without_page (class_at slabs src) page) valid refl;
}

arrives_class : (slabs : SlabState) (page src dst : ℕ) → Arrives slabs (with_given (after_page_release slabs page src) dst page) page
arrives_class slabs page src dst =
    let pool : SlabState = after_page_release slabs page src in
    let first = arrives_pool slabs page src in
    record {
      classes = length-set pool.classes _ _ ∙ first.classes;
      per_page = per_pages-with_class pool dst (with_page (class_at pool dst) page) refl ∙ first.per_page;
      page_size = refl;
      limit = refl;
      owners = λ other apart. owner_at-set_other pool.owners page other (Class dst) apart ∙ first.owners other apart;
      order = λ class valid.
          order-with_class pool dst class (with_page (class_at pool dst) page) (valid.0, omega (arith, valid.1, first.classes)) refl ∙ first.order class valid;
    }

arrives_way : (b : Bool) (slabs : SlabState) (move : Moving) → (move.dst == 0) ≡ b → Arrives slabs (after_move_end slabs move) move.page
arrives_way true slabs move pool =
    let first = arrives_pool slabs move.page move.src in
    rw pool (record { classes = first.classes; per_page = first.per_page; page_size = refl; limit = refl; owners = first.owners; order = first.order })
arrives_way false slabs move class =
    let first = arrives_class slabs move.page move.src move.dst in
    rw class (record { classes = first.classes; per_page = first.per_page; page_size = refl; limit = refl; owners = first.owners; order = first.order })

pub arrives : (slabs : SlabState) (move : Moving) → Arrives slabs (after_move_end slabs move) move.page
arrives slabs move = arrives_way (move.dst == 0) slabs move refl

-- and so where chunks are cut then
pub arrives_cut : (slabs new : SlabState) (page : ℕ) (chunks : List ChunkId) → Arrives slabs new page → Arrives slabs (fold after_cut new chunks) page
arrives_cut slabs new page chunks first = record {
  classes = classes-cuts new chunks ∙ first.classes;
  per_page = per_pages-cuts new chunks ∙ first.per_page;
  page_size = page-cuts new chunks ∙ first.page_size;
  limit = limit-cuts new chunks ∙ first.limit;
  owners = λ other apart. ap (λ (owners : List Owner). owner_at owners other) (owners-cuts new chunks) ∙ first.owners other apart;
  order = λ class valid. order-cuts new chunks class (valid.0, omega (arith, valid.1, first.classes)) ∙ first.order class valid;
}

-- the move has ended: all is kept
kept_arrived : (table : Classes) (slabs new : SlabState) (items : Items) (move : Moving)
    → IsConsistent table slabs items → CanFinish slabs move → Arrives slabs new move.page → new.uncut ≡ None → IsAccounted new → IsConsistent table new items
kept_arrived table slabs new items move kept can comes whole accounted = record {
  sound = kept.sound;
  classes = comes.classes ∙ kept.classes;
  per_page = comes.per_page ∙ kept.per_page;
  page = comes.page_size ∙ kept.page;
  limit = comes.limit ∙ kept.limit;
  whole = whole;
  accounted = accounted;
  one_link = kept.one_link;
  handed_out = λ x. elim (cases_lt (place_count x items) 1) [
    | inl none ↦ omega (arith, none)
    | inr some ↦
        let handed : 1 ≤ times_in x (class_of_chunk slabs x).order = omega (arith, some, kept.handed_out x) in
        let valid : HasClass slabs (class_of_page slabs x.page) = IsClass-placed slabs x kept.accounted (omega (arith, handed)) in
        let apart : x.page ≢ move.page = λ on.
        let own : class_of_page slabs x.page ≡ move.src
        = ap (λ (p : ℕ). class_of_page slabs p) on ∙ ap class_of_owner (kept.accounted.move move can.runs).owner in
        let handed_there : 1 ≤ times_in x (class_at slabs move.src).order = rw own at handed in
        omega (arith, none_placed slabs move x kept.accounted kept.whole can on, handed_there) in
        let own : class_of_page new x.page ≡ class_of_page slabs x.page = ap class_of_owner (comes.owners x.page apart) in
        rw (own, comes.order (class_of_page slabs x.page) valid) (kept.handed_out x)
  ];
  stored = λ class x valid.
      let before : HasClass slabs class = (valid.0, omega (arith, valid.1, comes.classes)) in
      rw (comes.order class before) (kept.stored class x before);
}

-- the move to the pool has ended
pub kept_pooled : (table : Classes) (slabs : SlabState) (items : Items) (move : Moving)
    → IsConsistent table slabs items → CanFinish slabs move → move.dst ≡ 0 → IsAccounted (after_move_end slabs move) → IsConsistent table (after_move_end slabs move) items
kept_pooled table slabs items move kept can pool accounted =
    let whole : (after_move_end slabs move).uncut ≡ None
    = ap (λ b. (if b then after_page_release slabs move.page move.src else (record (with_given (after_page_release slabs move.page move.src) move.dst move.page) { pool = slabs.pool })).uncut)
    (eq-eqb move.dst 0 pool) ∙ kept.whole in
    kept_arrived table slabs (after_move_end slabs move) items move kept can (arrives slabs move) whole accounted

-- the move to a class has ended, and the page's chunks are cut
pub kept_recut : (table : Classes) (slabs : SlabState) (items : Items) (move : Moving) (chunks : List ChunkId)
    → IsConsistent table slabs items → CanFinish slabs move
    → (fold after_cut (after_move_end slabs move) chunks).uncut ≡ None → IsAccounted (fold after_cut (after_move_end slabs move) chunks)
    → IsConsistent table (fold after_cut (after_move_end slabs move) chunks) items
kept_recut table slabs items move chunks kept can whole accounted =
    kept_arrived table slabs (fold after_cut (after_move_end slabs move) chunks) items move kept can
    (arrives_cut slabs (after_move_end slabs move) move.page chunks (arrives slabs move)) whole accounted

-- the page that came to a class: its first chunk is cut next, and it has as many chunks as the class's others
pub uncut_finished : (slabs : SlabState) (move : Moving) → move.dst ≢ 0 → (after_move_end slabs move).uncut ≡ Some (record { page = move.page; index = 0 })
uncut_finished slabs move class = rw (ne_eqb move.dst 0 class) refl

pub owner_finished : (slabs : SlabState) (move : Moving) → IsMove slabs move → move.dst ≢ 0 → owner_at (after_move_end slabs move).owners move.page ≡ Class move.dst
owner_finished slabs move is class =
    let inside : move.page < length (set slabs.owners move.page Pool) = omega (arith, within_from_IsMove slabs move is, length-set slabs.owners move.page Pool) in
    rw (ne_eqb move.dst 0 class) (owner_at-set_same (set slabs.owners move.page Pool) move.page (Class move.dst) inside)

pub per_page_finished : (slabs : SlabState) (move : Moving) (class : ℕ) → (class_at (after_move_end slabs move) class).per_page ≡ (class_at slabs class).per_page
per_page_finished slabs move class = per_page-map slabs (after_move_end slabs move) class (arrives slabs move).per_page

pub per_page_there : (slabs : SlabState) (move : Moving) → IsMove slabs move → move.dst ≢ 0
    → (class_of_chunk (after_move_end slabs move) (record { page = move.page; index = 0 })).per_page ≡ (class_at slabs move.dst).per_page
per_page_there slabs move is class =
    ap (λ (owner : Owner). (class_at (after_move_end slabs move) (class_of_owner owner)).per_page) (owner_finished slabs move is class)
    ∙ per_page_finished slabs move move.dst

-- the machine after a move to a class has ended
pub finish_view : (m : Machine) (slabs : SlabState) (move : Moving) (per_page : ℕ) → move.dst ≢ 0 → (class_at (after_move_end m.slabs move) move.dst).per_page ≡ per_page
    → slabs ≡ fold after_cut (after_move_end m.slabs move) (first_chunks move.page per_page) → (record m { slabs = slabs }) ≡ with_finish m move
finish_view m slabs move per_page class same slabs_is =
    let cut : slabs ≡ with_cut_page (after_move_end m.slabs move) move.dst move.page
    = slabs_is ∙ ap (λ n. fold after_cut (after_move_end m.slabs move) (first_chunks move.page n)) (sym same) in
    let way : with_cut_page (after_move_end m.slabs move) move.dst move.page
    ≡ (if move.dst == 0 then after_move_end m.slabs move else with_cut_page (after_move_end m.slabs move) move.dst move.page)
    = sym (ap (λ b. if b then after_move_end m.slabs move else with_cut_page (after_move_end m.slabs move) move.dst move.page) (ne_eqb move.dst 0 class)) in
    ap (λ (s : SlabState). record m { slabs = s }) (cut ∙ way)
