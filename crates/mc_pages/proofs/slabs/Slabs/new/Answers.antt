use Rattle.std.proofs.Common.{◌≡◌, ℕ, ◌*◌, vec_len, List, None, length, arith, sym, ap, ap₂, ◌∙◌, subst}
use Rattle.std.proofs.lemmas.List.{length-replicate}
use Rattle.mc_pages.specs.declared.ledger.Owner.{Owner}
use Rattle.mc_pages.specs.declared.ledger.Owner.TheVariants.{Untouched}
use Rattle.mc_pages.specs.Base.{Entries}
use Rattle.mc_pages.specs.Ledger.{all_untouched, ordinary_count}
use Rattle.mc_pages.specs.ClassState.{ClassState}
use Rattle.mc_pages.specs.SlabState.{SlabState, HasClass, class_at, fresh_slabs}
use Rattle.mc_classes.specs.Classes.{arena_pages_of, per_page_of}
use Rattle.mc_pages.specs.Rows.{RowsState, fresh_rows}
use Rattle.mc_pages.specs.Linked.{AreLinked, sizes_of}
use Rattle.mc_pages.specs.Room.{RoomyClass, class_states}
use Rattle.mc_pages.specs.InOrder.{AreSlabsInOrder, HasRows}
use Rattle.mc_pages.proofs.Fresh.{IsInOrder-fresh}
use Rattle.mc_pages.proofs.RoomyFresh.{pages-fresh, states-fresh, AreLinked-fresh, HasAges-fresh, HasRows-fresh}
use Rattle.mc_pages.proofs.slabs.Slabs.new.Goals as goal

-- a whole of which nothing was granted
abbrev fresh_with : ℕ → ℕ → ℕ → List ClassState → List Owner → List ℕ → Entries → SlabState
fresh_with page limit cursor classes owners pool entries = record {
  page = page;
  limit = limit;
  classes = classes;
  owners = owners;
  pool = pool;
  ledger = entries.all;
  trimmed = entries.trimmed;
  uncut = None;
  moving = None;
  cursor = cursor;
  moved = 0;
  rescues = 0;
  evictions_nomem = 0;
  busy = 0;
  automove = 0;
}

pub returns-clause-fresh : goal.returns-clause-fresh
returns-clause-fresh c =
    let table = c.args.table.now in
    let classes : class_states c.in_ok-rows.rows c.in_ok-classes.classes.items ≡ (fresh_slabs table).classes =
    ap₂ (λ (rows : RowsState) (all : List RoomyClass). class_states rows all) c.in_ok-rows.ensures c.in_ok-classes.ensures ∙ states-fresh table (per_page_of table 1) (arena_pages_of table * per_page_of table 1) (length table.sizes) in
    let owners = c.in_ok-owners.ensures.items ∙ ap all_untouched c.arena_pages.ensures.pages in
    ap₂ (λ (page limit : ℕ). fresh_with page limit c.count.result (class_states c.in_ok-rows.rows c.in_ok-classes.classes.items) c.in_ok-owners.owners.items c.new-2.result.items c.in_ok-ledger.ledger) c.page.ensures.page c.limit.ensures.limit
    ∙ (ap₂ (λ (cs : List ClassState) (os : List Owner). fresh_with c.args.table.now.page c.args.table.now.limit c.count.result cs os c.new-2.result.items c.in_ok-ledger.ledger) classes owners
    ∙ (ap₂ (λ (pool : List ℕ) (entries : Entries). fresh_with c.args.table.now.page c.args.table.now.limit c.count.result (fresh_slabs c.args.table.now).classes (fresh_slabs c.args.table.now).owners pool entries) c.new-2.ensures.items c.in_ok-ledger.ensures.none
    ∙ ap (λ (n : ℕ). record (fresh_slabs c.args.table.now) { cursor = n }) c.count.ensures.count))

pub invariant_of-result : goal.invariant_of-result
invariant_of-result c =
    let fresh = returns-clause-fresh c in
    let table = c.args.table.now in
    let sound = c.count.ensures.sound in
    let pages : arena_pages_of table ≡ vec_len c.in_ok-owners.owners = omega (arith, ap (λ (s : SlabState). length s.owners) fresh, length-replicate (arena_pages_of table) Untouched, c.in_ok-owners.owners.ok.0) in
    record {
      order = subst (λ (s : SlabState). AreSlabsInOrder s 0) (sym fresh) (IsInOrder-fresh table sound);
      ledger = omega arith;
      base = ap (λ (entries : Entries). entries.pages) c.in_ok-ledger.ensures.none ∙ (c.arena_pages-2.ensures.pages ∙ pages);
      pool = omega (arith, c.new-2.ensures.len);
      classes = λ class is. omega (arith, ap (λ (s : SlabState). length (class_at s class).pages) fresh, pages-fresh table class (subst (λ (s : SlabState). HasClass s class) fresh is));
      linked = subst AreLinked (sym c.in_ok-rows.ensures) (AreLinked-fresh (per_page_of table 1) (arena_pages_of table * per_page_of table 1) (length table.sizes));
      ordinary = sym (ap (λ (entries : Entries). ordinary_count entries.all) c.in_ok-ledger.ensures.none);
      aged = HasAges-fresh c.in_ok-rows.rows c.in_ok-ages.ages _ _ _ c.in_ok-rows.ensures c.in_ok-ages.ensures;
      rows = subst (λ (s : SlabState). HasRows s.classes (vec_len c.in_ok-owners.owners) (sizes_of c.in_ok-rows.rows)) (sym fresh)
          (subst (λ (rows : RowsState). HasRows (fresh_slabs table).classes (vec_len c.in_ok-owners.owners) (sizes_of rows)) (sym c.in_ok-rows.ensures)
          (subst (λ (n : ℕ). HasRows (fresh_slabs table).classes n (sizes_of (fresh_rows (per_page_of table 1) (arena_pages_of table * per_page_of table 1) (length table.sizes)))) pages (HasRows-fresh table (arena_pages_of table) sound)));
    }

pub returns-clause-accounted : goal.returns-clause-accounted
returns-clause-accounted c = (invariant_of-result c).order.accounted
