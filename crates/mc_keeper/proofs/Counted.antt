-- The counts of the dead stay right: through each change of the items, the holds and the pages.
use Rattle.std.proofs.Common.{◌≡◌, ◌≢◌, ℕ, ◌+◌, ◌-◌, ◌≤◌, ◌<◌, List, [], length, replicate, Contains, Bool, true, false, not, Option, Some, None, refl, ap, sym, ◌∙◌, arith, eqb}
use Rattle.std.specs.Prelude.{◌==◌, ◌&&◌, fold, if◌then◌else◌, slice_index_or, slice_set, Result, Ok, Err, IfOk, OnOk, OnErr}
use Rattle.std.proofs.lemmas.Bool.{and_parts}
use Rattle.std.proofs.lemmas.Bool.Decides.{nat_tests}
use Rattle.std.proofs.lemmas.List.{get_or-set_same, get_or-set_other, get_or-replicate, length-replicate, length-set}
use Rattle.mc_classes.specs.Classes.{Classes}
use Rattle.mc_pages.specs.declared.ids.ChunkId.{ChunkId}
use Rattle.mc_pages.specs.declared.ledger.Owner.{Owner}
use Rattle.mc_pages.specs.Ledger.{owner_at}
use Rattle.mc_pages.specs.declared.moves.Reassign.{Reassign}
use Rattle.mc_pages.specs.ClassState.{ClassState, times_in, with_page}
use Rattle.mc_pages.specs.Answer.{answer_of, MayAnswer}
use Rattle.mc_pages.specs.Changes.{after_cut, after_grow}
use Rattle.mc_pages.specs.Moves.{after_begin}
use Rattle.mc_pages.specs.SlabState.{SlabState, HasClass, class_at, class_of_owner, class_of_page}
use Rattle.mc_pages.specs.Accounted.{truth, IsAccounted}
use Rattle.mc_serial_spec.specs.Holds.{Holds, held_by, is_held, with_hold, without_hold}
use Rattle.mc_serial_spec.specs.Item.{Item, item_after_unlink}
use Rattle.mc_serial_spec.specs.Items.{Items, item_in_chunk, has_unlinked_item, linked_chunk, with_item, without_item, unlinked_items, at_chunk}
use Rattle.mc_serial_spec.specs.Machine.{Machine, is_dead_in}
use Rattle.mc_serial_spec.specs.Consistent.{IsConsistent, place_count}
use Rattle.mc_keeper.specs.Kept.{DeadAreCounted, dead_items, is_dead_item}
use Rattle.mc_keeper.proofs.DeadItems.{linked_lives, dead-without_item, dead-with_item, dead-set_item, dead-held, dead-owned}
use Rattle.mc_keeper.proofs.DeadOrders.{dead_few}
use Rattle.mc_pages.proofs.NextPage.{classes-grown, class_at-grown}
use Rattle.mc_keeper.proofs.HeldElsewhere.{held-taken, held-given_back, is_held-Contains}
use Rattle.mc_serial_spec.proofs.KeptChanges.{listed, place_once}
use Rattle.mc_serial_spec.proofs.Links.{LinkedIn, linked_in, some_places}
use Rattle.mc_pages.proofs.ClassChanges.{classes-cuts, order-cuts, order-with_class}
use Rattle.mc_pages.proofs.ListedChunks.{page_of_listed}

-- ---- the counts that stay

-- as many classes, and as many dead items of each
pub counted_same : (n m : ℕ) (old new : List Owner) (holds now : Holds) (items changed : Items) (counts : List ℕ) → DeadAreCounted n old holds items counts
    → m ≡ n → ((class : ℕ) → dead_items new now changed class ≡ dead_items old holds items class) → DeadAreCounted m new now changed counts
counted_same n m old new holds now items changed counts counted same dead = record {
  of_each = counted.of_each ∙ sym same;
  dead = λ class first last. counted.dead class first (omega (arith, last, same)) ∙ sym (dead class);
}

-- the pages change, and not who owns them
pub counted_owned : (n m : ℕ) (owners : List Owner) (holds : Holds) (items : Items) (counts : List ℕ) → DeadAreCounted n owners holds items counts
    → m ≡ n → DeadAreCounted m owners holds items counts
counted_owned n m owners holds items counts counted same =
    counted_same n m owners owners holds holds items items counts counted same (λ class. refl)

-- nothing is stored yet
pub counted_fresh : (n : ℕ) (owners : List Owner) (holds : Holds) → DeadAreCounted n owners holds [] (replicate n 0)
counted_fresh n owners holds = record {
  of_each = length-replicate n 0;
  dead = λ class first last. get_or-replicate n (class - 1) 0 0 (omega (arith, first, last));
}

-- a linked item goes
pub counted_gone : (n m : ℕ) (owners : List Owner) (holds : Holds) (items : Items) (counts : List ℕ) (x : ChunkId) (item : Item)
    → DeadAreCounted n owners holds items counts → m ≡ n → item_in_chunk items x ≡ Some item → item.linked ≡ true
    → DeadAreCounted m owners holds (without_item items x) counts
counted_gone n m owners holds items counts x item counted same there linked =
    counted_same n m owners owners holds holds items (without_item items x) counts counted same
    (λ class. omega (arith, dead-without_item owners holds class x item items there, ap truth (linked_lives owners holds class x item linked)))

-- a linked item comes
pub counted_come : (n m : ℕ) (owners : List Owner) (holds : Holds) (items : Items) (counts : List ℕ) (x : ChunkId) (item : Item)
    → DeadAreCounted n owners holds items counts → m ≡ n → item_in_chunk items x ≡ None → item.linked ≡ true
    → DeadAreCounted m owners holds (with_item items x item) counts
counted_come n m owners holds items counts x item counted same none linked =
    counted_same n m owners owners holds holds items (with_item items x item) counts counted same
    (λ class. omega (arith, dead-with_item owners holds class x item items none, ap truth (linked_lives owners holds class x item linked)))

-- pages come to other owners, and each hand-out order stays
pub counted_moved : (table : Classes) (slabs new : SlabState) (items : Items) (holds : Holds) (counts : List ℕ)
    → IsConsistent table slabs items → IsAccounted new → length new.classes ≡ length slabs.classes
    → ((class : ℕ) → HasClass slabs class → (class_at new class).order ≡ (class_at slabs class).order)
    → DeadAreCounted (length slabs.classes) slabs.owners holds items counts → DeadAreCounted (length new.classes) new.owners holds items counts
counted_moved table slabs new items holds counts kept accounted classes orders counted =
    counted_same (length slabs.classes) (length new.classes) slabs.owners new.owners holds holds items items counts counted classes
    (λ class. dead-owned slabs.owners new.owners holds class items (λ y some.
    let valid : HasClass slabs (class_of_page slabs y.page) = listed table slabs items y kept some in
    let there : times_in y (class_at new (class_of_page slabs y.page)).order ≡ times_in y (class_at slabs (class_of_page slabs y.page)).order
    = ap (λ (cs : List ChunkId). times_in y cs) (orders (class_of_page slabs y.page) valid) in
    page_of_listed new (class_of_page slabs y.page) y accounted (valid.0, omega (arith, valid.1, classes))
    (omega (arith, there, some, kept.handed_out y))))

-- ---- one class has one more, or one less

-- the classes whose numbers are below one
same_place : (class own : ℕ) → 1 ≤ class → 1 ≤ own → class - 1 ≡ own - 1 → class ≡ own
same_place class own first first_own same = omega (arith, first, first_own, same)

module _ (n m : ℕ) (owners : List Owner) (holds now : Holds) (items changed : Items) (counts : List ℕ) (own count : ℕ)
    (counted : DeadAreCounted n owners holds items counts) (same : m ≡ n) (first_own : 1 ≤ own) (last_own : own ≤ n)
    (here : count ≡ dead_items owners now changed own)
    (elsewhere : (class : ℕ) → class ≢ own → dead_items owners now changed class ≡ dead_items owners holds items class) where
  set_dead : (b : Bool) (class : ℕ) → 1 ≤ class → class ≤ n → eqb class own ≡ b
      → slice_index_or (slice_set counts (own - 1) count) (class - 1) 0 ≡ dead_items owners now changed class
  set_dead true class first last is =
      let at : class ≡ own = grind (arith, nat_tests) in
      rw at (get_or-set_same counts (own - 1) count 0 (omega (arith, counted.of_each, first_own, last_own)) ∙ here)
  set_dead false class first last is =
      let apart : class ≢ own = grind (arith, nat_tests) in
      get_or-set_other counts (own - 1) (class - 1) count 0 (λ place. apart (same_place class own first first_own place))
      ∙ counted.dead class first last ∙ sym (elsewhere class apart)

  pub counted_set : DeadAreCounted m owners now changed (slice_set counts (own - 1) count)
  counted_set = record {
    of_each = length-set counts (own - 1) count ∙ counted.of_each ∙ sym same;
    dead = λ class first last. set_dead (eqb class own) class first (omega (arith, last, same)) refl;
  }

-- a chunk's dead item counts for its class alone
dead_own : (owners : List Owner) (holds : Holds) (x : ChunkId) (item : Item) → item.linked ≡ false → is_held holds x ≡ false
    → is_dead_item owners holds (class_of_owner (owner_at owners x.page)) (at_chunk x item) ≡ true
dead_own owners holds x item dead unheld = rw (dead, unheld) (grind (arith, nat_tests))

dead_other : (owners : List Owner) (holds : Holds) (class : ℕ) (x : ChunkId) (item : Item) → class ≢ class_of_owner (owner_at owners x.page)
    → is_dead_item owners holds class (at_chunk x item) ≡ false
dead_other owners holds class x item apart =
    let no : (class_of_owner (owner_at owners x.page) == class) ≡ false = grind (arith, nat_tests) in
    rw no (both item.linked (is_held holds x))
  where
    both : (l h : Bool) → (not l && not h && false) ≡ false
    both true h = refl
    both false true = refl
    both false false = refl

held_alive : (owners : List Owner) (holds : Holds) (class : ℕ) (x : ChunkId) (item : Item) → is_held holds x ≡ true
    → is_dead_item owners holds class (at_chunk x item) ≡ false
held_alive owners holds class x item held = rw held (first item.linked (class_of_owner (owner_at owners x.page) == class))
  where
    first : (l b : Bool) → (not l && false && b) ≡ false
    first true b = refl
    first false b = refl

-- a dead item goes
pub counted_reclaimed : (n m : ℕ) (owners : List Owner) (holds : Holds) (items : Items) (counts : List ℕ) (x : ChunkId) (item : Item)
    → DeadAreCounted n owners holds items counts → m ≡ n → item_in_chunk items x ≡ Some item → item.linked ≡ false → is_held holds x ≡ false
    → 1 ≤ class_of_owner (owner_at owners x.page) → class_of_owner (owner_at owners x.page) ≤ n
    → DeadAreCounted m owners holds (without_item items x)
    (slice_set counts (class_of_owner (owner_at owners x.page) - 1) (slice_index_or counts (class_of_owner (owner_at owners x.page) - 1) 0 - 1))
counted_reclaimed n m owners holds items counts x item counted same there dead unheld first last =
    let own : ℕ = class_of_owner (owner_at owners x.page) in
    counted_set n m owners holds holds items (without_item items x) counts own (slice_index_or counts (own - 1) 0 - 1) counted same first last
    (omega (arith, counted.dead own first last, dead-without_item owners holds own x item items there, ap truth (dead_own owners holds x item dead unheld)))
    (λ class apart. omega (arith, dead-without_item owners holds class x item items there, ap truth (dead_other owners holds class x item apart)))

-- and it was counted
pub some_dead : (n : ℕ) (owners : List Owner) (holds : Holds) (items : Items) (counts : List ℕ) (x : ChunkId) (item : Item)
    → DeadAreCounted n owners holds items counts → item_in_chunk items x ≡ Some item → item.linked ≡ false → is_held holds x ≡ false
    → 1 ≤ class_of_owner (owner_at owners x.page) → class_of_owner (owner_at owners x.page) ≤ n
    → 1 ≤ slice_index_or counts (class_of_owner (owner_at owners x.page) - 1) 0
some_dead n owners holds items counts x item counted there dead unheld first last =
    let own : ℕ = class_of_owner (owner_at owners x.page) in
    omega (
      arith,
      counted.dead own first last,
      dead-without_item owners holds own x item items there,
      ap truth (dead_own owners holds x item dead unheld),
    )

-- a key leads to its item no more: where nobody holds that, it is dead
unlinked_way : (b : Bool) (n : ℕ) (owners : List Owner) (holds : Holds) (items : Items) (counts : List ℕ) (key : ℕ) (x : ChunkId)
    → DeadAreCounted n owners holds items counts → LinkedIn key x items
    → 1 ≤ class_of_owner (owner_at owners x.page) → class_of_owner (owner_at owners x.page) ≤ n → is_held holds x ≡ b
    → DeadAreCounted n owners holds (unlinked_items items key) (if b then counts else
    slice_set counts (class_of_owner (owner_at owners x.page) - 1) (slice_index_or counts (class_of_owner (owner_at owners x.page) - 1) 0 + 1))
unlinked_way true n owners holds items counts key x counted found first last held =
    let change = λ (class : ℕ). dead-set_item owners holds class x found.item (item_after_unlink found.item) items found.there in
    rw (← found.unlinks) (counted_same n n owners owners holds holds items _ counts counted refl
    (λ class. omega (
      arith,
      change class,
      ap truth (held_alive owners holds class x found.item held),
      ap truth (held_alive owners holds class x (item_after_unlink found.item) held),
    )))
unlinked_way false n owners holds items counts key x counted found first last unheld =
    let own : ℕ = class_of_owner (owner_at owners x.page) in
    let linked : found.item.linked ≡ true = grind (arith, nat_tests, found.linked) in
    let change = λ (class : ℕ). dead-set_item owners holds class x found.item (item_after_unlink found.item) items found.there in
    rw (← found.unlinks) (counted_set n n owners holds holds items _ counts own (slice_index_or counts (own - 1) 0 + 1) counted refl first last
    (omega (
      arith,
      counted.dead own first last,
      change own,
      ap truth (linked_lives owners holds own x found.item linked),
      ap truth (dead_own owners holds x (item_after_unlink found.item) refl unheld),
    ))
    (λ class apart. omega (
      arith,
      change class,
      ap truth (dead_other owners holds class x found.item apart),
      ap truth (dead_other owners holds class x (item_after_unlink found.item) apart),
    )))

pub counted_unlinked : (n : ℕ) (owners : List Owner) (holds : Holds) (items : Items) (counts : List ℕ) (key : ℕ) (x : ChunkId)
    → DeadAreCounted n owners holds items counts → LinkedIn key x items
    → 1 ≤ class_of_owner (owner_at owners x.page) → class_of_owner (owner_at owners x.page) ≤ n
    → DeadAreCounted n owners holds (unlinked_items items key) (if is_held holds x then counts else
    slice_set counts (class_of_owner (owner_at owners x.page) - 1) (slice_index_or counts (class_of_owner (owner_at owners x.page) - 1) 0 + 1))
counted_unlinked n owners holds items counts key x counted found first last =
    unlinked_way (is_held holds x) n owners holds items counts key x counted found first last refl

-- a worker takes a hold of a linked item
pub counted_taken : (n : ℕ) (owners : List Owner) (holds : Holds) (items : Items) (counts : List ℕ) (worker : ℕ) (x : ChunkId) (item : Item)
    → DeadAreCounted n owners holds items counts → item_in_chunk items x ≡ Some item → item.linked ≡ true → place_count x items ≤ 1
    → DeadAreCounted n owners (with_hold holds worker x) items counts
counted_taken n owners holds items counts worker x item counted there linked once =
    counted_same n n owners owners holds (with_hold holds worker x) items items counts counted refl (λ class.
    omega (
      arith,
      dead-held owners holds (with_hold holds worker x) class x (λ y apart. held-taken holds worker x y apart) item items there once,
      ap truth (linked_lives owners holds class x item linked),
      ap truth (linked_lives owners (with_hold holds worker x) class x item linked),
    ))

-- a worker gives back a hold of a linked item
pub counted_let_go : (n : ℕ) (owners : List Owner) (holds : Holds) (items : Items) (counts : List ℕ) (worker : ℕ) (x : ChunkId) (item : Item)
    → DeadAreCounted n owners holds items counts → item_in_chunk items x ≡ Some item → item.linked ≡ true → place_count x items ≤ 1 → Contains (held_by holds worker) x
    → DeadAreCounted n owners (without_hold holds worker x) items counts
counted_let_go n owners holds items counts worker x item counted there linked once held =
    counted_same n n owners owners holds (without_hold holds worker x) items items counts counted refl (λ class.
    omega (
      arith,
      dead-held owners holds (without_hold holds worker x) class x (λ y apart. held-given_back holds worker x y held apart) item items there once,
      ap truth (linked_lives owners holds class x item linked),
      ap truth (linked_lives owners (without_hold holds worker x) class x item linked),
    ))

-- or of one that no key leads to: where nobody holds it then, it is dead
given_way : (b : Bool) (n : ℕ) (owners : List Owner) (holds now : Holds) (items : Items) (counts : List ℕ) (x : ChunkId) (item : Item)
    → DeadAreCounted n owners holds items counts
    → ((class : ℕ) → dead_items owners now items class + truth (is_dead_item owners holds class (at_chunk x item))
    ≡ dead_items owners holds items class + truth (is_dead_item owners now class (at_chunk x item)))
    → item.linked ≡ false → is_held holds x ≡ true
    → 1 ≤ class_of_owner (owner_at owners x.page) → class_of_owner (owner_at owners x.page) ≤ n → is_held now x ≡ b
    → DeadAreCounted n owners now items (if b then counts else
    slice_set counts (class_of_owner (owner_at owners x.page) - 1) (slice_index_or counts (class_of_owner (owner_at owners x.page) - 1) 0 + 1))
given_way true n owners holds now items counts x item counted change dead held first last still =
    counted_same n n owners owners holds now items items counts counted refl (λ class. omega (
      arith,
      change class,
      ap truth (held_alive owners holds class x item held),
      ap truth (held_alive owners now class x item still),
    ))
given_way false n owners holds now items counts x item counted change dead held first last unheld =
    let own : ℕ = class_of_owner (owner_at owners x.page) in
    counted_set n n owners holds now items items counts own (slice_index_or counts (own - 1) 0 + 1) counted refl first last
    (omega (
      arith,
      counted.dead own first last,
      change own,
      ap truth (held_alive owners holds own x item held),
      ap truth (dead_own owners now x item dead unheld),
    ))
    (λ class apart. omega (
      arith,
      change class,
      ap truth (dead_other owners holds class x item apart),
      ap truth (dead_other owners now class x item apart),
    ))

pub counted_given_back : (n : ℕ) (owners : List Owner) (holds : Holds) (items : Items) (counts : List ℕ) (worker : ℕ) (x : ChunkId) (item : Item)
    → DeadAreCounted n owners holds items counts → item_in_chunk items x ≡ Some item → item.linked ≡ false → place_count x items ≤ 1 → Contains (held_by holds worker) x
    → 1 ≤ class_of_owner (owner_at owners x.page) → class_of_owner (owner_at owners x.page) ≤ n
    → DeadAreCounted n owners (without_hold holds worker x) items (if is_held (without_hold holds worker x) x then counts else
    slice_set counts (class_of_owner (owner_at owners x.page) - 1) (slice_index_or counts (class_of_owner (owner_at owners x.page) - 1) 0 + 1))
counted_given_back n owners holds items counts worker x item counted there dead once held first last =
    given_way (is_held (without_hold holds worker x) x) n owners holds (without_hold holds worker x) items counts x item counted
    (λ class. dead-held owners holds (without_hold holds worker x) class x (λ y apart. held-given_back holds worker x y held apart) item items there once)
    dead (is_held-Contains holds worker x held) first last refl

-- ---- what the keeper's functions need

-- what is dead isn't held
pub dead_unheld : (m now : Machine) (chunk : ChunkId) → m ≡ now → is_dead_in now chunk ≡ true → is_held m.holds chunk ≡ false
dead_unheld m now chunk same dead = not_true (is_held m.holds chunk) (and_parts (has_unlinked_item m.items chunk) (not (is_held m.holds chunk)) (rw same dead)).1
  where
    not_true : (b : Bool) → not b ≡ true → b ≡ false
    not_true true bad = cc
    not_true false is = refl

-- a class's count is small
pub few_counted : (m : Machine) (counts : List ℕ) (class : ℕ) → IsConsistent m.table m.slabs m.items → HasClass m.slabs class
    → DeadAreCounted (length m.slabs.classes) m.slabs.owners m.holds m.items counts → slice_index_or counts (class - 1) 0 < 65536
few_counted m counts class kept valid counted =
    omega (arith, counted.dead class valid.0 valid.1, dead_few m class kept valid)

-- a class that gets a page, and cuts it: the hand-out orders stay
pub classes_given : (slabs : SlabState) (class page : ℕ) (chunks : List ChunkId)
    → length (fold after_cut (after_grow slabs class page) chunks).classes ≡ length slabs.classes
classes_given slabs class page chunks =
    classes-cuts (after_grow slabs class page) chunks ∙ ap length (classes-grown slabs class page) ∙ length-set slabs.classes _ _

pub orders_given : (slabs : SlabState) (class page : ℕ) (chunks : List ChunkId) (n : ℕ) → HasClass slabs n
    → (class_at (fold after_cut (after_grow slabs class page) chunks) n).order ≡ (class_at slabs n).order
orders_given slabs class page chunks n there =
    let new = after_grow slabs class page in
    let classes : length new.classes ≡ length slabs.classes = ap length (classes-grown slabs class page) ∙ length-set slabs.classes _ _ in
    order-cuts new chunks n (there.0, rw classes there.1)
    ∙ ap (λ (c : ClassState). c.order) (class_at-grown slabs class page n)
    ∙ order-with_class slabs class n (with_page (class_at slabs class) page) there refl

-- whether a page began to move or not
module _ (table : Classes) (slabs new : SlabState) (items : Items) (holds : Holds) (counts : List ℕ)
    (src : Option ℕ) (dst : ℕ) (kept : IsConsistent table slabs items) (accounted : IsAccounted new)
    (counted : DeadAreCounted (length slabs.classes) slabs.owners holds items counts) where
  begun_as : (answer : Result ℕ Reassign) (result : Result (Unit {0}) Reassign) → answer_of slabs src dst ≡ answer → MayAnswer answer result
      → OnOk result (IfOk answer (λ source. new ≡ after_begin slabs src source dst)) → OnErr result (new ≡ slabs)
      → DeadAreCounted (length new.classes) new.owners holds items counts
  begun_as answer (Err refusal) is may began same = rw same counted
  begun_as (Ok source) (Ok unit) is may began same =
      rw began (counted_moved table slabs (after_begin slabs src source dst) items holds counts kept (rw began at accounted) refl (λ class valid. refl) counted)
  begun_as (Err refusal) (Ok unit) is may began same = cc

  pub counted_begun : (result : Result (Unit {0}) Reassign) → MayAnswer (answer_of slabs src dst) result
      → OnOk result (IfOk (answer_of slabs src dst) (λ source. new ≡ after_begin slabs src source dst)) → OnErr result (new ≡ slabs)
      → DeadAreCounted (length new.classes) new.owners holds items counts
  counted_begun result may began same = begun_as (answer_of slabs src dst) result refl may began same

-- the chunk that a key leads to has the key's linked item, and a class has it
pub leads_linked : (table : Classes) (slabs : SlabState) (items : Items) (key : ℕ) (chunk : ChunkId)
    → IsConsistent table slabs items → linked_chunk items key ≡ Some chunk
    → LinkedIn key chunk items × HasClass slabs (class_of_page slabs chunk.page)
leads_linked table slabs items key chunk kept leads =
    let in_chunk : LinkedIn key chunk items = linked_in key chunk items leads (place_once table slabs items chunk kept) (kept.one_link key) in
    (in_chunk, listed table slabs items chunk kept (some_places chunk in_chunk.item items in_chunk.there))
