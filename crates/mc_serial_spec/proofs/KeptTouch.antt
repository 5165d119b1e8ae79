-- A machine stays consistent as a key's item becomes the youngest of its class.
use Rattle.std.proofs.Common.{◌≡◌, ◌≢◌, ℕ, ◌-◌, ◌≤◌, ◌<◌, List, [], ◌∷◌, length, Bool, true, false, Some, Contains, refl, ap, sym, ◌∙◌, arith, eqb, inl, inr, suc}
use Rattle.std.proofs.lemmas.Bool.{cases_Bool}
use Rattle.std.proofs.lemmas.Bool.Decides.{nat_tests}
use Rattle.std.proofs.lemmas.List.{get_or-set_same, get_or-set_other, length-set}
use Rattle.mc_classes.specs.Classes.{Classes}
use Rattle.mc_pages.specs.declared.ids.ChunkId.{ChunkId}
use Rattle.mc_pages.specs.ClassState.{ClassState, new_class, is_chunk, times_in, without, class_after_touch}
use Rattle.mc_pages.specs.SlabState.{SlabState, HasClass, class_at, class_of_page, class_of_chunk}
use Rattle.mc_pages.specs.Accounted.{IsAccounted}
use Rattle.mc_pages.specs.Changes.{with_class, after_touch}
use Rattle.mc_pages.proofs.Chunks.{times-push, times-without, times-tail, times_from_Contains, same_from_is_chunk}
use Rattle.mc_pages.proofs.HandedOut.{IsClass-handed_out}
use Rattle.mc_serial_spec.specs.Item.{is_linked_to}
use Rattle.mc_serial_spec.specs.Items.{Items, linked_chunk}
use Rattle.mc_serial_spec.specs.Consistent.{place_count, IsConsistent}
use Rattle.mc_serial_spec.proofs.Chunks.{chunk_cmp-self}
use Rattle.mc_pages.proofs.ClassChanges.{per_pages-with_class}

-- the chunk that a key leads to has an item
leads_there : (key : ℕ) (chunk : ChunkId) (items : Items) → linked_chunk items key ≡ Some chunk → 1 ≤ place_count chunk items
leads_there key chunk [] leads = cc
leads_there key chunk (e ∷ items) leads = elim (cases_Bool (is_linked_to key e.item)) [
  | inl linked ↦
      let here : Some e.chunk ≡ Some chunk = rw linked at leads in
      let same : e.chunk ≡ chunk = cc in
      rw (same, chunk_cmp-self chunk) (omega arith)
  | inr other ↦ omega (arith, leads_there key chunk items (rw other at leads))
]

-- a chunk that stands in a list some times is there
contains_from_times : (chunk : ChunkId) (chunks : List ChunkId) → 1 ≤ times_in chunk chunks → Contains chunks chunk
contains_from_times chunk [] some = absurd (omega arith)
contains_from_times chunk (c ∷ chunks) some = elim (cases_Bool (is_chunk c chunk)) [
  | inl same ↦ (0, omega arith, same_from_is_chunk c chunk same)
  | inr other ↦
      let rest : Contains chunks chunk = contains_from_times chunk chunks (omega (arith, times-tail chunk c chunks other)) in
      (suc rest.0, omega (arith, rest.1), rest.2)
]

-- the chunk that a key leads to is handed out
pub leads_to_handed_out : (table : Classes) (slabs : SlabState) (items : Items) (key : ℕ) (chunk : ChunkId)
    → IsConsistent table slabs items → linked_chunk items key ≡ Some chunk → Contains (class_of_chunk slabs chunk).order chunk
leads_to_handed_out table slabs items key chunk kept leads =
    contains_from_times chunk (class_of_chunk slabs chunk).order (omega (arith, leads_there key chunk items leads, kept.handed_out chunk))

-- a class is replaced by one whose hand-out order has a chunk as often
times_step : (b : Bool) (slabs : SlabState) (class other : ℕ) (state : ClassState) (x : ChunkId) → HasClass slabs class
    → times_in x state.order ≡ times_in x (class_at slabs class).order → eqb (other - 1) (class - 1) ≡ b
    → times_in x (class_at (with_class slabs class state) other).order ≡ times_in x (class_at slabs other).order
times_step true slabs class other state x valid same is =
    let at : other - 1 ≡ class - 1 = grind (arith, nat_tests) in
    let inside : class - 1 < length slabs.classes = omega (arith, valid.0, valid.1) in
    rw (at, get_or-set_same slabs.classes (class - 1) state (new_class 0 0) inside) same
times_step false slabs class other state x valid same is =
    let apart : other - 1 ≢ class - 1 = grind (arith, nat_tests) in
    ap (λ (c : ClassState). times_in x c.order) (get_or-set_other slabs.classes (class - 1) (other - 1) state (new_class 0 0) apart)

pub times-with_class : (slabs : SlabState) (class other : ℕ) (state : ClassState) (x : ChunkId) → HasClass slabs class
    → times_in x state.order ≡ times_in x (class_at slabs class).order
    → times_in x (class_at (with_class slabs class state) other).order ≡ times_in x (class_at slabs other).order
times-with_class slabs class other state x valid same = times_step (eqb (other - 1) (class - 1)) slabs class other state x valid same refl

-- at the back of its order a chunk stands there as often as before
times-touched : (x chunk : ChunkId) (class : ClassState) → 1 ≤ times_in chunk class.order → times_in x (class_after_touch class chunk).order ≡ times_in x class.order
times-touched x chunk class some = times-push x chunk (without chunk class.order) ∙ times-without x chunk class.order some

pub kept_touch : (table : Classes) (slabs : SlabState) (items : Items) (chunk : ChunkId)
    → IsConsistent table slabs items → Contains (class_of_chunk slabs chunk).order chunk → IsAccounted (after_touch slabs chunk)
    → IsConsistent table (after_touch slabs chunk) items
kept_touch table slabs items chunk kept handed accounted =
    let class : ℕ = class_of_page slabs chunk.page in
    let state : ClassState = class_after_touch (class_at slabs class) chunk in
    let valid : HasClass slabs class = IsClass-handed_out slabs chunk kept.accounted handed in
    let same = λ (x : ChunkId). times-touched x chunk (class_at slabs class) (times_from_Contains chunk (class_at slabs class).order handed) in
    record {
      sound = kept.sound;
      classes = length-set slabs.classes _ _ ∙ kept.classes;
      per_page = per_pages-with_class slabs class state refl ∙ kept.per_page;
      page = kept.page;
      limit = kept.limit;
      whole = kept.whole;
      accounted = accounted;
      one_link = kept.one_link;
      handed_out = λ x. rw (times-with_class slabs class (class_of_page slabs x.page) state x valid (same x)) (kept.handed_out x);
      stored = λ other x there.
          rw (times-with_class slabs class other state x valid (same x)) (kept.stored other x (there.0, rw (sym (length-set slabs.classes (class - 1) state)) there.1));
    }
