-- The next moment, after a change or a step of one hand: it is lawful, and of all other hands it leaves what they have.
use Rattle.std.proofs.Common.{◌≡◌, ◌≢◌, ℕ, Bool, true, false, List, length, Some, None, refl, ap, ap₂, ◌∙◌, inl, inr, arith, slice_index, if◌then◌else◌}
use Rattle.mc_core.specs.declared.event.Step.{Step}
use Rattle.mc_core.specs.declared.event.Change.{Change}
use Rattle.mc_core.specs.model.State.{is_held_by, number_at, has_slabs, has_stripe, stripe_at}
use Rattle.mc_core.specs.past.Past.{Moment, moment_stepped, moment_changed}
use Rattle.mc_core.specs.law.Lawful.{IsLawful}
use Rattle.mc_core.specs.law.Laws.{MayStep, MayChange}
use Rattle.mc_core.proofs.Law.LawKept.{lawful_steps, lawful_changes}
use Rattle.mc_core.proofs.Frame.Own.{IsOwn, own_step, own_change, is_plain}
use Rattle.mc_core.proofs.Known.Learned.{is_join}
use Rattle.mc_core.proofs.Frame.SameSlabs.{table_stays}
use Rattle.mc_core.proofs.Seen.SeenHolder.{one_holder, held_is}
use Rattle.mc_core.proofs.Histories.StripesKept.{held_word}
use Rattle.mc_core.specs.model.Views.{hand_row, held_slabs, held_stripe}
use Rattle.mc_core.specs.law.Frame.{ChangesUnderLocks}
use Rattle.mc_core.proofs.Frame.Guards.{guards_step, guards_change}
use Rattle.mc_core.proofs.Frame.Frames.{row_stays, row_stays_changed, table_change}

-- what follows by one hand, which is no join: a lawful moment, in which other hands have and see what they had and saw
pub record IsNext (m now : Moment) (id : ℕ) : Type 0 where
  pub lawful : IsLawful now
  pub table : now.state.table ≡ m.state.table
  pub count : length now.state.ids ≡ length m.state.ids
  pub stripe_count : length now.state.stripes ≡ length m.state.stripes
  pub number : number_at now.state id ≡ number_at m.state id
  pub rows : (other : ℕ) → other ≢ id → hand_row now other ≡ hand_row m other
  pub slabs : (other : ℕ) → other ≢ id → held_slabs now.state other ≡ held_slabs m.state other
  pub stripes : (other i : ℕ) → other ≢ id → held_stripe now.state other i ≡ held_stripe m.state other i

-- no lock is taken or given, and what is free is as it was
pub record IsQuiet (m now : Moment) (id : ℕ) : Type 0 where
  pub next : IsNext m now id
  pub slabs_lock : now.state.slabs_lock ≡ m.state.slabs_lock
  pub locks : now.state.stripe_locks ≡ m.state.stripe_locks
  pub free_slabs : m.state.slabs_lock ≡ 0 → now.state.slabs ≡ m.state.slabs
  pub free_stripes : (i : ℕ) → slice_index m.state.stripe_locks i ≡ 0 → stripe_at now.state i ≡ stripe_at m.state i

pub next_then : (m a b : Moment) (id : ℕ) → IsNext m a id → IsNext a b id → IsNext m b id
next_then m a b id p q = record {
  lawful = q.lawful;
  table = q.table ∙ p.table;
  count = q.count ∙ p.count;
  stripe_count = q.stripe_count ∙ p.stripe_count;
  number = q.number ∙ p.number;
  rows = λ other apart. q.rows other apart ∙ p.rows other apart;
  slabs = λ other apart. q.slabs other apart ∙ p.slabs other apart;
  stripes = λ other i apart. q.stripes other i apart ∙ p.stripes other i apart;
}

pub quiet_then : (m a b : Moment) (id : ℕ) → IsQuiet m a id → IsQuiet a b id → IsQuiet m b id
quiet_then m a b id p q = record {
  next = next_then m a b id p.next q.next;
  slabs_lock = q.slabs_lock ∙ p.slabs_lock;
  locks = q.locks ∙ p.locks;
  free_slabs = λ free. q.free_slabs (p.slabs_lock ∙ free) ∙ p.free_slabs free;
  free_stripes = λ i free. q.free_stripes i (ap (λ (l : List ℕ). slice_index l i) p.locks ∙ free) ∙ p.free_stripes i free;
}

-- one hand has the lock of a stripe
pub one_stripe_holder : (m : Moment) → IsLawful m → (a b i : ℕ) → has_stripe m.state a i ≡ true → has_stripe m.state b i ≡ true → a ≡ b
one_stripe_holder m l a b i has_a has_b =
    let (n, is_a, word_a) = held_is (slice_index m.state.stripe_locks i) (number_at m.state a) has_a in
    let (k, is_b, word_b) = held_is (slice_index m.state.stripe_locks i) (number_at m.state b) has_b in
    let same : k ≡ n = omega arith in
    l.hands.apart a b n is_a (is_b ∙ ap Some same)

-- what is held by who holds it before and after, if it is the same then
pub held_same : {X : Type 0} (b c : Bool) (x y : X) → c ≡ b → (b ≡ true → y ≡ x) → (if c then Some y else None) ≡ (if b then Some x else None)
held_same true c x y e same = ap (λ d. if d then Some y else None) e ∙ ap Some (same refl)
held_same false c x y e same = ap (λ d. if d then Some y else None) e

-- from what is the hand's own, and from what locks guard
module _ (m now : Moment) (id : ℕ) (l : IsLawful m) (lawful : IsLawful now) (table : now.state.table ≡ m.state.table) (own : IsOwn m.state now.state id) (guards : ChangesUnderLocks m.state now.state id)
    (rows : (other : ℕ) → other ≢ id → hand_row now other ≡ hand_row m other) where
  same_slabs : (other : ℕ) → other ≢ id → held_slabs now.state other ≡ held_slabs m.state other
  same_slabs other apart =
      held_same (has_slabs m.state other) (has_slabs now.state other) m.state.slabs now.state.slabs (ap₂ is_held_by own.slabs_lock (own.numbers other))
      (λ has. elim guards.slabs [ inl same ↦ same | inr mine ↦ absurd (apart (one_holder m l other id has mine)) ])

  same_stripe : (other i : ℕ) → other ≢ id → held_stripe now.state other i ≡ held_stripe m.state other i
  same_stripe other i apart =
      held_same (has_stripe m.state other i) (has_stripe now.state other i) (stripe_at m.state i) (stripe_at now.state i)
      (ap₂ is_held_by (ap (λ (locks : List ℕ). slice_index locks i) own.stripe_locks) (own.numbers other))
      (λ has. elim (guards.stripes i) [ inl same ↦ same | inr mine ↦ absurd (apart (one_stripe_holder m l other id i has mine)) ])

  quiet_next : IsNext m now id
  quiet_next = record {
    lawful = lawful;
    table = table;
    count = own.long;
    stripe_count = guards.count;
    number = own.numbers id;
    rows = rows;
    slabs = same_slabs;
    stripes = same_stripe;
  }

  pub quiet_from : IsQuiet m now id
  quiet_from = record {
    next = quiet_next;
    slabs_lock = own.slabs_lock;
    locks = own.stripe_locks;
    free_slabs = λ free. elim guards.slabs [ inl same ↦ same | inr mine ↦ absurd (held_word m.state.slabs_lock (number_at m.state id) mine free) ];
    free_stripes = λ i free. elim (guards.stripes i) [ inl same ↦ same | inr mine ↦ absurd (held_word (slice_index m.state.stripe_locks i) (number_at m.state id) mine free) ];
  }

-- a step that takes and gives no lock
pub quiet_step : (m : Moment) (id : ℕ) (next : Step) → is_plain next ≡ true → is_join next ≡ false → MayStep m id next → IsQuiet m (moment_stepped m id next) id
quiet_step m id next plain alone may =
    quiet_from m (moment_stepped m id next) id may.lawful (lawful_steps m id next may) (table_stays m.state id next) (own_step m.state id next plain) (guards_step m.state id next may.allowed)
    (λ other apart. row_stays m id other next alone apart)

-- a change of a value behind a lock
pub quiet_change : (m : Moment) (id : ℕ) (change : Change) → MayChange m id change → IsQuiet m (moment_changed m id change) id
quiet_change m id change may =
    quiet_from m (moment_changed m id change) id may.lawful (lawful_changes m id change may) (table_change m.state id change) (own_change m.state id change) (guards_change m.state id change may.allowed)
    (λ other apart. row_stays_changed m id other change apart)
