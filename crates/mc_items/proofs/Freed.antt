-- A chunk that was freed, by an eviction or as it had died: what it leaves of what the hand has, and that it is free.
use Rattle.std.proofs.Common.{◌≡◌, ℕ, ◌%◌, Bool, true, false, is_ok, is_some, refl, sym, IsOk, IsErr, IfOk, Result, Ok, Err, OnOk, OnErr, List, map, Option, Some, None, ap, ◌∙◌, inl, inr}
use Rattle.mc_pages.specs.declared.ids.ChunkId.{ChunkId}
use Rattle.mc_pages.specs.Changes.{after_back, after_evicted, with_class}
use Rattle.mc_pages.specs.ClassState.{ClassState, class_after_eviction, first_free, put_back}
use Rattle.mc_pages.specs.SlabState.{SlabState, HasClass, class_at, class_of_page}
use Rattle.mc_pages.proofs.OneClass.{IsClass-with_class, class_at-with_class_same}
use Rattle.mc_stripe.specs.StripeState.{ReadyStripe}
use Rattle.mc_stripe.specs.declared.history.Call.TheVariants.{Evict}
use Rattle.mc_core.specs.past.Past.{Own}
use Rattle.mc_words.specs.lock.Doing.{UsesRoomForCall}
use Rattle.mc_words.specs.hand.View.{View}
use Rattle.mc_words.specs.item.Calls.{with_own_call}
use Rattle.mc_words.specs.item.Removal.{Condemns}
use Rattle.mc_items.specs.declared.evicting.Supply.{Supply}
use Rattle.mc_items.specs.declared.evicting.Supply.TheVariants.{Page, Dead, Evicted}
use Rattle.mc_items.specs.Calls.{IsFull}
use Rattle.mc_items.specs.Evicting.{FreesChunk, FreesOne, LacksEntry, RecordsEviction}
use Rattle.mc_items.specs.Supplying.{FreesEvicted, ReachesItem}
use Rattle.mc_items.proofs.Passes.{OwnTuple, each_keeps, lacks_spares, own_of, passed_spares, reach_spares}

-- the hand has the chunks, the words said and the numbers that it had, and of its own calls at most an eviction came
pub record Evicts (number : ℕ) (view now : View) : Type 0 where
  pub holdings : now.row.holdings ≡ view.row.holdings
  pub stored : now.row.knows.stored ≡ view.row.knows.stored
  pub ids : now.row.ids ≡ view.row.ids
  pub known : now.row.knows.known ≡ view.row.knows.known
  pub calls : RecordsEviction number view now

-- it did nothing
pub evicts_none : (number : ℕ) (view now : View) → own_of now ≡ own_of view → Evicts number view now
evicts_none number view now own = record {
  holdings = ap (λ (o : OwnTuple). o.0) own;
  stored = ap (λ (o : OwnTuple). o.1) own;
  ids = ap (λ (o : OwnTuple). o.2) own;
  known = ap (λ (o : OwnTuple). o.4) own;
  calls = inl (ap (λ (o : OwnTuple). o.3) own);
}

-- nothing, and then that
pub evicts_after : (number : ℕ) (view next now : View) → own_of next ≡ own_of view → Evicts number next now → Evicts number view now
evicts_after number view next now own then_now = record {
  holdings = then_now.holdings ∙ ap (λ (o : OwnTuple). o.0) own;
  stored = then_now.stored ∙ ap (λ (o : OwnTuple). o.1) own;
  ids = then_now.ids ∙ ap (λ (o : OwnTuple). o.2) own;
  known = then_now.known ∙ ap (λ (o : OwnTuple). o.4) own;
  calls = by then_now.calls;
}
  where
    mine : next.row.knows.mine ≡ view.row.knows.mine
    mine = ap (λ (o : OwnTuple). o.3) own

    by : RecordsEviction number next now → RecordsEviction number view now
    by (inl none) = inl (none ∙ mine)
    by (inr (stripe, key, tells)) = inr (stripe, key, tells ∙ ap (λ (m : List Own). map (with_own_call number stripe (Evict number key)) m) mine)

-- that, and then nothing
pub evicts_before : (number : ℕ) (view next now : View) → Evicts number view next → own_of now ≡ own_of next → Evicts number view now
evicts_before number view next now first own = record {
  holdings = ap (λ (o : OwnTuple). o.0) own ∙ first.holdings;
  stored = ap (λ (o : OwnTuple). o.1) own ∙ first.stored;
  ids = ap (λ (o : OwnTuple). o.2) own ∙ first.ids;
  known = ap (λ (o : OwnTuple). o.4) own ∙ first.known;
  calls = by first.calls;
}
  where
    mine : now.row.knows.mine ≡ next.row.knows.mine
    mine = ap (λ (o : OwnTuple). o.3) own

    by : RecordsEviction number view next → RecordsEviction number view now
    by (inl none) = inl (mine ∙ none)
    by (inr (stripe, key, tells)) = inr (stripe, key, mine ∙ tells)

-- an item was taken away
taken_done : (number stripe : ℕ) (chunk : ChunkId) (value : ReadyStripe) (view now : View) → UsesRoomForCall number stripe value (Condemns number stripe chunk) view now → Evicts number view now
taken_done number stripe chunk value view now done = record {
  holdings = ap (λ (v : View). v.row.holdings) done.given ∙ ap (λ (v : View). v.row.holdings) done.does.is;
  stored = ap (λ (v : View). v.row.knows.stored) done.given ∙ ap (λ (v : View). v.row.knows.stored) done.does.is;
  ids = ap (λ (v : View). v.row.ids) done.given ∙ ap (λ (v : View). v.row.ids) done.does.is;
  known = ap (λ (v : View). v.row.knows.known) done.given ∙ ap (λ (v : View). v.row.knows.known) done.does.is;
  calls = inr (stripe, done.does.key, ap (λ (v : View). v.row.knows.mine) done.given ∙ ap (λ (v : View). v.row.knows.mine) done.does.is);
}

pub takes_keep : (number : ℕ) (chunk : ChunkId) (view now : View) → ReachesItem number chunk (λ number stripe. Condemns number stripe chunk) view now → Evicts number view now
takes_keep number chunk view now reaches =
    evicts_after number view reaches.taken now (reach_spares number chunk (λ number stripe. Condemns number stripe chunk) view now reaches).own
    (taken_done number (reaches.key % view.setup.config.stripes) chunk reaches.value reaches.taken now reaches.done)

freed_keeps : (number class : ℕ) (chunk : ChunkId) (view : View) (slabs : SlabState) (now : View) (left : SlabState) → FreesEvicted number class chunk view slabs now left → own_of now ≡ own_of view
freed_keeps number class chunk view slabs now left frees = ap own_of frees.back.is ∙ ap own_of frees.is_counted

pub frees_keep : (number class : ℕ) (chunk : ChunkId) (supply : Supply) (view : View) (slabs : SlabState) (now : View) (left : SlabState) → FreesChunk number class chunk supply view slabs now left → Evicts number view now
frees_keep number class chunk Page view slabs now left frees = absurd frees
frees_keep number class chunk Evicted view slabs now left (taken, reaches, frees) =
    evicts_before number view taken now (takes_keep number chunk view taken reaches) (freed_keeps number class chunk taken slabs now left frees)
frees_keep number class chunk Dead view slabs now left (tried, passes, back, is) =
    evicts_none number view now (ap own_of back.is ∙ (passed_spares number chunk view tried passes).own)

pub one_keeps : (number class : ℕ) (chunks : List ChunkId) (supply : Supply) (view : View) (slabs : SlabState) (now : View) (left : SlabState) → FreesOne number class chunks supply view slabs now left → Evicts number view now
one_keeps number class chunks supply view slabs now left frees =
    evicts_after number view frees.passed now (each_keeps number frees.before view frees.passed frees.passes) (frees_keep number class frees.chunk supply frees.passed slabs now left frees.frees)

pub entry_keeps : (number : ℕ) (chunks : List ChunkId) (view now : View) → LacksEntry number chunks view now → own_of now ≡ own_of view
entry_keeps number chunks view now lacks = (lacks_spares lacks.chunk lacks.passed now lacks.lacks).own ∙ each_keeps number lacks.before view lacks.passed lacks.passes

-- no page is cut, or begun to be
pub frees_uncut : (number class : ℕ) (chunk : ChunkId) (supply : Supply) (view : View) (slabs : SlabState) (now : View) (left : SlabState) → FreesChunk number class chunk supply view slabs now left → left.uncut ≡ slabs.uncut
frees_uncut number class chunk Page view slabs now left frees = absurd frees
frees_uncut number class chunk Evicted view slabs now left (taken, reaches, frees) = ap (λ (s : SlabState). s.uncut) frees.left_is
frees_uncut number class chunk Dead view slabs now left (tried, passes, back, is) = ap (λ (s : SlabState). s.uncut) is

-- a chunk that was put back is free
pub back_is_free : (slabs : SlabState) (class : ℕ) (chunk : ChunkId) → HasClass slabs class → class_of_page slabs chunk.page ≡ class → is_some (first_free (class_at (after_back slabs chunk) class)) ≡ true
back_is_free slabs class chunk is own =
    ap (λ (n : ℕ). is_some (first_free (class_at (with_class slabs n (put_back (class_at slabs n) chunk)) class))) own
    ∙ ap (λ (c : ClassState). is_some (first_free c)) (class_at-with_class_same slabs class (put_back (class_at slabs class) chunk) is)

pub frees_free : (number class : ℕ) (chunk : ChunkId) (supply : Supply) (view : View) (slabs : SlabState) (now : View) (left : SlabState) → HasClass slabs class → class_of_page slabs chunk.page ≡ class → FreesChunk number class chunk supply view slabs now left → is_some (first_free (class_at left class)) ≡ true
frees_free number class chunk Page view slabs now left is own frees = absurd frees
frees_free number class chunk Evicted view slabs now left is own (taken, reaches, frees) =
    ap (λ (s : SlabState). is_some (first_free (class_at s class))) frees.left_is
    ∙ back_is_free (after_evicted slabs class) class chunk (IsClass-with_class slabs class class (class_after_eviction (class_at slabs class)) is) own
frees_free number class chunk Dead view slabs now left is own (tried, passes, back, left_is) =
    ap (λ (s : SlabState). is_some (first_free (class_at s class))) left_is ∙ back_is_free slabs class chunk is own

-- what is so where it went well, and where it didn't
pub if_well : {A E P : Type 0} (r : Result A E) → is_ok r ≡ true → OnOk r P → P
if_well (Ok a) is p = p
if_well (Err e) is p = absurd (cc)

pub if_ill : {A E P : Type 0} (r : Result A E) → is_ok r ≡ false → OnErr r P → P
if_ill (Ok a) is p = absurd (cc)
if_ill (Err e) is p = p

-- where it is known to have gone wrong, and what is so wherever it did
pub on_error : {A E P : Type 0} (r : Result A E) (e : E) → r ≡ Err e → OnErr r P → P
on_error (Ok a) e is p = absurd (cc)
on_error (Err d) e is p = p

pub as_error : {A E P : Type 0} (r : Result A E) → P → OnErr r P
as_error (Ok a) p = tt
as_error (Err e) p = p

-- a clause on values says nothing of what went wrong
pub no_value : {A E : Type 0} (P : A → Type 0) (r : Result A E) → IsErr r → IfOk r P
no_value P (Ok a) wrong = absurd (cc)
no_value P (Err e) wrong = tt

-- two facts on what went wrong
pub error_both : {A E : Type 0} (P Q : Type 0) (r : Result A E) → OnErr r P → OnErr r Q → OnErr r (P × Q)
error_both P Q (Ok a) p q = tt
error_both P Q (Err e) p q = (p, q)

-- where a stripe's room always suffices, and did not, it had none
pub full_from : {A E : Type 0} (ready : Bool) (r : Result A E) (e : E) → r ≡ Err e → (ready ≡ true → IsOk r) → ready ≡ false
full_from true r e is succeeds = absurd (let wrong : false ≡ true = sym (ap is_ok is) ∙ succeeds refl in cc)
full_from false r e is succeeds = refl

-- and where no call is recorded it always suffices
records_from : {A E : Type 0} (from : Option ℕ) (r : Result A E) (e : E) → r ≡ Err e → (from ≡ None → IsOk r) → is_some from ≡ true
records_from None r e is idle = absurd (let wrong : false ≡ true = sym (ap is_ok is) ∙ idle refl in cc)
records_from (Some first) r e is idle = refl

pub full_call : {A E : Type 0} (value : ReadyStripe) (r : Result A E) (e : E) → r ≡ Err e → (value.ready ≡ true → IsOk r) → (value.state.recorded_from ≡ None → IsOk r) → IsFull value
full_call value r e is succeeds idle = (full_from value.ready r e is succeeds, records_from value.state.recorded_from r e is idle)
