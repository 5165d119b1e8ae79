-- A chunk for a class, from its parts.
use Rattle.std.proofs.Common.{◌≡◌, ℕ, ◌+◌, ◌≤◌, true, is_some, List, [], ◌∷◌, ◌++◌, Option, Some, None, Result, Ok, Err, IfOk, IfSome, OnErr, refl, sym, ap, subst, ◌∙◌, inl, inr}
use Rattle.std.specs.List.{list_all}
use Rattle.std.specs.Prelude.{Contains}
use Rattle.mc_pages.specs.declared.ids.ChunkId.{ChunkId}
use Rattle.mc_pages.specs.Changes.{after_pop}
use Rattle.mc_pages.specs.ClassState.{first_free}
use Rattle.mc_pages.specs.SlabState.{SlabState, class_at}
use Rattle.mc_pages.proofs.Chunks.{times_from_Contains}
use Rattle.mc_core.specs.declared.head.Head.{Head}
use Rattle.mc_core.specs.run.Chunks.{most_issue}
use Rattle.mc_core.specs.model.Looks.{is_found_alive}
use Rattle.mc_core.specs.run.Silent.{is_among}
use Rattle.mc_core.specs.model.State.{room_in}
use Rattle.mc_core.proofs.Steps.Listed.{Contains_from_among}
use Rattle.mc_words.specs.hand.View.{View}
use Rattle.mc_words.specs.page.Owner.{PopsFirst, SeesOther}
use Rattle.mc_words.specs.chunk.Sweeps.{Recovers, SeesHeaders, Sweeps, with_seen}
use Rattle.mc_words.specs.hand.Views.{chunk_popped, fresh_holding, head_seen, with_holdings}
use Rattle.std.proofs.lemmas.Bool.{and_from, and_parts}
use Rattle.mc_words.proofs.Chunks.FewDead.{passes_one}
use Rattle.mc_words.proofs.Pages.LookedOver.{among_behind, sees_both, sees_headers_alone}
use Rattle.mc_items.specs.Supplying.{FindsNoFree, FindsWorn, GainsFresh, SuppliesFree}

-- what follows of a chunk that there may be
pub if_some : {A E : Type 0} (P Q : A → Type 0) (r : Result (Option A) E) → ((a : A) → P a → Q a) → IfOk r (λ o. IfSome o P) → IfOk r (λ o. IfSome o Q)
if_some P Q (Ok (Some a)) next p = next a p
if_some P Q (Ok None) next p = tt
if_some P Q (Err e) next p = tt

-- both of it
pub both_if_some : {A E : Type 0} (P Q : A → Type 0) (r : Result (Option A) E) → IfOk r (λ o. IfSome o P) → IfOk r (λ o. IfSome o Q) → IfOk r (λ o. IfSome o (λ a. P a × Q a))
both_if_some P Q (Ok (Some a)) p q = (p, q)
both_if_some P Q (Ok None) p q = tt
both_if_some P Q (Err e) p q = tt

-- and of an error
pub if_error : {A E P Q : Type 0} (r : Result A E) → (P → Q) → OnErr r P → OnErr r Q
if_error (Ok a) next p = tt
if_error (Err e) next p = next p

-- a chunk that was handed out after looks alone
pub gains_fresh : (class : ℕ) (view swept now : View) (slabs : SlabState) (chunk : ChunkId) (room : ℕ) → swept ≡ with_seen view swept → PopsFirst swept slabs class chunk now → room ≡ room_in view.setup.table class → GainsFresh view chunk room now
gains_fresh class view swept now slabs chunk room same pops room_is =
    let by = λ (v : View). chunk_popped slabs class chunk pops.head (head_seen chunk pops.head v) in
    let is : now ≡ by (with_seen view swept) = pops.is ∙ ap by same in (
      pops.head.issue + 1,
      is ∙ (λ k. with_holdings (view.row.holdings ++ fresh_holding chunk (pops.head.issue + 1) (sym room_is k) ∷ []) (with_seen view (sym is k))),
    )

-- the first free chunk was worn out
pub worn_seen : (view now : View) (asked : Option ChunkId) (IsOther : Head → Type 0) → SeesOther view asked IsOther now → now ≡ with_seen view now
worn_seen view now asked IsOther sees = sees.is ∙ (λ k. with_seen view (sym sees.is k))

-- there was a free chunk
module _ (class : ℕ) (view : View) (slabs : SlabState) (now : View) (left : SlabState) where
  pub at_once : (chunk : ChunkId) → PopsFirst view slabs class chunk now → left ≡ after_pop slabs class → SuppliesFree class chunk view slabs now left
  at_once chunk pops is = record { swept = view; between = slabs; sweeps = inl (ap is_some pops.first, refl, refl); pops = pops; left_is = is }

  pub worn_at_once : SeesOther view (first_free (class_at slabs class)) (λ head. most_issue ≤ head.issue) now → left ≡ slabs → FindsWorn class view slabs now left × (now ≡ with_seen view now)
  worn_at_once sees is = (
    record {
      swept = view;
      sweeps = inl (ap is_some sees.is_asked, refl, is);
      worn = subst (λ (s : SlabState). SeesOther view (first_free (class_at s class)) (λ head. most_issue ≤ head.issue) now) (sym is) sees;
    },
    worn_seen view now _ _ sees,
  )

-- there was none, and dead chunks of the class were put back
module _ (class : ℕ) (view tried swept now : View) (slabs before between left : SlabState) (none : (first_free (class_at slabs class) ≡ None) × (before ≡ slabs) × (tried ≡ view)) (recovers : Recovers (class_at before class).order tried before swept between) (seen : swept ≡ with_seen tried swept) where
  pub recovers_here : Recovers (class_at slabs class).order view slabs swept between
  recovers_here = subst (λ (p : View × SlabState). Recovers (class_at p.1 class).order p.0 p.1 swept between) (λ k. (none.2 k, none.1 k)) recovers

  pub seen_recovered : swept ≡ with_seen view swept
  seen_recovered = seen ∙ ap (λ (v : View). with_seen v swept) none.2

  pub by_recover : (chunk : ChunkId) → PopsFirst swept between class chunk now → left ≡ after_pop between class → SuppliesFree class chunk view slabs now left
  by_recover chunk pops is = record { swept = swept; between = between; sweeps = inr (none.0, recovers_here); pops = pops; left_is = is }

  pub worn_by_recover : SeesOther swept (first_free (class_at between class)) (λ head. most_issue ≤ head.issue) now → left ≡ between → FindsWorn class view slabs now left × (now ≡ with_seen view now)
  worn_by_recover sees is = (
    record {
      swept = swept;
      sweeps = subst (λ (s : SlabState). Rattle.mc_items.specs.Supplying.SweepsEmpty class view slabs swept s) (sym is) (inr (none.0, recovers_here));
      worn = subst (λ (s : SlabState). SeesOther swept (first_free (class_at s class)) (λ head. most_issue ≤ head.issue) now) (sym is) sees;
    },
    let last : now ≡ head_seen sees.chunk sees.head (with_seen view swept) = sees.is ∙ ap (head_seen sees.chunk sees.head) seen_recovered in
        last ∙ (λ k. with_seen view (sym last k)),
  )

-- what stands in the second of two lists stands in both together
all_still : (order first second : List ChunkId) → list_all (is_among second) order ≡ true → list_all (is_among (first ++ second)) order ≡ true
all_still [] first second whole = refl
all_still (chunk ∷ order) first second whole =
    let parts = and_parts (is_among second chunk) (list_all (is_among second) order) whole in
    and_from _ _ (among_behind first second chunk parts.0) (all_still order first second parts.1)

-- each of a list that stands in another whole does
among_each : (looked order : List ChunkId) → list_all (is_among looked) order ≡ true → (chunk : ChunkId) → Contains order chunk → is_among looked chunk ≡ true
among_each looked order whole chunk there = passes_one (is_among looked) order chunk whole (times_from_Contains chunk order there)

-- the class has no free chunk, and none came of chunks that were looked at; nothing was changed
pub record FindsNoneDead (class : ℕ) (view : View) (slabs : SlabState) (now : View) (left : SlabState) : Type 0 where
  pub empty : first_free (class_at slabs class) ≡ None
  pub looked : List ChunkId
  pub sees : SeesHeaders looked view now
  pub same : left ≡ slabs

-- there was none, and the class was swept
module _ (class : ℕ) (view tried swept now : View) (slabs before between left : SlabState) (none : FindsNoneDead class view slabs tried before) (sweeps : Sweeps (class_at before class).order tried before swept between) (seen : swept ≡ with_seen tried swept) where
  -- what was looked at before the sweep was looked at, too
  sweeps_here : Sweeps (class_at slabs class).order view slabs swept between
  sweeps_here =
      let here = subst (λ (s : SlabState). Sweeps (class_at s class).order tried s swept between) none.same sweeps in record {
        recovers = record {
          looked = none.looked ++ here.recovers.looked;
          seen = here.recovers.seen;
          sees = sees_both none.looked here.recovers.looked view tried here.recovers.seen none.sees here.recovers.sees;
          again = here.recovers.again;
          oldest_first = here.recovers.oldest_first;
          each = here.recovers.each;
          alive = λ chunk looked listed out. here.recovers.alive chunk (Contains_from_among here.recovers.looked chunk (among_each here.recovers.looked (class_at slabs class).order here.whole chunk listed)) listed out;
        };
        whole = all_still (class_at slabs class).order none.looked here.recovers.looked here.whole;
      }

  pub seen_here : swept ≡ with_seen view swept
  seen_here = seen ∙ ap (λ (v : View). with_seen v swept) (sees_headers_alone none.looked view tried none.sees)

  pub by_sweep : (chunk : ChunkId) → PopsFirst swept between class chunk now → left ≡ after_pop between class → SuppliesFree class chunk view slabs now left
  by_sweep chunk pops is = record { swept = swept; between = between; sweeps = inr (none.empty, sweeps_here.recovers); pops = pops; left_is = is }

  pub worn_by_sweep : SeesOther swept (first_free (class_at between class)) (λ head. most_issue ≤ head.issue) now → left ≡ between → FindsWorn class view slabs now left × (now ≡ with_seen view now)
  worn_by_sweep sees is = (
    record {
      swept = swept;
      sweeps = subst (λ (s : SlabState). Rattle.mc_items.specs.Supplying.SweepsEmpty class view slabs swept s) (sym is) (inr (none.empty, sweeps_here.recovers));
      worn = subst (λ (s : SlabState). SeesOther swept (first_free (class_at s class)) (λ head. most_issue ≤ head.issue) now) (sym is) sees;
    },
    let last : now ≡ head_seen sees.chunk sees.head (with_seen view swept) = sees.is ∙ ap (head_seen sees.chunk sees.head) seen_here in
        last ∙ (λ k. with_seen view (sym last k)),
  )

  pub none_by_sweep : list_all (is_found_alive swept.row.looks) (class_at between class).order ≡ true → (first_free (class_at between class) ≡ None) × (left ≡ between) × (now ≡ swept) → FindsNoFree class view slabs now left × (now ≡ with_seen view now)
  none_by_sweep alive (still, is, same) = (
    subst (λ (p : View × SlabState). FindsNoFree class view slabs p.0 p.1) (λ k. (sym same k, sym is k)) (record { empty = none.empty; sweeps = sweeps_here; still = still; alive = alive }),
    same ∙ (seen_here ∙ ap (with_seen view) (sym same)),
  )
