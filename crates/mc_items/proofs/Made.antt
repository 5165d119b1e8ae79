-- How a class came to a free chunk, or to none: what that leaves of what the hand has.
use Rattle.std.proofs.Common.{◌≡◌, ℕ, ◌+◌, Bool, if◌then◌else◌, arith, true, false, is_some, List, [], ◌∷◌, ◌++◌, map, Some, None, Option, Result, Ok, Err, refl, sym, ap, subst, ◌∙◌, inl, inr, ◌⊎◌}
use Rattle.std.specs.Prelude.{Contains}
use Rattle.std.proofs.lemmas.Bool.{cases_Bool}
use Rattle.std.proofs.lemmas.List.Elements.{Contains-append_cases, Contains-append_left, Contains-append_right, Contains-push}
use Rattle.mc_pages.specs.declared.ids.ChunkId.{ChunkId}
use Rattle.mc_pages.specs.Changes.{after_back, after_cut, after_pop, next_page}
use Rattle.mc_pages.specs.ClassState.{first_free, is_chunk, put_back}
use Rattle.mc_pages.specs.Eviction.{eviction_candidates}
use Rattle.mc_pages.specs.SlabState.{SlabState, HasClass, class_at, class_of_chunk, class_of_page}
use Rattle.mc_pages.proofs.Chunks.{same_from_is_chunk}
use Rattle.mc_pages.proofs.OneClass.{IsClass-with_class}
use Rattle.mc_core.specs.model.Head.{is_dead}
use Rattle.mc_core.specs.declared.head.Head.{Head}
use Rattle.mc_core.specs.declared.ids.Ids.{Ids}
use Rattle.mc_core.specs.declared.holding.Holding.{Holding}
use Rattle.mc_core.specs.past.Past.{KnownItem, Own, StoredItem}
use Rattle.mc_core.specs.model.State.{is_class, room_in}
use Rattle.mc_words.specs.hand.Views.{fresh_holding}
use Rattle.mc_words.specs.lock.Doing.{HoldsSlabs}
use Rattle.mc_words.specs.hand.View.{View}
use Rattle.mc_words.specs.rule.Happens.{LawfulView}
use Rattle.mc_words.specs.page.Owner.{PopsFirst, SeesOther}
use Rattle.mc_words.specs.chunk.Sweeps.{Recovers, SeesHeader, SeesHeaders, Sweeps, SweepsEach, is_in_sequence, with_seen}
use Rattle.mc_words.proofs.Pages.LookedOver.{sees_both, sees_headers_alone}
use Rattle.mc_words.proofs.Chunks.SweepViews.{class_here, sees_alone, stands_out}
use Rattle.mc_items.specs.Evicting.{FreesOne, RecordsEviction}
use Rattle.mc_pages.specs.declared.moves.Reassign.{Reassign}
use Rattle.mc_words.specs.page.Moves.{Reassigns}
use Rattle.mc_items.specs.declared.evicting.Supply.{Supply}
use Rattle.mc_items.specs.declared.evicting.Supply.TheVariants.{Page, Dead, Evicted}
use Rattle.mc_items.specs.Sources.{AsksMove, ComesToFree, MakesFree, SuppliesChunk, SuppliesNone}
use Rattle.mc_words.specs.page.Cuts.{CutsEach}
use Rattle.mc_items.specs.Supplying.{FindsNoFree, Grows, SweepsEmpty}
use Rattle.mc_items.specs.declared.setting.SetError.{SetError}
use Rattle.mc_items.specs.declared.setting.SetError.TheVariants.{TooLarge, NoRoom, WornOut, NoMemory}
use Rattle.mc_words.specs.declared.hand.Hand.{Hand}
use Rattle.mc_words.proofs.Hands.HandNumbers.{number_stays}
use Rattle.mc_items.proofs.Locks.{waits_slabs_keep}
use Rattle.mc_items.proofs.Freed.{Evicts, back_is_free, entry_keeps, evicts_after, evicts_before, evicts_none, one_keeps}
use Rattle.mc_items.proofs.Passes.{OwnTuple, each_keeps, own_of}
use Rattle.mc_items.proofs.Supplies.{FindsNoneDead, recovers_here}

-- chunks that stand in an order, in that sequence, are of it
pub follows_there : (order chunks : List ChunkId) → is_in_sequence order chunks ≡ true → (chunk : ChunkId) → Contains chunks chunk → Contains order chunk
follows_there order [] h chunk there = absurd (omega (arith, there.1))
follows_there [] (first ∷ chunks) h chunk there = absurd (let never : false ≡ true = h in cc)
follows_there (other ∷ order) (first ∷ chunks) h chunk there = elim (cases_Bool (is_chunk other first)) [
  | inl same ↦
      let h' : is_in_sequence order chunks ≡ true = sym (ap (λ (b : Bool). if b then is_in_sequence order chunks else is_in_sequence order (first ∷ chunks)) same) ∙ h in elim (Contains-append_cases (first ∷ []) chunks chunk there) [
        | inl one ↦ Contains-append_left (other ∷ []) order chunk (subst (λ (c : ChunkId). Contains (c ∷ []) chunk) (sym (same_from_is_chunk other first same)) one)
        | inr more ↦ Contains-append_right (other ∷ []) order chunk (follows_there order chunks h' chunk more)
      ]
  | inr apart ↦
      let h' : is_in_sequence order (first ∷ chunks) ≡ true = sym (ap (λ (b : Bool). if b then is_in_sequence order chunks else is_in_sequence order (first ∷ chunks)) apart) ∙ h in
      Contains-append_right (other ∷ []) order chunk (follows_there order (first ∷ chunks) h' chunk there)
]

-- chunks of the class that were put back or seen alive, and left no free chunk: none was put back
module _ (class : ℕ) where
  abbrev AreOf : SlabState → List ChunkId → Type 0
  AreOf slabs chunks = (chunk : ChunkId) → Contains chunks chunk → class_of_page slabs chunk.page ≡ class

  first_of : (slabs : SlabState) (chunk : ChunkId) (chunks : List ChunkId) → AreOf slabs (chunk ∷ chunks) → class_of_page slabs chunk.page ≡ class
  first_of slabs chunk chunks own = own chunk (Contains-append_left (chunk ∷ []) chunks chunk (Contains-push [] chunk))

  rest_of : (slabs : SlabState) (chunk : ChunkId) (chunks : List ChunkId) → AreOf slabs (chunk ∷ chunks) → AreOf slabs chunks
  rest_of slabs chunk chunks own other there = own other (Contains-append_right (chunk ∷ []) chunks other there)

  free_still : (chunks : List ChunkId) (view : View) (slabs : SlabState) (now : View) (left : SlabState) → HasClass slabs class → AreOf slabs chunks → is_some (first_free (class_at slabs class)) ≡ true → SweepsEach chunks view slabs now left
      → is_some (first_free (class_at left class)) ≡ true
  free_still [] view slabs now left is own free (same, left_is) = ap (λ (s : SlabState). is_some (first_free (class_at s class))) left_is ∙ free
  free_still (chunk ∷ chunks) view slabs now left is own free (next, between, one, rest) = elim one [
    | inl back ↦ free_still chunks next (after_back slabs chunk) now left (IsClass-with_class slabs (class_of_page slabs chunk.page) class (put_back (class_of_chunk slabs chunk) chunk) is) (rest_of slabs chunk chunks own)
        (back_is_free slabs class chunk is (first_of slabs chunk chunks own)) (subst (λ (s : SlabState). SweepsEach chunks next s now left) back.1 rest)
    | inr other ↦ free_still chunks next slabs now left is (rest_of slabs chunk chunks own) free (subst (λ (s : SlabState). SweepsEach chunks next s now left) other.1 rest)
  ]

  none_back : (chunks : List ChunkId) (view : View) (slabs : SlabState) (now : View) (left : SlabState) → HasClass slabs class → AreOf slabs chunks → first_free (class_at left class) ≡ None → SweepsEach chunks view slabs now left
      → (left ≡ slabs) × SeesHeaders chunks view now
  none_back [] view slabs now left is own none (same, left_is) = (left_is, same)
  none_back (chunk ∷ chunks) view slabs now left is own none (next, between, one, rest) = elim one [
    | inl back ↦ absurd (let free = free_still chunks next (after_back slabs chunk) now left (IsClass-with_class slabs (class_of_page slabs chunk.page) class (put_back (class_of_chunk slabs chunk) chunk) is) (rest_of slabs chunk chunks own)
        (back_is_free slabs class chunk is (first_of slabs chunk chunks own)) (subst (λ (s : SlabState). SweepsEach chunks next s now left) back.1 rest) in let never : false ≡ true = ap is_some (sym none) ∙ free in cc)
    | inr other ↦
        let after = none_back chunks next slabs now left is (rest_of slabs chunk chunks own) none (subst (λ (s : SlabState). SweepsEach chunks next s now left) other.1 rest) in
        (after.0, (next, seen_so chunk view next other.0, after.1))
  ]
    where
      seen_so : (chunk : ChunkId) (view next : View) → SeesOther view (Some chunk) (λ head. is_dead head ≡ false) next → SeesHeader view chunk next
      seen_so chunk view next other = subst (λ (c : ChunkId). SeesHeader view c next) (same_chunk chunk other.chunk other.is_asked) (record { head = other.head; happens = other.happens; is = other.is })
        where
          same_chunk : (a b : ChunkId) → Some a ≡ Some b → b ≡ a
          same_chunk a b e = cc

-- so nothing was changed, and all that was done is looks
pub none_recovered : (view : View) → LawfulView view → (slabs : SlabState) → view.slabs ≡ Some slabs → (class : ℕ) → is_class view.setup.table class ≡ true → (now : View) (left : SlabState) → Recovers (class_at slabs class).order view slabs now left
    → first_free (class_at left class) ≡ None → (left ≡ slabs) × (looked : List ChunkId) × SeesHeaders looked view now
none_recovered view was slabs mine class is now left recovers none =
    let own = λ (chunk : ChunkId) (there : Contains recovers.again chunk). (stands_out view was slabs mine class is chunk (follows_there (class_at slabs class).order recovers.again recovers.oldest_first chunk there)).own in
    let after = none_back class recovers.again recovers.seen slabs now left (class_here view was slabs mine class is) own none recovers.each in
    (after.0, recovers.looked ++ recovers.again, sees_both recovers.looked recovers.again view recovers.seen now recovers.sees after.1)

-- nor by looks at the chunks that hints name
pub none_dead : (view : View) → LawfulView view → (slabs : SlabState) → view.slabs ≡ Some slabs → (class : ℕ) → is_class view.setup.table class ≡ true
    → (tried swept now : View) (before between left : SlabState) (none : (first_free (class_at slabs class) ≡ None) × (before ≡ slabs) × (tried ≡ view)) → Recovers (class_at before class).order tried before swept between → swept ≡ with_seen tried swept
    → (first_free (class_at between class) ≡ None) × (left ≡ between) × (now ≡ swept) → FindsNoneDead class view slabs now left
none_dead view was slabs mine class is tried swept now before between left none recovers seen last =
    let here = recovers_here class view tried swept now slabs before between left none recovers seen in
    let (same, looked, sees) = none_recovered view was slabs mine class is swept between here last.0 in
    record { empty = none.0; looked = looked; sees = subst (λ (v : View). SeesHeaders looked view v) (sym last.2) sees; same = last.1 ∙ same }

pub none_changed : (view : View) → LawfulView view → (slabs : SlabState) → view.slabs ≡ Some slabs → (class : ℕ) → is_class view.setup.table class ≡ true → (now : View) (left : SlabState) → FindsNoFree class view slabs now left → left ≡ slabs
none_changed view was slabs mine class is now left finds = (none_recovered view was slabs mine class is now left finds.sweeps.recovers finds.still).0

-- a sweep leaves the hand what it has, and so does a page that is cut
pub recovers_keep : (order : List ChunkId) (view : View) (slabs : SlabState) (now : View) (left : SlabState) → Recovers order view slabs now left → own_of now ≡ own_of view
recovers_keep order view slabs now left recovers =
    ap own_of (sees_alone recovers.again recovers.seen slabs now left recovers.each) ∙ ap own_of (sees_headers_alone recovers.looked view recovers.seen recovers.sees)

pub sweeps_keep : (order : List ChunkId) (view : View) (slabs : SlabState) (now : View) (left : SlabState) → Sweeps order view slabs now left → own_of now ≡ own_of view
sweeps_keep order view slabs now left sweeps = recovers_keep order view slabs now left sweeps.recovers

pub empty_keeps : (class : ℕ) (view : View) (slabs : SlabState) (now : View) (left : SlabState) → SweepsEmpty class view slabs now left → own_of now ≡ own_of view
empty_keeps class view slabs now left (inl (some, same, is)) = ap own_of same
empty_keeps class view slabs now left (inr (none, recovers)) = recovers_keep (class_at slabs class).order view slabs now left recovers

cuts_keep : (chunks : List ChunkId) (view : View) (slabs : SlabState) (now : View) (left : SlabState) → CutsEach chunks view slabs now left → own_of now ≡ own_of view
cuts_keep [] view slabs now left (same, is) = ap own_of same
cuts_keep (chunk ∷ chunks) view slabs now left (next, cut, rest) = cuts_keep chunks next (after_cut slabs chunk) now left rest ∙ ap own_of cut.is

pub grows_keep : (number class : ℕ) (view : View) (slabs : SlabState) (now : View) (left : SlabState) → Grows number class view slabs now left → own_of now ≡ own_of view
grows_keep number class view slabs now left grows = cuts_keep _ grows.grown _ now left grows.cuts ∙ ap own_of grows.is_grown

-- where no page was left, one of the candidates for an eviction did
pub made_by : (number class : ℕ) (supply : Supply) (view : View) (slabs : SlabState) (now : View) (left : SlabState) → next_page slabs class ≡ None → FreesOne number class (eviction_candidates slabs class) supply view slabs now left → MakesFree number class supply view slabs now left
made_by number class Page view slabs now left none frees = absurd frees.frees
made_by number class Dead view slabs now left none frees = (none, frees)
made_by number class Evicted view slabs now left none frees = (none, frees)

pub makes_keep : (number class : ℕ) (supply : Supply) (view : View) (slabs : SlabState) (now : View) (left : SlabState) → MakesFree number class supply view slabs now left → Evicts number view now
makes_keep number class Page view slabs now left grows = evicts_none number view now (grows_keep number class view slabs now left grows)
makes_keep number class Dead view slabs now left (none, frees) = one_keeps number class _ Dead view slabs now left frees
makes_keep number class Evicted view slabs now left (none, frees) = one_keeps number class _ Evicted view slabs now left frees

pub comes_keep : (number class : ℕ) (supply : Supply) (view : View) (slabs : SlabState) (now : View) (left : SlabState) → ComesToFree number class supply view slabs now left → Evicts number view now
comes_keep number class supply view slabs now left comes =
    evicts_after number view comes.swept now (sweeps_keep (class_at slabs class).order view slabs comes.swept comes.between comes.finds.sweeps) (makes_keep number class supply comes.swept comes.between now left comes.makes)

-- so it was, from the parts of the call
pub comes_so : (before after : Hand) (class : ℕ) (supply : Supply) (slabs between : SlabState) (made : View) (with : SlabState) → FindsNoFree class before.seat.me.0 slabs after.seat.me.0 between → after.seat.me.0 ≡ with_seen before.seat.me.0 after.seat.me.0
    → MakesFree after.number class supply after.seat.me.0 between made with → ComesToFree before.number class supply before.seat.me.0 slabs made with
comes_so before after class supply slabs between made with finds seen makes = record {
  swept = after.seat.me.0;
  between = between;
  finds = finds;
  makes = subst (λ n. MakesFree n class supply after.seat.me.0 between made with) (number_stays before after (ap (λ (v : View). v.row.ids) seen)) makes;
}

-- what was said, the numbers, what is known, and at most an eviction among the calls
pub record Tells (number : ℕ) (view now : View) : Type 0 where
  pub stored : now.row.knows.stored ≡ view.row.knows.stored
  pub ids : now.row.ids ≡ view.row.ids
  pub known : now.row.knows.known ≡ view.row.knows.known
  pub calls : RecordsEviction number view now

pub tells_from : (number : ℕ) (view now : View) → Evicts number view now → Tells number view now
tells_from number view now evicts = record { stored = evicts.stored; ids = evicts.ids; known = evicts.known; calls = evicts.calls }

-- a pop leaves these, too
abbrev pub TellsTuple : Type 0
TellsTuple = List StoredItem × Ids × List Own × List KnownItem

abbrev pub told_of : View → TellsTuple
told_of view = (view.row.knows.stored, view.row.ids, view.row.knows.mine, view.row.knows.known)

pub tells_before : (number : ℕ) (view next now : View) → Tells number view next → told_of now ≡ told_of next → Tells number view now
tells_before number view next now first told = record {
  stored = ap (λ (o : TellsTuple). o.0) told ∙ first.stored;
  ids = ap (λ (o : TellsTuple). o.1) told ∙ first.ids;
  known = ap (λ (o : TellsTuple). o.3) told ∙ first.known;
  calls = by first.calls;
}
  where
    mine : now.row.knows.mine ≡ next.row.knows.mine
    mine = ap (λ (o : TellsTuple). o.2) told

    by : RecordsEviction number view next → RecordsEviction number view now
    by (inl none) = inl (mine ∙ none)
    by (inr (stripe, key, tells)) = inr (stripe, key, mine ∙ tells)

pub tells_after : (number : ℕ) (view next now : View) → told_of next ≡ told_of view → Tells number next now → Tells number view now
tells_after number view next now told second = record {
  stored = second.stored ∙ ap (λ (o : TellsTuple). o.0) told;
  ids = second.ids ∙ ap (λ (o : TellsTuple). o.1) told;
  known = second.known ∙ ap (λ (o : TellsTuple). o.3) told;
  calls = by second.calls;
}
  where
    mine : next.row.knows.mine ≡ view.row.knows.mine
    mine = ap (λ (o : TellsTuple). o.2) told

    by : RecordsEviction number next now → RecordsEviction number view now
    by (inl none) = inl (none ∙ mine)
    by (inr (stripe, key, tells)) = inr (stripe, key, tells ∙ ap (λ (m : List Own). map (Rattle.mc_words.specs.item.Calls.with_own_call number stripe (Rattle.mc_stripe.specs.declared.history.Call.TheVariants.Evict number key)) m) mine)

pops_tell : (view : View) (slabs : SlabState) (class : ℕ) (chunk : ChunkId) (now : View) → PopsFirst view slabs class chunk now → told_of now ≡ told_of view
pops_tell view slabs class chunk now pops = ap told_of pops.is

sees_tell : (view : View) (asked : Option ChunkId) (IsOther : Head → Type 0) (now : View) → SeesOther view asked IsOther now → own_of now ≡ own_of view
sees_tell view asked IsOther now sees = ap own_of sees.is

-- and so does a move that is asked for
asks_told : (number class : ℕ) (supply : Supply) (view : View) (slabs : SlabState) (now : View) (left : SlabState) → AsksMove number class supply view slabs now left → told_of now ≡ told_of view
asks_told number class supply view slabs now left (inl (asked, answer, does)) = by answer does
  where
    by : (answer : Result (Unit {0}) Reassign) → Reassigns number None class answer view slabs now left → told_of now ≡ told_of view
    by (Ok done) begun = ap told_of begun.changes.1
    by (Err refusal) refused = ap told_of refused.1
asks_told number class supply view slabs now left (inr (never, same, is)) = ap told_of same

pub supplies_tell : (number class : ℕ) (chunk : ChunkId) (view : View) (slabs : SlabState) (now : View) (left : SlabState) → SuppliesChunk number class chunk view slabs now left → Tells number view now
supplies_tell number class chunk view slabs now left (inl free) =
    tells_before number view free.swept now (tells_from number view free.swept (evicts_none number view free.swept (empty_keeps class view slabs free.swept free.between free.sweeps))) (pops_tell free.swept free.between class chunk now free.pops)
supplies_tell number class chunk view slabs now left (inr made) =
    tells_before number view made.made now (tells_from number view made.made (comes_keep number class made.supply view slabs made.made made.with made.comes))
    (asks_told number class made.supply made.popped (after_pop made.with class) now left made.asks ∙ pops_tell made.made made.with class chunk made.popped made.pops)

-- the hand holds what it held
asks_hold : (number class : ℕ) (supply : Supply) (view : View) (slabs : SlabState) (now : View) (left : SlabState) → AsksMove number class supply view slabs now left → now.row.holdings ≡ view.row.holdings
asks_hold number class supply view slabs now left (inl (asked, answer, does)) = by answer does
  where
    by : (answer : Result (Unit {0}) Reassign) → Reassigns number None class answer view slabs now left → now.row.holdings ≡ view.row.holdings
    by (Ok done) begun = ap (λ (v : View). v.row.holdings) begun.changes.1
    by (Err refusal) refused = ap (λ (v : View). v.row.holdings) refused.1
asks_hold number class supply view slabs now left (inr (never, same, is)) = ap (λ (v : View). v.row.holdings) same

-- it got a chunk more
pub record Gains (chunk : ChunkId) (view now : View) : Type 0 where
  pub fresh : Holding
  pub of : fresh.chunk ≡ chunk
  pub holdings : now.row.holdings ≡ view.row.holdings ++ fresh ∷ []

pops_gain : (view swept : View) (slabs : SlabState) (class : ℕ) (chunk : ChunkId) (now : View) → swept.row.holdings ≡ view.row.holdings → PopsFirst swept slabs class chunk now → Gains chunk view now
pops_gain view swept slabs class chunk now same pops =
    let fresh : Holding = fresh_holding chunk (pops.head.issue + 1) (room_in swept.setup.table class) in
    record { fresh = fresh; of = refl; holdings = ap (λ (v : View). v.row.holdings) pops.is ∙ ap (λ (hs : List Holding). hs ++ fresh ∷ []) same }

supplies_gain : (number class : ℕ) (chunk : ChunkId) (view : View) (slabs : SlabState) (now : View) (left : SlabState) → SuppliesChunk number class chunk view slabs now left → Gains chunk view now
supplies_gain number class chunk view slabs now left (inl free) =
    pops_gain view free.swept free.between class chunk now (ap (λ (o : OwnTuple). o.0) (empty_keeps class view slabs free.swept free.between free.sweeps)) free.pops
supplies_gain number class chunk view slabs now left (inr made) =
    let gained = pops_gain view made.made made.with class chunk made.popped (comes_keep number class made.supply view slabs made.made made.with made.comes).holdings made.pops in
    record { fresh = gained.fresh; of = gained.of; holdings = asks_hold number class made.supply made.popped (after_pop made.with class) now left made.asks ∙ gained.holdings }

pub none_tells : (number class : ℕ) (error : SetError) (view : View) (slabs : SlabState) (now : View) (left : SlabState) → SuppliesNone number class error view slabs now left → Evicts number view now
none_tells number class TooLarge view slabs now left none = absurd none
none_tells number class NoRoom view slabs now left none =
    evicts_none number view now (each_keeps number _ none.swept now none.makes.passes ∙ sweeps_keep _ view slabs none.swept slabs none.finds.sweeps)
none_tells number class WornOut view slabs now left (inl worn) =
    evicts_none number view now (sees_tell worn.swept _ _ now worn.worn ∙ empty_keeps class view slabs worn.swept left worn.sweeps)
none_tells number class WornOut view slabs now left (inr made) =
    evicts_before number view made.made now (comes_keep number class made.supply view slabs made.made left made.comes) (sees_tell made.made _ _ now made.worn)
none_tells number class (NoMemory _) view slabs now left lacks =
    evicts_none number view now (by lacks.lacks.0 ∙ sweeps_keep _ view slabs lacks.swept lacks.between lacks.finds.sweeps)
  where
    by : ((is_some (next_page lacks.between class) ≡ true) × (now ≡ lacks.swept)) ⊎ ((next_page lacks.between class ≡ None) × Rattle.mc_items.specs.Evicting.LacksEntry number (eviction_candidates lacks.between class) lacks.swept now) → own_of now ≡ own_of lacks.swept
    by (inl (page, same)) = ap own_of same
    by (inr (page, entry)) = entry_keeps number _ lacks.swept now entry

-- what was done under the lock, from the parts of the call
pub holds_so : (Does : Rattle.mc_words.specs.lock.Doing.SlabsDoing) (view taken last now : View) (found left : SlabState) → Rattle.mc_words.specs.lock.Wait.WaitsForSlabs view found taken → Does taken found last left → now ≡ Rattle.mc_words.specs.hand.Views.slabs_given left last → HoldsSlabs Does view now
holds_so Does view taken last now found left waits does given = record { found = found; taken = taken; waits = waits; left = left; last = last; does = does; given = given }

-- the lock was waited for and given back
module _ (number : ℕ) (Does : Rattle.mc_words.specs.lock.Doing.SlabsDoing) (view now : View) (holds : HoldsSlabs Does view now) where
  pub holds_told : told_of holds.taken ≡ told_of view
  holds_told = waits_slabs_keep told_of (λ word v. refl) (λ slabs v. refl) view holds.found holds.taken holds.waits

  pub hold_tells : Tells number holds.taken holds.last → Tells number view now
  hold_tells tells = tells_before number view holds.last now (tells_after number view holds.taken holds.last holds_told tells) (ap told_of holds.given)

-- what a hold of the lock that got a chunk, or none, tells
pub supplied_tells : (number class : ℕ) (chunk : ChunkId) (view now : View) → HoldsSlabs (SuppliesChunk number class chunk) view now → Tells number view now
supplied_tells number class chunk view now holds =
    hold_tells number (SuppliesChunk number class chunk) view now holds (supplies_tell number class chunk holds.taken holds.found holds.last holds.left holds.does)

pub refused_tells : (number class : ℕ) (error : SetError) (view now : View) → HoldsSlabs (SuppliesNone number class error) view now → Tells number view now
refused_tells number class error view now holds =
    hold_tells number (SuppliesNone number class error) view now holds (tells_from number holds.taken holds.last (none_tells number class error holds.taken holds.found holds.last holds.left holds.does))

-- what the hand holds then
pub supplied_gains : (number class : ℕ) (chunk : ChunkId) (view now : View) → HoldsSlabs (SuppliesChunk number class chunk) view now → Gains chunk view now
supplied_gains number class chunk view now holds =
    let gained = supplies_gain number class chunk holds.taken holds.found holds.last holds.left holds.does in
    let waited = waits_slabs_keep (λ (v : View). v.row.holdings) (λ word v. refl) (λ slabs v. refl) view holds.found holds.taken holds.waits in
    record { fresh = gained.fresh; of = gained.of; holdings = ap (λ (v : View). v.row.holdings) holds.given ∙ (gained.holdings ∙ ap (λ (hs : List Holding). hs ++ gained.fresh ∷ []) waited) }

pub refused_holds : (number class : ℕ) (error : SetError) (view now : View) → HoldsSlabs (SuppliesNone number class error) view now → now.row.holdings ≡ view.row.holdings
refused_holds number class error view now holds =
    let waited = waits_slabs_keep (λ (v : View). v.row.holdings) (λ word v. refl) (λ slabs v. refl) view holds.found holds.taken holds.waits in
    ap (λ (v : View). v.row.holdings) holds.given ∙ ((none_tells number class error holds.taken holds.found holds.last holds.left holds.does).holdings ∙ waited)
