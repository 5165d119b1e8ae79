-- What a look at a slab memory says of it: by a walk along the lists, and by the table that it was made by.
use Rattle.std.proofs.Common.{◌≡◌, ℕ, ◌+◌, ◌<◌, ◌≤◌, take, Bool, true, false, not, nat_lt, List, length, Option, Some, None, refl, sym, ap, ◌∙◌, subst, arith, Contains, slice_get, eq-eqb, lt-ltb, inl, inr}
use Rattle.std.specs.Option.{option_eq, is_some}
use Rattle.std.proofs.lemmas.Bool.{and_from, false≢true}
use Rattle.std.proofs.lemmas.Option.{get_or_from_slice_get, slice_get_cases}
use Rattle.std.proofs.lemmas.List.{take_all}
use Rattle.std.proofs.lemmas.List.Sums.{count_by_more_no}
use Rattle.mc_pages.specs.declared.ids.ChunkId.{ChunkId}
use Rattle.mc_pages.specs.declared.ids.Moving.{Moving}
use Rattle.mc_pages.specs.declared.moves.Found.{Found}
use Rattle.mc_pages.specs.Ledger.{owner_at}
use Rattle.mc_pages.specs.ClassState.{is_chunk, times_in}
use Rattle.mc_pages.specs.SlabState.{SlabState, HasClass, class_at, class_of_page, class_of_chunk}
use Rattle.mc_pages.specs.Accounted.{truth, is_of_class, cut_count, is_cut, places_in, IsAccounted}
use Rattle.mc_pages.specs.Moves.{is_held_up, chunk_at_position, CanPass}
use Rattle.mc_pages.proofs.Chunks.{None≢Some, same_from_is_chunk, times_from_Contains, Contains_from_slice_get}
use Rattle.mc_pages.proofs.HandedOut.{class_of_placed, class_of_handed_out}
use Rattle.mc_pages.proofs.Owners.{is_of_class-class_of_owner}

-- a chunk of a class's free list is free in its class
pub free_there_at : (slabs : SlabState) (class place : ℕ) (chunk : ChunkId) → IsAccounted slabs → HasClass slabs class → slice_get (class_at slabs class).free place ≡ Some chunk → Contains (class_of_chunk slabs chunk).free chunk
free_there_at slabs class place chunk all is h =
    let there = Contains_from_slice_get chunk (class_at slabs class).free place h in
    let own = class_of_placed slabs class chunk all is (omega (arith, times_from_Contains chunk (class_at slabs class).free there)) in
    subst (λ (n : ℕ). Contains (class_at slabs n).free chunk) (sym own) there

-- a chunk of a class's hand-out order may come back
pub handed_out_at : (slabs : SlabState) (class place : ℕ) (chunk : ChunkId) → IsAccounted slabs → HasClass slabs class → slice_get (class_at slabs class).order place ≡ Some chunk → Contains (class_of_chunk slabs chunk).order chunk
handed_out_at slabs class place chunk all is h =
    let handed = Contains_from_slice_get chunk (class_at slabs class).order place h in
    subst (λ (n : ℕ). Contains (class_at slabs n).order chunk) (sym (class_of_handed_out slabs class chunk all is handed)) handed

-- a handed-out chunk of the class of another one
pub handed_out_beside : (slabs : SlabState) (class place than : ℕ) (chunk other : ChunkId) → IsAccounted slabs → HasClass slabs class → slice_get (class_at slabs class).order place ≡ Some chunk → slice_get (class_at slabs class).order than ≡ Some other → Contains (class_of_chunk slabs chunk).order other
handed_out_beside slabs class place than chunk other all is here there =
    let own = class_of_handed_out slabs class chunk all is (Contains_from_slice_get chunk (class_at slabs class).order place here) in
    subst (λ (n : ℕ). Contains (class_at slabs n).order other) (sym own) (Contains_from_slice_get other (class_at slabs class).order than there)

-- a free chunk of the class of a handed-out one
pub free_beside : (slabs : SlabState) (class free place : ℕ) (new old : ChunkId) → IsAccounted slabs → HasClass slabs class → slice_get (class_at slabs class).free free ≡ Some new → slice_get (class_at slabs class).order place ≡ Some old → Contains (class_of_chunk slabs old).free new
free_beside slabs class free place new old all is there handed =
    let own = class_of_handed_out slabs class old all is (Contains_from_slice_get old (class_at slabs class).order place handed) in
    subst (λ (n : ℕ). Contains (class_at slabs n).free new) (sym own) (Contains_from_slice_get new (class_at slabs class).free free there)

-- what counts as 1 is so
true_from_one : (b : Bool) → truth b ≡ 1 → b ≡ true
true_from_one true h = refl
true_from_one false h = absurd (omega arith)

-- the chunk at the position may be passed where it is in no list, or held
pub can_pass_looked : (slabs : SlabState) (found : Found) (move : Moving) → IsAccounted slabs → slabs.moving ≡ Some move → slabs.uncut ≡ None → move.at < (class_at slabs move.src).per_page → (is_held_up found ≡ false → places_in slabs move.src (chunk_at_position move) ≡ 0) → CanPass slabs found move
can_pass_looked slabs found move all runs whole within looked =
    let is = all.move move runs in
    let chunk = chunk_at_position move in
    let size = (class_at slabs move.src).per_page in
    let owned : is_of_class move.src (owner_at slabs.owners move.page) ≡ true = ap (is_of_class move.src) is.owner ∙ eq-eqb move.src move.src refl in
    let below : nat_lt move.at (cut_count slabs.uncut move.page size) ≡ true = ap (λ (o : Option ChunkId). nat_lt move.at (cut_count o move.page size)) whole ∙ lt-ltb move.at size within in
    let cut : is_cut slabs move.src chunk ≡ true = and_from _ _ owned below in
    record {
      runs = runs;
      within = within;
      done = λ free. true_from_one _ (omega (arith, all.chunks move.src chunk is.src, ap truth cut, looked free));
    }

-- a chunk of a page was cut where none is to be cut
pub cut_looked : (slabs : SlabState) (chunk : ChunkId) → HasClass slabs (class_of_page slabs chunk.page) → slabs.uncut ≡ None → chunk.index < (class_at slabs (class_of_page slabs chunk.page)).per_page → is_cut slabs (class_of_page slabs chunk.page) chunk ≡ true
cut_looked slabs chunk is whole within =
    let own = class_of_page slabs chunk.page in
    let size = (class_at slabs own).per_page in
    let owned = is_of_class-class_of_owner own (owner_at slabs.owners chunk.page) is.0 refl in
    and_from _ _ owned (ap (λ (o : Option ChunkId). nat_lt chunk.index (cut_count o chunk.page size)) whole ∙ lt-ltb chunk.index size within)

-- a chunk of the moving page that is in a list may be cleared
pub placed_looked : (slabs : SlabState) (class : ℕ) (chunk : ChunkId) → IsAccounted slabs → HasClass slabs class → 1 ≤ places_in slabs class chunk → 1 ≤ places_in slabs (class_of_page slabs chunk.page) chunk
placed_looked slabs class chunk all is placed = subst (λ (n : ℕ). 1 ≤ places_in slabs n chunk) (sym (class_of_placed slabs class chunk all is placed)) placed

-- the class that gives the page that moves is one of the classes
pub moving_class : (slabs : SlabState) (move : Moving) → IsAccounted slabs → slabs.moving ≡ Some move → HasClass slabs move.src
moving_class slabs move all runs = (all.move move runs).src

-- a place at which there is nothing is past the end, and one at which there is something isn't
past_from_None : (chunks : List ChunkId) (place : ℕ) → slice_get chunks place ≡ None → length chunks ≤ place
past_from_None chunks place none = elim (slice_get_cases chunks place).1 [
  | inl there ↦ absurd (None≢Some _ (sym none ∙ there.2))
  | inr past ↦ past.0
]

within_from_Some : (chunks : List ChunkId) (place : ℕ) (chunk : ChunkId) → slice_get chunks place ≡ Some chunk → place < length chunks
within_from_Some chunks place chunk some = elim (slice_get_cases chunks place).1 [
  | inl there ↦ there.1
  | inr past ↦ absurd (None≢Some _ (sym past.1 ∙ some))
]

-- a chunk that was found at a place of a list stands there
found_there : (chunk : ChunkId) (chunks : List ChunkId) (place : ℕ) (found : Option ChunkId) → found ≡ slice_get chunks place → option_eq is_chunk found (Some chunk) ≡ true → 1 ≤ times_in chunk chunks
found_there chunk chunks place None h same = absurd (false≢true same)
found_there chunk chunks place (Some c) h same =
    let is = same_from_is_chunk c chunk same in
    times_from_Contains chunk chunks (Contains_from_slice_get chunk chunks place (sym h ∙ ap (λ (x : ChunkId). Some x) is))

-- and one that wasn't found is no more often among the first ones
not_found_there : (chunk : ChunkId) (chunks : List ChunkId) (place : ℕ) (found : Option ChunkId) → found ≡ slice_get chunks place → option_eq is_chunk found (Some chunk) ≡ false → times_in chunk (take (place + 1) chunks) ≡ times_in chunk (take place chunks)
not_found_there chunk chunks place None h other =
    let past = past_from_None chunks place (sym h) in
    ap (times_in chunk) (take_all (place + 1) chunks (omega (arith, past)) ∙ sym (take_all place chunks past))
not_found_there chunk chunks place (Some c) h other =
    count_by_more_no (λ x. is_chunk x chunk) chunks place chunk (within_from_Some chunks place c (sym h)) (ap (λ (x : ChunkId). is_chunk x chunk) (get_or_from_slice_get chunks place c chunk (sym h)) ∙ other)

-- how often the chunk stands at the first places of the class's lists
abbrev pub times_before : SlabState → ℕ → ChunkId → ℕ → ℕ
times_before slabs class chunk place = times_in chunk (take place (class_at slabs class).free) + times_in chunk (take place (class_at slabs class).order)

-- a chunk that is found is in a list
pub found_free : (slabs : SlabState) (class place : ℕ) (chunk : ChunkId) (free : Option ChunkId) → free ≡ slice_get (class_at slabs class).free place → option_eq is_chunk free (Some chunk) ≡ true → 1 ≤ places_in slabs class chunk
found_free slabs class place chunk free h same = omega (arith, found_there chunk (class_at slabs class).free place free h same)

pub found_out : (slabs : SlabState) (class place : ℕ) (chunk : ChunkId) (out : Option ChunkId) → out ≡ slice_get (class_at slabs class).order place → option_eq is_chunk out (Some chunk) ≡ true → 1 ≤ places_in slabs class chunk
found_out slabs class place chunk out h same = omega (arith, found_there chunk (class_at slabs class).order place out h same)

-- one that isn't is no more often before the next place
pub walked_on : (slabs : SlabState) (class place : ℕ) (chunk : ChunkId) (free out : Option ChunkId) → free ≡ slice_get (class_at slabs class).free place → out ≡ slice_get (class_at slabs class).order place
    → option_eq is_chunk free (Some chunk) ≡ false → option_eq is_chunk out (Some chunk) ≡ false → times_before slabs class chunk place ≡ 0 → times_before slabs class chunk (place + 1) ≡ 0
walked_on slabs class place chunk free out at_free at_out not_free not_out before =
    omega (arith, not_found_there chunk (class_at slabs class).free place free at_free not_free, not_found_there chunk (class_at slabs class).order place out at_out not_out, before)

-- and in no list where both end
pub walked_all : (slabs : SlabState) (class place : ℕ) (chunk : ChunkId) → slice_get (class_at slabs class).free place ≡ None → slice_get (class_at slabs class).order place ≡ None → times_before slabs class chunk place ≡ 0 → places_in slabs class chunk ≡ 0
walked_all slabs class place chunk free out before =
    let all_free = take_all place (class_at slabs class).free (past_from_None _ place free) in
    let all_out = take_all place (class_at slabs class).order (past_from_None _ place out) in
    omega (arith, ap (times_in chunk) all_free, ap (times_in chunk) all_out, before)

-- an option that is told to be none is none
pub None-is_none : (found : Option ChunkId) (told : Bool) → is_some found ≡ not told → told ≡ true → found ≡ None
None-is_none None told h is = refl
None-is_none (Some c) told h is = absurd (false≢true (sym (h ∙ ap not is)))
