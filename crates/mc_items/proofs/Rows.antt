-- Lists of holdings: one more at the end, and the first of a chunk lost.
use Rattle.std.proofs.Common.{◌≡◌, zero, suc, ◌≤◌, Bool, true, false, ◌||◌, List, [], ◌∷◌, ◌++◌, length, is_some, find, Option, Some, None, refl, ap, sym, ◌∙◌, arith, if◌then◌else◌, Contains}
use Rattle.std.specs.Option.{option_or}
use Rattle.std.proofs.lemmas.Option.{none-some}
use Rattle.std.proofs.lemmas.List.Folds.{find-append}
use Rattle.std.proofs.lemmas.List.{length-append}
use Rattle.std.proofs.lemmas.List.Elements.{All-contains_itself}
use Rattle.mc_pages.specs.declared.ids.ChunkId.{ChunkId}
use Rattle.mc_pages.specs.ClassState.{is_chunk}
use Rattle.mc_pages.proofs.Chunks.{is_chunk-same, same_from_is_chunk}
use Rattle.mc_core.specs.declared.holding.Holding.{Holding}
use Rattle.mc_core.specs.model.Columns.{count_of_holdings}
use Rattle.mc_core.specs.model.Holdings.{change_each, has_fresh, holding_of, is_fresh, is_of_chunk, without_first}
use Rattle.mc_pages.specs.Accounted.{truth}
use Rattle.mc_core.proofs.Steps.Base.{all_lose}
use Rattle.mc_core.proofs.Seen.SeenLooks.{some_is}
use Rattle.mc_core.proofs.Counts.Holders.{found_all, found_passes, holds-lose, holds-push, length-lose}

-- what is found is among them
pub found_among : (test : Holding → Bool) (row : List Holding) (one : Holding) → find test row ≡ Some one → Contains row one
found_among test row one found = found_all (Contains row) test row one found (All-contains_itself row)

-- and so is what is found of what is left
pub left_among : (test lost : Holding → Bool) (row : List Holding) (one : Holding) → find test (without_first lost row) ≡ Some one → Contains row one
left_among test lost row one found = found_all (Contains row) test (without_first lost row) one found (all_lose (Contains row) lost row (All-contains_itself row))

-- the chunk of what is found
pub chunk_found : (chunk : ChunkId) (row : List Holding) (one : Holding) → holding_of chunk row ≡ Some one → one.chunk ≡ chunk
chunk_found chunk row one found = same_from_is_chunk one.chunk chunk (found_passes (is_of_chunk chunk) row one found)

-- the last one passes
pub last_passes : (chunk : ChunkId) (last : Holding) → last.chunk ≡ chunk → is_of_chunk chunk last ≡ true
last_passes chunk last of = ap (λ (c : ChunkId). is_chunk c chunk) of ∙ is_chunk-same chunk

-- none of a chunk is fresh where no holding is
both_false : (a b : Bool) → (a || b) ≡ false → (a ≡ false) × (b ≡ false)
both_false false false none = (refl, refl)
both_false false true none = absurd (cc)
both_false true b none = absurd (cc)

pub none_fresh : (row : List Holding) (one : Holding) → has_fresh row ≡ false → Contains row one → is_fresh one ≡ false
none_fresh [] one none (k, within, at) = absurd (omega arith)
none_fresh (first ∷ row) one none (zero, within, at) = ap is_fresh (sym at) ∙ (both_false (is_fresh first) (has_fresh row) none).0
none_fresh (first ∷ row) one none (suc k, within, at) = none_fresh row one (both_false (is_fresh first) (has_fresh row) none).1 (k, (omega arith), at)

-- one more that isn't fresh
pub fresh_more : (row : List Holding) (last : Holding) → has_fresh row ≡ false → is_fresh last ≡ false → has_fresh (row ++ last ∷ []) ≡ false
fresh_more [] last none old = ap (λ (b : Bool). b || false) old
fresh_more (first ∷ row) last none old =
    let both = both_false (is_fresh first) (has_fresh row) none in
    ap (λ (b : Bool). b || has_fresh (row ++ last ∷ [])) both.0 ∙ fresh_more row last both.1 old

-- one less
pub fresh_less : (test : Holding → Bool) (row : List Holding) → has_fresh row ≡ false → has_fresh (without_first test row) ≡ false
fresh_less test [] none = refl
fresh_less test (first ∷ row) none = by (test first) (fresh_less test row (both_false (is_fresh first) (has_fresh row) none).1)
  where
    both : (is_fresh first ≡ false) × (has_fresh row ≡ false)
    both = both_false (is_fresh first) (has_fresh row) none

    by : (t : Bool) → has_fresh (without_first test row) ≡ false → has_fresh (if t then row else first ∷ without_first test row) ≡ false
    by true later = both.1
    by false later = ap (λ (b : Bool). b || has_fresh (without_first test row)) both.0 ∙ later

-- the last one is lost, where none before is of its chunk
pub lose_last : (chunk : ChunkId) (row : List Holding) (last : Holding) → holding_of chunk row ≡ None → is_of_chunk chunk last ≡ true → without_first (is_of_chunk chunk) (row ++ last ∷ []) ≡ row
lose_last chunk [] last none is = ap (λ (b : Bool). if b then [] else last ∷ []) is
lose_last chunk (first ∷ row) last none is = by (is_of_chunk chunk first) none (λ none. lose_last chunk row last none is)
  where
    by : (t : Bool) → (if t then Some first else holding_of chunk row) ≡ None → (holding_of chunk row ≡ None → without_first (is_of_chunk chunk) (row ++ last ∷ []) ≡ row) → (if t then row ++ last ∷ [] else first ∷ without_first (is_of_chunk chunk) (row ++ last ∷ [])) ≡ first ∷ row
    by true none later = absurd (cc)
    by false none later = ap (λ (l : List Holding). first ∷ l) (later none)

-- the last one is changed alone
pub change_last : (chunk : ChunkId) (change : Holding → Holding) (row : List Holding) (last : Holding) → holding_of chunk row ≡ None → is_of_chunk chunk last ≡ true → change_each (is_of_chunk chunk) change (row ++ last ∷ []) ≡ row ++ change last ∷ []
change_last chunk change [] last none is = ap (λ (b : Bool). (if b then change last else last) ∷ []) is
change_last chunk change (first ∷ row) last none is = by (is_of_chunk chunk first) none (λ none. change_last chunk change row last none is)
  where
    by : (t : Bool) → (if t then Some first else holding_of chunk row) ≡ None → (holding_of chunk row ≡ None → change_each (is_of_chunk chunk) change (row ++ last ∷ []) ≡ row ++ change last ∷ []) → (if t then change first else first) ∷ change_each (is_of_chunk chunk) change (row ++ last ∷ []) ≡ first ∷ (row ++ change last ∷ [])
    by true none later = absurd (cc)
    by false none later = ap (λ (l : List Holding). first ∷ l) (later none)

-- one at the end is found
last_found : (chunk : ChunkId) (row : List Holding) (last : Holding) → is_of_chunk chunk last ≡ true → is_some (holding_of chunk (row ++ last ∷ [])) ≡ true
last_found chunk [] last is = ap (λ (b : Bool). is_some (if b then Some last else None)) is
last_found chunk (first ∷ row) last is = by (is_of_chunk chunk first) (last_found chunk row last is)
  where
    by : (t : Bool) → is_some (holding_of chunk (row ++ last ∷ [])) ≡ true → is_some (if t then Some first else holding_of chunk (row ++ last ∷ [])) ≡ true
    by true later = refl
    by false later = later

-- and so is each that was found before
before_found : (chunk : ChunkId) (row : List Holding) (last one : Holding) → holding_of chunk row ≡ Some one → is_some (holding_of chunk (row ++ last ∷ [])) ≡ true
before_found chunk row last one found =
    ap is_some (find-append (is_of_chunk chunk) row (last ∷ []) ∙ ap (λ (o : Option Holding). option_or o (holding_of chunk (last ∷ []))) found)

-- where one of a chunk came at the end and then the first of that chunk is lost, each chunk that was held is held still
pub still_found : (chunk lost : ChunkId) (row : List Holding) (last one : Holding) → last.chunk ≡ lost → holding_of chunk row ≡ Some one → is_some (holding_of chunk (without_first (is_of_chunk lost) (row ++ last ∷ []))) ≡ true
still_found chunk lost [] last one of found = absurd (none-some one found)
still_found chunk lost (first ∷ row) last one of found = by (is_of_chunk lost first) (is_of_chunk chunk first) refl refl found (still_found chunk lost row last one of)
  where
    by : (l c : Bool) → is_of_chunk lost first ≡ l → is_of_chunk chunk first ≡ c → (if c then Some first else holding_of chunk row) ≡ Some one
        → (holding_of chunk row ≡ Some one → is_some (holding_of chunk (without_first (is_of_chunk lost) (row ++ last ∷ []))) ≡ true) → is_some (holding_of chunk (if l then row ++ last ∷ [] else first ∷ without_first (is_of_chunk lost) (row ++ last ∷ []))) ≡ true
    by true true is_lost is_chunk_too found later =
        let same : last.chunk ≡ chunk = of ∙ (sym (same_from_is_chunk first.chunk lost is_lost) ∙ same_from_is_chunk first.chunk chunk is_chunk_too) in
        last_found chunk row last (last_passes chunk last same)
    by true false is_lost isnt found later = before_found chunk row last one found
    by false true isnt is_here found later = ap (λ (b : Bool). is_some (if b then Some first else holding_of chunk (without_first (is_of_chunk lost) (row ++ last ∷ [])))) is_here
    by false false isnt isnt_here found later =
        ap (λ (b : Bool). is_some (if b then Some first else holding_of chunk (without_first (is_of_chunk lost) (row ++ last ∷ [])))) isnt_here ∙ later found

-- some one is found first, where one is at the end
first_is : (chunk : ChunkId) (row : List Holding) (last : Holding) → is_of_chunk chunk last ≡ true → (one : Holding) × (holding_of chunk (row ++ last ∷ []) ≡ Some one)
first_is chunk row last is = some_is (holding_of chunk (row ++ last ∷ [])) (last_found chunk row last is)

-- and then each chunk is held as often as before
pub as_often : (lost : ChunkId) (row : List Holding) (last : Holding) → last.chunk ≡ lost → (chunk : ChunkId) → count_of_holdings chunk (without_first (is_of_chunk lost) (row ++ last ∷ [])) ≡ count_of_holdings chunk row
as_often lost row last of chunk =
    let (one, found) = first_is lost row last (last_passes lost last of) in
    let less = holds-lose chunk (is_of_chunk lost) (row ++ last ∷ []) one found in
    let more = holds-push chunk row last in
    let same : truth (is_of_chunk chunk one) ≡ truth (is_of_chunk chunk last) = ap (λ (c : ChunkId). truth (is_chunk c chunk)) (chunk_found lost (row ++ last ∷ []) one found ∙ sym of) in
    omega arith

-- there are as many
pub as_many : (lost : ChunkId) (row : List Holding) (last : Holding) → last.chunk ≡ lost → length (without_first (is_of_chunk lost) (row ++ last ∷ [])) ≤ length row
as_many lost row last of =
    let (one, found) = first_is lost row last (last_passes lost last of) in
    let less = length-lose (is_of_chunk lost) (row ++ last ∷ []) one found in
    let more = length-append row (last ∷ []) in
    omega arith
