-- A walk along a class's hand-out order that looks at each chunk and puts the dead ones back: what it keeps, and what it shows at its end.
use Rattle.std.proofs.Common.{◌≡◌, ℕ, ◌≤◌, ◌||◌, Bool, true, false, not, List, [], ◌∷◌, ◌++◌, Option, Some, None, refl, sym, ap, subst, ◌∙◌, inl, inr, arith, slice_get, if◌then◌else◌, append-nil, append_assoc}
use Rattle.std.specs.List.{list_all}
use Rattle.std.specs.Prelude.{Contains}
use Rattle.std.proofs.lemmas.Bool.{and_from, and_parts, cases_Bool, or_right}
use Rattle.std.proofs.lemmas.List.Sums.{fold-append}
use Rattle.mc_pages.specs.declared.ids.ChunkId.{ChunkId}
use Rattle.mc_pages.specs.Accounted.{truth}
use Rattle.mc_pages.specs.Changes.{after_back, with_class}
use Rattle.mc_pages.specs.ClassState.{ClassState, behind, is_chunk, put_back, times_in, without}
use Rattle.mc_pages.specs.SlabState.{SlabState, HasClass, class_at, class_of_page}
use Rattle.mc_pages.proofs.Chunks.{is_chunk-same, same_from_is_chunk, times-append, times-cons}
use Rattle.mc_pages.proofs.OneClass.{class_at-with_class_same}
use Rattle.mc_pages.proofs.RestOfList.{rest_from}
use Rattle.mc_core.specs.declared.head.Head.{Head}
use Rattle.mc_core.specs.declared.look.Look.{Look}
use Rattle.mc_core.specs.declared.look.Look.TheVariants.{PutBack, Saw}
use Rattle.mc_core.specs.run.Evictions.{none_dead}
use Rattle.mc_core.specs.model.Head.{is_dead}
use Rattle.mc_core.specs.model.Looks.{is_found_alive, stays_alive}
use Rattle.mc_core.specs.run.Silent.{is_among}
use Rattle.mc_core.proofs.Steps.Listed.{Contains_from_among}

-- the walk comes to this chunk of the class's hand-out order, or to its end, and each chunk before it was found alive
pub record IsSweptTo (slabs : SlabState) (looks : List Look) (class : ℕ) (next : Option ChunkId) : Type 0 where
  pub before : List ChunkId
  pub rest : List ChunkId
  pub split : (class_at slabs class).order ≡ before ++ rest
  pub at : next ≡ slice_get rest 0
  pub alive : list_all (is_found_alive looks) before ≡ true

-- so it does before the first
pub sweep_begins : (slabs : SlabState) (looks : List Look) (class : ℕ) (next : Option ChunkId) → next ≡ slice_get (class_at slabs class).order 0 → IsSweptTo slabs looks class next
sweep_begins slabs looks class next first = record { before = []; rest = (class_at slabs class).order; split = refl; at = first; alive = refl }

-- a list begins with its first entry
pub begins_with : (rest : List ChunkId) (chunk : ChunkId) → Some chunk ≡ slice_get rest 0 → (more : List ChunkId) × (rest ≡ chunk ∷ more)
begins_with [] chunk at = absurd (cc)
begins_with (c ∷ more) chunk at = let same : c ≡ chunk = cc in (more, ap (λ x. x ∷ more) same)

pub is_empty : (rest : List ChunkId) → None ≡ slice_get rest 0 → rest ≡ []
is_empty [] at = refl
is_empty (c ∷ more) at = absurd (cc)

-- a chunk that stands in a list once is nowhere before or behind its place
module _ (chunk : ChunkId) (more : List ChunkId) where
  pub elsewhere : (before : List ChunkId) → times_in chunk (before ++ chunk ∷ more) ≤ 1 → (times_in chunk before ≡ 0) × (times_in chunk more ≡ 0)
  elsewhere before once =
      let sum = times-append chunk before (chunk ∷ more) in
      let here = times-cons chunk chunk more in
      let same = ap truth (is_chunk-same chunk) in
      (omega arith, omega arith)

  pub other_first : (c : ChunkId) (before : List ChunkId) → times_in chunk (c ∷ before) ≡ 0 → (is_chunk c chunk ≡ false) × (times_in chunk before ≡ 0)
  other_first c before none = let sum = times-cons chunk c before in elim (cases_Bool (is_chunk c chunk)) [
    | inl is ↦ absurd (let one = ap truth is in omega arith)
    | inr isnt ↦ (isnt, (let zero_of = ap truth isnt in omega arith))
  ]

  pub behind_is : (before : List ChunkId) → times_in chunk before ≡ 0 → behind chunk (before ++ chunk ∷ more) ≡ slice_get more 0
  behind_is [] none = ap (λ (b : Bool). if b then slice_get more 0 else behind chunk more) (is_chunk-same chunk)
  behind_is (c ∷ before) none =
      let parts = other_first c before none in
      ap (λ (b : Bool). if b then slice_get (before ++ chunk ∷ more) 0 else behind chunk (before ++ chunk ∷ more)) parts.0 ∙ behind_is before parts.1

  without_is : (before : List ChunkId) → times_in chunk before ≡ 0 → without chunk (before ++ chunk ∷ more) ≡ before ++ more
  without_is [] none = ap (λ (b : Bool). if b then more else chunk ∷ without chunk more) (is_chunk-same chunk)
  without_is (c ∷ before) none =
      let parts = other_first c before none in
      ap (λ (b : Bool). if b then before ++ chunk ∷ more else c ∷ without chunk (before ++ chunk ∷ more)) parts.0 ∙ ap (λ cs. c ∷ cs) (without_is before parts.1)

  rest_is : (before : List ChunkId) → times_in chunk before ≡ 0 → rest_from (Some chunk) (before ++ chunk ∷ more) ≡ chunk ∷ more
  rest_is [] none = ap (λ (b : Bool). if b then chunk ∷ more else rest_from (Some chunk) more) (is_chunk-same chunk)
  rest_is (c ∷ before) none =
      let parts = other_first c before none in
      ap (λ (b : Bool). if b then c ∷ before ++ chunk ∷ more else rest_from (Some chunk) (before ++ chunk ∷ more)) parts.0 ∙ rest_is before parts.1

-- what is left of a walk, as its measure
pub left_is : (next : Option ChunkId) (before rest : List ChunkId) → next ≡ slice_get rest 0 → ((chunk : ChunkId) → times_in chunk (before ++ rest) ≤ 1) → rest_from next (before ++ rest) ≡ rest
left_is None before rest at once = sym (is_empty rest at)
left_is (Some chunk) before rest at once =
    let (more, is) = begins_with rest chunk at in
    let once' = subst (λ (r : List ChunkId). times_in chunk (before ++ r) ≤ 1) is (once chunk) in
    subst (λ (r : List ChunkId). rest_from (Some chunk) (before ++ r) ≡ r) (sym is) (rest_is chunk more before (elsewhere chunk more before once').0)

-- all of two lists
pub all_append : {A : Type 0} (f : A → Bool) (xs ys : List A) → list_all f xs ≡ true → list_all f ys ≡ true → list_all f (xs ++ ys) ≡ true
all_append f [] ys one two = two
all_append f (x ∷ xs) ys one two = let parts = and_parts (f x) (list_all f xs) one in and_from _ _ parts.0 (all_append f xs ys parts.1 two)

-- a look at a chunk says nothing of another, and neither does one that is put back
module _ (looks : List Look) (chunk : ChunkId) where
  pub other_alive : (head : Head) (other : ChunkId) → is_chunk other chunk ≡ false → is_found_alive (looks ++ Saw chunk head ∷ []) other ≡ is_found_alive looks other
  other_alive head other apart =
      fold-append (stays_alive other) false looks (Saw chunk head ∷ []) ∙ ap (λ (b : Bool). if b then not (is_dead head) else is_found_alive looks other) turned
    where
      turned : is_chunk chunk other ≡ false
      turned = elim (cases_Bool (is_chunk chunk other)) [
        | inl same ↦ absurd (let is : is_chunk other chunk ≡ true = ap (λ (c : ChunkId). is_chunk c chunk) (sym (same_from_is_chunk chunk other same)) ∙ is_chunk-same chunk in let never : true ≡ false = sym is ∙ apart in cc)
        | inr isnt ↦ isnt
      ]

  pub chunk_alive : (head : Head) → is_dead head ≡ false → is_found_alive (looks ++ Saw chunk head ∷ []) chunk ≡ true
  chunk_alive head alive =
      fold-append (stays_alive chunk) false looks (Saw chunk head ∷ [])
      ∙ (ap (λ (b : Bool). if b then not (is_dead head) else is_found_alive looks chunk) (is_chunk-same chunk) ∙ ap not alive)

  pub others_alive : (head : Head) (chunks : List ChunkId) → times_in chunk chunks ≡ 0 → list_all (is_found_alive looks) chunks ≡ true → list_all (is_found_alive (looks ++ Saw chunk head ∷ [])) chunks ≡ true
  others_alive head [] none all = refl
  others_alive head (c ∷ chunks) none all =
      let parts = and_parts (is_found_alive looks c) (list_all (is_found_alive looks) chunks) all in
      let apart = other_first chunk [] c chunks none in
      and_from _ _ (other_alive head c apart.0 ∙ parts.0) (others_alive head chunks apart.1 parts.1)

  pub back_alive : (head : Head) (chunks : List ChunkId) → list_all (is_found_alive looks) chunks ≡ true → list_all (is_found_alive (looks ++ PutBack chunk head ∷ [])) chunks ≡ true
  back_alive head [] all = refl
  back_alive head (c ∷ chunks) all =
      let parts = and_parts (is_found_alive looks c) (list_all (is_found_alive looks) chunks) all in
      and_from _ _ (fold-append (stays_alive c) false looks (PutBack chunk head ∷ []) ∙ parts.0) (back_alive head chunks parts.1)

-- where the walk is, by what comes next
abbrev pub swept_at : {slabs : SlabState} {looks : List Look} {class : ℕ} {next : Option ChunkId} → IsSweptTo slabs looks class next → (at : Option ChunkId) → next ≡ at → IsSweptTo slabs looks class at
swept_at swept at is = record { before = swept.before; rest = swept.rest; split = swept.split; at = sym is ∙ swept.at; alive = swept.alive }

-- the walk went on behind this chunk
abbrev pub GoesOn : (slabs : SlabState) (looks : List Look) (class : ℕ) (chunk : ChunkId) → IsSweptTo slabs looks class (Some chunk) → SlabState → List Look → Type 0
GoesOn slabs looks class chunk swept left more = (now : IsSweptTo left more class (behind chunk (class_at slabs class).order)) × (swept.rest ≡ chunk ∷ now.rest)

-- the walk is at a chunk; no chunk stands twice in the order
module _ (slabs : SlabState) (looks : List Look) (class : ℕ) (chunk : ChunkId) (swept : IsSweptTo slabs looks class (Some chunk)) (once : (other : ChunkId) → times_in other (class_at slabs class).order ≤ 1) where
  abbrev more : List ChunkId
  more = (begins_with swept.rest chunk swept.at).0

  split_here : (class_at slabs class).order ≡ swept.before ++ chunk ∷ more
  split_here = swept.split ∙ ap (λ rest. swept.before ++ rest) (begins_with swept.rest chunk swept.at).1

  none_elsewhere : (times_in chunk swept.before ≡ 0) × (times_in chunk more ≡ 0)
  none_elsewhere = elsewhere chunk more swept.before (subst (λ (cs : List ChunkId). times_in chunk cs ≤ 1) split_here (once chunk))

  next_is : behind chunk (class_at slabs class).order ≡ slice_get more 0
  next_is = ap (behind chunk) split_here ∙ behind_is chunk more swept.before none_elsewhere.0

  -- it stands there
  pub stands_there : Contains (class_at slabs class).order chunk
  stands_there = Contains_from_among (class_at slabs class).order chunk (ap (λ chunks. is_among chunks chunk) split_here ∙ among_here swept.before)
    where
      among_here : (before : List ChunkId) → is_among (before ++ chunk ∷ more) chunk ≡ true
      among_here [] = ap (λ b. b || is_among more chunk) (is_chunk-same chunk)
      among_here (c ∷ before) = or_right (is_chunk c chunk) (is_among (before ++ chunk ∷ more) chunk) (among_here before)

  -- it was found alive
  pub sweep_passes : (head : Head) → is_dead head ≡ false → GoesOn slabs looks class chunk swept slabs (looks ++ Saw chunk head ∷ [])
  sweep_passes head alive = (
    record {
      before = swept.before ++ chunk ∷ [];
      rest = more;
      split = split_here ∙ sym (append_assoc swept.before (chunk ∷ []) more);
      at = next_is;
      alive = all_append (is_found_alive (looks ++ Saw chunk head ∷ [])) swept.before (chunk ∷ []) (others_alive looks chunk head swept.before none_elsewhere.0 swept.alive) (and_from _ _ (chunk_alive looks chunk head alive) refl);
    },
    (begins_with swept.rest chunk swept.at).1,
  )

  -- it was found dead, and put back
  pub sweep_puts_back : (head back : Head) → HasClass slabs class → class_of_page slabs chunk.page ≡ class
      → GoesOn slabs looks class chunk swept (after_back slabs chunk) ((looks ++ Saw chunk head ∷ []) ++ PutBack chunk back ∷ [])
  sweep_puts_back head back is own = (
    record {
      before = swept.before;
      rest = more;
      split = ap (λ (c : ClassState). c.order) new_class ∙ (ap (without chunk) split_here ∙ without_is chunk more swept.before none_elsewhere.0);
      at = next_is;
      alive = back_alive (looks ++ Saw chunk head ∷ []) chunk back swept.before (others_alive looks chunk head swept.before none_elsewhere.0 swept.alive);
    },
    (begins_with swept.rest chunk swept.at).1,
  )
    where
      new_class : class_at (after_back slabs chunk) class ≡ put_back (class_at slabs class) chunk
      new_class = ap (λ (n : ℕ). class_at (with_class slabs n (put_back (class_at slabs n) chunk)) class) own ∙ class_at-with_class_same slabs class (put_back (class_at slabs class) chunk) is

-- at the end each chunk of the class was found alive
pub sweep_ends : (slabs : SlabState) (looks : List Look) (class : ℕ) → IsSweptTo slabs looks class None → list_all (is_found_alive looks) (class_at slabs class).order ≡ true
sweep_ends slabs looks class swept = ap (list_all (is_found_alive looks)) (swept.split ∙ (ap (λ rest. swept.before ++ rest) (is_empty swept.rest swept.at) ∙ append-nil swept.before)) ∙ swept.alive

-- so there is no dead one, for an eviction of any item of the class
pub swept_none_dead : (slabs : SlabState) (looks : List Look) (class : ℕ) (chunk : ChunkId) → IsSweptTo slabs looks class None → class_of_page slabs chunk.page ≡ class → none_dead slabs looks chunk ≡ true
swept_none_dead slabs looks class chunk swept own = ap (λ (n : ℕ). list_all (is_found_alive looks) (class_at slabs n).order) own ∙ sweep_ends slabs looks class swept

-- the measure: what is left of the order
pub sweep_left : (slabs : SlabState) (looks : List Look) (class : ℕ) (next : Option ChunkId) (swept : IsSweptTo slabs looks class next) → ((chunk : ChunkId) → times_in chunk (class_at slabs class).order ≤ 1) → rest_from next (class_at slabs class).order ≡ swept.rest
sweep_left slabs looks class next swept once =
    ap (rest_from next) swept.split ∙ left_is next swept.before swept.rest swept.at (λ chunk. subst (λ (cs : List ChunkId). times_in chunk cs ≤ 1) swept.split (once chunk))
