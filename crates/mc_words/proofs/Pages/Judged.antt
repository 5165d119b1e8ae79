-- What a look along the pages says of the chunks: which were found alive, and which were noted as dead.
use Rattle.std.proofs.Common.{◌≡◌, ◌⊎◌, ℕ, ◌/◌, ◌%◌, ◌<◌, ◌≤◌, bit_and, min, Some, true, false, List, [], ◌∷◌, ◌++◌, sym, ap, subst, ◌∙◌, inl, inr, arith}
use Rattle.std.specs.Prelude.{Contains}
use Rattle.std.proofs.lemmas.Bool.{cases_Bool, cases_eq, cases_lt}
use Rattle.std.proofs.lemmas.Nat.Bits.{bit_at_and}
use Rattle.std.proofs.lemmas.List.Elements.{Contains-append_cases, Contains-append_left, Contains-push, Contains-push_cases}
use Rattle.mc_classes.specs.Classes.{Classes}
use Rattle.mc_pages.specs.declared.ids.ChunkId.{ChunkId}
use Rattle.mc_pages.specs.ClassState.{is_chunk}
use Rattle.mc_pages.specs.SlabState.{SlabState, class_at}
use Rattle.mc_pages.proofs.Chunks.{same_from_is_chunk}
use Rattle.mc_core.specs.declared.head.Head.{Head}
use Rattle.mc_core.specs.declared.look.Look.{Look}
use Rattle.mc_core.specs.declared.look.Look.TheVariants.{Saw}
use Rattle.mc_core.specs.model.Head.{decode, is_dead}
use Rattle.mc_core.specs.model.Looks.{is_found_alive}
use Rattle.mc_words.specs.chunk.Dead.{AreHandedOut, AreJudged, IsAliveOrNoted, IsOut, IsOutside, NotedChunks, Notes, ShareAnOrder}
use Rattle.mc_words.specs.hand.View.{View}
use Rattle.mc_words.specs.hand.Views.{head_seen}
use Rattle.mc_words.proofs.Chunks.Judging.{seen_is}
use Rattle.mc_words.proofs.Chunks.Sweeps.{chunk_alive, other_alive}

-- the look that the hand has behind those that it had
pub looks_more : (view now : View) (chunk : ChunkId) (word : ℕ) (slabs : SlabState) → view.slabs ≡ Some slabs → now ≡ head_seen chunk (decode word) view
    → now.row.looks ≡ view.row.looks ++ Saw chunk (decode word) ∷ []
looks_more view now chunk word slabs mine is = ap (λ (v : View). v.row.looks) is ∙ ap (λ (v : View). v.row.looks) (seen_is view chunk (decode word) slabs mine)

module _ (looks : List Look) (chunk : ChunkId) (head : Head) where
  -- a chunk that was found alive still is, where this one was found alive, or is another
  pub alive_still : is_dead head ≡ false → (other : ChunkId) → is_found_alive looks other ≡ true → is_found_alive (looks ++ Saw chunk head ∷ []) other ≡ true
  alive_still alive other found = elim (cases_Bool (is_chunk other chunk)) [
    | inl same ↦ ap (is_found_alive (looks ++ Saw chunk head ∷ [])) (same_from_is_chunk other chunk same) ∙ chunk_alive looks chunk head alive
    | inr apart ↦ other_alive looks chunk head other apart ∙ found
  ]

  -- whatever was found, the others are judged as before
  pub other_kept : (dead : NotedChunks) (other : ChunkId) → (other ≡ chunk → ⊥) → IsAliveOrNoted looks dead other → IsAliveOrNoted (looks ++ Saw chunk head ∷ []) dead other
  other_kept dead other apart judged within_limit = elim (cases_Bool (is_chunk other chunk)) [
    | inl same ↦ absurd (apart (same_from_is_chunk other chunk same))
    | inr differs ↦ elim (judged within_limit) [
      | inl found ↦ inl (other_alive looks chunk head other differs ∙ found)
      | inr among ↦ inr among
    ]
  ]

module _ (looks : List Look) (chunk : ChunkId) (head : Head) (dead : NotedChunks) where
  abbrev after : List Look
  after = looks ++ Saw chunk head ∷ []

  -- it was found alive
  pub alive_judged : is_dead head ≡ false → IsAliveOrNoted after dead chunk
  alive_judged alive within_limit = inl (chunk_alive looks chunk head alive)

  pub alive_kept : is_dead head ≡ false → (other : ChunkId) → IsAliveOrNoted looks dead other → IsAliveOrNoted after dead other
  alive_kept alive other judged within_limit = elim (cases_Bool (is_chunk other chunk)) [
    | inl same ↦ inl (ap (is_found_alive after) (same_from_is_chunk other chunk same) ∙ chunk_alive looks chunk head alive)
    | inr apart ↦ elim (judged within_limit) [
      | inl found ↦ inl (other_alive looks chunk head other apart ∙ found)
      | inr among ↦ inr among
    ]
  ]

  -- it was found dead, and noted
  module _ (now : NotedChunks) (notes : Notes chunk dead now) where
    pub noted_judged : IsAliveOrNoted after now chunk
    noted_judged within_limit = elim notes [
      | inl is ↦ inr (subst (λ (d : NotedChunks). Contains d.chunks chunk) (sym is) (Contains-push dead.chunks chunk))
      | inr is ↦ absurd (let never : true ≡ false = sym (ap (λ (d : NotedChunks). d.are_more) is) ∙ within_limit in cc)
    ]

    pub noted_kept : (other : ChunkId) → IsAliveOrNoted looks dead other → IsAliveOrNoted after now other
    noted_kept other judged within_limit = elim notes [
      | inl is ↦ elim (judged (sym (ap (λ (d : NotedChunks). d.are_more) is) ∙ within_limit)) [
        | inl found ↦ elim (cases_Bool (is_chunk other chunk)) [
          | inl alike ↦ inr (subst (λ (c : ChunkId). Contains now.chunks c) (sym (same_from_is_chunk other chunk alike)) (subst (λ (d : NotedChunks). Contains d.chunks chunk) (sym is) (Contains-push dead.chunks chunk)))
          | inr apart ↦ inl (other_alive looks chunk head other apart ∙ found)
        ]
        | inr among ↦ inr (subst (λ (d : NotedChunks). Contains d.chunks other) (sym is) (Contains-append_left dead.chunks (chunk ∷ []) other among))
      ]
      | inr is ↦ absurd (let never : true ≡ false = sym (ap (λ (d : NotedChunks). d.are_more) is) ∙ within_limit in cc)
    ]

-- one more that the class handed out
pub noted_out : (table : Classes) (slabs : SlabState) (class : ℕ) (chunk : ChunkId) (dead now : NotedChunks) → Notes chunk dead now → AreHandedOut table slabs class dead → IsOut table slabs class chunk → AreHandedOut table slabs class now
noted_out table slabs class chunk dead now notes out here other there = elim notes [
  | inl is ↦ elim (Contains-push_cases dead.chunks chunk other (subst (λ (d : NotedChunks). Contains d.chunks other) is there)) [
    | inl before ↦ out other before
    | inr alike ↦ subst (λ (c : ChunkId). IsOut table slabs class c) alike here
  ]
  | inr is ↦ out other (subst (λ (d : NotedChunks). Contains d.chunks other) is there)
]

-- what one class handed out shares its order
pub shared_order : (table : Classes) (slabs : SlabState) (class : ℕ) (dead : NotedChunks) → AreHandedOut table slabs class dead → ShareAnOrder slabs dead.chunks
shared_order table slabs class dead out chunk other here there =
    let own = (out chunk here).own in
    ((out other there).own ∙ sym own, subst (λ (n : ℕ). Contains (class_at slabs n).order other) (sym own) (out other there).listed)

-- a chunk is one of those of a page from one index up to another, or none of them
pub in_or_out : (page from until : ℕ) (chunk : ChunkId) → ((chunk.page ≡ page) × (from ≤ chunk.index) × (chunk.index < until)) ⊎ IsOutside page from until chunk
in_or_out page from until chunk = elim (cases_eq chunk.page page) [
  | inl on ↦ elim (cases_lt chunk.index from) [
    | inl before ↦ inr (λ on past. absurd (omega (arith, before, past)))
    | inr past ↦ elim (cases_lt chunk.index until) [
      | inl below ↦ inl (on, past, below)
      | inr behind ↦ inr (λ on past. behind)
    ]
  ]
  | inr off ↦ inr (λ on past. absurd (off on))
]

-- what is shown of each index is shown of a chunk of the page
pub of_page : (Is : ChunkId → Type 0) (page : ℕ) (chunk : ChunkId) → chunk.page ≡ page → Is (record { page = page; index = chunk.index }) → Is chunk
of_page Is page chunk on is = subst (λ (n : ℕ). Is (record { page = n; index = chunk.index })) (sym on) is

-- one of them isn't outside
pub not_outside : (page from until : ℕ) (other chunk : ChunkId) → other ≡ chunk → chunk.page ≡ page → from ≤ chunk.index → chunk.index < until → IsOutside page from until other → ⊥
not_outside page from until other chunk same on past below outside =
    let at = ap (λ (c : ChunkId). c.index) same in
    let behind = outside (ap (λ (c : ChunkId). c.page) same ∙ on) (omega (arith, past, at)) in
    omega (arith, behind, below, at)

-- a bit that two words have in common each of them has
both_one : (a b : ℕ) → a < 2 → b < 2 → min a b ≡ 1 → (a ≡ 1) × (b ≡ 1)
both_one a b low within_limit least = (omega (arith, low, within_limit, least), omega (arith, low, within_limit, least))

pub both_odd : (one other : ℕ) → bit_and one other / 65536 % 2 ≡ 1 → (one / 65536 % 2 ≡ 1) × (other / 65536 % 2 ≡ 1)
both_odd one other odd = both_one (one / 65536 % 2) (other / 65536 % 2) (omega arith) (omega arith) (sym (bit_at_and one other 16) ∙ odd)

-- those of two lists were judged, where the first still are
pub judged_both : (first second : List ChunkId) (looks more : List Look) (dead now : NotedChunks) → AreJudged first looks dead → ((other : ChunkId) → IsAliveOrNoted looks dead other → IsAliveOrNoted more now other) → AreJudged second more now → AreJudged (first ++ second) more now
judged_both first second looks more dead now before kept behind chunk there = elim (Contains-append_cases first second chunk there) [
  | inl one ↦ kept chunk (before chunk one)
  | inr other ↦ behind chunk other
]

-- one more
pub judged_more : (chunks : List ChunkId) (last : ChunkId) (looks more : List Look) (dead now : NotedChunks) → AreJudged chunks looks dead → ((other : ChunkId) → IsAliveOrNoted looks dead other → IsAliveOrNoted more now other) → IsAliveOrNoted more now last → AreJudged (chunks ++ last ∷ []) more now
judged_more chunks last looks more dead now before kept here chunk there = elim (Contains-push_cases chunks last chunk there) [
  | inl one ↦ kept chunk (before chunk one)
  | inr alike ↦ subst (λ (c : ChunkId). IsAliveOrNoted more now c) alike here
]
