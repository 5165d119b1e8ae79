-- The references that a worker keeps by `hold`, until its `drop`.
use Rattle.std.specs.Prelude.{◌≡◌, ◌≢◌, ◌<◌, ℕ, ◌+◌, List, ◌∷◌, ◌++◌, drop, length, map, slice_index_or, All}
use Rattle.mc_words.specs.hand.View.{View}
use Rattle.mc_items.specs.declared.refs.Ref.{Ref}
use Rattle.mc_items.specs.ItemRefs.{item_key, item_words}

-- a reference that is kept, and the words of its item
pub record KeptReference : Type 0 where
  pub item : Ref
  pub words : List ℕ

-- the holds by these references, with the words that the hand knows of each
abbrev pub hold_of : View → Ref → KeptReference
hold_of view item = record { item = item; words = item_words view item }

-- the holds by these references, in the same order
abbrev pub kept_references : View → List Ref → List KeptReference
kept_references view kept = map (hold_of view) kept

-- the reference is to an item of another key
abbrev pub IsToOther : ℕ → Ref → Type 0
IsToOther key item = item_key item ≢ key

-- the hold is of an item of another key
abbrev pub IsOfOther : ℕ → KeptReference → Type 0
IsOfOther key hold = IsToOther key hold.item

-- of the references to items of the key the one at this place came last
pub record IsLastAt (key : ℕ) (kept : List Ref) (place : ℕ) : Type 0 where
  pub there : place < length kept
  pub of_key : (d : Ref) → item_key (slice_index_or kept place d) ≡ key
  pub later : All (IsToOther key) (drop (place + 1) kept)

-- this hold is the last of the key, and these are the holds without it
pub record IsLastOf (key : ℕ) (holds : List KeptReference) (last : KeptReference) (left : List KeptReference) : Type 0 where
  pub before : List KeptReference
  pub behind : List KeptReference
  pub all : holds ≡ before ++ last ∷ behind
  pub of_key : item_key last.item ≡ key
  pub later : All (IsOfOther key) behind
  pub rest : left ≡ before ++ behind
