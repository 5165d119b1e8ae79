-- References that a hand holds.
use Rattle.std.specs.Prelude.{◌≡◌, ℕ, true, false, List, Contains, is_some, Some}
use Rattle.std.specs.Option.{option_map}
use Rattle.mc_pages.specs.declared.ids.ChunkId.{ChunkId}
use Rattle.mc_core.specs.declared.holding.Holding.{Holding}
use Rattle.mc_core.specs.model.Holdings.{holding_of, is_fresh}
use Rattle.mc_core.specs.past.Past.{KnownItem, known_by}
use Rattle.mc_words.specs.declared.item.refs.Ref.{Ref}
use Rattle.mc_words.specs.hand.View.{Setup, View}
use Rattle.mc_words.specs.rule.Layout.{data_word}

-- the first of these holdings that is of this chunk is a reference, and is known to have room for n words
pub record IsRefIn (holdings : List Holding) (known : List KnownItem) (chunk : ChunkId) (room : ℕ) : Type 0 where
  pub holding : Holding
  pub found : holding_of chunk holdings ≡ Some holding
  pub linked : is_fresh holding ≡ false
  pub knows : Contains known (known_by room holding)

-- the hand has a reference to this chunk, which has room for n words
abbrev pub IsRefOf : View → ChunkId → ℕ → Type 0
IsRefOf view chunk room = IsRefIn view.row.holdings view.row.knows.known chunk room

-- the holding that is found of this chunk has this issue number
abbrev pub IsIssueOf : View → ChunkId → ℕ → Type 0
IsIssueOf view chunk issue = option_map (λ holding. holding.issue) (holding_of chunk view.row.holdings) ≡ Some issue

-- the hand still refers to each chunk that it referred to, by the same holding
pub record KeepsRefs (view now : View) : Type 0 where
  pub refers : (chunk : ChunkId) (room : ℕ) → IsRefOf view chunk room → IsRefOf now chunk room
  pub same : (chunk : ChunkId) (room : ℕ) → IsRefOf view chunk room → holding_of chunk now.row.holdings ≡ holding_of chunk view.row.holdings

-- the hand holds what it held before
abbrev pub HoldsTheSame : View → View → Type 0
HoldsTheSame view now = now.row.holdings ≡ view.row.holdings

-- the hand holds what it held before, and refers to what it referred to, by the same holdings
pub record KeepsHoldings (view now : View) : Type 0 where
  pub same : HoldsTheSame view now
  pub references : KeepsRefs view now

-- the hand still refers to each chunk that it referred to and still holds, by the same holding, whatever it gave up
pub record KeepsRemainingRefs (view now : View) : Type 0 where
  pub refers : (chunk : ChunkId) (room : ℕ) → IsRefOf view chunk room → is_some (holding_of chunk now.row.holdings) ≡ true → IsRefOf now chunk room
  pub same : (chunk : ChunkId) (room : ℕ) → IsRefOf view chunk room → is_some (holding_of chunk now.row.holdings) ≡ true →
      holding_of chunk now.row.holdings ≡ holding_of chunk view.row.holdings

-- the place in the table where the words of a reference's item begin
abbrev pub first_place : Setup → Ref → ℕ
first_place setup reference = data_word setup reference.room reference.chunk 0
