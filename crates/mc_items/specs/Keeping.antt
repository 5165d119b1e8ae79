-- What calls leave of the references that a hand has, and of the words that it stored.
use Rattle.std.specs.Prelude.{◌≡◌, ℕ, ◌++◌, [], ◌∷◌, true, List, Option, Some, None, is_some, Contains}
use Rattle.mc_pages.specs.declared.ids.ChunkId.{ChunkId}
use Rattle.mc_core.specs.declared.holding.Holding.{Holding}
use Rattle.mc_core.specs.model.Columns.{count_of_holdings}
use Rattle.mc_core.specs.model.Holdings.{holding_of, is_of_chunk, without_first}
use Rattle.mc_core.specs.law.Knowing.{WasStored}
use Rattle.mc_core.specs.past.Past.{StoredItem}
use Rattle.mc_words.specs.hand.View.{View}
use Rattle.mc_words.specs.rule.Happens.{LawfulView}
use Rattle.mc_words.specs.item.Items.{held_item}
use Rattle.mc_words.specs.item.References.{reference_to}
use Rattle.mc_words.specs.item.Refs.{HoldsTheSame, KeepsHoldings, KeepsRefs, KeepsRemainingRefs}
use Rattle.mc_items.specs.declared.refs.Ref.{Ref}
use Rattle.mc_items.specs.ItemRefs.{IsItemRef, item_chunk, item_issue, item_stamp, item_words}

-- the hand holds each chunk as often as it did
abbrev pub HoldsAsOften : View → View → Type 0
HoldsAsOften view now = (chunk : ChunkId) → count_of_holdings chunk now.row.holdings ≡ count_of_holdings chunk view.row.holdings

-- the hand holds each chunk as often as it did, and refers to what it referred to, by the same holdings
pub record KeepsHoldingCounts (view now : View) : Type 0 where
  pub counts : HoldsAsOften view now
  pub references : KeepsRefs view now

-- the holding that a reference to an item is
abbrev pub holding_by : View → Ref → Holding
holding_by view item = reference_to (item_chunk item) (item_issue item) (held_item view (item_chunk item))

-- the hand holds one chunk more by the reference that it got, if it got one
abbrev pub HoldsToo : Option Ref → View → View → Type 0
HoldsToo None view now = HoldsTheSame view now
HoldsToo (Some item) view now = now.row.holdings ≡ view.row.holdings ++ holding_by now item ∷ []

-- the hand holds one chunk less, by the reference that it gave up
abbrev pub HoldsLess : Ref → View → View → Type 0
HoldsLess item view now = now.row.holdings ≡ without_first (is_of_chunk (item_chunk item)) view.row.holdings

-- the hand stored no words
abbrev pub StoresNothing : View → View → Type 0
StoresNothing view now = now.row.knows.stored ≡ view.row.knows.stored

-- the hand stored these words with this stamp
abbrev pub StoresWithStamp : List ℕ → ℕ → View → View → Type 0
StoresWithStamp words stamp view now = now.row.knows.stored ≡ view.row.knows.stored ++ record { stamp = stamp; words = words } ∷ []

-- some hand stored these words with the stamp; where this hand stored words with the stamp itself, they are these words
pub record WordsWereStored (view : View) (stamp : ℕ) (words : List ℕ) : Type 0 where
  pub by_some : (was : LawfulView view) → WasStored was.moment.past.stored stamp words
  pub own : (saying : StoredItem) → Contains view.row.knows.stored saying → saying.stamp ≡ stamp → saying.words ≡ words

-- the words of the item to which the reference leads were stored with the item's stamp: key, stamp and length, and then the others
abbrev pub HasStoredWords : View → Ref → Type 0
HasStoredWords view item = WordsWereStored view (item_stamp item) (held_item view (item_chunk item))

-- a reference to an item is one still, and the item's words are the same
pub record StaysItemRef (view now : View) (item : Ref) : Type 0 where
  pub refers : IsItemRef now item
  pub words : item_words now item ≡ item_words view item

-- *a call that keeps references keeps items*
abbrev pub KeptRefsKeepItems : Type 0
KeptRefsKeepItems = (view now : View) (item : Ref) → KeepsRefs view now → IsItemRef view item → StaysItemRef view now item

-- *a release keeps each item that is held still*
abbrev pub HeldRefsKeepItems : Type 0
HeldRefsKeepItems = (view now : View) (item : Ref) → KeepsRemainingRefs view now → IsItemRef view item → is_some (holding_of (item_chunk item) now.row.holdings) ≡ true → StaysItemRef view now item

-- *calls that keep references, one after another, keep them*
abbrev pub KeepingGoesOn : Type 0
KeepingGoesOn = (view next now : View) → KeepsRefs view next → KeepsRefs next now → KeepsRefs view now

-- *calls that keep holdings, one after another, keep them*
abbrev pub KeepingHoldingsGoesOn : Type 0
KeepingHoldingsGoesOn = (view next now : View) → KeepsHoldings view next → KeepsHoldings next now → KeepsHoldings view now

-- *what a hand got and released leaves it what it referred to before*, whatever calls came between that keep references
abbrev pub ReleasingKeepsOthers : Type 0
ReleasingKeepsOthers = (view got next now : View) (item : Ref) → KeepsRefs view next → HoldsToo (Some item) view got → HoldsTheSame got next → KeepsRemainingRefs next now → HoldsLess item next now → KeepsRefs view now
