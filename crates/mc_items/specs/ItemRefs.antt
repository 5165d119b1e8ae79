-- References to items, and what is known of each.
use Rattle.std.specs.Prelude.{◌≡◌, ℕ, ◌+◌, Bool, List, All, count_by, drop, length}
use Rattle.mc_pages.specs.declared.ids.ChunkId.{ChunkId}
use Rattle.mc_pages.specs.ClassState.{is_chunk}
use Rattle.mc_core.specs.model.Columns.{count_of_holdings}
use Rattle.mc_core.specs.model.Holdings.{key_of, stamp_in_words}
use Rattle.mc_words.specs.hand.View.{Setup, View}
use Rattle.mc_words.specs.item.Items.{held_item}
use Rattle.mc_words.specs.item.Refs.{IsIssueOf, IsRefOf, first_place}
use Rattle.mc_words.specs.declared.item.refs.Ref as words
use Rattle.mc_items.specs.declared.refs.Ref.{Ref}
use Rattle.mc_words.specs.hand.Observers.{ref_chunk, ref_issue, ref_room}

-- the reference to the chunk that the item is in
abbrev pub item_reference : Ref → words.Ref
item_reference item = item.reference

-- the chunk that the item is in
abbrev pub item_chunk : Ref → ChunkId
item_chunk item = ref_chunk (item_reference item)

-- the issue number with which the item's chunk was handed out
abbrev pub item_issue : Ref → ℕ
item_issue item = ref_issue (item_reference item)

-- the item's key
abbrev pub item_key : Ref → ℕ
item_key item = item.key

-- the item's stamp
abbrev pub item_stamp : Ref → ℕ
item_stamp item = item.stamp

-- how many words the item has behind key, stamp and length
abbrev pub item_len : Ref → ℕ
item_len item = item.len

-- the words behind key, stamp and length, as the hand knows them
abbrev pub item_words : View → Ref → List ℕ
item_words view item = drop 3 (held_item view (item_chunk item))

-- the place in the arena's table where the item begins
abbrev pub item_place : Setup → Ref → ℕ
item_place setup item = first_place setup (item_reference item)

-- the hand refers to an item of this key, stamp and length
pub record IsItemRef (view : View) (item : Ref) : Type 0 where
  pub reference : IsRefOf view (item_chunk item) (ref_room (item_reference item))
  pub issue : IsIssueOf view (item_chunk item) (ref_issue (item_reference item))
  pub key : key_of (held_item view (item_chunk item)) ≡ item_key item
  pub stamp : stamp_in_words (held_item view (item_chunk item)) ≡ item_stamp item
  pub len : length (held_item view (item_chunk item)) ≡ 3 + item_len item

-- the reference is to an item in the chunk
abbrev pub refers_to : ChunkId → Ref → Bool
refers_to chunk item = is_chunk (item_chunk item) chunk

-- the hand refers to the item of each of these references, and holds each chunk as often as the list has references to it
pub record RefersToEach (view : View) (kept : List Ref) : Type 0 where
  pub items : All (IsItemRef view) kept
  pub counts : (chunk : ChunkId) → count_of_holdings chunk view.row.holdings ≡ count_by (refers_to chunk) kept
