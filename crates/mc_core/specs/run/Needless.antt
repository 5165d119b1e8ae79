-- Tests of events that need not be made, since the law answers them.
use Rattle.std.specs.Prelude.{◌≡◌, ℕ, ◌+◌, ◌*◌, ◌≤◌, true, ◌||◌, Some}
use Rattle.mc_classes.specs.Limits.{most_hands}
use Rattle.mc_pages.specs.Pages.{is_on_the_move}
use Rattle.mc_pages.specs.declared.ids.ChunkId.{ChunkId}
use Rattle.mc_core.specs.declared.head.Tag.TheVariants.{Out, Free, Unlinked, Linked}
use Rattle.mc_core.specs.declared.holding.Holding.{Holding}
use Rattle.mc_pages.specs.SlabState.{class_of_page}
use Rattle.mc_core.specs.model.Head.{is_free, is_dead}
use Rattle.mc_core.specs.model.Holdings.{is_fresh, holding_of}
use Rattle.mc_core.specs.model.State.{is_class, has_chunk, head_at, holdings_at}
use Rattle.mc_core.specs.run.Silent.{is_handed_out, is_listed}
use Rattle.mc_core.specs.run.Chunks.{most_holdings, next_free, target_of}
use Rattle.mc_core.specs.run.Items.{can_count, chunk_of_key}
use Rattle.mc_core.specs.model.Codes.{FitsBits}
use Rattle.mc_core.specs.past.Past.{Moment}
use Rattle.mc_core.specs.law.Lawful.{IsLawful}

-- the most that a header counts: the link, and all holdings of the most hands
abbrev pub most_count : ℕ
most_count = 1 + most_hands * most_holdings

-- what the law proves of headers that events find
pub record AreNeedless (m : Moment) : Type 0 where
  -- a count is far below what fits
  pub most : (chunk : ChunkId) → has_chunk m.state.table chunk ≡ true → (head_at m.state chunk).count ≤ most_count
  -- a count has room for one more
  pub room : (chunk : ChunkId) → has_chunk m.state.table chunk ≡ true → can_count (head_at m.state chunk) ≡ true
  -- a header is one word
  pub fits : (chunk : ChunkId) → has_chunk m.state.table chunk ≡ true → FitsBits (head_at m.state chunk)
  -- the head of a free list is free
  pub next : (class : ℕ) (chunk : ChunkId) → is_class m.state.table class ≡ true → next_free m.state class ≡ Some chunk →
      (has_chunk m.state.table chunk ≡ true) × ((head_at m.state chunk).tag ≡ Free)
  -- a target is free
  pub target : (page : ℕ) (chunk : ChunkId) → is_on_the_move m.state.slabs page ≡ true → target_of m.state.table m.state.heads m.state.slabs page ≡ Some chunk →
      (has_chunk m.state.table chunk ≡ true) × ((head_at m.state chunk).tag ≡ Free)
  -- each dead chunk is in its class's hand-out order
  pub dead : (chunk : ChunkId) → has_chunk m.state.table chunk ≡ true → is_dead (head_at m.state chunk) ≡ true → is_handed_out m.state.slabs chunk ≡ true
  -- each free or dead chunk is in one of its class's lists
  pub unused : (chunk : ChunkId) → has_chunk m.state.table chunk ≡ true → (is_free (head_at m.state chunk).tag || is_dead (head_at m.state chunk)) ≡ true →
      is_listed m.state.slabs (class_of_page m.state.slabs chunk.page) chunk ≡ true
  -- what is cut next is out
  pub uncut : (chunk : ChunkId) → m.state.slabs.uncut ≡ Some chunk → (has_chunk m.state.table chunk ≡ true) × ((head_at m.state chunk).tag ≡ Out)
  -- the chunk to which a key leads is linked
  pub entry : (key : ℕ) (place : ChunkId × ℕ) → chunk_of_key m.state key ≡ Some place → (has_chunk m.state.table place.0 ≡ true) × ((head_at m.state place.0).tag ≡ Linked)
  -- what a hand fills isn't linked
  pub fresh : (hand : ℕ) (chunk : ChunkId) (holding : Holding) → holding_of chunk (holdings_at m.state hand) ≡ Some holding → is_fresh holding ≡ true →
      (has_chunk m.state.table chunk ≡ true) × ((head_at m.state chunk).tag ≡ Unlinked)

-- in every lawful moment the law answers these tests of headers
abbrev pub AllAreNeedless : Type 0
AllAreNeedless = (m : Moment) → IsLawful m → AreNeedless m
