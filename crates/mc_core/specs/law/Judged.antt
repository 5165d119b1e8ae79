-- What a hand that has the slabs lock may do, judged by what it saw and did under it.
use Rattle.std.specs.Prelude.{◌≡◌, ◌≢◌, ℕ, ◌<◌, ◌==◌, Bool, true, false, not, ◌||◌, nat_lt, List, ◌∷◌, ◌++◌, Some, None}
use Rattle.std.specs.List.{fold, list_all}
use Rattle.std.specs.Option.{option_map_or}
use Rattle.mc_pages.specs.Pages.{is_on_the_move}
use Rattle.mc_pages.specs.declared.ids.ChunkId.{ChunkId}
use Rattle.mc_pages.specs.SlabState.{SlabState, class_at, class_of_page}
use Rattle.mc_core.specs.declared.head.Head.{Head}
use Rattle.mc_core.specs.declared.look.Look.{Look}
use Rattle.mc_core.specs.model.Head.{is_free, is_dead}
use Rattle.mc_core.specs.model.State.{is_class, has_chunk, head_at, has_slabs, looks_at}
use Rattle.mc_core.specs.run.Silent.{is_handed_out}
use Rattle.mc_core.specs.run.Chunks.{most_issue, has_place, next_free, can_pop, target_of, can_pop_off, can_put_back, can_clear, can_cut}
use Rattle.mc_core.specs.run.Evictions.{none_dead, must_leave, key_at}
use Rattle.mc_core.specs.law.Seen.{seen_head, last_read}
use Rattle.mc_core.specs.past.Past.{Moment}
use Rattle.mc_core.specs.law.Lawful.{IsLawful}

-- by the hand's looks, no item of the page can be taken to the chunk: the chunk is on that page, or used up
abbrev pub is_seen_unfit : List Look → ℕ → ChunkId → Bool
is_seen_unfit looks page chunk = chunk.page == page || option_map_or (λ head. not (nat_lt head.issue most_issue)) (seen_head looks chunk) false

-- by the hand's looks, no free chunk of the page's class can take an item of the page
abbrev pub sees_no_target : SlabState → List Look → ℕ → Bool
sees_no_target slabs looks page = list_all (is_seen_unfit looks page) (class_at slabs (class_of_page slabs page)).free

-- by the hand's looks, this is the first free chunk of the page's class that can take an item of the page
pub record SeesTarget (slabs : SlabState) (looks : List Look) (page : ℕ) (chunk : ChunkId) : Type 0 where
  pub before : List ChunkId
  pub after : List ChunkId
  pub seen : Head
  pub stands : (class_at slabs (class_of_page slabs page)).free ≡ before ++ chunk ∷ after
  pub unfit : list_all (is_seen_unfit looks page) before ≡ true
  pub off : chunk.page ≢ page
  pub last : seen_head looks chunk ≡ Some seen
  pub unused : seen.issue < most_issue

-- what the hand saw holds, and allows the hand's steps
pub record IsJudged (m : Moment) (hand : ℕ) : Type 0 where
  -- the header of the chunk that is handed out next is the one that was seen
  pub next : (class : ℕ) (chunk : ChunkId) (seen : Head) → is_class m.state.table class ≡ true → next_free m.state class ≡ Some chunk → seen_head (looks_at m.state hand) chunk ≡ Some seen →
      head_at m.state chunk ≡ seen
  -- the chunk that comes next can be handed out, where it was seen not used up
  pub pop : (class : ℕ) (chunk : ChunkId) (seen : Head) → is_class m.state.table class ≡ true → has_place m.state hand ≡ true → next_free m.state class ≡ Some chunk →
      seen_head (looks_at m.state hand) chunk ≡ Some seen → seen.issue < most_issue → can_pop m.state hand class ≡ true
  -- a target that was seen is the target, and its header the one that was seen
  pub target : (page : ℕ) (chunk : ChunkId) → is_on_the_move m.state.slabs page ≡ true → (sees : SeesTarget m.state.slabs (looks_at m.state hand) page chunk) →
      (target_of m.state.table m.state.heads m.state.slabs page ≡ Some chunk) × (head_at m.state chunk ≡ sees.seen)
  -- a target that was seen can be handed out in an old chunk's place
  pub pop_off : (old chunk : ChunkId) → is_on_the_move m.state.slabs old.page ≡ true → is_handed_out m.state.slabs old ≡ true → has_place m.state hand ≡ true →
      SeesTarget m.state.slabs (looks_at m.state hand) old.page chunk → can_pop_off m.state hand old ≡ true
  -- where the looks show no target for a moving page, there is none
  pub none : (page : ℕ) → is_on_the_move m.state.slabs page ≡ true → sees_no_target m.state.slabs (looks_at m.state hand) page ≡ true →
      target_of m.state.table m.state.heads m.state.slabs page ≡ None
  -- where the looks show no target, and no dead one among the chunks that the class handed out, the item must leave
  pub leave : (chunk : ChunkId) → is_on_the_move m.state.slabs chunk.page ≡ true → none_dead m.state.slabs (looks_at m.state hand) chunk ≡ true →
      sees_no_target m.state.slabs (looks_at m.state hand) chunk.page ≡ true → must_leave m.state.table m.state.heads m.state.slabs (looks_at m.state hand) chunk ≡ true
  -- what was seen dead is as it was seen, and can go back
  pub put_back : (chunk : ChunkId) (seen : Head) → has_chunk m.state.table chunk ≡ true → seen_head (looks_at m.state hand) chunk ≡ Some seen → is_dead seen ≡ true →
      (head_at m.state chunk ≡ seen) × (can_put_back m.state hand chunk ≡ true)
  -- what was seen free or dead on the moving page is as it was seen, and can be cleared
  pub clear : (chunk : ChunkId) (seen : Head) → has_chunk m.state.table chunk ≡ true → is_on_the_move m.state.slabs chunk.page ≡ true → seen_head (looks_at m.state hand) chunk ≡ Some seen →
      (is_free seen.tag || is_dead seen) ≡ true → (head_at m.state chunk ≡ seen) × (can_clear m.state hand chunk ≡ true)
  -- what is cut next needs no look
  pub cut : (chunk : ChunkId) → m.state.slabs.uncut ≡ Some chunk → can_cut m.state hand chunk ≡ true
  -- the key that was read of a chunk is the key of its item
  pub key : (chunk : ChunkId) (key : ℕ) → has_chunk m.state.table chunk ≡ true → fold (last_read chunk 0) None (looks_at m.state hand) ≡ Some key → key_at m.state chunk ≡ key

-- in every lawful moment what a hand that has the slabs lock saw holds, and allows its steps
abbrev pub AllAreJudged : Type 0
AllAreJudged = (m : Moment) → IsLawful m → (hand : ℕ) → has_slabs m.state hand ≡ true → IsJudged m hand
