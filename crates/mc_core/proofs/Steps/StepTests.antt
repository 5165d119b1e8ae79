-- What an allowed step of lists and pages has passed, test by test.
use Rattle.std.proofs.Common.{◌≡◌, ℕ, ◌&&◌, ◌||◌, true, Option}
use Rattle.std.proofs.lemmas.Bool.{and_parts}
use Rattle.mc_pages.specs.Pages.{is_on_the_move}
use Rattle.mc_pages.specs.declared.ids.ChunkId.{ChunkId}
use Rattle.mc_pages.specs.SlabState.{class_of_page}
use Rattle.mc_core.specs.model.Head.{is_free, is_out, is_dead}
use Rattle.mc_core.specs.model.State.{State, is_class, has_chunk, head_at, has_slabs, has_stripe, stripe_of, stripe_at, holdings_at, looks_at}
use Rattle.mc_core.specs.run.Silent.{is_handed_out, is_listed}
use Rattle.mc_core.specs.run.Chunks.{has_place, can_hand_out, is_next_uncut, can_put_back, can_clear, can_cut}
use Rattle.mc_core.specs.run.Evictions.{is_linked_unheld, key_at, can_lose_entry, has_copy, has_reason, can_condemn}

module _ (state : State) (hand : ℕ) where
  -- a chunk is handed out: of this class
  pub pop_tests : (class : ℕ) (next : Option ChunkId) → (has_slabs state hand && is_class state.table class && has_place state hand && can_hand_out state next) ≡ true →
      (has_slabs state hand ≡ true) × (is_class state.table class ≡ true) × (can_hand_out state next ≡ true)
  pop_tests class next can =
      let first = and_parts (has_slabs state hand && is_class state.table class && has_place state hand) (can_hand_out state next) can in
      let second = and_parts (has_slabs state hand && is_class state.table class) (has_place state hand) first.0 in
      let third = and_parts (has_slabs state hand) (is_class state.table class) second.0 in
      (third.0, third.1, first.1)

  -- in the place of this one
  pub pop_off_tests : (old : ChunkId) (next : Option ChunkId) → (has_slabs state hand && is_on_the_move state.slabs old.page && is_handed_out state.slabs old && has_place state hand && can_hand_out state next) ≡ true →
      (has_slabs state hand ≡ true) × (is_on_the_move state.slabs old.page ≡ true) × (is_handed_out state.slabs old ≡ true)
  pop_off_tests old next can =
      let moves = is_on_the_move state.slabs old.page in
      let out = is_handed_out state.slabs old in
      let first = and_parts (has_slabs state hand && moves && out && has_place state hand) (can_hand_out state next) can in
      let second = and_parts (has_slabs state hand && moves && out) (has_place state hand) first.0 in
      let third = and_parts (has_slabs state hand && moves) out second.0 in
      let fourth = and_parts (has_slabs state hand) moves third.0 in
      (fourth.0, fourth.1, third.1)

  pub put_back_tests : (chunk : ChunkId) → can_put_back state hand chunk ≡ true →
      (has_slabs state hand ≡ true) × (has_chunk state.table chunk ≡ true) × (is_dead (head_at state chunk) ≡ true) × (is_handed_out state.slabs chunk ≡ true)
  put_back_tests chunk can =
      let first = and_parts (has_slabs state hand && has_chunk state.table chunk && is_dead (head_at state chunk)) (is_handed_out state.slabs chunk) can in
      let second = and_parts (has_slabs state hand && has_chunk state.table chunk) (is_dead (head_at state chunk)) first.0 in
      let third = and_parts (has_slabs state hand) (has_chunk state.table chunk) second.0 in
      (third.0, third.1, second.1, first.1)

  pub clear_tests : (chunk : ChunkId) → can_clear state hand chunk ≡ true →
      (has_slabs state hand ≡ true) × (has_chunk state.table chunk ≡ true) × (is_on_the_move state.slabs chunk.page ≡ true) × (is_listed state.slabs (class_of_page state.slabs chunk.page) chunk ≡ true)
  clear_tests chunk can =
      let moves = is_on_the_move state.slabs chunk.page in
      let idle = is_free (head_at state chunk).tag || is_dead (head_at state chunk) in
      let first = and_parts (has_slabs state hand && has_chunk state.table chunk && moves && idle) (is_listed state.slabs (class_of_page state.slabs chunk.page) chunk) can in
      let second = and_parts (has_slabs state hand && has_chunk state.table chunk && moves) idle first.0 in
      let third = and_parts (has_slabs state hand && has_chunk state.table chunk) moves second.0 in
      let fourth = and_parts (has_slabs state hand) (has_chunk state.table chunk) third.0 in
      (fourth.0, fourth.1, third.1, first.1)

  pub cut_tests : (chunk : ChunkId) → can_cut state hand chunk ≡ true → (has_slabs state hand ≡ true) × (has_chunk state.table chunk ≡ true) × (is_next_uncut state.slabs chunk ≡ true)
  cut_tests chunk can =
      let first = and_parts (has_slabs state hand && has_chunk state.table chunk && is_next_uncut state.slabs chunk) (is_out (head_at state chunk).tag) can in
      let second = and_parts (has_slabs state hand && has_chunk state.table chunk) (is_next_uncut state.slabs chunk) first.0 in
      let third = and_parts (has_slabs state hand) (has_chunk state.table chunk) second.0 in
      (third.0, third.1, second.1)

  -- a linked chunk that nobody holds loses its item
  pub condemn_tests : (chunk : ChunkId) → can_condemn state hand chunk ≡ true → (has_slabs state hand ≡ true) × (has_chunk state.table chunk ≡ true) × (is_linked_unheld (head_at state chunk) ≡ true)
  condemn_tests chunk can =
      let key = key_at state chunk in
      let stripe = stripe_of state key in
      let takes = can_lose_entry (stripe_at state stripe) key (has_copy (holdings_at state hand) chunk) in
      let idle = is_linked_unheld (head_at state chunk) in
      let first = and_parts (has_slabs state hand && has_chunk state.table chunk && idle && has_stripe state hand stripe && takes) (has_reason state.table state.heads state.slabs (looks_at state hand) (holdings_at state hand) chunk) can in
      let second = and_parts (has_slabs state hand && has_chunk state.table chunk && idle && has_stripe state hand stripe) takes first.0 in
      let third = and_parts (has_slabs state hand && has_chunk state.table chunk && idle) (has_stripe state hand stripe) second.0 in
      let fourth = and_parts (has_slabs state hand && has_chunk state.table chunk) idle third.0 in
      let fifth = and_parts (has_slabs state hand) (has_chunk state.table chunk) fourth.0 in
      (fifth.0, fifth.1, fourth.1)
