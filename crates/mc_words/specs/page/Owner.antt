-- The owner's pass, as a hand knows it: each call looks first where it has to, and then steps.
use Rattle.std.specs.Prelude.{◌≡◌, ℕ, ◌<◌, Bool, true, ◌||◌, [], Option, Some}
use Rattle.mc_pages.specs.declared.ids.ChunkId.{ChunkId}
use Rattle.mc_pages.specs.ClassState.{first_free}
use Rattle.mc_pages.specs.SlabState.{SlabState, class_at}
use Rattle.mc_core.specs.declared.head.Head.{Head}
use Rattle.mc_core.specs.declared.head.Tag.TheVariants.{Out}
use Rattle.mc_core.specs.declared.event.Step.TheVariants as step
use Rattle.mc_core.specs.run.Chunks.{most_issue}
use Rattle.mc_core.specs.model.Head.{is_dead, is_free}
use Rattle.mc_words.specs.hand.View.{View}
use Rattle.mc_words.specs.rule.Happens.{Happens}
use Rattle.mc_words.specs.hand.Views.{head_seen, chunk_popped, chunk_put_back, chunk_cleared, chunk_cut}

-- the hand saw the header of the class's first free chunk, which isn't used up, and the chunk was handed out to it
pub record PopsFirst (view : View) (slabs : SlabState) (class : ℕ) (chunk : ChunkId) (now : View) : Type 0 where
  pub first : first_free (class_at slabs class) ≡ Some chunk
  pub head : Head
  pub unused : head.issue < most_issue
  pub looks : Happens view [] (step.Head chunk) (head_seen chunk head view)
  pub happens : Happens (head_seen chunk head view) [] (step.Pop class) now
  pub is : now ≡ chunk_popped slabs class chunk head (head_seen chunk head view)

-- the hand saw the header of the chunk that was asked for, and the property holds of the header, so the chunk isn't wanted
pub record SeesOther (view : View) (asked : Option ChunkId) (IsOther : Head → Type 0) (now : View) : Type 0 where
  pub chunk : ChunkId
  pub is_asked : asked ≡ Some chunk
  pub head : Head
  pub other : IsOther head
  pub happens : Happens view [] (step.Head chunk) now
  pub is : now ≡ head_seen chunk head view

-- the hand saw that the chunk is dead, and put it back
pub record PutsBack (view : View) (slabs : SlabState) (chunk : ChunkId) (now : View) : Type 0 where
  pub head : Head
  pub dead : is_dead head ≡ true
  pub looks : Happens view [] (step.Head chunk) (head_seen chunk head view)
  pub happens : Happens (head_seen chunk head view) [] (step.PutBack chunk) now
  pub is : now ≡ chunk_put_back slabs chunk head (head_seen chunk head view)

-- the chunk of this header has no item: it is free, or dead
abbrev pub is_unused : Head → Bool
is_unused head = is_free head.tag || is_dead head

-- the hand saw that the chunk is free or dead, and cleared it
pub record Clears (view : View) (slabs : SlabState) (chunk : ChunkId) (now : View) : Type 0 where
  pub head : Head
  pub unused : is_unused head ≡ true
  pub looks : Happens view [] (step.Head chunk) (head_seen chunk head view)
  pub happens : Happens (head_seen chunk head view) [] (step.Clear chunk) now
  pub is : now ≡ chunk_cleared slabs chunk head (head_seen chunk head view)

-- the chunk, which was out, was cut
pub record Cuts (view : View) (slabs : SlabState) (chunk : ChunkId) (now : View) : Type 0 where
  pub head : Head
  pub out : head.tag ≡ Out
  pub happens : Happens view [] (step.Cut chunk.page chunk.index) now
  pub is : now ≡ chunk_cut slabs chunk head view
