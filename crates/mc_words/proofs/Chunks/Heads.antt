-- Steps on headers: what the core allows, and which word it is.
use Rattle.std.proofs.Common.{◌≡◌, ℕ, ◌<◌, true, List, slice_set, slice_index, slice_index_or, refl, sym, ap, subst, ◌∙◌, arith}
use Rattle.mc_classes.specs.Classes.{arena_pages_of}
use Rattle.mc_pages.specs.declared.ids.ChunkId.{ChunkId}
use Rattle.mc_core.specs.declared.head.Head.{Head}
use Rattle.mc_core.specs.declared.event.Step.TheVariants as core
use Rattle.mc_core.specs.model.Head.{decode, never_cut}
use Rattle.mc_core.specs.model.State.{State, has_chunk, head_at, head_place}
use Rattle.mc_core.proofs.Frame.SameSlabs.{looked_keeps}
use Rattle.mc_words.specs.hand.View.{Setup, View}
use Rattle.mc_words.specs.rule.Layout.{head_word, page_word, word_count}
use Rattle.mc_words.specs.rule.Meaning.{WordsAreColumns}
use Rattle.mc_words.specs.rule.Happens.{LawfulView, MayWrite}
use Rattle.mc_words.proofs.Rules.Quiet.{Columns, columns}
use Rattle.mc_words.proofs.Rules.Written.{head_near, head_read, head_written, unwritten}

-- the words are these columns
abbrev pub AreAll : Setup → List ℕ → List ℕ → Columns → Type 0
AreAll setup cuts words c = WordsAreColumns setup cuts words c.0 c.1 c.2 c.3

module _ (view : View) (chunk : ChunkId) (in_range : has_chunk view.setup.table chunk ≡ true) (was : LawfulView view) where
  abbrev s : State
  s = was.moment.state

  pub near_here : has_chunk s.table chunk ≡ true
  near_here = ap (λ table. has_chunk table chunk) was.same_table ∙ in_range

  -- the header is its word's
  pub head_is : head_at s chunk ≡ decode (slice_index was.words (head_word view.setup chunk))
  head_is =
      ap (λ table. slice_index_or s.heads (head_place table chunk) never_cut) was.same_table
      ∙ head_read view.setup was.cuts was.words s.slabs_lock s.stripe_locks s.heads s.words was.are (head_place view.setup.table chunk) never_cut (head_near view.setup chunk in_range)

  -- and is written by it
  pub header_written : (word : ℕ) (head : Head) → decode word ≡ head → AreAll view.setup was.cuts (slice_set was.words (head_word view.setup chunk) word) (s.slabs_lock, s.stripe_locks, slice_set s.heads (head_place s.table chunk) head, s.words)
  header_written word head is =
      subst (λ (p : ℕ × Head). AreAll view.setup was.cuts (slice_set was.words (head_word view.setup chunk) word) (s.slabs_lock, s.stripe_locks, slice_set s.heads p.0 p.1, s.words)) (λ k. (head_place (sym was.same_table k) chunk, is k))
      (head_written view.setup was.cuts was.words s.slabs_lock s.stripe_locks s.heads s.words was.are (head_place view.setup.table chunk) word (head_near view.setup chunk in_range))

-- a look writes nothing
pub may_look : (view : View) (chunk : ChunkId) → has_chunk view.setup.table chunk ≡ true → MayWrite view (core.Head chunk) (head_word view.setup chunk) (λ found. found)
may_look view chunk in_range was fits =
    let s : State = was.moment.state in (
      near_here view chunk in_range was,
      subst (AreAll view.setup was.cuts (slice_set was.words (head_word view.setup chunk) (slice_index was.words (head_word view.setup chunk)))) (sym (looked_keeps columns s was.hand _ refl))
          (unwritten view.setup was.cuts was.words s.slabs_lock s.stripe_locks s.heads s.words was.are (head_word view.setup chunk)),
    )

-- words stand in the table
pub head_word_near : (setup : Setup) (chunk : ChunkId) → has_chunk setup.table chunk ≡ true → head_word setup chunk < word_count setup
head_word_near setup chunk in_range = let below = head_near setup chunk in_range in omega arith

pub page_word_near : (setup : Setup) (page : ℕ) → page < arena_pages_of setup.table → page_word setup page < word_count setup
page_word_near setup page in_range = omega arith
