-- What a hand's looks leave of its view.
use Rattle.std.proofs.Common.{◌≡◌, ◌⊎◌, ℕ, List, [], ◌∷◌, ap, ◌∙◌, inl, inr}
use Rattle.mc_pages.specs.declared.ids.ChunkId.{ChunkId}
use Rattle.mc_pages.specs.SlabState.{SlabState}
use Rattle.mc_core.specs.declared.head.Head.{Head}
use Rattle.mc_words.specs.hand.View.{View}
use Rattle.mc_words.specs.item.Removal.{FindsHeld, SeesHeld}
use Rattle.mc_words.specs.chunk.Copies.{PassesAll, PassesOver}
use Rattle.mc_words.specs.chunk.Sweeps.{SeesHeaders, Sweeps, SweepsEach, SweepsOne}
use Rattle.mc_words.specs.hand.Views.{chunk_put_back, head_seen}
use Rattle.mc_mover.specs.declared.sweep.Sweep.{Sweep}
use Rattle.mc_mover.specs.declared.sweep.Sweep.TheVariants.{Due, Done}
use Rattle.mc_mover.specs.Saving.{SweepsForTarget, SweepsToEvict, SweepsToRescue}

-- a part that neither a key nor a header changes that is seen
module _ {X : Type 0} (part : View → X) (look : (one : ChunkId × ℕ) (v : View) → part (Rattle.mc_words.specs.item.Removal.key_seen one.0 one.1 v) ≡ part v) (head : (chunk : ChunkId) (one : Head) (v : View) → part (head_seen chunk one v) ≡ part v) where
  sees_keep : (chunk : ChunkId) (view now : View) → SeesHeld view chunk now → part now ≡ part view
  sees_keep chunk view now sees = ap part sees.is ∙ head sees.chunk sees.head view

  -- where an item is found held
  pub finds_keep : (chunk : ChunkId) (view now : View) → FindsHeld view chunk now → part now ≡ part view
  finds_keep chunk view now finds = by finds.finds
    where
      by : (SeesHeld (Rattle.mc_words.specs.item.Removal.key_seen chunk finds.key view) chunk now
          ⊎ ((one : Head) × Rattle.mc_words.specs.rule.Happens.Happens (Rattle.mc_words.specs.item.Removal.key_seen chunk finds.key view) [] (Rattle.mc_core.specs.declared.event.Step.TheVariants.Head chunk) (head_seen chunk one (Rattle.mc_words.specs.item.Removal.key_seen chunk finds.key view))
          × SeesHeld (head_seen chunk one (Rattle.mc_words.specs.item.Removal.key_seen chunk finds.key view)) chunk now)) → part now ≡ part view
      by (inl sees) = sees_keep chunk _ now sees ∙ look (chunk, finds.key) view
      by (inr (one, happens, sees)) = sees_keep chunk _ now sees ∙ (head chunk one _ ∙ look (chunk, finds.key) view)

  over_keep : (page : ℕ) (chunk : ChunkId) (view now : View) → PassesOver page chunk view now → part now ≡ part view
  over_keep page chunk view now (inl (on, same)) = ap part same
  over_keep page chunk view now (inr (off, sees)) = ap part sees.is ∙ head sees.chunk sees.head view

  -- where free chunks are passed over
  pub passes_keep : (page : ℕ) (chunks : List ChunkId) (view now : View) → PassesAll page chunks view now → part now ≡ part view
  passes_keep page [] view now same = ap part same
  passes_keep page (chunk ∷ chunks) view now (next, over, rest) = passes_keep page chunks next now rest ∙ over_keep page chunk view next over

  -- where headers are looked at
  headers_keep : (chunks : List ChunkId) (view now : View) → SeesHeaders chunks view now → part now ≡ part view
  headers_keep [] view now same = ap part same
  headers_keep (chunk ∷ chunks) view now (next, sees, rest) = headers_keep chunks next now rest ∙ (ap part sees.is ∙ head chunk sees.head view)

  module _ (back : (slabs : SlabState) (chunk : ChunkId) (one : Head) (v : View) → part (chunk_put_back slabs chunk one v) ≡ part v) where
    -- where a chunk is put back, or seen otherwise
    pub swept_keep : (chunk : ChunkId) (view : View) (slabs : SlabState) (now : View) (left : SlabState) → SweepsOne chunk view slabs now left → part now ≡ part view
    swept_keep chunk view slabs now left (inl (puts, is)) = ap part puts.is ∙ (back slabs chunk puts.head _ ∙ head chunk puts.head view)
    swept_keep chunk view slabs now left (inr (sees, is)) = ap part sees.is ∙ head sees.chunk sees.head view

    -- and where each of these is
    each_keeps : (chunks : List ChunkId) (view : View) (slabs : SlabState) (now : View) (left : SlabState) → SweepsEach chunks view slabs now left → part now ≡ part view
    each_keeps [] view slabs now left (same, is) = ap part same
    each_keeps (chunk ∷ chunks) view slabs now left (next, between, one, rest) = each_keeps chunks next between now left rest ∙ swept_keep chunk view slabs next between one

    -- so after a sweep
    pub sweeps_keep : (order : List ChunkId) (view : View) (slabs : SlabState) (now : View) (left : SlabState) → Sweeps order view slabs now left → part now ≡ part view
    sweeps_keep order view slabs now left sweeps = let did = sweeps.recovers in each_keeps did.again did.seen slabs now left did.each ∙ headers_keep did.looked view did.seen did.sees

    -- and where the class is swept before an item is saved
    for_target_keeps : (class : ℕ) (chunk : ChunkId) (view : View) (slabs : SlabState) (now : View) (left : SlabState) → SweepsForTarget class chunk view slabs now left → part now ≡ part view
    for_target_keeps class chunk view slabs now left sweeps = sweeps_keep _ sweeps.passed slabs now left sweeps.sweeps ∙ passes_keep chunk.page _ view sweeps.passed sweeps.none

    pub to_evict_keeps : (class : ℕ) (chunk : ChunkId) (sweep : Sweep) (view : View) (slabs : SlabState) (now : View) (left : SlabState) → SweepsToEvict class chunk sweep view slabs now left → part now ≡ part view
    to_evict_keeps class chunk Due view slabs now left sweeps = sweeps_keep _ view slabs now left sweeps
    to_evict_keeps class chunk Done view slabs now left sweeps = for_target_keeps class chunk view slabs now left sweeps

    pub to_rescue_keeps : (class : ℕ) (chunk : ChunkId) (sweep : Sweep) (view : View) (slabs : SlabState) (now : View) (left : SlabState) → SweepsToRescue class chunk sweep view slabs now left → part now ≡ part view
    to_rescue_keeps class chunk Due view slabs now left sweeps = sweeps_keep _ view slabs now left sweeps
    to_rescue_keeps class chunk Done view slabs now left (inl (same, is)) = ap part same
    to_rescue_keeps class chunk Done view slabs now left (inr sweeps) = for_target_keeps class chunk view slabs now left sweeps
