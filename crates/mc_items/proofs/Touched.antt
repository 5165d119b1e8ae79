-- What a touch leaves of a hand's row: it held one more for a while.
use Rattle.std.proofs.Common.{◌≡◌, ◌≤◌, ◌∙◌, ℕ, List, [], ◌∷◌, ◌++◌, false, refl, ap, arith, length}
use Rattle.mc_pages.specs.declared.ids.ChunkId.{ChunkId}
use Rattle.mc_core.specs.declared.holding.Holding.{Holding}
use Rattle.mc_core.specs.model.Columns.{count_of_holdings}
use Rattle.mc_core.specs.model.Holdings.{has_fresh, is_of_chunk, without_first}
use Rattle.mc_core.specs.past.Past.{known_by}
use Rattle.mc_words.specs.declared.item.refs.Ref as words
use Rattle.mc_words.specs.hand.View.{View}
use Rattle.mc_words.specs.hand.Views.{chunk_released}
use Rattle.mc_words.specs.item.References.{reference_to}
use Rattle.mc_words.specs.rule.Happens.{LawfulView}
use Rattle.mc_items.specs.Calls.{CallsOn, Finds, Touches}
use Rattle.mc_items.specs.Keeping.{KeepsHoldingCounts}
use Rattle.mc_items.specs.Within.{LeavesUnmoved}
use Rattle.mc_items.proofs.Chains.{kept_past, refs_and_more, refs_less}
use Rattle.mc_items.proofs.Left.{GotOne, Kept, bumped_keeps, finds_one, kept_of}
use Rattle.mc_items.proofs.Missed.{slabs_missed_keeps}
use Rattle.mc_items.proofs.Rows.{as_many, as_often, fresh_less, fresh_more}

-- a reference that was got and released, whatever came between that keeps what is held, known and said
module _ (number stripe key : ℕ) (reference : words.Ref) (view got next now : View) (gets : CallsOn number stripe (Finds number stripe key reference) view got) (same : kept_of next ≡ kept_of got) (released : now ≡ chunk_released reference.chunk next) where
  abbrev got_one : GotOne reference.chunk reference.issue reference.room view got
  got_one = finds_one number stripe key reference view got gets

  abbrev one : Holding
  one = reference_to reference.chunk reference.issue got_one.item

  gained : got.row.holdings ≡ view.row.holdings ++ one ∷ []
  gained = ap (λ (k : Kept). k.0) got_one.kept

  left : kept_of now ≡ (without_first (is_of_chunk reference.chunk) got.row.holdings, got.row.knows.known, got.row.knows.stored, got.row.ids)
  left = ap kept_of released ∙ ap (λ (k : Kept). (without_first (is_of_chunk reference.chunk) k.0, k.1, k.2, k.3)) same

  lost : now.row.holdings ≡ without_first (is_of_chunk reference.chunk) got.row.holdings
  lost = ap (λ (k : Kept). k.0) left

  -- each chunk is held as often as before
  holds_as_often : (chunk : ChunkId) → count_of_holdings chunk now.row.holdings ≡ count_of_holdings chunk view.row.holdings
  holds_as_often chunk = ap (count_of_holdings chunk) (lost ∙ ap (without_first (is_of_chunk reference.chunk)) gained) ∙ as_often reference.chunk view.row.holdings one refl chunk

  holds_no_more : length now.row.holdings ≤ length view.row.holdings
  holds_no_more =
      let at_limit = as_many reference.chunk view.row.holdings one refl in
      let same = ap (λ (l : List Holding). length l) (lost ∙ ap (without_first (is_of_chunk reference.chunk)) gained) in
      omega arith

  keeps_ids : now.row.ids ≡ view.row.ids
  keeps_ids = ap (λ (k : Kept). k.3) left ∙ ap (λ (k : Kept). k.3) got_one.kept

  says_nothing : now.row.knows.stored ≡ view.row.knows.stored
  says_nothing = ap (λ (k : Kept). k.2) left ∙ ap (λ (k : Kept). k.2) got_one.kept

  module _ (unfilled : has_fresh view.row.holdings ≡ false) where
    got_unfilled : has_fresh got.row.holdings ≡ false
    got_unfilled = ap has_fresh gained ∙ fresh_more view.row.holdings one unfilled refl

    fills_none : has_fresh now.row.holdings ≡ false
    fills_none = ap has_fresh lost ∙ fresh_less (is_of_chunk reference.chunk) got.row.holdings got_unfilled

    keeps_counts : LawfulView got → KeepsHoldingCounts view now
    keeps_counts lawful =
        let more = refs_and_more view got one (known_by reference.room one ∷ []) gained (ap (λ (k : Kept). k.1) got_one.kept) in
        let less = refs_less got now lawful got_unfilled reference.chunk lost (ap (λ (k : Kept). k.1) left) in
        record { counts = holds_as_often; references = kept_past view got now one reference.chunk refl more gained less lost }

-- a touch
module _ (number stripe key : ℕ) (view now : View) (touches : Touches number stripe key view now) where
  bump_same : kept_of touches.bumped ≡ kept_of touches.got
  bump_same = bumped_keeps number touches.reference.chunk touches.got touches.bumped touches.bumps

  pub touch_holds_no_more : length now.row.holdings ≤ length view.row.holdings
  touch_holds_no_more = holds_no_more number stripe key touches.reference view touches.got touches.bumped now touches.gets bump_same touches.released

  pub touch_keeps_ids : now.row.ids ≡ view.row.ids
  touch_keeps_ids = keeps_ids number stripe key touches.reference view touches.got touches.bumped now touches.gets bump_same touches.released

  pub touch_says_nothing : now.row.knows.stored ≡ view.row.knows.stored
  touch_says_nothing = says_nothing number stripe key touches.reference view touches.got touches.bumped now touches.gets bump_same touches.released

  pub touch_fills_none : has_fresh view.row.holdings ≡ false → has_fresh now.row.holdings ≡ false
  touch_fills_none unfilled = fills_none number stripe key touches.reference view touches.got touches.bumped now touches.gets bump_same touches.released unfilled

  pub touch_keeps_counts : has_fresh view.row.holdings ≡ false → LawfulView touches.got → KeepsHoldingCounts view now
  touch_keeps_counts unfilled lawful = keeps_counts number stripe key touches.reference view touches.got touches.bumped now touches.gets bump_same touches.released unfilled lawful

-- a touch that missed the lock of the slabs at each try
module _ (number tries stripe key : ℕ) (view now : View) (unmoved : LeavesUnmoved number tries stripe key view now) where
  miss_same : kept_of unmoved.missed ≡ kept_of unmoved.got
  miss_same = slabs_missed_keeps tries unmoved.got unmoved.missed unmoved.misses

  pub unmoved_holds_no_more : length now.row.holdings ≤ length view.row.holdings
  unmoved_holds_no_more = holds_no_more number stripe key unmoved.reference view unmoved.got unmoved.missed now unmoved.gets miss_same unmoved.released

  pub unmoved_keeps_ids : now.row.ids ≡ view.row.ids
  unmoved_keeps_ids = keeps_ids number stripe key unmoved.reference view unmoved.got unmoved.missed now unmoved.gets miss_same unmoved.released

  pub unmoved_says_nothing : now.row.knows.stored ≡ view.row.knows.stored
  unmoved_says_nothing = says_nothing number stripe key unmoved.reference view unmoved.got unmoved.missed now unmoved.gets miss_same unmoved.released

  pub unmoved_fills_none : has_fresh view.row.holdings ≡ false → has_fresh now.row.holdings ≡ false
  unmoved_fills_none unfilled = fills_none number stripe key unmoved.reference view unmoved.got unmoved.missed now unmoved.gets miss_same unmoved.released unfilled

  pub unmoved_keeps_counts : has_fresh view.row.holdings ≡ false → LawfulView unmoved.got → KeepsHoldingCounts view now
  unmoved_keeps_counts unfilled lawful = keeps_counts number stripe key unmoved.reference view unmoved.got unmoved.missed now unmoved.gets miss_same unmoved.released unfilled lawful
