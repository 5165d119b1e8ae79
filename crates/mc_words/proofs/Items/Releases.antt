-- References that are given up: what the core allows of a hand that has one, and what it has then.
use Rattle.std.proofs.Common.{◌≡◌, ℕ, ◌≤◌, ◌&&◌, ◌||◌, not, true, false, [], Some, refl, sym, ap, subst, ◌∙◌, arith, slice_index, get_or-set_same}
use Rattle.mc_pages.specs.declared.ids.ChunkId.{ChunkId}
use Rattle.mc_core.specs.declared.head.Head.{Head}
use Rattle.mc_core.specs.declared.holding.Holding.{Holding}
use Rattle.mc_core.specs.declared.event.Step.TheVariants as core
use Rattle.mc_core.specs.model.Head.{decode}
use Rattle.mc_core.specs.model.Holdings.{is_of_chunk, is_fresh, holding_of, without_first}
use Rattle.mc_core.specs.model.State.{has_chunk, head_at, holdings_at}
use Rattle.mc_core.specs.run.Chunks.{head_after_release, holds_as}
use Rattle.mc_core.specs.model.Codes.{word_minus, FitsBits}
use Rattle.mc_core.specs.past.Past.{Moment, moment_stepped}
use Rattle.mc_core.proofs.ItemWords.Codes.{all_are_sums}
use Rattle.mc_core.proofs.Seen.SeenQuiet.{held_near, held_count}
use Rattle.mc_words.specs.hand.View.{View}
use Rattle.mc_words.specs.rule.Layout.{head_word}
use Rattle.mc_words.specs.rule.Happens.{LawfulView, Happens, MayWrite}
use Rattle.mc_words.specs.hand.Views.{chunk_released}
use Rattle.mc_words.proofs.Chunks.Heads.{head_is, header_written}
use Rattle.mc_words.proofs.Locks.LockViews.{view_from, holdings_were, looks_were, slabs_were, stripes_were}
use Rattle.mc_words.proofs.Pages.Owners.{holdings_here, fits_here, summed}
use Rattle.mc_words.proofs.Pages.OwnerViews.{holding_rows, learned_none}

-- what the hand holds is a chunk of the arena
pub held_is_near : (view : View) → LawfulView view → (chunk : ChunkId) (holding : Holding) → holding_of chunk view.row.holdings ≡ Some holding → has_chunk view.setup.table chunk ≡ true
held_is_near view was chunk holding found =
    ap (λ table. has_chunk table chunk) (sym was.same_table) ∙ held_near was.moment was.lawful was.hand chunk holding (ap (holding_of chunk) (holdings_here view was) ∙ found)

-- a reference is given up
pub may_release : (view : View) (chunk : ChunkId) (holding : Holding) → has_chunk view.setup.table chunk ≡ true → holding_of chunk view.row.holdings ≡ Some holding → is_fresh holding ≡ false → MayWrite view (core.Release chunk) (head_word view.setup chunk) (word_minus 1)
may_release view chunk holding in_range found linked was fits =
    let m = was.moment in
    let word = slice_index was.words (head_word view.setup chunk) in
    let here : holding_of chunk (holdings_at m.state was.hand) ≡ Some holding = ap (holding_of chunk) (holdings_here view was) ∙ found in
    let is : head_at m.state chunk ≡ decode word = head_is view chunk in_range was in
    let count : 1 ≤ (decode word).count = subst (λ (h : Head). 1 ≤ h.count) is (held_count m was.lawful was.hand chunk holding here) in
    let small : FitsBits (decode word) = subst FitsBits is (fits_here view was chunk in_range) in
    let gone : decode (word_minus 1 word) ≡ head_after_release (head_at m.state chunk) =
    summed word fits head_after_release (word_minus 1) ((all_are_sums (decode word) small).release count) (record { issue = small.issue; count = let c = small.count in omega arith }) ∙ ap head_after_release (sym is) in (
      ap (holds_as false) here ∙ ap (λ b. b && false || not b && not false) linked,
      header_written view chunk in_range was (word_minus 1 word) (head_after_release (head_at m.state chunk)) gone,
    )

-- the hand has it no more
pub released_chunk : (view now : View) (chunk : ChunkId) → Happens view [] (core.Release chunk) now → now ≡ chunk_released chunk view
released_chunk view now chunk h =
    let m : Moment = h.was.moment in
    let id : ℕ = h.was.hand in
    let after : Moment = moment_stepped m id (core.Release chunk) in
    h.is ∙ view_from view h.was _ after refl (without_first (is_of_chunk chunk) view.row.holdings) (get_or-set_same m.state.holdings id (without_first (is_of_chunk chunk) (holdings_at m.state id)) [] (holding_rows view h.was) ∙ ap (without_first (is_of_chunk chunk)) (holdings_were view now h.was)) view.row.looks (looks_were view now h.was)
    view.row.knows (learned_none view now (core.Release chunk) h refl refl (λ knows. refl)) view.slabs (slabs_were view now h.was) view.stripes (stripes_were view now h.was)
