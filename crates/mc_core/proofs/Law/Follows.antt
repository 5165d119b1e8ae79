-- What follows of the law: holdings are kept, and linked items were said.
use Rattle.std.proofs.Common.{◌≡◌, ℕ, ◌<◌, Some, sym, ap, ◌∙◌, subst, slice_index, Contains, inr, arith}
use Rattle.std.proofs.lemmas.List.Elements.{All-weaker, All-contains, All-contains_itself}
use Rattle.mc_pages.specs.declared.ids.ChunkId.{ChunkId}
use Rattle.mc_stripe.specs.StripeState.{chunk_and_stamp}
use Rattle.mc_core.specs.declared.holding.Holding.{Holding}
use Rattle.mc_core.specs.model.Holdings.{Words, word_in, stamp_in_words, all_known, key_of, holding_words}
use Rattle.mc_core.specs.model.State.{holdings_at}
use Rattle.mc_core.specs.model.Columns.{head_in, place_in, Shows, IsHandedOut}
use Rattle.mc_core.specs.past.Past.{Moment, KnownItem}
use Rattle.mc_core.specs.law.Indexed.{stripe_for}
use Rattle.mc_core.specs.law.Knowing.{WasStored, IsTrueStill}
use Rattle.mc_core.specs.law.Lawful.{IsKept}
use Rattle.mc_core.specs.law.Follows.{HoldingsAreKept, LinkedItemsAreStored}
use Rattle.mc_core.proofs.Steps.Base.{IsOut, held_out, placed_at, each_row}
use Rattle.mc_core.proofs.Hands.MoreRows.{each_contained}
use Rattle.mc_core.proofs.ItemWords.ShownItems.{IsWhole, whole_word}
use Rattle.mc_core.proofs.ItemWords.Numbers.{known_at, whole_known}

pub are_kept : HoldingsAreKept
are_kept m l hand =
    let row = holdings_at m.state hand in
    let Shown = λ (h : Holding). Shows m.state.table m.state.slabs m.state.words h.chunk (holding_words h) in
    All-weaker (Contains row) (IsKept m.state) (λ holding among.
    let out = All-contains (IsOut m l) row holding (held_out m l hand) among in
    record {
      handed_out = out.1;
      shows = All-contains Shown row holding (each_row Shown m.state.holdings hand l.held.shows) among;
      owned = (placed_at m l holding.chunk holding.issue out.0 out.1).0.class;
    }) row (All-contains_itself row)

-- a word of a whole item that a chunk shows
shown_word : (m : Moment) (chunk : ChunkId) (words : Words) → IsWhole words → Shows m.state.table m.state.slabs m.state.words chunk words → (place : ℕ) → place < 3 → slice_index m.state.words (place_in m.state.table m.state.slabs chunk place) ≡ word_in words place
shown_word m chunk words whole shows place within_limit = let long = whole.long in shows.known_words place (word_in words place) (whole_word words place whole (omega arith))

pub are_said_items : LinkedItemsAreStored
are_said_items m l chunk inside linked =
    let known = l.known.linked chunk inside linked in
    let k : KnownItem = known.1 in
    let Still = IsTrueStill m.state.table m.state.slabs m.state.heads m.state.words m.state.holdings in
    let still = each_contained Still m.past.known known.0 k l.known.still known.2 in
    let said = each_contained (λ (x : KnownItem). WasStored m.past.stored (stamp_in_words x.words) x.words) m.past.known known.0 k l.known.said_by_some known.2 in
    let out : IsHandedOut (head_in m.state.table m.state.heads chunk) k.issue = (inr linked, sym known.3.1) in
    let shows : Shows m.state.table m.state.slabs m.state.words chunk (all_known k.words) =
    subst (λ (c : ChunkId). Shows m.state.table m.state.slabs m.state.words c (all_known k.words)) known.3.0
    (still.shows (subst (λ (c : ChunkId). IsHandedOut (head_in m.state.table m.state.heads c) k.issue) (sym known.3.0) out)) in
    let whole : IsWhole (all_known k.words) = whole_known k.words still.whole in
    let key : slice_index m.state.words (place_in m.state.table m.state.slabs chunk 0) ≡ key_of k.words = shown_word m chunk (all_known k.words) whole shows 0 (omega arith) ∙ known_at k.words 0 in
    let stamp : slice_index m.state.words (place_in m.state.table m.state.slabs chunk 1) ≡ stamp_in_words k.words = shown_word m chunk (all_known k.words) whole shows 1 (omega arith) ∙ known_at k.words 1 in
    record {
      words = k.words;
      whole = still.whole;
      shows = shows;
      stored = said;
      entry = ap (λ n. chunk_and_stamp (stripe_for m.state.stripes n).state n) (sym key) ∙ l.indexed.linked chunk inside linked ∙ ap (λ n. Some (chunk, n)) stamp;
    }
