-- A word of a fresh chunk is written: counts and holdings stay as the law says.
use Rattle.std.proofs.Common.{◌≡◌, ℕ, zero, suc, ◌+◌, ◌<◌, ◌≤◌, true, List, [], ◌∷◌, length, set, Some, None, refl, sym, ap, ◌∙◌, arith, subst, nat_lt, All, slice_get, slice_set, slice_index, slice_index_or, inl, inr, ltb-true, length-set, get_or-set_same, get_or-set_other}
use Rattle.std.proofs.lemmas.Bool.{and_parts, cases_eq, both_ways}
use Rattle.std.proofs.lemmas.Option.{slice_get_within}
use Rattle.std.proofs.lemmas.List.Elements.{All-from_get_or}
use Rattle.mc_pages.specs.declared.ids.ChunkId.{ChunkId}
use Rattle.mc_pages.specs.SlabState.{class_of_page}
use Rattle.mc_pages.proofs.Chunks.{same_from_is_chunk}
use Rattle.mc_core.specs.declared.holding.Holding.{Holding}
use Rattle.mc_core.specs.declared.holding.Kind.{Kind}
use Rattle.mc_core.specs.declared.holding.Kind.TheVariants.{Reference, Fresh}
use Rattle.mc_core.specs.model.Holdings.{is_of_chunk, is_fresh, holding_of, holding_words, is_fresh_kind, words_of_kind}
use Rattle.mc_core.specs.model.State.{has_chunk, room_in, is_hand, holdings_at}
use Rattle.mc_core.specs.run.Chunks.{can_fill_in, can_fill, holding_with_word, after_fill, filled_kind}
use Rattle.mc_core.specs.model.Columns.{head_in, place_in, Each, count_of_holdings, holder_count, link_count, Shows}
use Rattle.mc_core.specs.law.Counts.{AreCounted, AreHeld}
use Rattle.mc_core.specs.past.Past.{Moment}
use Rattle.mc_core.specs.law.Lawful.{IsLawful}
use Rattle.mc_core.proofs.Steps.Base.{IsPlaced, placed_at, same_word, word_within, IsOut, held_out}
use Rattle.mc_core.proofs.Counts.Holders.{found_each, found_passes, hand_within, fresh_lost, fresh_once, holds-le-holders, nobodys}
use Rattle.mc_core.proofs.Counts.Rows.{rows_less, each_less}
use Rattle.mc_core.proofs.Counts.Changed.{rows_changed, holders_changed, most_changed, each_changed_once}
use Rattle.mc_core.proofs.Counts.Turns.{IsSo, each_so, held_from_so}
use Rattle.mc_core.proofs.Counts.Tallied.{IsTallied}

-- an entry of a list after a write
get_set_same : {X : Type 0} (xs : List X) (place : ℕ) (x y : X) → slice_get (set xs place x) place ≡ Some y → x ≡ y
get_set_same [] place x y at = absurd (cc)
get_set_same (first ∷ xs) zero x y at = cc
get_set_same (first ∷ xs) (suc place) x y at = get_set_same xs place x y at

get_set_other : {X : Type 0} (xs : List X) (place other : ℕ) (x y : X) → (other ≡ place → ⊥) → slice_get (set xs place x) other ≡ Some y → slice_get xs other ≡ Some y
get_set_other [] place other x y apart at = at
get_set_other (first ∷ xs) zero zero x y apart at = absurd (apart refl)
get_set_other (first ∷ xs) zero (suc other) x y apart at = at
get_set_other (first ∷ xs) (suc place) zero x y apart at = at
get_set_other (first ∷ xs) (suc place) (suc other) x y apart at = get_set_other xs place other x y (λ same. apart (ap suc same)) at

-- a fill writes a word of a fresh chunk, which stays fresh
pub filled_words : (place word : ℕ) (kind : Kind) → is_fresh_kind kind ≡ true → words_of_kind (filled_kind place word kind) ≡ slice_set (words_of_kind kind) place (Some word)
filled_words place word (Reference own) fresh = absurd (cc)
filled_words place word (Fresh purpose own) fresh = refl

pub filled_fresh : (place word : ℕ) (kind : Kind) → is_fresh_kind (filled_kind place word kind) ≡ is_fresh_kind kind
filled_fresh place word (Reference own) = refl
filled_fresh place word (Fresh purpose own) = refl

module _ (m : Moment) (l : IsLawful m) where
  -- each holding's chunk is handed out, and so has a place
  pub out_each : Each (IsOut m l) m.state.holdings
  out_each = All-from_get_or (All (IsOut m l)) m.state.holdings [] (λ hand inside. held_out m l hand)

  pub placed_of : (holding : Holding) → IsOut m l holding → IsPlaced m.state.slabs holding.chunk
  placed_of holding out = (placed_at m l holding.chunk holding.issue out.0 out.1).0

  -- the words of another chunk stay
  pub word_kept : (chunk other : ChunkId) (place at word : ℕ) → IsPlaced m.state.slabs chunk → IsPlaced m.state.slabs other → place < room_in m.state.table (class_of_page m.state.slabs chunk.page) →
      at < room_in m.state.table (class_of_page m.state.slabs other.page) → (other ≡ chunk → ⊥) →
      slice_index (slice_set m.state.words (place_in m.state.table m.state.slabs chunk place) word) (place_in m.state.table m.state.slabs other at) ≡ slice_index m.state.words (place_in m.state.table m.state.slabs other at)
  word_kept chunk other place at word is is' within within' apart =
      get_or-set_other m.state.words (place_in m.state.table m.state.slabs chunk place) (place_in m.state.table m.state.slabs other at) word 0
      (λ same. apart (same_word m l other chunk at place is' is within' within same).0)

  -- so do all words of the chunk but that one
  pub word_same_chunk : (chunk : ChunkId) (place at word : ℕ) → IsPlaced m.state.slabs chunk → place < room_in m.state.table (class_of_page m.state.slabs chunk.page) →
      at < room_in m.state.table (class_of_page m.state.slabs chunk.page) → (at ≡ place → ⊥) →
      slice_index (slice_set m.state.words (place_in m.state.table m.state.slabs chunk place) word) (place_in m.state.table m.state.slabs chunk at) ≡ slice_index m.state.words (place_in m.state.table m.state.slabs chunk at)
  word_same_chunk chunk place at word is within within' apart =
      get_or-set_other m.state.words (place_in m.state.table m.state.slabs chunk place) (place_in m.state.table m.state.slabs chunk at) word 0
      (λ same. apart (same_word m l chunk chunk at place is is within' within same).1)

  pub word_written : (chunk : ChunkId) (place word : ℕ) → has_chunk m.state.table chunk ≡ true → IsPlaced m.state.slabs chunk → place < room_in m.state.table (class_of_page m.state.slabs chunk.page) →
      slice_index (slice_set m.state.words (place_in m.state.table m.state.slabs chunk place) word) (place_in m.state.table m.state.slabs chunk place) ≡ word
  word_written chunk place word in_range is within = get_or-set_same m.state.words (place_in m.state.table m.state.slabs chunk place) word 0 (word_within m l chunk place in_range is within)

  module _ (hand : ℕ) (there : is_hand m.state hand ≡ true) (chunk : ChunkId) (place word : ℕ) (holding : Holding) (found : holding_of chunk (holdings_at m.state hand) ≡ Some holding)
      (fresh : is_fresh holding ≡ true) (inside : place < length (holding_words holding)) where
    abbrev rows : List (List Holding)
    rows = m.state.holdings

    abbrev left : List (List Holding)
    left = rows_less rows hand (is_of_chunk chunk)

    abbrev now : List (List Holding)
    now = rows_changed rows hand (is_of_chunk chunk) (holding_with_word place word)

    abbrev words' : List ℕ
    words' = slice_set m.state.words (place_in m.state.table m.state.slabs holding.chunk place) word

    within : hand < length rows
    within = hand_within m l hand there

    pub filled_is : holding.chunk ≡ chunk
    filled_is = same_from_is_chunk holding.chunk chunk (found_passes (is_of_chunk chunk) (holdings_at m.state hand) holding found)

    so : IsSo m.state.table m.state.slabs m.state.heads m.state.words rows holding
    so = found_each (IsSo m.state.table m.state.slabs m.state.heads m.state.words rows) rows hand (is_of_chunk chunk) holding found (each_so m.state.table m.state.slabs m.state.heads m.state.words rows l.held)

    -- each chunk is held as often as before, and this one by nobody else
    same : (other : ChunkId) → holder_count other now ≡ holder_count other rows
    same = holders_changed (is_of_chunk chunk) (holding_with_word place word) rows hand within (λ h. refl)

    pub left_none : holder_count holding.chunk left ≡ 0
    left_none = fresh_lost m l hand there (is_of_chunk chunk) holding found fresh

    placed : IsPlaced m.state.slabs holding.chunk
    placed = placed_of holding (found_each (IsOut m l) rows hand (is_of_chunk chunk) holding found out_each)

    roomy : place < room_in m.state.table (class_of_page m.state.slabs holding.chunk.page)
    roomy = let room = so.shows.fits in omega arith

    counted : AreCounted m.state.table m.state.heads now
    counted = record {
      counted = λ other in_range. l.counted.counted other in_range ∙ ap (λ n. link_count (head_in m.state.table m.state.heads other).tag + n) (sym (same other));
      shut = l.counted.shut;
      issued = l.counted.issued;
    }

    -- a holding of another chunk
    other_so : (other : Holding) → (other.chunk ≡ holding.chunk → ⊥) → IsOut m l other → IsSo m.state.table m.state.slabs m.state.heads m.state.words rows other → IsSo m.state.table m.state.slabs m.state.heads words' now other
    other_so other apart out before = record {
      inside = before.inside;
      issue = before.issue;
      shows = record {
        fits = before.shows.fits;
        known_words = λ at known is.
            let on = slice_get_within (holding_words other) at (Some known) is in
            let fits = before.shows.fits in
            word_kept holding.chunk other.chunk place at word placed (placed_of other out) roomy (omega arith) apart ∙ before.shows.known_words at known is;
      };
      sized = before.sized;
      alone = λ alone. let both = before.alone alone in (both.0, same other.chunk ∙ both.1);
    }

    -- the holding with the word
    filled_so : IsSo m.state.table m.state.slabs m.state.heads words' now (holding_with_word place word holding)
    filled_so = record {
      inside = so.inside;
      issue = so.issue;
      shows = subst (Shows m.state.table m.state.slabs words' holding.chunk) (sym (filled_words place word holding.kind fresh)) (record {
        fits = let long = length-set (holding_words holding) place (Some word) in let fits = so.shows.fits in omega arith;
        known_words = λ at known is. elim (cases_eq at place) [
          | inl here ↦
              let last : Some word ≡ Some known = get_set_same (holding_words holding) place (Some word) (Some known) (subst (λ n. slice_get (set (holding_words holding) place (Some word)) n ≡ Some (Some known)) here is) in
              let value : word ≡ known = cc in
              ap (λ n. slice_index words' (place_in m.state.table m.state.slabs holding.chunk n)) here ∙ (word_written holding.chunk place word so.inside placed roomy ∙ value)
          | inr apart ↦
              let before = get_set_other (holding_words holding) place at (Some word) (Some known) apart is in
              let on = slice_get_within (holding_words holding) at (Some known) before in
              let fits = so.shows.fits in
              word_same_chunk holding.chunk place at word placed roomy (omega arith) apart ∙ so.shows.known_words at known before
        ];
      });
      sized = (
        (λ is. ap length (filled_words place word holding.kind fresh) ∙ length-set (holding_words holding) place (Some word) ∙ so.sized.0 fresh),
        λ stale. absurd (both_ways (is_fresh holding) (sym (filled_fresh place word holding.kind) ∙ stale) fresh),
      );
      alone = λ is. let both = so.alone fresh in (both.0, same holding.chunk ∙ both.1);
    }

    pub filled_tallied : AreCounted m.state.table m.state.heads now × AreHeld m.state.table m.state.slabs m.state.heads words' now
    filled_tallied =
        let others = each_less rows hand (IsSo m.state.table m.state.slabs m.state.heads m.state.words rows) (is_of_chunk chunk) (each_so m.state.table m.state.slabs m.state.heads m.state.words rows l.held) in
        let outs = each_less rows hand (IsOut m l) (is_of_chunk chunk) out_each in
        let apart = nobodys holding.chunk left left_none in
        let once = fresh_once m l hand (is_of_chunk chunk) holding found fresh in
        let within_limit = holds-le-holders holding.chunk rows hand in
        let alone : count_of_holdings chunk (holdings_at m.state hand) ≤ 1 = subst (λ c. count_of_holdings c (holdings_at m.state hand) ≤ 1) filled_is (omega arith) in (
          counted,
          held_from_so m.state.table m.state.slabs m.state.heads words' now
              (each_changed_once rows hand chunk (holding_with_word place word) (IsSo m.state.table m.state.slabs m.state.heads words' now) holding found alone within
              (λ i row inside j other on.
              other_so (slice_index_or (slice_index_or left i row) j other) (apart i row inside j other on) (outs i row inside j other on) (others i row inside j other on)) filled_so)
              (most_changed (is_of_chunk chunk) (holding_with_word place word) rows hand within l.held.most),
        )

    pub after_fill_tallied : IsTallied (after_fill m.state hand chunk place word)
    after_fill_tallied =
        subst (λ c. AreCounted m.state.table m.state.heads now × AreHeld m.state.table m.state.slabs m.state.heads (slice_set m.state.words (place_in m.state.table m.state.slabs c place) word) now) filled_is filled_tallied

  pub fill_tallied : (hand : ℕ) → is_hand m.state hand ≡ true → (chunk : ChunkId) (place word : ℕ) → can_fill m.state hand chunk place ≡ true → IsTallied (after_fill m.state hand chunk place word)
  fill_tallied hand there chunk place word can =
      elim (holding_of chunk (holdings_at m.state hand)) as (λ o. holding_of chunk (holdings_at m.state hand) ≡ o → can_fill_in place o ≡ true →
      IsTallied (after_fill m.state hand chunk place word)) [
        | None ↦ λ _ never. absurd (cc)
        | Some holding ↦ λ found may.
            let both = and_parts (is_fresh holding) (nat_lt place (length (holding_words holding))) may in
            after_fill_tallied hand there chunk place word holding found both.0 (ltb-true place (length (holding_words holding)) both.1)
      ] refl can
