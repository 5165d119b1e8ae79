-- What a call leaves so that the next one may come: a ready hand, its number, and each of its references.
use Rattle.std.proofs.Common.{◌≡◌, ◌≤◌, ◌<◌, ℕ, ◌+◌, true, false, List, [], ◌∷◌, ◌++◌, length, is_some, drop, Option, Some, Contains, refl, sym, ap, subst, ◌∙◌, arith}
use Rattle.std.specs.Option.{option_map, option_map_or, option_or}
use Rattle.std.proofs.lemmas.List.{append-nil, length-append}
use Rattle.std.proofs.lemmas.List.Folds.{find-append}
use Rattle.std.proofs.lemmas.List.Elements.{All-contains, Contains-append_left}
use Rattle.mc_classes.specs.Limits.{most_refs}
use Rattle.mc_pages.specs.declared.ids.ChunkId.{ChunkId}
use Rattle.mc_core.specs.declared.holding.Holding.{Holding}
use Rattle.mc_core.specs.declared.holding.Kind.{Kind}
use Rattle.mc_core.specs.declared.holding.Kind.TheVariants.{Fresh, Reference}
use Rattle.mc_core.specs.model.Columns.{Each, count_of_holdings, head_in}
use Rattle.mc_core.specs.model.Holdings.{has_fresh, holding_of, is_fresh, is_fresh_kind, is_of_chunk, item_of, item_of_kind, key_of, length_of_item, without_first, stamp_in_words}
use Rattle.mc_core.specs.law.Knowing.{WasStored}
use Rattle.mc_core.specs.past.Past.{KnownItem, StoredItem, known_by}
use Rattle.mc_core.specs.model.State.{has_chunk}
use Rattle.mc_core.proofs.Known.KnownQuiet.{IsStill}
use Rattle.mc_core.proofs.Hands.MoreRows.{each_contained, row_of}
use Rattle.mc_core.proofs.Seen.SeenLooks.{some_is}
use Rattle.mc_words.specs.declared.arena.Arena.{Arena}
use Rattle.mc_words.specs.declared.hand.Hand.{Hand}
use Rattle.mc_words.specs.hand.View.{View}
use Rattle.mc_words.specs.hand.Arenas.{IsHandOf, view}
use Rattle.mc_words.specs.rule.Happens.{LawfulView}
use Rattle.mc_words.specs.item.Items.{held_item}
use Rattle.mc_words.specs.lock.Out.{is_neither}
use Rattle.mc_words.specs.hand.Ready.{IsReady, StaysReady}
use Rattle.mc_words.specs.item.Refs.{IsRefOf, KeepsHoldings, KeepsRefs, KeepsRemainingRefs}
use Rattle.mc_words.proofs.Pages.Owners.{holdings_here}
use Rattle.mc_words.proofs.Hands.HandNumbers.{number_stays}
use Rattle.mc_words.proofs.Locks.Unlocked.{unlocked_from}
use Rattle.mc_items.specs.declared.refs.Ref.{Ref}
use Rattle.mc_items.specs.ItemRefs.{IsItemRef, item_chunk, item_stamp, item_words}
use Rattle.mc_items.specs.Keeping.{WordsWereStored, HeldRefsKeepItems, HasStoredWords, KeepingGoesOn, KeepingHoldingsGoesOn, KeepsHoldingCounts, KeptRefsKeepItems, ReleasingKeepsOthers, StaysItemRef, holding_by}
use Rattle.mc_words.specs.item.Items.{item_with}
use Rattle.mc_items.proofs.Rows.{chunk_found, found_among, fresh_more, left_among, none_fresh, still_found}

-- a hand with the locks of a ready one
unlocked_still : (before now : Hand) → now.locks ≡ before.locks → IsReady (view before) → Rattle.mc_words.specs.hand.Idle.is_unlocked (view now) ≡ true
unlocked_still before now locks ready = sym (unlocked_from now.seat.me.0 now.locks now.noted.4) ∙ (ap is_neither locks ∙ (unlocked_from before.seat.me.0 before.locks before.noted.4 ∙ ready.unlocked))

-- that holds the same is ready
pub ready_still : (before now : Hand) → now.locks ≡ before.locks → (view now).row.holdings ≡ (view before).row.holdings → IsReady (view before) → IsReady (view now)
ready_still before now locks holdings ready = record {
  unlocked = unlocked_still before now locks ready;
  unfilled = ap has_fresh holdings ∙ ready.unfilled;
  within_limit = subst (λ (hs : List Holding). length hs ≤ most_refs) (sym holdings) ready.within_limit;
}

-- and one that holds one more, where there is room for it
pub ready_more : (before now : Hand) (one : Holding) → now.locks ≡ before.locks → (view now).row.holdings ≡ (view before).row.holdings ++ one ∷ [] → is_fresh one ≡ false → length (view before).row.holdings < most_refs → IsReady (view before) → IsReady (view now)
ready_more before now one locks holdings old within_limit ready = record {
  unlocked = unlocked_still before now locks ready;
  unfilled = ap has_fresh holdings ∙ fresh_more (view before).row.holdings one ready.unfilled old;
  within_limit = let long = length-append (view before).row.holdings (one ∷ []) in let same = ap (λ (hs : List Holding). length hs) holdings in omega arith;
}

-- and one that holds less
pub ready_less : (before now : Hand) → now.locks ≡ before.locks → has_fresh (view now).row.holdings ≡ false → length (view now).row.holdings ≤ length (view before).row.holdings → IsReady (view before) → IsReady (view now)
ready_less before now locks none less ready = record { unlocked = unlocked_still before now locks ready; unfilled = none; within_limit = let within_limit = ready.within_limit in omega arith }

-- a hand of the arena that has the locks and the numbers of a ready one, and holds what that one held, is ready still
pub hand_still : (arena : Arena) (before now : Hand) → IsHandOf arena now → now.locks ≡ before.locks → (view now).row.holdings ≡ (view before).row.holdings → (view now).row.ids ≡ (view before).row.ids → IsReady (view before) → StaysReady arena before now
hand_still arena before now is locks holdings ids ready = record { arena = is; ready = ready_still before now locks holdings ready; locks = locks; number = number_stays before now ids }

-- a hand's number stands in its view
pub number_kept : (before now : Hand) → (view now).row.ids.number ≡ (view before).row.ids.number → now.number ≡ before.number
number_kept before now same = one (sym now.noted.0 ∙ (same ∙ before.noted.0))
  where
    one : {a b : ℕ} → Some a ≡ Some b → a ≡ b
    one e = cc

-- what is held stays, and what is known grows: so each reference stays
pub refs_kept : (view now : View) (more : List KnownItem) → now.row.holdings ≡ view.row.holdings → now.row.knows.known ≡ view.row.knows.known ++ more → KeepsRefs view now
refs_kept view now more same known = record {
  refers = λ chunk room ref. record {
    holding = ref.holding;
    found = ap (holding_of chunk) same ∙ ref.found;
    linked = ref.linked;
    knows = subst (λ (l : List KnownItem). Contains l (known_by room ref.holding)) (sym known) (Contains-append_left view.row.knows.known more (known_by room ref.holding) ref.knows);
  };
  same = λ chunk room ref. ap (holding_of chunk) same;
}

pub refs_stay : (view now : View) → now.row.holdings ≡ view.row.holdings → now.row.knows.known ≡ view.row.knows.known → KeepsRefs view now
refs_stay view now same known = refs_kept view now [] same (known ∙ sym (append-nil view.row.knows.known))

-- and so does each holding
pub holdings_kept : (view now : View) (more : List KnownItem) → now.row.holdings ≡ view.row.holdings → now.row.knows.known ≡ view.row.knows.known ++ more → KeepsHoldings view now
holdings_kept view now more same known = record { same = same; references = refs_kept view now more same known }

pub holdings_stay : (view now : View) → now.row.holdings ≡ view.row.holdings → now.row.knows.known ≡ view.row.knows.known → KeepsHoldings view now
holdings_stay view now same known = record { same = same; references = refs_stay view now same known }

-- what stays is held as often
pub counts_kept : (view now : View) → KeepsHoldings view now → KeepsHoldingCounts view now
counts_kept view now keeps = record { counts = λ chunk. ap (count_of_holdings chunk) keeps.same; references = keeps.references }

-- one more at the end changes none of the others
pub refs_and_more : (view now : View) (one : Holding) (more : List KnownItem) → now.row.holdings ≡ view.row.holdings ++ one ∷ [] → now.row.knows.known ≡ view.row.knows.known ++ more → KeepsRefs view now
refs_and_more view now one more holdings known = record {
  refers = λ chunk room ref. record {
    holding = ref.holding;
    found = found chunk room ref;
    linked = ref.linked;
    knows = subst (λ (l : List KnownItem). Contains l (known_by room ref.holding)) (sym known) (Contains-append_left view.row.knows.known more (known_by room ref.holding) ref.knows);
  };
  same = λ chunk room ref. found chunk room ref ∙ sym ref.found;
}
  where
    found : (chunk : ChunkId) (room : ℕ) (ref : IsRefOf view chunk room) → holding_of chunk now.row.holdings ≡ Some ref.holding
    found chunk room ref = ap (holding_of chunk) holdings ∙ (find-append (is_of_chunk chunk) view.row.holdings (one ∷ []) ∙ ap (λ (o : Option Holding). option_or o (holding_of chunk (one ∷ []))) ref.found)

-- two references to one chunk are one holding
same_kind : (a b : Kind) → is_fresh_kind a ≡ false → is_fresh_kind b ≡ false → item_of_kind a ≡ item_of_kind b → a ≡ b
same_kind (Reference x) (Reference y) old_a old_b same = ap Reference same
same_kind (Fresh purpose words) b old_a old_b same = absurd (cc)
same_kind (Reference x) (Fresh purpose words) old_a old_b same = absurd (cc)

one_holding : (view : View) → LawfulView view → has_fresh view.row.holdings ≡ false → (a b : Holding) → Contains view.row.holdings a → Contains view.row.holdings b → a.chunk ≡ b.chunk → a ≡ b
one_holding view was none a b has_a has_b chunks =
    let m = was.moment in
    let here = λ (x : Holding) (has : Contains view.row.holdings x). subst (λ (l : List Holding). Contains l x) (sym (holdings_here view was)) has in
    let issue_of = λ (k : ChunkId). (head_in m.state.table m.state.heads k).issue in
    let issue_a : a.issue ≡ issue_of a.chunk = each_contained (λ (h : Holding). h.issue ≡ issue_of h.chunk) m.state.holdings was.hand a was.lawful.held.issues (here a has_a) in
    let issue_b : b.issue ≡ issue_of b.chunk = each_contained (λ (h : Holding). h.issue ≡ issue_of h.chunk) m.state.holdings was.hand b was.lawful.held.issues (here b has_b) in
    let issues : a.issue ≡ b.issue = issue_a ∙ (ap issue_of chunks ∙ sym issue_b) in
    let old_a = none_fresh view.row.holdings a none has_a in
    let old_b = none_fresh view.row.holdings b none has_b in
    let known = λ (x : Holding) (has : Contains view.row.holdings x) (old : is_fresh x ≡ false).
    All-contains (λ (h : Holding). is_fresh h ≡ false → (room : ℕ) × Contains (row_of m.past.known was.hand) (known_by room h)) (row_of m.state.holdings was.hand) x (was.lawful.known.own was.hand) (here x has) old in
    let known_a = known a has_a old_a in
    let known_b = known b has_b old_b in
    let words : item_of b ≡ item_of a =
    each_contained (λ (other : KnownItem). other.chunk ≡ a.chunk → other.issue ≡ a.issue → other.words ≡ item_of a) m.past.known was.hand (known_by known_b.0 b)
    (each_contained (λ (k : KnownItem). Each (λ (other : KnownItem). other.chunk ≡ k.chunk → other.issue ≡ k.issue → other.words ≡ k.words) m.past.known) m.past.known was.hand (known_by known_a.0 a) was.lawful.known.one known_a.1)
    known_b.1 (sym chunks) (sym issues) in
    let kinds : a.kind ≡ b.kind = same_kind a.kind b.kind old_a old_b (sym words) in
    λ k. record { chunk = chunks k; issue = issues k; kind = kinds k }

-- a holding given up leaves each reference that is held still
pub refs_less : (view now : View) → LawfulView view → has_fresh view.row.holdings ≡ false → (chunk : ChunkId) → now.row.holdings ≡ without_first (is_of_chunk chunk) view.row.holdings → now.row.knows.known ≡ view.row.knows.known → KeepsRemainingRefs view now
refs_less view now was none lost holdings known = record {
  refers = λ chunk room ref still. record {
    holding = ref.holding;
    found = found chunk room ref still;
    linked = ref.linked;
    knows = subst (λ (l : List KnownItem). Contains l (known_by room ref.holding)) (sym known) ref.knows;
  };
  same = λ chunk room ref still. found chunk room ref still ∙ sym ref.found;
}
  where
    found : (chunk : ChunkId) (room : ℕ) (ref : IsRefOf view chunk room) → is_some (holding_of chunk now.row.holdings) ≡ true → holding_of chunk now.row.holdings ≡ Some ref.holding
    found chunk room ref still =
        let (one, is) = some_is (holding_of chunk now.row.holdings) still in
        let is_left : holding_of chunk (without_first (is_of_chunk lost) view.row.holdings) ≡ Some one = ap (holding_of chunk) (sym holdings) ∙ is in
        let same : one ≡ ref.holding = one_holding view was none one ref.holding (left_among (is_of_chunk chunk) (is_of_chunk lost) view.row.holdings one is_left) (found_among (is_of_chunk chunk) view.row.holdings ref.holding ref.found)
        (chunk_found chunk (without_first (is_of_chunk lost) view.row.holdings) one is_left ∙ sym (chunk_found chunk view.row.holdings ref.holding ref.found)) in
        is ∙ ap Some same

-- one call after another
pub keeping_goes_on : KeepingGoesOn
keeping_goes_on view next now first second = record {
  refers = λ chunk room ref. second.refers chunk room (first.refers chunk room ref);
  same = λ chunk room ref. second.same chunk room (first.refers chunk room ref) ∙ first.same chunk room ref;
}

pub keeping_holdings_goes_on : KeepingHoldingsGoesOn
keeping_holdings_goes_on view next now first second = record {
  same = second.same ∙ first.same;
  references = keeping_goes_on view next now first.references second.references;
}

-- what was got and released leaves what was there before
pub kept_past : (view got now : View) (one : Holding) (chunk : ChunkId) → one.chunk ≡ chunk → KeepsRefs view got → got.row.holdings ≡ view.row.holdings ++ one ∷ [] → KeepsRemainingRefs got now → now.row.holdings ≡ without_first (is_of_chunk chunk) got.row.holdings → KeepsRefs view now
kept_past view got now one lost of more gained less holdings = record {
  refers = λ chunk room ref. less.refers chunk room (more.refers chunk room ref) (still chunk room ref);
  same = λ chunk room ref. less.same chunk room (more.refers chunk room ref) (still chunk room ref) ∙ more.same chunk room ref;
}
  where
    still : (chunk : ChunkId) (room : ℕ) (ref : IsRefOf view chunk room) → is_some (holding_of chunk now.row.holdings) ≡ true
    still chunk room ref = ap (λ (hs : List Holding). is_some (holding_of chunk hs)) (holdings ∙ ap (without_first (is_of_chunk lost)) gained) ∙ still_found chunk lost view.row.holdings one ref.holding of ref.found

pub releasing_keeps_others : ReleasingKeepsOthers
releasing_keeps_others view got next now item keeps gained same less holdings =
    kept_past view next now (holding_by got item) (item_chunk item) refl keeps (same ∙ gained) less holdings

-- items stay as references do
item_stays : (view now : View) (item : Ref) → IsItemRef view item → IsRefOf now (item_chunk item) item.reference.room → holding_of (item_chunk item) now.row.holdings ≡ holding_of (item_chunk item) view.row.holdings → StaysItemRef view now item
item_stays view now item is ref same =
    let words : held_item now (item_chunk item) ≡ held_item view (item_chunk item) = ap (λ (o : Option Holding). option_map_or item_of o []) same in record {
      refers = record {
        reference = ref;
        issue = ap (λ (o : Option Holding). option_map (λ (h : Holding). h.issue) o) same ∙ is.issue;
        key = ap (λ (l : List ℕ). key_of l) words ∙ is.key;
        stamp = ap (λ (l : List ℕ). stamp_in_words l) words ∙ is.stamp;
        len = ap (λ (l : List ℕ). length l) words ∙ is.len;
      };
      words = ap (drop 3) words;
    }

pub kept_refs_keep_items : KeptRefsKeepItems
kept_refs_keep_items view now item keeps is = item_stays view now item is (keeps.refers (item_chunk item) item.reference.room is.reference) (keeps.same (item_chunk item) item.reference.room is.reference)

pub held_refs_keep_items : HeldRefsKeepItems
held_refs_keep_items view now item keeps is still = item_stays view now item is (keeps.refers (item_chunk item) item.reference.room is.reference still) (keeps.same (item_chunk item) item.reference.room is.reference still)

-- what a reference is to, as the hand knows it
module _ (view : View) (was : LawfulView view) (item : Ref) (is : IsItemRef view item) where
  known_item : Contains (row_of was.moment.past.known was.hand) (known_by item.reference.room is.reference.holding)
  known_item = subst (λ (l : List KnownItem). Contains l (known_by item.reference.room is.reference.holding)) (ap (λ (v : View). v.row.knows.known) was.is) is.reference.knows

  item_is : held_item view (item_chunk item) ≡ item_of is.reference.holding
  item_is = ap (λ (o : Option Holding). option_map_or item_of o []) is.reference.found

  still : IsStill was.moment was.lawful (known_by item.reference.room is.reference.holding)
  still = each_contained (IsStill was.moment was.lawful) was.moment.past.known was.hand (known_by item.reference.room is.reference.holding) was.lawful.known.still known_item

  -- its chunk is one of the arena's
  pub item_near : has_chunk view.setup.table (item_chunk item) ≡ true
  item_near = (λ k. has_chunk (sym was.same_table k) (sym (chunk_found (item_chunk item) view.row.holdings is.reference.holding is.reference.found) k)) ∙ still.inside

  -- it is as long as it says
  pub item_whole : length (held_item view (item_chunk item)) ≡ length_of_item (held_item view (item_chunk item))
  item_whole = ap (λ (l : List ℕ). length l) item_is ∙ (still.whole ∙ ap length_of_item (sym item_is))

  -- its words are those that were said with its stamp
  pub item_said : HasStoredWords view item
  item_said = record { by_some = some; own = λ saying has stamp. own saying has stamp }
    where
      some : (other : LawfulView view) → WasStored other.moment.past.stored (item_stamp item) (held_item view (item_chunk item))
      some other =
          let knows = subst (λ (l : List KnownItem). Contains l (known_by item.reference.room is.reference.holding)) (ap (λ (v : View). v.row.knows.known) other.is) is.reference.knows in
          let said = each_contained (λ (k : KnownItem). WasStored other.moment.past.stored (stamp_in_words k.words) k.words) other.moment.past.known other.hand (known_by item.reference.room is.reference.holding) other.lawful.known.said_by_some knows in
          subst (λ (p : ℕ × List ℕ). WasStored other.moment.past.stored p.0 p.1) (λ k. ((ap stamp_in_words (sym item_is) ∙ is.stamp) k, sym item_is k)) said

      own : (saying : StoredItem) → Contains view.row.knows.stored saying → saying.stamp ≡ item_stamp item → saying.words ≡ held_item view (item_chunk item)
      own saying has stamp =
          (Rattle.mc_words.proofs.Hands.Joined.agrees view was).both saying (known_by item.reference.room is.reference.holding) has is.reference.knows (stamp ∙ (sym is.stamp ∙ ap stamp_in_words item_is)) ∙ sym item_is

-- an item is its key, its stamp, how many words it has, and these
item_from : (item : List ℕ) (key stamp len : ℕ) → key_of item ≡ key → stamp_in_words item ≡ stamp → length item ≡ 3 + len → length item ≡ length_of_item item → item ≡ item_with key stamp (drop 3 item)
item_from [] key stamp len keys stamps long whole = absurd (omega arith)
item_from (a ∷ []) key stamp len keys stamps long whole = absurd (omega arith)
item_from (a ∷ b ∷ []) key stamp len keys stamps long whole = absurd (omega arith)
item_from (a ∷ b ∷ d ∷ rest) key stamp len keys stamps long whole =
    let third : d ≡ length rest = omega arith in
    λ k. keys k ∷ stamps k ∷ third k ∷ rest

pub words_said : (view : View) (was : LawfulView view) (item : Ref) (is : IsItemRef view item) → WordsWereStored view (item_stamp item) (item_with item.key item.stamp (item_words view item))
words_said view was item is =
    subst (λ (words : List ℕ). WordsWereStored view (item_stamp item) words) (item_from (held_item view (item_chunk item)) item.key item.stamp item.len is.key is.stamp is.len (item_whole view was item is)) (item_said view was item is)
