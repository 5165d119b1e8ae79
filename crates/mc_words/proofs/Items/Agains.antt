-- References by hints: what the core allows of a hand that saw the item there, and what it has then.
use Rattle.std.proofs.Common.{◌≡◌, ◌≢◌, ℕ, zero, suc, ◌+◌, ◌%◌, ◌/◌, ◌^◌, ◌<◌, ◌≤◌, ◌==◌, ◌&&◌, Bool, true, List, [], ◌∷◌, ◌++◌, length, Some, refl, sym, ap, subst, ◌∙◌, arith, eqb-true, lt-ltb, get_or-set_same, append-nil, Contains, nat_eq}
use Rattle.std.proofs.lemmas.Bool.{and_from, and_parts}
use Rattle.std.proofs.lemmas.List.Elements.{Contains-push}
use Rattle.mc_classes.specs.Limits.{most_refs}
use Rattle.mc_pages.specs.declared.ids.ChunkId.{ChunkId}
use Rattle.mc_core.specs.declared.head.Head.{Head}
use Rattle.mc_core.specs.declared.holding.Holding.{Holding}
use Rattle.mc_core.specs.declared.event.Step.TheVariants as core
use Rattle.mc_core.specs.model.Head.{code, decode, tag_of, is_linked}
use Rattle.mc_core.specs.model.State.{State, has_chunk, head_at, holdings_at, chunk_room, item_at}
use Rattle.mc_core.specs.run.Items.{can_count, has_place_unlocked, new_reference, head_after_refer}
use Rattle.mc_core.specs.model.Codes.{word_plus, FitsBits}
use Rattle.mc_core.specs.past.Past.{Moment, KnownItem, Knowledge, SeenWord, header, known_by, knowledge_at, moment_stepped}
use Rattle.mc_core.proofs.ItemWords.Codes.{all_are_sums, are_one_word}
use Rattle.mc_core.proofs.Index.Entered.{tag_linked}
use Rattle.mc_core.proofs.Frame.SameSlabs.{looked_keeps}
use Rattle.mc_words.specs.hand.View.{View}
use Rattle.mc_words.specs.rule.Layout.{head_word}
use Rattle.mc_words.specs.rule.Happens.{LawfulView, Happens, MayExchange}
use Rattle.mc_words.specs.item.Items.{held_item}
use Rattle.mc_words.specs.item.Refs.{IsRefOf, IsIssueOf}
use Rattle.mc_words.specs.item.Calls.{item_referred}
use Rattle.mc_words.specs.item.Again.{is_there, RefersAgain, FindsOther}
use Rattle.mc_words.specs.item.References.{reference_to}
use Rattle.mc_words.specs.hand.Views.{head_seen, with_event}
use Rattle.mc_words.proofs.Chunks.Heads.{head_is, header_written, near_here}
use Rattle.mc_words.proofs.Hands.Knows.{knows_after}
use Rattle.mc_words.proofs.Locks.LockViews.{may_step, view_from, holdings_were, looks_were, knew, slabs_were, stripes_were}
use Rattle.mc_words.proofs.Pages.Owners.{holdings_here, fits_here, needless, summed}
use Rattle.mc_words.proofs.Pages.OwnerViews.{holding_rows}
use Rattle.mc_words.proofs.Items.References.{is_ref, is_issue, is_item, is_whole, is_known, one_room}

-- what a header's word tells
pub three_linked : (tag : ℕ) → tag < 4 → nat_eq tag 3 ≡ is_linked (tag_of tag)
three_linked zero in_range = refl
three_linked (suc zero) in_range = refl
three_linked (suc (suc zero)) in_range = refl
three_linked (suc (suc (suc zero))) in_range = refl
three_linked (suc (suc (suc (suc tag)))) in_range = absurd (omega arith)

pub word_there : (word issue : ℕ) → is_there issue (decode word) ≡ (nat_eq (word / 65536 % 4) 3 && nat_eq (word / 262144) issue)
unfolding decode
word_there word issue = ap (λ (b : Bool). b && nat_eq (word / 262144) issue) (sym (three_linked (word / 65536 % 4) (omega arith)))

same_last : (xs : List SeenWord) (chunk : ChunkId) (a b : Head) → xs ++ header chunk a ∷ [] ≡ xs ++ header chunk b ∷ [] → a ≡ b
same_last [] chunk a b e = cc
same_last (x ∷ xs) chunk a b e = let rest : xs ++ header chunk a ∷ [] ≡ xs ++ header chunk b ∷ [] = cc in same_last xs chunk a b rest

-- the header that was seen is its word's
pub seen_is : (view now : View) (chunk : ChunkId) (head : Head) (h : Happens view [] (core.Head chunk) now) → now ≡ head_seen chunk head view → head_at h.was.moment.state chunk ≡ head
seen_is view now chunk head h is =
    let m : Moment = h.was.moment in
    let knows = knows_after m h.was.hand (core.Head chunk) refl (may_step h) (looked_keeps (λ s. s.stripes) m.state h.was.hand _ refl) in
    let saws : view.row.knows.seen_words ++ header chunk (head_at m.state chunk) ∷ [] ≡ view.row.knows.seen_words ++ header chunk head ∷ [] =
    sym (ap (λ (k : Knowledge). k.seen_words) knows ∙ ap (λ (k : Knowledge). k.seen_words ++ header chunk (head_at m.state chunk) ∷ []) (knew view view h.was))
    ∙ (ap (λ (v : View). v.row.knows.seen_words) (sym h.is) ∙ ap (λ (v : View). v.row.knows.seen_words) is) in
    same_last view.row.knows.seen_words chunk (head_at m.state chunk) head saws

-- and one more fits into it
small_word : (word : ℕ) → (decode word).issue < 2 ^ 46 → (decode word).count ≤ 16385 → word + 1 < 2 ^ 64
unfolding decode
small_word word issue count = omega arith

pub seen_small : (view now : View) (chunk : ChunkId) (word : ℕ) → has_chunk view.setup.table chunk ≡ true → Happens view [] (core.Head chunk) now → now ≡ head_seen chunk (decode word) view → word + 1 < 2 ^ 64
seen_small view now chunk word in_range h is =
    let same = seen_is view now chunk (decode word) h is in
    let here = near_here view chunk in_range h.was in
    let fit : FitsBits (decode word) = subst FitsBits same (fits_here view h.was chunk in_range) in
    small_word word fit.issue (subst (λ (h : Head). h.count ≤ 16385) same ((needless view h.was).most chunk here))

-- the header is as it was seen
pub may_again : (view : View) (chunk : ChunkId) (issue head : ℕ) → has_chunk view.setup.table chunk ≡ true → length view.row.holdings < most_refs → is_there issue (decode head) ≡ true → head + 1 < 2 ^ 64 → MayExchange view (core.Again chunk issue) (head_word view.setup chunk) head (head + 1)
may_again view chunk issue head in_range within_limit there small was fits hit =
    let s : State = was.moment.state in
    let here = near_here view chunk in_range was in
    let is : head_at s chunk ≡ decode head = head_is view chunk in_range was ∙ ap decode hit in
    let parts = and_parts (is_linked (decode head).tag) ((decode head).issue == issue) there in
    let tag : is_linked (head_at s chunk).tag ≡ true = ap (λ (h : Head). is_linked h.tag) is ∙ parts.0 in
    let same : ((head_at s chunk).issue == issue) ≡ true = ap (λ (h : Head). h.issue == issue) is ∙ parts.1 in
    let place : has_place_unlocked s was.hand ≡ true = lt-ltb (length (holdings_at s was.hand)) most_refs (let e = ap length (holdings_here view was) in omega arith) in
    let all = needless view was in
    let fit : FitsBits (decode head) = subst FitsBits is (fits_here view was chunk in_range) in
    let most : (decode head).count ≤ 16385 = subst (λ (h : Head). h.count ≤ 16385) is (all.most chunk here) in
    let sum : word_plus 1 head ≡ head + 1 = omega arith in
    let more : decode (head + 1) ≡ head_after_refer (head_at s chunk) =
    ap decode (sym sum) ∙ (summed head (omega arith) head_after_refer (word_plus 1) ((all_are_sums (decode head) fit).refer (omega arith)) (record { issue = fit.issue; count = omega arith }) ∙ ap head_after_refer (sym is)) in (
      and_from _ _ (and_from _ _ (and_from _ _ (and_from _ _ here place) tag) same) (all.room chunk here),
      header_written view chunk in_range was (head + 1) (head_after_refer (head_at s chunk)) more,
    )

-- other words are other headers
pub other_header : (a b : ℕ) → a ≢ b → decode a ≢ decode b
other_header a b differs same = differs (sym (are_one_word.again a) ∙ (ap code same ∙ are_one_word.again b))

-- headers of one item that are there differ in their counts
pub other_count : (issue : ℕ) (a b : Head) → is_there issue a ≡ true → is_there issue b ≡ true → a ≢ b → a.count ≢ b.count
other_count issue a b first second differs same =
    let a_is = and_parts (is_linked a.tag) (a.issue == issue) first in
    let b_is = and_parts (is_linked b.tag) (b.issue == issue) second in
    let tag : a.tag ≡ b.tag = tag_linked a.tag a_is.0 ∙ sym (tag_linked b.tag b_is.0) in
    let issues : a.issue ≡ b.issue = eqb-true a.issue issue a_is.1 ∙ sym (eqb-true b.issue issue b_is.1) in
    differs (λ k. record { issue = issues k; tag = tag k; count = same k })

-- the item was seen there, and then another header
pub finds_other : (view seen now : View) (chunk : ChunkId) (issue head found : ℕ) (IsOther : Head → Head → Type 0) → true ≡ is_there issue (decode head) → Happens view [] (core.Head chunk) seen → seen ≡ head_seen chunk (decode head) view → found ≢ head → IsOther (decode head) (decode found) → Happens seen [] (core.Head chunk) now → now ≡ head_seen chunk (decode found) seen
    → FindsOther view chunk issue IsOther now
finds_other view seen now chunk issue head found IsOther there looks seen_as differs other happens is = record {
  head = decode head;
  there = sym there;
  looks = subst (Happens view [] (core.Head chunk)) seen_as looks;
  other = decode found;
  differs = other_header found head differs;
  is_other = other;
  happens = subst (λ (v : View). Happens v [] (core.Head chunk) now) seen_as happens;
  is = is ∙ ap (head_seen chunk (decode found)) seen_as;
}

-- what the hand has then
module _ (view now : View) (chunk : ChunkId) (issue : ℕ) (h : Happens view [] (core.Again chunk issue) now) where
  abbrev m : Moment
  m = h.was.moment

  abbrev id : ℕ
  id = h.was.hand

  abbrev pub again_one : Holding
  again_one = new_reference m.state chunk

  abbrev pub again_room : ℕ
  again_room = chunk_room m.state chunk

  abbrev after : Moment
  after = moment_stepped m id (core.Again chunk issue)

  abbrev told : View
  told = with_event [] (core.Again chunk issue) (item_referred again_one again_room view)

  knows_again : knowledge_at after.past id ≡ told.row.knows
  knows_again =
      knows_after m id (core.Again chunk issue) refl (may_step h) refl
      ∙ (λ k. let knows : Knowledge = knew view view h.was k in record {
        seen_words = append-nil knows.seen_words k;
        hold = knows.hold;
        mine = knows.mine;
        seen = knows.seen;
        stored = append-nil knows.stored k;
        known = knows.known ++ known_by again_room again_one ∷ [];
      })

  pub again_view : now ≡ told
  again_view =
      h.is
      ∙ view_from view h.was _ after refl (view.row.holdings ++ again_one ∷ [])
      (get_or-set_same m.state.holdings id (holdings_at m.state id ++ again_one ∷ []) [] (holding_rows view h.was) ∙ ap (λ (holdings : List Holding). holdings ++ again_one ∷ []) (holdings_were view view h.was))
      view.row.looks (looks_were view view h.was) told.row.knows knows_again view.slabs (slabs_were view view h.was) view.stripes (stripes_were view view h.was)

  issue_is : again_one.issue ≡ issue
  issue_is =
      let allowed = (may_step h).allowed in
      let right = and_parts _ (can_count (head_at m.state chunk)) allowed in
      eqb-true (head_at m.state chunk).issue issue (and_parts _ ((head_at m.state chunk).issue == issue) right.0).1

  module _ (was : LawfulView now) where
    has : Contains now.row.holdings again_one
    has = subst (λ (v : View). Contains v.row.holdings again_one) (sym again_view) (Contains-push view.row.holdings again_one)

    knows : Contains now.row.knows.known (known_by again_room again_one)
    knows = subst (λ (v : View). Contains v.row.knows.known (known_by again_room again_one)) (sym again_view) (Contains-push view.row.knows.known (known_by again_room again_one))

    pub again_ref : IsRefOf now chunk again_room
    again_ref = is_ref now was again_one again_room refl has knows

    pub again_issue : IsIssueOf now chunk issue
    again_issue = is_issue now was again_one again_room refl has knows ∙ ap Some issue_is

    pub again_known : (k : KnownItem) → Contains view.row.knows.known k → k.chunk ≡ chunk → k.issue ≡ issue → held_item now chunk ≡ k.words
    again_known k among same_chunk same_issue =
        is_item now was again_one again_room refl has knows
        ∙ is_known now was again_one again_room refl has knows k
        (subst (λ (v : View). Contains v.row.knows.known k) (sym again_view) (Rattle.std.proofs.lemmas.List.Elements.Contains-append_left view.row.knows.known (known_by again_room again_one ∷ []) k among))
        same_chunk (same_issue ∙ sym issue_is)

    pub refers_again : (found : ℕ) → IsRefOf now chunk found → RefersAgain view chunk issue found now
    refers_again found ref =
        let same : again_room ≡ found = one_room now was chunk again_room found again_ref ref in record {
          item = item_at m.state chunk;
          held = is_item now was again_one again_room refl has knows;
          whole = is_whole now was again_one again_room refl has knows;
          happens = h;
          is = again_view ∙ (λ k. with_event [] (core.Again chunk issue) (item_referred (reference_to chunk (issue_is k) (item_at m.state chunk)) (same k) view));
        }
