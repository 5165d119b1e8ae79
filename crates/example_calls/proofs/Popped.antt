-- The header of the first chunk that was handed out.
use Rattle.std.proofs.Common.{◌≡◌, ℕ, ◌+◌, ◌<◌, ◌≤◌, Bool, true, IfOk, Result, Ok, Err, [], ◌∷◌, Option, Some, None, refl, sym, ap, subst, ◌∙◌, if◌then◌else◌}
use Rattle.std.specs.Option.{option_or}
use Rattle.std.proofs.lemmas.List.Folds.{find-append}
use Rattle.mc_pages.specs.declared.ids.ChunkId.{ChunkId}
use Rattle.mc_pages.specs.ClassState.{first_free}
use Rattle.mc_pages.specs.SlabState.{SlabState, class_at}
use Rattle.mc_pages.proofs.Chunks.{is_chunk-same}
use Rattle.mc_core.specs.declared.event.Step.TheVariants as step
use Rattle.mc_core.specs.declared.head.Head.{Head}
use Rattle.mc_core.specs.declared.head.Tag.TheVariants.{Unlinked}
use Rattle.mc_core.specs.declared.holding.Holding.{Holding}
use Rattle.mc_core.specs.run.Chunks.{most_issue}
use Rattle.mc_core.specs.model.Columns.{head_in, holder_count, link_count}
use Rattle.mc_core.specs.model.Head.{code, decode}
use Rattle.mc_core.specs.model.Holdings.{holding_of, is_fresh, is_of_chunk}
use Rattle.mc_core.specs.model.State.{State, has_chunk, head_at, holdings_at, is_class, room_in}
use Rattle.mc_core.proofs.ItemWords.Codes.{are_one_word}
use Rattle.mc_core.proofs.Counts.Holders.{found_each}
use Rattle.mc_words.specs.rule.Happens.{Happens, LawfulView}
use Rattle.mc_words.specs.page.Owner.{PopsFirst, SeesOther}
use Rattle.mc_words.specs.hand.View.{View}
use Rattle.mc_words.specs.hand.Views.{fresh_holding, head_seen}
use Rattle.mc_words.proofs.Items.Agains.{seen_is}
use Rattle.mc_words.proofs.Chunks.Heads.{near_here}
use Rattle.mc_words.proofs.Chunks.Judging.{not_held}
use Rattle.mc_words.proofs.Pages.Owners.{first_near, holdings_here}
use Rattle.example_calls.specs.Preparing.{first_out, has_prepared}
use Rattle.example_calls.proofs.Alone.{issue_here}

-- the header of a chunk that this hand alone holds, and fills
fresh_header : (view seen : View) (chunk : ChunkId) (issue room word : ℕ) → has_chunk view.setup.table chunk ≡ true → holding_of chunk view.row.holdings ≡ Some (fresh_holding chunk issue room) → Happens view [] (step.Head chunk) seen → seen ≡ head_seen chunk (decode word) view
    → word ≡ code (record { issue = issue; tag = Unlinked; count = 1 })
fresh_header view seen chunk issue room word in_range found h is =
    let s : State = h.was.moment.state in
    let lawful = h.was.lawful in
    let holding : Holding = fresh_holding chunk issue room in
    let here : holding_of chunk (holdings_at s h.was.hand) ≡ Some holding = ap (holding_of chunk) (holdings_here view h.was) ∙ found in
    let issue_is : issue ≡ (head_at s chunk).issue = found_each (λ (o : Holding). o.issue ≡ (head_in s.table s.heads o.chunk).issue) s.holdings h.was.hand (is_of_chunk chunk) holding here lawful.held.issues in
    let alone : ((head_at s chunk).tag ≡ Unlinked) × (holder_count chunk s.holdings ≡ 1) =
    found_each (λ (o : Holding). is_fresh o ≡ true → ((head_in s.table s.heads o.chunk).tag ≡ Unlinked) × (holder_count o.chunk s.holdings ≡ 1)) s.holdings h.was.hand (is_of_chunk chunk) holding here lawful.held.alone refl in
    let count : (head_at s chunk).count ≡ 1 =
    lawful.counted.counted chunk (near_here view chunk in_range h.was) ∙ (λ k. link_count (alone.0 k) + alone.1 k) in
    let head : head_at s chunk ≡ record { issue = issue; tag = Unlinked; count = 1 } = λ k. record { issue = sym issue_is k; tag = alone.0 k; count = count k } in
    sym (are_one_word.again word) ∙ ap code (sym (seen_is view seen chunk (decode word) h is) ∙ head)

-- the first chunk, where the hand only prepared before
module _ (view now : View) (slabs : SlabState) (class : ℕ) (chunk : ChunkId) (was : LawfulView view) (mine : view.slabs ≡ Some slabs) (is : is_class view.setup.table class ≡ true) (one : view.setup.hands ≡ 1) (all : has_prepared view ≡ true) (pops : PopsFirst view slabs class chunk now) where
  in_range : has_chunk view.setup.table chunk ≡ true
  in_range = first_near view was slabs class chunk mine is pops.first

  issue_is : pops.head.issue ≡ view.setup.start
  issue_is =
      ap (λ (h : Head). h.issue) (sym (seen_is view (head_seen chunk pops.head view) chunk pops.head pops.looks refl)) ∙ issue_here view pops.looks.was one all chunk in_range

  -- it isn't used up
  pub start_left : view.setup.start < most_issue
  start_left = subst (λ n. n < most_issue) issue_is pops.unused

  held_now : holding_of chunk now.row.holdings ≡ Some (fresh_holding chunk (pops.head.issue + 1) (room_in view.setup.table class))
  held_now =
      let holding : Holding = fresh_holding chunk (pops.head.issue + 1) (room_in view.setup.table class) in
      ap (λ (v : View). holding_of chunk v.row.holdings) pops.is
      ∙ (find-append (is_of_chunk chunk) view.row.holdings (holding ∷ [])
      ∙ (ap (λ (o : Option Holding). option_or o (holding_of chunk (holding ∷ []))) (not_held view now slabs mine class chunk pops.head is pops.first was in_range) ∙ ap (λ (b : Bool). if b then Some holding else None) (is_chunk-same chunk)))

  -- its header as it is read then
  pub header_is : (seen : View) (word : ℕ) → Happens now [] (step.Head chunk) seen → seen ≡ head_seen chunk (decode word) now → word ≡ code (first_out view.setup.start)
  header_is seen word h seen_so =
      fresh_header now seen chunk (pops.head.issue + 1) (room_in view.setup.table class) word (ap (λ (v : View). has_chunk v.setup.table chunk) pops.is ∙ in_range) held_now h seen_so
      ∙ ap (λ n. code (record { issue = n + 1; tag = Unlinked; count = 1 })) issue_is

-- where the first chunk was found to be used up, it was so from the beginning
pub worn_start : (view now : View) (slabs : SlabState) (class : ℕ) → LawfulView view → view.slabs ≡ Some slabs → is_class view.setup.table class ≡ true → view.setup.hands ≡ 1 → has_prepared view ≡ true
    → SeesOther view (first_free (class_at slabs class)) (λ head. most_issue ≤ head.issue) now → most_issue ≤ view.setup.start
worn_start view now slabs class was mine is one all sees =
    subst (λ n. most_issue ≤ n)
    (ap (λ (h : Head). h.issue) (sym (seen_is view now sees.chunk sees.head sees.happens sees.is)) ∙ issue_here view sees.happens.was one all sees.chunk (first_near view was slabs class sees.chunk mine is sees.is_asked))
    sees.other

-- it is this number, where issue numbers begin with 0
pub first_word : code (first_out 0) ≡ 393217
unfolding code
first_word = refl

pub if_ok : {A E : Type 0} (r : Result A E) (P Q : A → Type 0) → ((a : A) → P a → Q a) → IfOk r P → IfOk r Q
if_ok (Ok a) P Q so is = so a is
if_ok (Err e) P Q so is = is
