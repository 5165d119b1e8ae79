-- Stripes that a hand took and gave back, one after another: of each the value as it was last taken, and as it was last given.
use Rattle.std.proofs.Common.{◌≡◌, ◌≢◌, ℕ, suc, zero, ◌+◌, ◌<◌, ◌≤◌, Some, Result, Ok, Err, OnErr, inl, inr, refl, sym, ap, subst, ◌∙◌, arith, eq-eqb, ne_eqb}
use Rattle.std.proofs.lemmas.Bool.{cases_eq}
use Rattle.std.specs.List.{range_with_len}
use Rattle.mc_stripe.specs.StripeState.{ReadyStripe}
use Rattle.mc_core.specs.declared.event.StripeChange.{StripeChange}
use Rattle.mc_core.specs.declared.event.StripeChange.TheVariants.{Trim}
use Rattle.mc_core.specs.past.Past.{Hold, StripeHold, begin_hold, end_hold, last_of}
use Rattle.mc_words.specs.hand.View.{View}
use Rattle.mc_words.specs.hand.Observers.{last_given, last_taken}
use Rattle.mc_words.specs.lock.Doing.{Doing, HoldsSlabs, HoldsStripe}
use Rattle.mc_words.proofs.Locks.Waited.{misses_keep}
use Rattle.mc_mover.specs.Recording.{Changes, ChangesEach, GivesBackChanged, GivesBackUpToOne, IsAtGreatestCount, Leaves, StopsTrimming, TakesNotFull, TrimsLedger}
use Rattle.mc_mover.proofs.HoldsSlabs.{wait_keeps}

-- the last hold of a stripe's lock
abbrev pub holds_of : View → ℕ → StripeHold
holds_of view stripe = last_of stripe view.row.knows.hold.stripes

-- what is done leaves the last holds
abbrev LeavesHolds : Doing → Type 0
LeavesHolds Does = (found : ReadyStripe) (taken : View) (left : ReadyStripe) (last : View) → Does found taken left last → last.row.knows.hold ≡ taken.row.knows.hold

changes_leave : (how : StripeChange) (number stripe : ℕ) → LeavesHolds (Changes how number stripe)
changes_leave how number stripe found taken left last does = ap (λ (v : View). v.row.knows.hold) does.1

leaves_leave : LeavesHolds Leaves
leaves_leave found taken left last does = ap (λ (v : View). v.row.knows.hold) does.1

-- a hold of a stripe's lock, and what the hand had last of others
module _ (Does : Doing) (leaves : LeavesHolds Does) (stripe : ℕ) (view now : View) (holds : HoldsStripe stripe Does view now) where
  hold_is : now.row.knows.hold ≡ end_hold stripe holds.left (begin_hold stripe holds.found view.row.knows.hold)
  hold_is =
      ap (λ (v : View). v.row.knows.hold) holds.given
      ∙ ap (end_hold stripe holds.left)
      (leaves holds.found holds.taken holds.left holds.last holds.does
      ∙ (ap (λ (v : View). v.row.knows.hold) holds.waits.is
      ∙ ap (begin_hold stripe holds.found) (misses_keep (λ (v : View). v.row.knows.hold) stripe (λ word v. refl) holds.waits.words view holds.waits.before holds.waits.misses)))

  other_stays : (other : ℕ) → other ≢ stripe → holds_of now other ≡ holds_of view other
  other_stays other apart = let no = ne_eqb stripe other (λ same. apart (sym same)) in ap (λ (h : Hold). last_of other h.stripes) hold_is ∙ rw no refl

  own_taken : last_taken now stripe ≡ Some holds.found
  own_taken = let yes = eq-eqb stripe stripe refl in ap (λ (h : Hold). (last_of stripe h.stripes).found) hold_is ∙ rw yes refl

  own_given : last_given now stripe ≡ Some holds.left
  own_given = let yes = eq-eqb stripe stripe refl in ap (λ (h : Hold). (last_of stripe h.stripes).left) hold_is ∙ rw yes refl

-- it is as the last hold says
changed_by : (how : StripeChange) (view now : View) (stripe : ℕ) → holds_of now stripe ≡ holds_of view stripe → GivesBackChanged how view stripe → GivesBackChanged how now stripe
changed_by how view now stripe same (value, taken, given) = (value, ap (λ (h : StripeHold). h.found) same ∙ taken, ap (λ (h : StripeHold). h.left) same ∙ given)

-- of these stripes each was given back changed, and those before them are as they were
each_given : (how : StripeChange) (number from count : ℕ) (view now : View) → ChangesEach how number (range_with_len from count) view now
    → ((other : ℕ) → other < from → holds_of now other ≡ holds_of view other) × ((stripe : ℕ) → from ≤ stripe → stripe < from + count → GivesBackChanged how now stripe)
each_given how number from zero view now is = (λ other before. ap (λ (v : View). holds_of v other) is, λ stripe behind before. absurd (omega (arith, behind, before)))
each_given how number from (suc count) view now (next, one, rest) =
    let Does : Doing = Changes how number from in
    let leaves = changes_leave how number from in
    let later = each_given how number (from + 1) count next now rest in (
      λ other before. later.0 other (omega (arith, before)) ∙ other_stays Does leaves from view next one other (λ same. absurd (omega (arith, before, same))),
      λ stripe behind before. elim (cases_eq stripe from) [
        | inl same ↦ subst (GivesBackChanged how now) (sym same)
            (changed_by how next now from (later.0 from (omega arith)) (
              one.found,
              own_taken Does leaves from view next one,
              own_given Does leaves from view next one ∙ ap Some one.does.0,
            ))
        | inr apart ↦ later.1 stripe (omega (arith, behind, apart)) (omega (arith, before))
      ],
    )

pub all_given : (how : StripeChange) (number count : ℕ) (view now : View) → ChangesEach how number (range_with_len 0 count) view now → (stripe : ℕ) → stripe < count → GivesBackChanged how now stripe
all_given how number count view now each stripe in_range = (each_given how number 0 count view now each).1 stripe (omega arith) (omega (arith, in_range))

-- a hold of the slabs lock leaves that
pub ledger_leaves : (number : ℕ) (view now : View) → HoldsSlabs (TrimsLedger number) view now → (stripe : ℕ) → holds_of now stripe ≡ holds_of view stripe
ledger_leaves number view now holds stripe =
    ap (λ (v : View). holds_of v stripe) holds.given
    ∙ (ap (λ (v : View). holds_of v stripe) holds.does.0.1
    ∙ wait_keeps (λ (v : View). holds_of v stripe) (λ word v. refl) (λ slabs v. refl) view holds.found holds.taken holds.waits)

pub given_behind : (how : StripeChange) (number number' count : ℕ) (view between now : View) → ChangesEach how number (range_with_len 0 count) view between → HoldsSlabs (TrimsLedger number') between now → (stripe : ℕ) → stripe < count → GivesBackChanged how now stripe
given_behind how number number' count view between now each ledger stripe in_range =
    changed_by how between now stripe (ledger_leaves number' between now ledger stripe) (all_given how number count view between each stripe in_range)

-- what holds whatever the result is
pub on_err : {A E P : Type 0} (result : Result A E) → P → OnErr result P
on_err (Ok a) holds = tt
on_err (Err e) holds = holds

-- where one is refused, it was given back as it was taken
pub given_up_to : (number : ℕ) (view now : View) → StopsTrimming number Leaves view now → GivesBackUpToOne now
given_up_to number view now stops =
    let last = stops.stops in (
      stops.stripe,
      λ below in_range. changed_by Trim stops.before now below
          (other_stays Leaves leaves_leave stops.stripe stops.before now last below (λ same. absurd (omega (arith, in_range, same))))
          (all_given Trim number stops.stripe view stops.before stops.trims below in_range),
      (last.found, own_taken Leaves leaves_leave stops.stripe stops.before now last, own_given Leaves leaves_leave stops.stripe stops.before now last ∙ ap Some last.does.0),
    )

-- whatever is done, but for these
abbrev pub OnlyLeaves : Doing
OnlyLeaves found taken left last = last.row.knows.hold ≡ taken.row.knows.hold

-- a stripe that was taken wasn't full
pub taken_unfull : (stripe : ℕ) (view now : View) → (holds : HoldsStripe stripe OnlyLeaves view now) → ¬ IsAtGreatestCount holds.found → TakesNotFull now stripe
taken_unfull stripe view now holds unfull = (holds.found, own_taken OnlyLeaves (λ found taken left last does. does) stripe view now holds, unfull)

-- one stripe more
pub unfull_more : (number stripe : ℕ) (view now : View) → HoldsStripe stripe (Changes Trim number stripe) view now → ((below : ℕ) → below < stripe → TakesNotFull view below) → TakesNotFull now stripe → (below : ℕ) → below < stripe + 1 → TakesNotFull now below
unfull_more number stripe view now holds before own below in_range =
    elim (cases_eq below stripe) [
      | inl same ↦ subst (TakesNotFull now) (sym same) own
      | inr apart ↦
          let (value, taken, unfull) = before below (omega (arith, in_range, apart)) in
          (value, ap (λ (h : StripeHold). h.found) (other_stays (Changes Trim number stripe) (changes_leave Trim number stripe) stripe view now holds below apart) ∙ taken, unfull)
    ]
