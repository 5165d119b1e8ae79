-- A hand's own calls: with more of them, each on the stripe of its key, there are so many more of each kind.
use Rattle.std.proofs.Common.{◌≡◌, ℕ, ◌+◌, ◌%◌, ◌<◌, ◌≤◌, ◌==◌, Bool, true, false, List, [], ◌∷◌, ◌++◌, length, map, filter, Some, refl, sym, ap, subst, ◌∙◌, inl, inr, arith, count_by, slice_index_or, slice_set, All, if◌then◌else◌}
use Rattle.std.specs.List.{sum_by}
use Rattle.std.proofs.Math.Nat.{add-zero, mod-lt}
use Rattle.std.proofs.lemmas.Bool.{cases_Bool}
use Rattle.std.proofs.lemmas.List.{length-map, length-set}
use Rattle.std.proofs.lemmas.List.Elements.{All-head, All-map, All-tail, All-weaker}
use Rattle.std.proofs.lemmas.List.Sums.{sum_by-append, sum_by-cons, sum_by-set}
use Rattle.mc_pages.specs.Accounted.{truth}
use Rattle.mc_stripe.specs.declared.history.Call.{Call}
use Rattle.mc_stripe.specs.declared.history.Call.TheVariants.{Set, Get, Delete, Evict, Rescue}
use Rattle.mc_stripe.specs.StripeState.{ReadyStripe}
use Rattle.mc_core.specs.law.Histories.{hand_of}
use Rattle.mc_core.specs.law.Identities.{count_in_hand}
use Rattle.mc_core.specs.past.Past.{Own, with_more}
use Rattle.mc_core.proofs.Steps.Base.{each_row}
use Rattle.mc_words.specs.hand.View.{View}
use Rattle.mc_words.specs.item.Calls.{with_own_call}
use Rattle.mc_words.specs.rule.Happens.{LawfulView}
use Rattle.mc_mover.specs.Telling.{IsSaving, CallsAreCounted, called_key, count_of_calls, is_eviction, is_other, is_rescue, with_own_calls}

-- one more
module _ (number stripe : ℕ) (call : Call) where
  abbrev after : Own → Own
  after own = with_own_call number stripe call own

  same_number : (own : Own) → (after own).number ≡ own.number
  same_number own = by (own.number == number)
    where
      by : (b : Bool) → (if b then record own { calls = with_more own.calls stripe (call ∷ []) } else own).number ≡ own.number
      by true = refl
      by false = refl

  same_length : (own : Own) → length (after own).calls ≡ length own.calls
  same_length own = by (own.number == number)
    where
      by : (b : Bool) → length (if b then record own { calls = with_more own.calls stripe (call ∷ []) } else own).calls ≡ length own.calls
      by true = length-set own.calls stripe (slice_index_or own.calls stripe [] ++ call ∷ [])
      by false = refl

  -- as often as before
  owns_after : (mine : List Own) → count_in_hand number (map after mine) ≡ count_in_hand number mine
  owns_after [] = refl
  owns_after (own ∷ mine) =
      sum_by-cons (λ (o : Own). truth (o.number == number)) (after own) (map after mine)
      ∙ ((λ k. truth (same_number own k == number) + owns_after mine k) ∙ sym (sum_by-cons (λ (o : Own). truth (o.number == number)) own mine))

  module _ (is : Call → Bool) where
    abbrev count_of : Own → ℕ
    count_of own = sum_by (count_by is) own.calls

    abbrev total : List Own → ℕ
    total mine = sum_by count_of mine

    own_more : (own : Own) → stripe < length own.calls → (own.number == number) ≡ true → count_of (after own) ≡ count_of own + count_by is (call ∷ [])
    own_more own within same =
        let old : List Call = slice_index_or own.calls stripe [] in
        let write : sum_by (count_by is) (slice_set own.calls stripe (old ++ call ∷ [])) + count_by is old ≡ sum_by (count_by is) own.calls + count_by is (old ++ call ∷ []) =
        sum_by-set (count_by is) own.calls stripe (old ++ call ∷ []) [] within in
        let more : count_by is (old ++ call ∷ []) ≡ count_by is old + count_by is (call ∷ []) = sum_by-append (λ (c : Call). truth (is c)) old (call ∷ []) in
        ap (λ (b : Bool). count_of (if b then record own { calls = with_more own.calls stripe (call ∷ []) } else own)) same ∙ omega (arith, write, more)

    own_same : (own : Own) → (own.number == number) ≡ false → after own ≡ own
    own_same own other = ap (λ (b : Bool). if b then record own { calls = with_more own.calls stripe (call ∷ []) } else own) other

    owns_cons : (own : Own) (mine : List Own) → count_in_hand number (own ∷ mine) ≡ truth (own.number == number) + count_in_hand number mine
    owns_cons own mine = sum_by-cons (λ (o : Own). truth (o.number == number)) own mine

    none_after : (mine : List Own) → count_in_hand number mine ≡ 0 → total (map after mine) ≡ total mine
    none_after [] none = refl
    none_after (own ∷ mine) none =
        let split = owns_cons own mine in
        elim (cases_Bool (own.number == number)) [
          | inl same ↦ absurd (let one : truth (own.number == number) ≡ 1 = ap truth same in omega (arith, split, none, one))
          | inr other ↦
              let rest : total (map after mine) ≡ total mine = none_after mine (omega (arith, split, none)) in
              sum_by-cons count_of (after own) (map after mine) ∙ ((λ k. count_of (own_same own other k) + rest k) ∙ sym (sum_by-cons count_of own mine))
        ]

    -- one call more, where the number is one's own
    one_after : (mine : List Own) → count_in_hand number mine ≡ 1 → All (λ (own : Own). stripe < length own.calls) mine → total (map after mine) ≡ total mine + count_by is (call ∷ [])
    one_after [] one within = absurd (let none : count_in_hand number [] ≡ 0 = refl in omega (arith, one, none))
    one_after (own ∷ mine) one within =
        let split = owns_cons own mine in
        let now : total (map after (own ∷ mine)) ≡ count_of (after own) + total (map after mine) = sum_by-cons count_of (after own) (map after mine) in
        let before : total (own ∷ mine) ≡ count_of own + total mine = sum_by-cons count_of own mine in
        elim (cases_Bool (own.number == number)) [
          | inl same ↦
              let here : truth (own.number == number) ≡ 1 = ap truth same in
              let rest : total (map after mine) ≡ total mine = none_after mine (omega (arith, split, one, here)) in
              let first = own_more own (All-head (λ (o : Own). stripe < length o.calls) own mine within) same in
              omega (arith, now, before, rest, first)
          | inr other ↦
              let here : truth (own.number == number) ≡ 0 = ap truth other in
              let rest : total (map after mine) ≡ total mine + count_by is (call ∷ []) = one_after mine (omega (arith, split, one, here)) (All-tail (λ (o : Own). stripe < length o.calls) own mine within) in
              let first : count_of (after own) ≡ count_of own = ap count_of (own_same own other) in
              omega (arith, now, before, rest, first)
        ]

-- and with these
calls_after : (number stripes : ℕ) (is : Call → Bool) (calls : List Call) (mine : List Own) → 1 ≤ stripes → count_in_hand number mine ≡ 1 → All (λ (own : Own). length own.calls ≡ stripes) mine
    → sum_by (λ (own : Own). sum_by (count_by is) own.calls) (with_own_calls number stripes calls mine) ≡ sum_by (λ (own : Own). sum_by (count_by is) own.calls) mine + count_by is calls
calls_after number stripes is [] mine some one long = omega arith
calls_after number stripes is (call ∷ calls) mine some one long =
    let stripe : ℕ = called_key call % stripes in
    let within : stripe < stripes = mod-lt (called_key call) some in
    let next : List Own = map (with_own_call number stripe call) mine in
    let first = one_after number stripe call is mine one (All-weaker (λ (own : Own). length own.calls ≡ stripes) (λ (own : Own). stripe < length own.calls) (λ own same. omega (arith, within, same)) mine long) in
    let long_next = All-map (λ (own : Own). length own.calls ≡ stripes) (with_own_call number stripe call) mine
    (All-weaker (λ (own : Own). length own.calls ≡ stripes) (λ (own : Own). length (with_own_call number stripe call own).calls ≡ stripes) (λ own same. same_length number stripe call own ∙ same) mine long) in
    let rest = calls_after number stripes is calls next some (owns_after number stripe call mine ∙ one) long_next in
    let all : count_by is (call ∷ calls) ≡ count_by is (call ∷ []) + count_by is calls = sum_by-append (λ (c : Call). truth (is c)) (call ∷ []) calls in
    omega (arith, first, rest, all)

-- what a hand knows has its number once, and a list for each stripe
pub calls_more : (view now : View) → LawfulView view → (number : ℕ) → view.row.ids.number ≡ Some number → (calls : List Call) → now.row.knows.mine ≡ with_own_calls number view.setup.config.stripes calls view.row.knows.mine
    → (is : Call → Bool) → count_of_calls is now ≡ count_of_calls is view + count_by is calls
calls_more view now was number own calls come is =
    let m = was.moment in
    let mine : view.row.knows.mine ≡ slice_index_or m.past.mine was.hand [] = ap (λ (v : View). v.row.knows.mine) was.is in
    let one : count_in_hand number view.row.knows.mine ≡ 1 =
    ap (count_in_hand number) mine ∙ was.lawful.numbered.own was.hand number (sym (ap (λ (v : View). v.row.ids.number) was.is) ∙ own) in
    let rows = each_row (λ (own : Own). own.calls ≡ map (λ (value : ReadyStripe). filter (λ call. hand_of call == own.number) value.state.history) m.state.stripes) m.past.mine was.hand was.lawful.told.own_calls in
    let long : All (λ (own : Own). length own.calls ≡ view.setup.config.stripes) view.row.knows.mine =
    subst (λ (l : List Own). All (λ (own : Own). length own.calls ≡ view.setup.config.stripes) l) (sym mine)
    (All-weaker (λ (own : Own). own.calls ≡ map (λ (value : ReadyStripe). filter (λ call. hand_of call == own.number) value.state.history) m.state.stripes) (λ (own : Own). length own.calls ≡ view.setup.config.stripes)
    (λ own is. ap (λ (l : List (List Call)). length l) is ∙ (length-map m.state.stripes (λ (value : ReadyStripe). filter (λ call. hand_of call == own.number) value.state.history) ∙ was.stripes)) (slice_index_or m.past.mine was.hand []) rows) in
    let some : 1 ≤ view.setup.config.stripes = subst (λ n. 1 ≤ n) was.stripes was.lawful.legal.some in
    ap (λ (l : List Own). sum_by (λ (own : Own). sum_by (count_by is) own.calls) l) come ∙ calls_after number view.setup.config.stripes is calls view.row.knows.mine some one long

-- what saves items is nothing else
saving_alone : (number : ℕ) (call : Call) → IsSaving number call → is_other call ≡ false
saving_alone number (Evict hand key) saving = refl
saving_alone number (Rescue hand key) saving = refl
saving_alone number (Set hand key stamp) saving = absurd saving
saving_alone number (Get hand key found) saving = absurd saving
saving_alone number (Delete hand key was_there) saving = absurd saving

no_others : (number : ℕ) (calls : List Call) → All (IsSaving number) calls → count_by is_other calls ≡ 0
no_others number [] own = refl
no_others number (call ∷ calls) own =
    let split : count_by is_other (call ∷ calls) ≡ truth (is_other call) + count_by is_other calls = sum_by-cons (λ (c : Call). truth (is_other c)) call calls in
    let here : truth (is_other call) ≡ 0 = ap truth (saving_alone number call (All-head (IsSaving number) call calls own)) in
    let rest : count_by is_other calls ≡ 0 = no_others number calls (All-tail (IsSaving number) call calls own) in
    omega (arith, split, here, rest)

-- so a hand's calls grow by what is counted
pub tellings_counted : CallsAreCounted
tellings_counted number counts view now tells = (
  tells.more is_eviction ∙ ap (λ n. count_of_calls is_eviction view + n) tells.evicted,
  tells.more is_rescue ∙ ap (λ n. count_of_calls is_rescue view + n) tells.rescued,
  tells.more is_other ∙ (ap (λ n. count_of_calls is_other view + n) (no_others number tells.calls tells.own) ∙ add-zero (count_of_calls is_other view)),
)
