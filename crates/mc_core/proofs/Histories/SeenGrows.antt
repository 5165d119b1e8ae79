-- What a hand saw of a history is never shortened.
use Rattle.std.proofs.Common.{◌≡◌, ◌≢◌, ◌⊎◌, ℕ, zero, suc, ◌<◌, ◌≤◌, false, cond, List, [], ◌∷◌, ◌++◌, length, Some, refl, sym, ap, ◌∙◌, subst, nat_le, slice_set, slice_get, slice_index_or, inl, inr, arith, leb-true, le-leb, ap₂, drop, length-set, get_or-set_same}
use Rattle.std.proofs.lemmas.Bool.{cases_eq, cases_lt, cases_Bool, false≢true}
use Rattle.std.proofs.lemmas.Option.{slice_get-get_or}
use Rattle.std.proofs.lemmas.List.{append-nil}
use Rattle.mc_stripe.specs.declared.history.Call.{Call}
use Rattle.mc_stripe.specs.StripeState.{new_stripe}
use Rattle.mc_core.specs.declared.event.Change.{Change}
use Rattle.mc_core.specs.declared.event.Step.{Step}
use Rattle.mc_core.specs.declared.event.Step.TheVariants as step
use Rattle.mc_core.specs.past.Past.{Past, Moment, history_at, seen_after, longer_each, moment_changed, moment_changes, moment_stepped}
use Rattle.mc_core.specs.run.Run.{after_step}
use Rattle.mc_core.specs.law.Histories.{IsBeginning}
use Rattle.mc_core.specs.law.Lawful.{IsLawful}
use Rattle.mc_core.specs.law.Laws.{MayStep}
use Rattle.mc_core.specs.law.Follows.{SeenGrows}
use Rattle.mc_core.proofs.Law.LawKept.{may_step}
use Rattle.mc_core.proofs.Steps.Lists.{there}
use Rattle.mc_core.proofs.Known.Learned.{learned_is}
use Rattle.mc_core.proofs.Hands.MoreRows.{row_of, row_same, row_other}
use Rattle.mc_core.proofs.Hands.NumberedSteps.{hand_within, join_facts}
use Rattle.mc_core.proofs.Hands.RowsKept.{by_join}
use Rattle.mc_core.proofs.Histories.SeenRows.{seen_or, change_long}
use Rattle.mc_core.proofs.Histories.ToldSteps.{begun_row}

-- of two beginnings of one list the shorter begins the longer
begins_two : (a b p q : List Call) → a ++ p ≡ b ++ q → length a ≤ length b → IsBeginning a b
begins_two [] b p q e short = (b, refl)
begins_two (x ∷ a) [] p q e short = absurd (omega (arith, short))
begins_two (x ∷ a) (y ∷ b) p q e short =
    let first : x ≡ y = cc in
    let rest = begins_two a b p q (ap (drop 1) e) (omega (arith, short)) in
    (rest.0, ap₂ (λ (c : Call) (cs : List Call). c ∷ cs) (sym first) rest.1)

shorter_begins : (a b whole : List Call) → IsBeginning a whole → IsBeginning b whole → length a ≤ length b → IsBeginning a b
shorter_begins a b whole p q short = begins_two a b p.0 q.0 (sym p.1 ∙ q.1) short

-- a beginning of itself
begins_itself : (calls : List Call) → IsBeginning calls calls
begins_itself calls = ([], sym (append-nil calls))

-- what stands in either row stands in the longer of both, or something longer does
longer_first : (xs ys : List (List Call)) (stripe : ℕ) (calls : List Call) → slice_get xs stripe ≡ Some calls →
    (now : List Call) × (slice_get (longer_each xs ys) stripe ≡ Some now) × ((now ≡ calls) ⊎ ((slice_get ys stripe ≡ Some now) × (length calls ≤ length now)))
longer_first [] ys stripe calls is = absurd (cc)
longer_first (x ∷ xs) [] stripe calls is = (calls, is, inl refl)
longer_first (x ∷ xs) (y ∷ ys) zero calls is =
    let same : x ≡ calls = cc in
    elim (cases_Bool (nat_le (length y) (length x))) [
      | inl more ↦ (x, ap (λ b. Some (cond b x y)) more, inl same)
      | inr less ↦ (y, ap (λ b. Some (cond b x y)) less, inr (refl, over (length y) (length x) (length calls) less (ap length same)))
    ]
  where
    over : (a b c : ℕ) → nat_le a b ≡ false → b ≡ c → c ≤ a
    over a b c not_le same = elim (cases_lt b a) [ inl below ↦ omega arith | inr above ↦ absurd (false≢true (sym not_le ∙ le-leb a b above)) ]
longer_first (x ∷ xs) (y ∷ ys) (suc stripe) calls is = longer_first xs ys stripe calls is

longer_second : (xs ys : List (List Call)) (stripe : ℕ) (calls : List Call) → slice_get ys stripe ≡ Some calls →
    (now : List Call) × (slice_get (longer_each xs ys) stripe ≡ Some now) × ((now ≡ calls) ⊎ ((slice_get xs stripe ≡ Some now) × (length calls ≤ length now)))
longer_second [] ys stripe calls is = (calls, is, inl refl)
longer_second (x ∷ xs) [] stripe calls is = absurd (cc)
longer_second (x ∷ xs) (y ∷ ys) zero calls is =
    let same : y ≡ calls = cc in
    elim (cases_Bool (nat_le (length y) (length x))) [
      | inl more ↦ (x, ap (λ b. Some (cond b x y)) more, inr (refl, let long = leb-true (length y) (length x) more in omega (arith, long, ap length same)))
      | inr less ↦ (y, ap (λ b. Some (cond b x y)) less, inl same)
    ]
longer_second (x ∷ xs) (y ∷ ys) (suc stripe) calls is = longer_second xs ys stripe calls is

-- what stands in a row after a write
set_there : (row : List (List Call)) (at : ℕ) (calls : List Call) → at < length row → slice_get (slice_set row at calls) at ≡ Some calls
set_there row at calls within =
    slice_get-get_or (slice_set row at calls) at [] (omega (arith, within, length-set row at calls)) ∙ ap (λ (cs : List Call). Some cs) (get_or-set_same row at calls [] within)

set_else : (row : List (List Call)) (at other : ℕ) (calls : List Call) → at ≢ other → slice_get (slice_set row at calls) other ≡ slice_get row other
set_else [] at other calls apart = refl
set_else (x ∷ row) zero zero calls apart = absurd (apart refl)
set_else (x ∷ row) zero (suc other) calls apart = refl
set_else (x ∷ row) (suc at) zero calls apart = refl
set_else (x ∷ row) (suc at) (suc other) calls apart = set_else row at other calls (λ e. apart (ap suc e))

-- no silent change shows anything
changes_unseen : (m : Moment) (who : ℕ) (changes : List Change) → (moment_changes m who changes).past.seen ≡ m.past.seen
changes_unseen m who [] = refl
changes_unseen m who (change ∷ changes) = changes_unseen (moment_changed m who change) who changes

stripes_long : (m : Moment) (who : ℕ) (changes : List Change) → length (moment_changes m who changes).state.stripes ≡ length m.state.stripes
stripes_long m who [] = refl
stripes_long m who (change ∷ changes) = stripes_long (moment_changed m who change) who changes ∙ change_long m.state who change

module _ (m : Moment) (l : IsLawful m) (stripe : ℕ) (calls : List Call) (within : stripe < length m.state.stripes) where
  -- what was seen begins the history
  begins : (hand : ℕ) (some : List Call) → slice_get (row_of m.past.seen hand) stripe ≡ Some some → IsBeginning some (history_at m.state stripe)
  begins hand some is = begun_row m.state.stripes m.past.seen hand l.told.begun stripe some (slice_index_or m.state.stripes stripe new_stripe) is (slice_get-get_or m.state.stripes stripe new_stripe within)

  -- the hand's own row after a step
  own_row : (hand : ℕ) (next : Step) → slice_get (row_of m.past.seen hand) stripe ≡ Some calls →
      (now : List Call) × (slice_get (seen_after m.state next (row_of m.past.seen hand)) stripe ≡ Some now) × IsBeginning calls now
  own_row hand next is = elim (seen_or m.state next (row_of m.past.seen hand)) [
    | inl same ↦ (calls, ap (λ (row : List (List Call)). slice_get row stripe) same ∙ is, begins_itself calls)
    | inr (at, shown) ↦ elim (cases_eq at stripe) [
      | inl here ↦
          let in_row : stripe < length (row_of m.past.seen hand) = there (row_of m.past.seen hand) stripe calls is in (
            history_at m.state stripe,
            ap (λ (row : List (List Call)). slice_get row stripe) (shown ∙ ap (λ s. slice_set (row_of m.past.seen hand) s (history_at m.state s)) here) ∙ set_there (row_of m.past.seen hand) stripe (history_at m.state stripe) in_row,
            begins hand calls is,
          )
      | inr apart ↦ (calls, ap (λ (row : List (List Call)). slice_get row stripe) shown ∙ set_else (row_of m.past.seen hand) at stripe (history_at m.state at) apart ∙ is, begins_itself calls)
    ]
  ]

  -- the longer of what two hands saw, from either
  longer_begins : (a b : ℕ) (now : List Call) → IsBeginning calls (history_at m.state stripe) → (now ≡ calls) ⊎ ((slice_get (row_of m.past.seen b) stripe ≡ Some now) × (length calls ≤ length now)) → IsBeginning calls now
  longer_begins a b now begun (inl same) = subst (IsBeginning calls) (sym same) (begins_itself calls)
  longer_begins a b now begun (inr (is, short)) = shorter_begins calls now (history_at m.state stripe) begun (begins b now is) short

  join_seen : (who kept spent : ℕ) → MayStep m who (step.Join kept spent) → (hand : ℕ) → slice_get (row_of m.past.seen hand) stripe ≡ Some calls →
      (other : ℕ) × (now : List Call) × ((other ≡ hand) ⊎ (step.Join kept spent ≡ step.Join other hand)) × (slice_get (row_of (moment_stepped m who (step.Join kept spent)).past.seen other) stripe ≡ Some now) × IsBeginning calls now
  join_seen who kept spent may hand is =
      let facts = join_facts m who kept spent may in
      let both = longer_each (row_of m.past.seen kept) (row_of m.past.seen spent) in
      let rows : kept < length m.past.seen = omega (arith, facts.1, l.rows.seen) in
      let at_kept : row_of (moment_stepped m who (step.Join kept spent)).past.seen kept ≡ both = row_other (slice_set m.past.seen kept both) spent kept [] facts.0 ∙ row_same m.past.seen kept both rows in
      elim (cases_eq hand kept) [
        | inl is_kept ↦
            let first = longer_first (row_of m.past.seen kept) (row_of m.past.seen spent) stripe calls (subst (λ h. slice_get (row_of m.past.seen h) stripe ≡ Some calls) is_kept is) in
            (kept, first.0, inl (sym is_kept), ap (λ (row : List (List Call)). slice_get row stripe) at_kept ∙ first.1, longer_begins kept spent first.0 (begins hand calls is) first.2)
        | inr not_kept ↦ elim (cases_eq hand spent) [
          | inl is_spent ↦
              let second = longer_second (row_of m.past.seen kept) (row_of m.past.seen spent) stripe calls (subst (λ h. slice_get (row_of m.past.seen h) stripe ≡ Some calls) is_spent is) in
              (kept, second.0, inr (ap (λ h. step.Join kept h) (sym is_spent)), ap (λ (row : List (List Call)). slice_get row stripe) at_kept ∙ second.1, longer_begins spent kept second.0 (begins hand calls is) second.2)
          | inr not_spent ↦
              let at : row_of (moment_stepped m who (step.Join kept spent)).past.seen hand ≡ row_of m.past.seen hand = row_other (slice_set m.past.seen kept both) spent hand [] not_spent ∙ row_other m.past.seen kept hand both not_kept in
              (hand, calls, inl refl, ap (λ (row : List (List Call)). slice_get row stripe) at ∙ is, begins_itself calls)
        ]
      ]

  step_seen : (who : ℕ) (next : Step) → MayStep m who next → (hand : ℕ) → slice_get (row_of m.past.seen hand) stripe ≡ Some calls →
      (other : ℕ) × (now : List Call) × ((other ≡ hand) ⊎ (next ≡ step.Join other hand)) × (slice_get (row_of (moment_stepped m who next).past.seen other) stripe ≡ Some now) × IsBeginning calls now
  step_seen who next may hand is = elim (by_join m.state who next) [
    | inl (alone, _) ↦
        let after = after_step m.state who next in
        let seen' = slice_set m.past.seen who (seen_after m.state next (row_of m.past.seen who)) in
        let learns : (moment_stepped m who next).past.seen ≡ seen' = ap (λ (p : Past). p.seen) (learned_is m.state after m.past who next alone) in
        elim (cases_eq hand who) [
          | inl same ↦
              let own = own_row hand next is in
              let rows : who < length m.past.seen = omega (arith, hand_within m.state.ids who may.there, l.rows.seen) in
              let at : row_of (moment_stepped m who next).past.seen hand ≡ seen_after m.state next (row_of m.past.seen hand) =
              ap (λ (s : List (List (List Call))). row_of s hand) learns ∙ (ap (row_of seen') same ∙ (row_same m.past.seen who (seen_after m.state next (row_of m.past.seen who)) rows ∙ ap (λ h. seen_after m.state next (row_of m.past.seen h)) (sym same))) in
              (hand, own.0, inl refl, ap (λ (row : List (List Call)). slice_get row stripe) at ∙ own.1, own.2)
          | inr apart ↦
              let at : row_of (moment_stepped m who next).past.seen hand ≡ row_of m.past.seen hand =
              ap (λ (s : List (List (List Call))). row_of s hand) learns ∙ row_other m.past.seen who hand (seen_after m.state next (row_of m.past.seen who)) apart in
              (hand, calls, inl refl, ap (λ (row : List (List Call)). slice_get row stripe) at ∙ is, begins_itself calls)
        ]
    | inr (kept, spent, joins) ↦
        subst (λ (s : Step). (other : ℕ) × (now : List Call) × ((other ≡ hand) ⊎ (s ≡ step.Join other hand)) × (slice_get (row_of (moment_stepped m who s).past.seen other) stripe ≡ Some now) × IsBeginning calls now) (sym joins)
        (join_seen who kept spent (subst (MayStep m who) joins may) hand is)
  ]

pub seen_grows : SeenGrows
seen_grows m event l allowed hand stripe calls within is =
    let ready = moment_changes m event.hand event.before in
    let may = may_step m event l allowed in
    let is' : slice_get (row_of ready.past.seen hand) stripe ≡ Some calls = ap (λ (seen : List (List (List Call))). slice_get (row_of seen hand) stripe) (changes_unseen m event.hand event.before) ∙ is in
    step_seen ready may.lawful stripe calls (omega (arith, within, stripes_long m event.hand event.before)) event.hand event.step may hand is'
