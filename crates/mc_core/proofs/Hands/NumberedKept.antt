-- Numbers and stamps where nothing is said: each event but a link and a join keeps whose they are.
use Rattle.std.proofs.Common.{◌≡◌, ◌≢◌, ℕ, ◌/◌, ◌^◌, ◌≤◌, true, false, List, [], ◌∷◌, Option, Some, None, refl, sym, ap, ◌∙◌, subst, is_some, All}
use Rattle.std.proofs.lemmas.List.Elements.{All-nil, All-cons, All-head, All-tail, All-map, All-weaker}
use Rattle.mc_core.specs.declared.event.Step.{Step}
use Rattle.mc_core.specs.declared.ids.Ids.{Ids}
use Rattle.mc_core.specs.model.State.{is_hand}
use Rattle.mc_core.specs.past.Past.{Past, Moment, Own, StoredItem, KnownItem, learned_alone, items_stored_by_step, with_more, with_calls, moment_stepped}
use Rattle.mc_core.specs.law.Identities.{count_in_hand, number_in, AreCountedTo, AreNumbered}
use Rattle.mc_core.specs.law.Lawful.{NumberedIn}
use Rattle.mc_core.specs.law.Laws.{ChangesKeep}
use Rattle.mc_core.specs.run.Silent.{after_change}
use Rattle.mc_core.specs.run.Run.{after_step}
use Rattle.mc_core.proofs.Hands.HandsKept.{ids_change}
use Rattle.mc_core.proofs.Known.Learned.{is_join, learned_is, numbers_of, SameNumbers, same_numbers, same_row, owns_same, owners_same}
use Rattle.mc_core.proofs.Hands.MoreRows.{row_of, row_other, with_none}

-- what is so of numbers is so of the calls that have them
unmapped : (P : ℕ → Type 0) (row : List Own) → All P (numbers_of row) → All (λ (own : Own). P own.number) row
unmapped P [] all = All-nil (λ (own : Own). P own.number)
unmapped P (own ∷ row) all =
    All-cons (λ (o : Own). P o.number) own row (All-head P own.number (numbers_of row) all) (unmapped P row (All-tail P own.number (numbers_of row) all))

-- of rows with the same numbers the same is so
pub all_numbers : (P : ℕ → Type 0) (before now : List Own) → numbers_of now ≡ numbers_of before → All (λ (own : Own). P own.number) before → All (λ (own : Own). P own.number) now
all_numbers P before now e all = unmapped P now (subst (All P) (sym e) (All-map P (λ (own : Own). own.number) before all))

no_numbers : (row : List Own) → numbers_of row ≡ [] → row ≡ []
no_numbers [] e = refl
no_numbers (own ∷ row) e = absurd (cc)

-- a hand that is there isn't one without a number
pub there_apart : (ids : List Ids) (hand other : ℕ) → is_some (number_in ids hand) ≡ true → number_in ids other ≡ None → other ≢ hand
there_apart ids hand other there none same = absurd (some_none (number_in ids hand) there (ap (number_in ids) (sym same) ∙ none))
  where
    some_none : (o : Option ℕ) → is_some o ≡ true → o ≡ None → ⊥
    some_none None is e = absurd (cc)
    some_none (Some n) is e = absurd (cc)

-- calls come in, and something may be known; nothing is said
pub numbered_quiet : (ids : List Ids) (mine mine' : List (List Own)) (said : List (List StoredItem)) (known known' : List (List KnownItem)) → SameNumbers mine mine' → AreNumbered ids mine said known
    → ((other : ℕ) → number_in ids other ≡ None → row_of known' other ≡ row_of known other) → AreNumbered ids mine' said known'
numbered_quiet ids mine mine' said known known' same l knows = record {
  apart = λ number. subst (λ n. n ≤ 1) (sym (owners_same mine mine' number same)) (l.apart number);
  own = λ hand number is. owns_same mine mine' hand number same ∙ l.own hand number is;
  stamps = l.stamps;
  gapless = λ hand. all_numbers (λ number. (most : ℕ) × AreCountedTo most number (row_of said hand)) (row_of mine hand) (row_of mine' hand) (same_row mine mine' hand same) (l.gapless hand);
  of_own = λ hand. All-weaker (λ (s : StoredItem). count_in_hand (s.stamp / 2 ^ 48) (row_of mine hand) ≡ 1) (λ (s : StoredItem). count_in_hand (s.stamp / 2 ^ 48) (row_of mine' hand) ≡ 1)
      (λ s one. owns_same mine mine' hand (s.stamp / 2 ^ 48) same ∙ one) (row_of said hand) (l.of_own hand);
  nothing = λ hand none. let old = l.nothing hand none in
      (no_numbers (row_of mine' hand) (same_row mine mine' hand same ∙ ap numbers_of old.0), old.1, knows hand none ∙ old.2);
}

pub numbered_changes : ChangesKeep NumberedIn
numbered_changes m hand change may =
    let now = after_change m.state hand change in
    let mine = (with_calls m.state now m.past hand).mine in
    subst (λ (ids : List Ids). AreNumbered ids mine m.past.stored m.past.known) (sym (ids_change m.state hand change))
    (numbered_quiet m.state.ids m.past.mine mine m.past.stored m.past.known m.past.known (same_numbers m.state now m.past hand) may.lawful.numbered (λ other none. refl))

-- a step that says nothing
pub numbered_unsaid : (m : Moment) (hand : ℕ) (next : Step) → is_join next ≡ false → (after_step m.state hand next).ids ≡ m.state.ids → items_stored_by_step m.state hand next ≡ [] → is_hand m.state hand ≡ true → NumberedIn m → NumberedIn (moment_stepped m hand next)
numbered_unsaid m hand next alone same stores_nothing there l =
    let now = after_step m.state hand next in
    let past = learned_alone m.state now m.past hand next in
    let said : past.stored ≡ m.past.stored = ap (with_more m.past.stored hand) stores_nothing ∙ with_none m.past.stored hand in
    subst (λ (p : Past). AreNumbered now.ids p.mine p.stored p.known) (sym (learned_is m.state now m.past hand next alone))
    (subst (λ (ids : List Ids). AreNumbered ids past.mine past.stored past.known) (sym same)
    (subst (λ (s : List (List StoredItem)). AreNumbered m.state.ids past.mine s past.known) (sym said)
    (numbered_quiet m.state.ids m.past.mine past.mine m.past.stored m.past.known past.known (same_numbers m.state now m.past hand) l
    (λ other none. row_other m.past.known hand other _ (there_apart m.state.ids hand other there none)))))
