-- Histories that grew by calls of one hand: its own calls are still those of its number, and so are everybody else's.
use Rattle.std.proofs.Common.{◌≡◌, ◌≢◌, ℕ, suc, ◌+◌, ◌<◌, ◌==◌, true, false, List, [], ◌∷◌, ◌++◌, length, map, drop, filter, refl, sym, ap, ap₂, ◌∙◌, subst, slice_set, slice_index_or, All, inl, inr, arith, add-zero, zero-add, eq-eqb, ne_eqb, length-set, get_or-set_same, get_or-set_other}
use Rattle.std.proofs.lemmas.Bool.{cases_eq}
use Rattle.std.proofs.lemmas.List.{append-nil}
use Rattle.std.proofs.lemmas.List.Elements.{All-nil, All-head, All-tail, filter-append}
use Rattle.mc_stripe.specs.declared.history.Call.{Call}
use Rattle.mc_stripe.specs.StripeState.{ReadyStripe, new_stripe}
use Rattle.mc_core.specs.model.State.{State}
use Rattle.mc_core.specs.past.Past.{history_at, new_calls, calls_with_new}
use Rattle.mc_core.specs.law.Histories.{hand_of, IsSetIn}

-- the history of one of the stripes
abbrev pub history_in : List ReadyStripe → ℕ → List Call
history_in stripes stripe = (slice_index_or stripes stripe new_stripe).state.history

-- what came into one history: calls of this hand
pub record IsGrown (stripes : ℕ) (stripe : ℕ) (writer : ℕ) (old now : List Call) : Type 0 where
  pub more : List Call
  pub grown : now ≡ old ++ more
  pub own : All (λ call. hand_of call ≡ writer) more
  pub sets : All (IsSetIn stripes stripe) more

-- as many stripes, each history grown
pub record AreGrown (writer : ℕ) (old now : List ReadyStripe) : Type 0 where
  pub long : length now ≡ length old
  pub each : (stripe : ℕ) → IsGrown (length old) stripe writer (history_in old stripe) (history_in now stripe)

pub grown_same : (n stripe writer : ℕ) (calls : List Call) → IsGrown n stripe writer calls calls
grown_same n stripe writer calls = record { more = []; grown = sym (append-nil calls); own = All-nil (λ call. hand_of call ≡ writer); sets = All-nil (IsSetIn n stripe) }

-- nothing came in
pub grown_quiet : (writer : ℕ) (stripes : List ReadyStripe) → AreGrown writer stripes stripes
grown_quiet writer stripes = record { long = refl; each = λ stripe. grown_same (length stripes) stripe writer (history_in stripes stripe) }

-- one stripe was written
pub grown_at : (writer : ℕ) (stripes : List ReadyStripe) (at : ℕ) (value : ReadyStripe) → at < length stripes → IsGrown (length stripes) at writer (history_in stripes at) value.state.history → AreGrown writer stripes (slice_set stripes at value)
grown_at writer stripes at value within is = record {
  long = length-set stripes at value;
  each = λ stripe. elim (cases_eq stripe at) [
    | inl same ↦ subst (λ s. IsGrown (length stripes) s writer (history_in stripes s) (history_in (slice_set stripes at value) s)) (sym same)
        (subst (λ (v : ReadyStripe). IsGrown (length stripes) at writer (history_in stripes at) v.state.history) (sym (get_or-set_same stripes at value new_stripe within)) is)
    | inr apart ↦ subst (λ (v : ReadyStripe). IsGrown (length stripes) stripe writer (history_in stripes stripe) v.state.history) (sym (get_or-set_other stripes at stripe value new_stripe apart))
        (grown_same (length stripes) stripe writer (history_in stripes stripe))
  ];
}

-- the calls of a number
abbrev pub calls_of : ℕ → List Call → List Call
calls_of number calls = filter (λ call. hand_of call == number) calls

all_pass : (number : ℕ) (calls : List Call) → All (λ call. hand_of call ≡ number) calls → calls_of number calls ≡ calls
all_pass number [] all = refl
all_pass number (call ∷ calls) all =
    let first : (hand_of call == number) ≡ true = eq-eqb (hand_of call) number (All-head (λ c. hand_of c ≡ number) call calls all) in
    rw first (ap (λ (cs : List Call). call ∷ cs) (all_pass number calls (All-tail (λ c. hand_of c ≡ number) call calls all)))

none_pass : (number writer : ℕ) (calls : List Call) → writer ≢ number → All (λ call. hand_of call ≡ writer) calls → calls_of number calls ≡ []
none_pass number writer [] apart all = refl
none_pass number writer (call ∷ calls) apart all =
    let first : (hand_of call == number) ≡ false = ne_eqb (hand_of call) number (λ e. apart (sym (All-head (λ c. hand_of c ≡ writer) call calls all) ∙ e)) in
    rw first (none_pass number writer calls apart (All-tail (λ c. hand_of c ≡ writer) call calls all))

-- what came in is the writer's
own_grown : (n stripe writer : ℕ) (old now : List Call) → IsGrown n stripe writer old now → calls_of writer old ++ drop (length old) now ≡ calls_of writer now
own_grown n stripe writer old now is =
    let new : drop (length old) now ≡ is.more = ap (drop (length old)) is.grown ∙ drop_whole old is.more in
    rw (new, is.grown) (sym (filter-append (λ call. hand_of call == writer) old is.more ∙ ap (λ (cs : List Call). calls_of writer old ++ cs) (all_pass writer is.more is.own)))
  where
    drop_whole : (xs ys : List Call) → drop (length xs) (xs ++ ys) ≡ ys
    drop_whole [] ys = refl
    drop_whole (x ∷ xs) ys = drop_whole xs ys

-- and nobody else's
else_grown : (n stripe writer number : ℕ) (old now : List Call) → writer ≢ number → IsGrown n stripe writer old now → calls_of number now ≡ calls_of number old
else_grown n stripe writer number old now apart is =
    rw is.grown (filter-append (λ call. hand_of call == number) old is.more ∙ ap (λ (cs : List Call). calls_of number old ++ cs) (none_pass number writer is.more apart is.own) ∙ append-nil (calls_of number old))

-- a number's calls, a list for each stripe
abbrev pub calls_in : ℕ → List ReadyStripe → List (List Call)
calls_in number stripes = map (λ (value : ReadyStripe). calls_of number value.state.history) stripes

module _ (n writer : ℕ) where
  -- everybody else's calls stay
  else_lists : (number place : ℕ) (old now : List ReadyStripe) → writer ≢ number → length now ≡ length old → ((k : ℕ) → IsGrown n (place + k) writer (history_in old k) (history_in now k)) → calls_in number now ≡ calls_in number old
  else_lists number place [] [] apart long each = refl
  else_lists number place [] (y ∷ now) apart long each = absurd (omega (arith, long))
  else_lists number place (x ∷ old) [] apart long each = absurd (omega (arith, long))
  else_lists number place (x ∷ old) (y ∷ now) apart long each =
      ap₂ (λ (a : List Call) (b : List (List Call)). a ∷ b) (else_grown n (place + 0) writer number x.state.history y.state.history apart (each 0))
      (else_lists number (place + 1) old now apart (omega (arith, long)) (λ k. subst (λ p. IsGrown n p writer (history_in old k) (history_in now k)) (omega arith) (each (suc k))))

  -- the writer's own grow by what came in
  own_lists : (before after : State) (place : ℕ) (old now : List ReadyStripe) → length now ≡ length old → ((k : ℕ) → history_at before (place + k) ≡ history_in old k) → ((k : ℕ) → history_at after (place + k) ≡ history_in now k)
      → ((k : ℕ) → IsGrown n (place + k) writer (history_in old k) (history_in now k)) → calls_with_new before after place (calls_in writer old) ≡ calls_in writer now
  own_lists before after place [] [] long in_old in_now each = refl
  own_lists before after place [] (y ∷ now) long in_old in_now each = absurd (omega (arith, long))
  own_lists before after place (x ∷ old) [] long in_old in_now each = absurd (omega (arith, long))
  own_lists before after place (x ∷ old) (y ∷ now) long in_old in_now each =
      let shift : (k : ℕ) → place + suc k ≡ place + 1 + k = λ k. omega arith in
      let old_here : history_at before place ≡ x.state.history = ap (history_at before) (sym (add-zero place)) ∙ in_old 0 in
      let now_here : history_at after place ≡ y.state.history = ap (history_at after) (sym (add-zero place)) ∙ in_now 0 in
      let new : new_calls before after place ≡ drop (length x.state.history) y.state.history = rw (old_here, now_here) refl in
      ap₂ (λ (a : List Call) (b : List (List Call)). a ∷ b)
      (ap (λ (more : List Call). calls_of writer x.state.history ++ more) new ∙ own_grown n (place + 0) writer x.state.history y.state.history (each 0))
      (own_lists before after (place + 1) old now (omega (arith, long)) (λ k. ap (history_at before) (sym (shift k)) ∙ in_old (suc k)) (λ k. ap (history_at after) (sym (shift k)) ∙ in_now (suc k))
      (λ k. subst (λ p. IsGrown n p writer (history_in old k) (history_in now k)) (shift k) (each (suc k))))

pub else_calls : (writer number : ℕ) (old now : List ReadyStripe) → writer ≢ number → AreGrown writer old now → calls_in number now ≡ calls_in number old
else_calls writer number old now apart g = else_lists (length old) writer number 0 old now apart g.long (λ k. subst (λ p. IsGrown (length old) p writer (history_in old k) (history_in now k)) (sym (zero-add k)) (g.each k))

pub own_calls : (before after : State) (writer : ℕ) → AreGrown writer before.stripes after.stripes → calls_with_new before after 0 (calls_in writer before.stripes) ≡ calls_in writer after.stripes
own_calls before after writer g =
    own_lists (length before.stripes) writer before after 0 before.stripes after.stripes g.long (λ k. ap (history_at before) (zero-add k)) (λ k. ap (history_at after) (zero-add k))
    (λ k. subst (λ p. IsGrown (length before.stripes) p writer (history_in before.stripes k) (history_in after.stripes k)) (sym (zero-add k)) (g.each k))
