-- The replay of a history is the map that the history leaves, and a legal history leaves one map.
use Rattle.std.proofs.Common.{◌≡◌, ℕ, nat_eq, Bool, true, false, cond, List, [], ◌∷◌, is_some, is_none, Option, Some, None, refl, sym, ap, ◌∙◌, inl, inr}
use Rattle.std.specs.Option.{option_eq}
use Rattle.std.proofs.lemmas.Bool.{cases_Bool}
use Rattle.mc_stripe.specs.declared.history.Call.{Call}
use Rattle.mc_stripe.specs.declared.history.Call.TheVariants.{Set, Get, Delete, Evict, Rescue}
use Rattle.mc_stripe.specs.Entries.{entry_at, AreRising}
use Rattle.mc_stripe.specs.History.{Stamps, is_reply_right, stamps_after, stamps_after_calls}
use Rattle.mc_stripe.specs.Sequential.{StampMap, IsReply, map_after, Leads}
use Rattle.mc_stripe.proofs.Entries.{by_equal, nat_eq_same, at_with_entry, at_without_entry, rising_with_entry, rising_without_entry}
use Rattle.mc_stripe.proofs.Histories.{None≢Some}

pub one_map : (start : StampMap) (history : List Call) (a b : StampMap) → Leads start history a → Leads start history b → (key : ℕ) → a key ≡ b key
one_map start [] a b left right key = left key ∙ sym (right key)
one_map start (call ∷ history) a b left right key = one_map (map_after call start) history a b left.1 right.1 key

-- the map is the one that the stamps are a list of
abbrev pub IsMapOf : StampMap → Stamps → Type 0
IsMapOf map stamps = (key : ℕ) → map key ≡ entry_at stamps key

found_is_there : (found there : Option ℕ) → option_eq nat_eq found there ≡ true → found ≡ there
found_is_there None None is = refl
found_is_there None (Some y) is = absurd cc
found_is_there (Some x) None is = absurd cc
found_is_there (Some x) (Some y) is = by_equal x y (λ _ same. ap (λ (n : ℕ). Some n) same) (λ apart _. absurd cc)

there_is_found : (found there : Option ℕ) → found ≡ there → option_eq nat_eq found there ≡ true
there_is_found None None is = refl
there_is_found None (Some y) is = absurd cc
there_is_found (Some x) None is = absurd cc
there_is_found (Some x) (Some y) is = nat_eq_same x y cc

was_there_is : (was_there : Bool) (there : Option ℕ) → cond was_there (is_some there) (is_none there) ≡ true → was_there ≡ is_some there
was_there_is true None is = absurd cc
was_there_is true (Some stamp) is = refl
was_there_is false None is = refl
was_there_is false (Some stamp) is = absurd cc

is_was_there : (was_there : Bool) (there : Option ℕ) → was_there ≡ is_some there → cond was_there (is_some there) (is_none there) ≡ true
is_was_there true None is = absurd cc
is_was_there true (Some stamp) is = refl
is_was_there false None is = refl
is_was_there false (Some stamp) is = absurd cc

-- the two say the same of a reply
reply_from_fits : (call : Call) (map : StampMap) (stamps : Stamps) → IsMapOf map stamps → is_reply_right call stamps ≡ true → IsReply call map
reply_from_fits (Set hand key stamp) map stamps same fit = tt
reply_from_fits (Get hand key found) map stamps same fit = found_is_there found (entry_at stamps key) fit ∙ sym (same key)
reply_from_fits (Delete hand key was_there) map stamps same fit = was_there_is was_there (entry_at stamps key) fit ∙ ap is_some (sym (same key))
reply_from_fits (Evict hand key) map stamps same fit = ap is_some (same key) ∙ fit
reply_from_fits (Rescue hand key) map stamps same fit = ap is_some (same key) ∙ fit

fits_from_reply : (call : Call) (map : StampMap) (stamps : Stamps) → IsMapOf map stamps → IsReply call map → is_reply_right call stamps ≡ true
fits_from_reply (Set hand key stamp) map stamps same reply = refl
fits_from_reply (Get hand key found) map stamps same reply = there_is_found found (entry_at stamps key) (reply ∙ same key)
fits_from_reply (Delete hand key was_there) map stamps same reply = is_was_there was_there (entry_at stamps key) (reply ∙ ap is_some (same key))
fits_from_reply (Evict hand key) map stamps same reply = ap is_some (sym (same key)) ∙ reply
fits_from_reply (Rescue hand key) map stamps same reply = ap is_some (sym (same key)) ∙ reply

-- and of what a call leaves
same_after : (call : Call) (map : StampMap) (stamps : Stamps) → AreRising stamps → IsMapOf map stamps → IsMapOf (map_after call map) (stamps_after call stamps)
same_after (Set hand key stamp) map stamps rising same other = ap (λ (o : Option ℕ). cond (nat_eq other key) (Some stamp) o) (same other) ∙ sym (at_with_entry stamps key stamp other)
same_after (Get hand key found) map stamps rising same other = same other
same_after (Delete hand key was_there) map stamps rising same other = ap (λ (o : Option ℕ). cond (nat_eq other key) None o) (same other) ∙ sym (at_without_entry stamps key other rising)
same_after (Evict hand key) map stamps rising same other = ap (λ (o : Option ℕ). cond (nat_eq other key) None o) (same other) ∙ sym (at_without_entry stamps key other rising)
same_after (Rescue hand key) map stamps rising same other = same other

rising_after : (call : Call) (stamps : Stamps) → AreRising stamps → AreRising (stamps_after call stamps)
rising_after (Set hand key stamp) stamps rising = rising_with_entry stamps key stamp rising
rising_after (Get hand key found) stamps rising = rising
rising_after (Delete hand key was_there) stamps rising = rising_without_entry stamps key rising
rising_after (Evict hand key) stamps rising = rising_without_entry stamps key rising
rising_after (Rescue hand key) stamps rising = rising

-- what a replay leaves, the history leaves
pub leads_from_replay : (history : List Call) (map : StampMap) (start after : Stamps) → AreRising start → IsMapOf map start → stamps_after_calls start history ≡ Some after → Leads map history (entry_at after)
leads_from_replay [] map start after rising same is = λ key. let is_start : start ≡ after = cc in ap (λ (s : Stamps). entry_at s key) (sym is_start) ∙ sym (same key)
leads_from_replay (call ∷ history) map start after rising same is =
    elim (cases_Bool (is_reply_right call start)) [
      | inl right ↦ (reply_from_fits call map start same right, leads_from_replay history (map_after call map) (stamps_after call start) after (rising_after call start rising) (same_after call map start rising same) (rw right at is))
      | inr wrong ↦ absurd (None≢Some after (rw wrong at is))
    ]

-- what a legal history leaves, its replay leaves
pub replay_from_leads : (history : List Call) (map after : StampMap) (start : Stamps) → AreRising start → IsMapOf map start → Leads map history after → (end : Stamps) × (stamps_after_calls start history ≡ Some end) × IsMapOf after end
replay_from_leads [] map after start rising same leads = (start, refl, λ key. leads key ∙ same key)
replay_from_leads (call ∷ history) map after start rising same leads =
    rw (fits_from_reply call map start same leads.0) (replay_from_leads history (map_after call map) after (stamps_after call start) (rising_after call start rising) (same_after call map start rising same) leads.1)
