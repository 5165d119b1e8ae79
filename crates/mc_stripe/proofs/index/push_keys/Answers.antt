use Rattle.std.proofs.Common.{◌≡◌, ℕ, nat_eq, List, [], ◌∷◌, ◌++◌, length, Option, Some, sym, ap, ◌∙◌, arith, inl, inr}
use Rattle.std.specs.Option.{option_eq}
use Rattle.std.proofs.lemmas.Bool.{cases_Bool}
use Rattle.std.proofs.lemmas.List.{append_assoc, append-nil}
use Rattle.mc_stripe.specs.Keys.{keys_but}
use Rattle.mc_stripe.proofs.index.push_keys.Goals as goal

-- the next key came behind what was there, or is the one aside
key_pushed : (aside : Option ℕ) (before after all : List ℕ) (key : ℕ) (left rest : List ℕ) → left ≡ key ∷ rest → after ≡ before ++ keys_but aside (key ∷ []) → before ++ keys_but aside left ≡ all → after ++ keys_but aside rest ≡ all
key_pushed aside before after all key left rest first pushed so_far =
    ap (λ (l : List ℕ). l ++ keys_but aside rest) pushed ∙ (parts ∙ (ap (λ (l : List ℕ). before ++ keys_but aside l) (sym first) ∙ so_far)) where
      parts : (before ++ keys_but aside (key ∷ [])) ++ keys_but aside rest ≡ before ++ keys_but aside (key ∷ rest)
      parts =
          elim (cases_Bool (option_eq nat_eq aside (Some key))) [
            | inl here ↦ rw here (ap (λ (l : List ℕ). l ++ keys_but aside rest) (append-nil before))
            | inr apart ↦ rw apart (append_assoc before (key ∷ []) (keys_but aside rest))
          ]

pub loop-key-preserved : goal.loop-key-preserved
loop-key-preserved c = (
  key_pushed c.args.aside c.loop-key.into.items c.push_key.new.into.items _ c.in-Some.key.now c.loop-key.key-iterator c.next.new.self c.in-Some.ensures.steps c.push_key.ensures.items c.loop-key.invariant.0,
  grind (arith, ap length c.in-Some.ensures.steps, c.push_key.ensures.len, c.push_key.ensures.capacity, c.loop-key.invariant.1),
)
