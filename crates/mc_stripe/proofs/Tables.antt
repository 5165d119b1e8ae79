-- The entries of a table by rising key, after each change of the table.
use Rattle.std.proofs.Common.{◌≡◌, ℕ, nat_eq, cond, List, Option, Some, None, sym, ap, ◌∙◌}
use Rattle.mc_stripe.specs.Entries.{entry_at, with_entry, without_entry, by_key}
use Rattle.mc_stripe.proofs.Entries.{by_equal, nat_eq_same, nat_eq_other, at_with_entry, at_without_entry, rising_with_entry, rising_without_entry, rising_by_key, at_by_key, one_list}

nat_eq_flip : (a b : ℕ) → nat_eq a b ≡ nat_eq b a
nat_eq_flip a b = by_equal a b (λ here is. here ∙ sym (nat_eq_same b a (sym is))) (λ apart other. apart ∙ sym (nat_eq_other b a (λ is. other (sym is))))

module _ {X : Type 0} where
  pub by_key_same : (old new : List (ℕ × X)) → ((q : ℕ) → entry_at new q ≡ entry_at old q) → by_key new ≡ by_key old
  by_key_same old new same = one_list (by_key new) (by_key old) (rising_by_key new) (rising_by_key old) (λ q. at_by_key new q ∙ (same q ∙ sym (at_by_key old q)))

  pub by_key_put : (old new : List (ℕ × X)) (key : ℕ) (value : X) → ((q : ℕ) → entry_at new q ≡ cond (nat_eq key q) (Some value) (entry_at old q)) → by_key new ≡ with_entry (by_key old) key value
  by_key_put old new key value is =
      one_list (by_key new) (with_entry (by_key old) key value) (rising_by_key new) (rising_with_entry (by_key old) key value (rising_by_key old))
      (λ q. at_by_key new q ∙ (is q ∙ (rw (nat_eq_flip key q) (ap (λ (o : Option X). cond (nat_eq q key) (Some value) o) (sym (at_by_key old q))) ∙ sym (at_with_entry (by_key old) key value q))))

  pub by_key_take : (old new : List (ℕ × X)) (key : ℕ) → ((q : ℕ) → entry_at new q ≡ cond (nat_eq key q) None (entry_at old q)) → by_key new ≡ without_entry (by_key old) key
  by_key_take old new key is =
      one_list (by_key new) (without_entry (by_key old) key) (rising_by_key new) (rising_without_entry (by_key old) key (rising_by_key old))
      (λ q. at_by_key new q ∙ (is q ∙ (rw (nat_eq_flip key q) (ap (λ (o : Option X). cond (nat_eq q key) None o) (sym (at_by_key old q))) ∙ sym (at_without_entry (by_key old) key q (rising_by_key old)))))
