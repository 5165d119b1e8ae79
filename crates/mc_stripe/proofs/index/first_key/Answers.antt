use Rattle.std.proofs.Common.{◌≡◌, ℕ, nat_eq, Bool, true, false, List, [], ◌∷◌, Option, Some, None, IfSome, IsSome, Bor, refl, sym, ap, subst, ◌∙◌}
use Rattle.std.specs.Map.{keys_of}
use Rattle.std.specs.Map.Iter.{TakesFirst, deref}
use Rattle.std.specs.Option.{option_copied, option_eq}
use Rattle.mc_stripe.specs.StripeState.{Index}
use Rattle.mc_stripe.specs.Entries.{HasEachKeyOnce, by_key, entries_but, entry_at}
use Rattle.mc_stripe.proofs.Entries.{by_equal}
use Rattle.mc_stripe.proofs.Keys.{first_leads, none-by_key, none_by_none}
use Rattle.mc_stripe.proofs.Asides.{by_key_but}
use Rattle.mc_stripe.proofs.index.first_key.Goals as goal

-- no list is empty and has a key
not_empty : {G : Type 0} (key : ℕ) (rest : List ℕ) → [] ≡ key ∷ rest → G
not_empty key rest is = absurd cc

-- a first key that isn't aside is the first of those that are left
first_left : (entries : Index) (aside : Option ℕ) (found : Option (Bor ℕ)) (rest : List ℕ) → TakesFirst deref (keys_of entries) found rest → option_eq nat_eq (option_copied found) aside ≡ false → (left : List ℕ) × TakesFirst deref (keys_of (entries_but aside entries)) found left
first_left entries None found rest took other = (rest, took)
first_left [] (Some key) None rest took other = (rest, took)
first_left [] (Some key) (Some first) rest took other = not_empty first.now rest took
first_left (entry ∷ entries) (Some key) None rest took other = not_empty entry.0 (keys_of entries) (sym took.0)
first_left (entry ∷ entries) (Some key) (Some first) rest took other =
    let same : entry.0 ≡ first.now = cc in
    by_equal key entry.0
    (λ _ is. by_equal first.now key (λ equal _. absurd cc) (λ _ apart. absurd (apart (sym (is ∙ same)))))
    (λ apart _. (keys_of (entries_but (Some key) entries), rw apart (ap (λ (k : ℕ). k ∷ keys_of (entries_but (Some key) entries)) same)))

-- behind a first key that is aside come those that are left
second_left : (entries : Index) (aside : Option ℕ) (found second : Option (Bor ℕ)) (rest left : List ℕ) → TakesFirst deref (keys_of entries) found rest → option_eq nat_eq (option_copied found) aside ≡ true → TakesFirst deref rest second left → TakesFirst deref (keys_of (entries_but aside entries)) second left
second_left entries None None second rest left took is steps = subst (λ (keys : List ℕ). TakesFirst deref keys second left) (took.1 ∙ sym took.0) steps
second_left entries None (Some first) second rest left took is steps = absurd cc
second_left entries (Some key) None second rest left took is steps = absurd cc
second_left [] (Some key) (Some first) second rest left took is steps = not_empty first.now rest took
second_left (entry ∷ entries) (Some key) (Some first) second rest left took is steps =
    let same : entry.0 ≡ first.now = cc in
    let behind : keys_of entries ≡ rest = cc in
    by_equal key entry.0
    (λ here _. rw here (subst (λ (keys : List ℕ). TakesFirst deref keys second left) (sym behind) steps))
    (λ _ apart. by_equal first.now key (λ _ equal. absurd (apart (sym equal ∙ sym same))) (λ other _. absurd cc))

-- what the iterator returned first leads somewhere
there : (entries : Index) (aside : Option ℕ) (found : Option (Bor ℕ)) (rest : List ℕ) → HasEachKeyOnce entries → TakesFirst deref (keys_of (entries_but aside entries)) found rest → IfSome (option_copied found) (λ key. IsSome (entry_at (entries_but aside (by_key entries)) key))
there entries aside None rest once took = tt
there entries aside (Some key) rest once took = subst (λ (index : Index). IsSome (entry_at index key.now)) (by_key_but entries aside once) (first_leads (entries_but aside entries) key.now rest took)

-- it returned nothing where there are no entries, and there alone
empty : (entries : Index) (aside : Option ℕ) (found : Option (Bor ℕ)) (rest : List ℕ) → HasEachKeyOnce entries → TakesFirst deref (keys_of (entries_but aside entries)) found rest → option_copied found ≡ None → entries_but aside (by_key entries) ≡ []
empty entries aside None rest once took none = sym (by_key_but entries aside once) ∙ none-by_key (entries_but aside entries) took.0
empty entries aside (Some key) rest once took none = absurd cc

none : (entries : Index) (aside : Option ℕ) (found : Option (Bor ℕ)) (rest : List ℕ) → HasEachKeyOnce entries → TakesFirst deref (keys_of (entries_but aside entries)) found rest → entries_but aside (by_key entries) ≡ [] → option_copied found ≡ None
none entries aside None rest once took is = refl
none entries aside (Some key) rest once took is = not_empty key.now rest (sym (none_by_none (entries_but aside entries) (by_key_but entries aside once ∙ is)) ∙ took)

-- what came first, of the keys of the table
took : (entries : Index) (keys : List ℕ) (found : Option (Bor ℕ)) (rest : List ℕ) → keys ≡ keys_of entries → TakesFirst deref keys found rest → TakesFirst deref (keys_of entries) found rest
took entries keys found rest are steps = subst (λ (all : List ℕ). TakesFirst deref all found rest) are steps

-- what the comparison found
compared : (first : Option ℕ) (found : Option (Bor ℕ)) (aside : Option ℕ) (b : Bool) → first ≡ option_copied found → b ≡ option_eq nat_eq first aside → (answer : Bool) → b ≡ answer → option_eq nat_eq (option_copied found) aside ≡ answer
compared first found aside b is equal answer are = ap (λ (o : Option ℕ). option_eq nat_eq o aside) (sym is) ∙ (sym equal ∙ are)

pub returns-then-eq-clause-there : goal.returns-then-eq-clause-there
returns-then-eq-clause-there c =
    let entries = c.args.index.now.entries in
    let first = took entries c.keys-keys.result c.next.result c.next.new.self c.keys-keys.ensures.rest c.next.ensures.steps in
    let same = compared c.copied-first.result c.next.result c.args.aside c.eq.result c.copied-first.ensures c.eq.ensures true c.if-eq.true in
    let left = second_left entries c.args.aside c.next.result c.next-then-eq.result c.next.new.self c.next-then-eq.new.self first same c.next-then-eq.ensures.steps in
    subst (λ (found : Option ℕ). IfSome found (λ key. IsSome (entry_at (entries_but c.args.aside (by_key entries)) key))) (sym c.copied.ensures)
    (there entries c.args.aside c.next-then-eq.result c.next-then-eq.new.self c.keys-keys.ensures.unique left)

pub returns-then-eq-clause-none : goal.returns-then-eq-clause-none
returns-then-eq-clause-none c =
    let entries = c.args.index.now.entries in
    let first = took entries c.keys-keys.result c.next.result c.next.new.self c.keys-keys.ensures.rest c.next.ensures.steps in
    let same = compared c.copied-first.result c.next.result c.args.aside c.eq.result c.copied-first.ensures c.eq.ensures true c.if-eq.true in
    let left = second_left entries c.args.aside c.next.result c.next-then-eq.result c.next.new.self c.next-then-eq.new.self first same c.next-then-eq.ensures.steps in (
      λ is. empty entries c.args.aside c.next-then-eq.result c.next-then-eq.new.self c.keys-keys.ensures.unique left (sym c.copied.ensures ∙ is),
      λ is. c.copied.ensures ∙ none entries c.args.aside c.next-then-eq.result c.next-then-eq.new.self c.keys-keys.ensures.unique left is,
    )

pub returns-clause-there : goal.returns-clause-there
returns-clause-there c =
    let entries = c.args.index.now.entries in
    let first = took entries c.keys-keys.result c.next.result c.next.new.self c.keys-keys.ensures.rest c.next.ensures.steps in
    let other = compared c.copied-first.result c.next.result c.args.aside c.eq.result c.copied-first.ensures c.eq.ensures false c.if-eq.false in
    let left = first_left entries c.args.aside c.next.result c.next.new.self first other in
    subst (λ (found : Option ℕ). IfSome found (λ key. IsSome (entry_at (entries_but c.args.aside (by_key entries)) key))) (sym c.copied-first.ensures)
    (there entries c.args.aside c.next.result left.0 c.keys-keys.ensures.unique left.1)

pub returns-clause-none : goal.returns-clause-none
returns-clause-none c =
    let entries = c.args.index.now.entries in
    let first = took entries c.keys-keys.result c.next.result c.next.new.self c.keys-keys.ensures.rest c.next.ensures.steps in
    let other = compared c.copied-first.result c.next.result c.args.aside c.eq.result c.copied-first.ensures c.eq.ensures false c.if-eq.false in
    let left = first_left entries c.args.aside c.next.result c.next.new.self first other in (
      λ is. empty entries c.args.aside c.next.result left.0 c.keys-keys.ensures.unique left.1 (sym c.copied-first.ensures ∙ is),
      λ is. c.copied-first.ensures ∙ none entries c.args.aside c.next.result left.0 c.keys-keys.ensures.unique left.1 is,
    )
