-- A key is found by equality where it is found by order.
use Rattle.std.proofs.Common.{◌≡◌, ℕ, nat_eq, Bool, cond, List, [], ◌∷◌, Option, Some, None, refl, sym, ap, ◌∙◌, arith}
use Rattle.std.specs.BTreeMap.{is_at}
use Rattle.std.specs.Map.{lookup, set_value}
use Rattle.std.specs.Ordering.{nat_cmp}
use Rattle.std.proofs.lemmas.Bool.Decides.{nat_tests}
use Rattle.mc_pages.specs.declared.ids.ChunkId.{ChunkId}
use Rattle.mc_serial_parts.specs.Leads.{chunk_led_to, IsLed}

same_test : (a b : ℕ) → nat_eq a b ≡ is_at (nat_cmp a) b
same_test a b = grind (arith, nat_tests)

pub same_look : (key : ℕ) (entries : List (ℕ × ChunkId)) → lookup (nat_eq key) entries ≡ chunk_led_to entries key
same_look key [] = refl
same_look key (e ∷ entries) =
    ap (λ (b : Bool). cond b (Some e.1) (lookup (nat_eq key) entries)) (same_test key e.0)
    ∙ ap (λ (o : Option ChunkId). cond (is_at (nat_cmp key) e.0) (Some e.1) o) (same_look key entries)

pub same_set : (key : ℕ) (entries : List (ℕ × ChunkId)) (chunk : ChunkId) → set_value (nat_eq key) entries chunk ≡ set_value (is_at (nat_cmp key)) entries chunk
same_set key [] chunk = refl
same_set key (e ∷ entries) chunk =
    ap (λ (b : Bool). cond b ((e.0, chunk) ∷ entries) (e ∷ set_value (nat_eq key) entries chunk)) (same_test key e.0)
    ∙ ap (λ (es : List (ℕ × ChunkId)). cond (is_at (nat_cmp key) e.0) ((e.0, chunk) ∷ entries) (e ∷ es)) (same_set key entries chunk)

pub led : (old new : List (ℕ × ChunkId)) (key : ℕ) (here : Option ChunkId)
    → ((other : ℕ) → lookup (nat_eq other) new ≡ cond (nat_eq key other) here (lookup (nat_eq other) old)) → IsLed old new key here
led old new key here is = λ other.
    sym (same_look other new) ∙ is other
    ∙ ap (λ (b : Bool). cond b here (lookup (nat_eq other) old)) (same_test key other)
    ∙ ap (λ (o : Option ChunkId). cond (is_at (nat_cmp key) other) here o) (same_look other old)

-- a value is set where there is none: nothing changes
pub set_none : (key : ℕ) (chunk : ChunkId) (entries : List (ℕ × ChunkId)) → lookup (nat_eq key) entries ≡ None → set_value (nat_eq key) entries chunk ≡ entries
set_none key chunk [] none = refl
set_none key chunk (e ∷ entries) none = grind (arith, nat_tests, set_none key chunk entries)
