-- Texts that begin with another.
use Rattle.std.proofs.Common.{◌≡◌, ℕ, ◌≤◌, ◌++◌, List, length, take, drop, ap, sym, ◌∙◌, append_assoc, arith}
use Rattle.std.specs.Io.{StartsWith}
use Rattle.std.proofs.Math.Seq.{take-append_seam}
use Rattle.std.proofs.lemmas.List.{length-append, take-append-drop, take-append-le}

-- what is added in two steps
pub appends : (old first middle second new : List ℕ) → middle ≡ old ++ first → new ≡ middle ++ second → new ≡ old ++ (first ++ second)
appends old first middle second new one two = two ∙ ap (λ (l : List ℕ). l ++ second) one ∙ append_assoc old first second

-- a line of three parts, and its end
pub line_of_three : (old first second third end a b c new : List ℕ) → a ≡ old ++ first → b ≡ a ++ second → c ≡ b ++ third → new ≡ c ++ end → new ≡ old ++ (((first ++ second) ++ third) ++ end)
line_of_three old first second third end a b c new one two three last =
    appends old ((first ++ second) ++ third) c end new (appends old (first ++ second) b third c (appends old first a second b one two) three) last

-- what begins with a text that begins with a third begins with the third
pub starts_on : (first second third : List ℕ) → StartsWith second first → StartsWith third second → StartsWith third first
starts_on first second third two three =
    let more : List ℕ = drop (length first) second in
    let rest : List ℕ = drop (length second) third in
    let second_is : second ≡ first ++ more = sym (take-append-drop (length first) second) ∙ ap (λ (l : List ℕ). l ++ more) two in
    let third_is : third ≡ second ++ rest = sym (take-append-drop (length second) third) ∙ ap (λ (l : List ℕ). l ++ rest) three in
    let short : length first ≤ length second = omega (arith, ap (λ (l : List ℕ). length l) second_is, length-append first more) in
    ap (λ (l : List ℕ). take (length first) l) third_is ∙ take-append-le (length first) second rest short ∙ two

-- so does a text and more
pub starts_append : (first rest whole : List ℕ) → whole ≡ first ++ rest → StartsWith whole first
starts_append first rest whole whole_is = ap (λ (l : List ℕ). take (length first) l) whole_is ∙ take-append_seam first rest
