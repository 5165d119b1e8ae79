-- Headers as words.
use Rattle.std.proofs.Common.{◌≡◌, ℕ, zero, suc, ◌+◌, ◌*◌, ◌/◌, ◌%◌, ◌^◌, ◌<◌, ◌==◌, ◌∙◌, refl, ap, arith, eqb-true}
use Rattle.std.proofs.lemmas.Bool.{and_parts}
use Rattle.mc_core.specs.declared.head.Head.{Head}
use Rattle.mc_core.specs.declared.head.Tag.{Tag}
use Rattle.mc_core.specs.declared.head.Tag.TheVariants.{Out, Free, Unlinked, Linked}
use Rattle.mc_core.specs.model.Head.{number_of_tag, tag_of, code, decode, is_unlinked, is_linked}
use Rattle.mc_core.proofs.Index.Entered.{tag_linked, tag_unlinked}
use Rattle.mc_core.specs.model.Codes.{FitsBits, AreOneWord, AllAreSums}

tag_number : (t : Tag) → tag_of (number_of_tag t) ≡ t
tag_number Out = refl
tag_number Free = refl
tag_number Unlinked = refl
tag_number Linked = refl

number_tag : (n : ℕ) → n < 4 → number_of_tag (tag_of n) ≡ n
number_tag zero h = refl
number_tag (suc zero) h = refl
number_tag (suc (suc zero)) h = refl
number_tag (suc (suc (suc n))) h = omega arith

number_small : (t : Tag) → number_of_tag t < 4
number_small Out = omega arith
number_small Free = omega arith
number_small Unlinked = omega arith
number_small Linked = omega arith

code_small : (head : Head) → FitsBits head → code head < 2 ^ 64
unfolding code
code_small head fits = let t4 = number_small head.tag in let i = fits.issue in let n = fits.count in omega arith

decode_code : (head : Head) → FitsBits head → decode (code head) ≡ head
unfolding code decode
decode_code head fits =
    let t : ℕ = number_of_tag head.tag in
    let i : ℕ = head.issue in
    let n : ℕ = head.count in
    let t4 : t < 4 = number_small head.tag in
    let n16 : n < 65536 = fits.count in
    let a : (i * 262144 + t * 65536 + n) / 262144 ≡ i = omega arith in
    let b : (i * 262144 + t * 65536 + n) / 65536 % 4 ≡ t = omega arith in
    let c : (i * 262144 + t * 65536 + n) % 65536 ≡ n = omega arith in
    λ k. record { issue = a k; tag = (ap tag_of b ∙ tag_number head.tag) k; count = c k }

code_decode : (word : ℕ) → code (decode word) ≡ word
unfolding code decode
code_decode word = let t : number_of_tag (tag_of (word / 65536 % 4)) ≡ word / 65536 % 4 = number_tag (word / 65536 % 4) (omega arith) in omega arith

decode_fits : (word : ℕ) → word < 2 ^ 64 → FitsBits (decode word)
unfolding decode
decode_fits word small = record { issue = omega arith; count = omega arith }

pub are_one_word : AreOneWord
are_one_word = record { word = code_small; back = decode_code; again = code_decode; fits = decode_fits }

pub all_are_sums : AllAreSums
unfolding code
all_are_sums head fits =
    let t4 = number_small head.tag in
    let i = fits.issue in
    let n = fits.count in
    record {
      hand_out = λ is none left. let t : number_of_tag head.tag ≡ 1 = ap number_of_tag is in omega arith;
      refer = λ room. omega arith;
      release = λ some. omega arith;
      link = λ is room. let t : number_of_tag head.tag ≡ 2 = ap number_of_tag is in omega arith;
      unlink = λ is some. let t : number_of_tag head.tag ≡ 3 = ap number_of_tag is in omega arith;
      condemn = λ idle.
          let both = and_parts (is_linked head.tag) (head.count == 1) idle in
          let t : number_of_tag head.tag ≡ 3 = ap number_of_tag (tag_linked head.tag both.0) in
          let one = eqb-true head.count 1 both.1 in omega arith;
      put_back = λ dead.
          let both = and_parts (is_unlinked head.tag) (head.count == 0) dead in
          let t : number_of_tag head.tag ≡ 2 = ap number_of_tag (tag_unlinked head.tag both.0) in omega arith;
      clear_free = λ is. let t : number_of_tag head.tag ≡ 1 = ap number_of_tag is in omega arith;
      clear_dead = λ dead.
          let both = and_parts (is_unlinked head.tag) (head.count == 0) dead in
          let t : number_of_tag head.tag ≡ 2 = ap number_of_tag (tag_unlinked head.tag both.0) in omega arith;
      cut = λ is. let t : number_of_tag head.tag ≡ 0 = ap number_of_tag is in omega arith;
    }
