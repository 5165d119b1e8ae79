-- Headers as words: each is one, and a change of it adds to its word, or takes from it.
use Rattle.std.specs.Prelude.{◌≡◌, ℕ, ◌+◌, ◌-◌, ◌%◌, ◌^◌, ◌<◌, ◌≤◌, true}
use Rattle.mc_core.specs.declared.head.Head.{Head}
use Rattle.mc_core.specs.declared.head.Tag.TheVariants.{Out, Free, Unlinked, Linked}
use Rattle.mc_core.specs.model.Head.{code, decode, is_dead}
use Rattle.mc_core.specs.run.Chunks.{most_issue, head_after_hand_out, head_after_release, with_tag_free, with_tag_out}
use Rattle.mc_core.specs.run.Items.{head_after_link, head_after_unlink, head_after_refer}
use Rattle.mc_core.specs.run.Evictions.{is_linked_unheld, head_after_condemn}

-- a word of 64 bits after so much is added to it
abbrev pub word_plus : ℕ → ℕ → ℕ
word_plus more word = (word + more) % 2 ^ 64

-- a word of 64 bits after so much is taken from it
abbrev pub word_minus : ℕ → ℕ → ℕ
word_minus less word = (word + (2 ^ 64 - less)) % 2 ^ 64

-- issue number and count fit their bits
pub record FitsBits (head : Head) : Type 0 where
  pub issue : head.issue < 2 ^ 46
  pub count : head.count < 2 ^ 16

-- a header that fits is one word, and a word is one header
pub record AreOneWord : Type 0 where
  pub word : (head : Head) → FitsBits head → code head < 2 ^ 64
  pub back : (head : Head) → FitsBits head → decode (code head) ≡ head
  pub again : (word : ℕ) → code (decode word) ≡ word
  pub fits : (word : ℕ) → word < 2 ^ 64 → FitsBits (decode word)

-- each change of this header adds one number to its word, or takes one from it
pub record AreSums (head : Head) : Type 0 where
  pub hand_out : head.tag ≡ Free → head.count ≡ 0 → head.issue < most_issue → code (head_after_hand_out head) ≡ word_plus 327681 (code head)
  pub refer : head.count < 65535 → code (head_after_refer head) ≡ word_plus 1 (code head)
  pub release : 1 ≤ head.count → code (head_after_release head) ≡ word_minus 1 (code head)
  pub link : head.tag ≡ Unlinked → head.count < 65535 → code (head_after_link head) ≡ word_plus 65537 (code head)
  pub unlink : head.tag ≡ Linked → 1 ≤ head.count → code (head_after_unlink head) ≡ word_minus 65537 (code head)
  pub condemn : is_linked_unheld head ≡ true → code (head_after_condemn head) ≡ word_minus 65537 (code head)
  pub put_back : is_dead head ≡ true → code (with_tag_free head) ≡ word_minus 65536 (code head)
  pub clear_free : head.tag ≡ Free → code (with_tag_out head) ≡ word_minus 65536 (code head)
  pub clear_dead : is_dead head ≡ true → code (with_tag_out head) ≡ word_minus 131072 (code head)
  pub cut : head.tag ≡ Out → code (with_tag_free head) ≡ word_plus 65536 (code head)

-- each change of each header that fits its bits adds one number to its word, or takes one from it
abbrev pub AllAreSums : Type 0
AllAreSums = (head : Head) → FitsBits head → AreSums head
