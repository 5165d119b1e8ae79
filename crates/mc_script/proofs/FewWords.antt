-- A line with more words than any command has writes none.
use Rattle.std.proofs.Common.{◌≡◌, ℕ, List, [], ◌∷◌, take, None, refl, sym, ◌∙◌}
use Rattle.mc_script.specs.Forms.{command_of, set_of, on_key_of, reassign_of, with_number_of, bare_of}

-- six words or more are no command
none_of_more : (a b c d e f : List ℕ) (words : List (List ℕ)) → command_of (a ∷ b ∷ c ∷ d ∷ e ∷ f ∷ words) ≡ None
unfolding command_of set_of on_key_of reassign_of with_number_of bare_of
none_of_more a b c d e f words = refl

-- so the first six words tell the command
pub command_of_six : (words : List (List ℕ)) → command_of (take 6 words) ≡ command_of words
command_of_six [] = refl
command_of_six (a ∷ []) = refl
command_of_six (a ∷ b ∷ []) = refl
command_of_six (a ∷ b ∷ c ∷ []) = refl
command_of_six (a ∷ b ∷ c ∷ d ∷ []) = refl
command_of_six (a ∷ b ∷ c ∷ d ∷ e ∷ []) = refl
command_of_six (a ∷ b ∷ c ∷ d ∷ e ∷ f ∷ words) = none_of_more a b c d e f [] ∙ sym (none_of_more a b c d e f words)
