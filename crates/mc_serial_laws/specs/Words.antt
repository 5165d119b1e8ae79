-- The words that a run replies: those that were stored last, and those that were there at a hold.
use Rattle.std.specs.Prelude.{◌≡◌, ℕ, ◌==◌, List, [], find, codes, Option, Some, None}
use Rattle.mc_classes.specs.Classes.{Classes}
use Rattle.mc_script.specs.declared.command.Command.{Command}
use Rattle.mc_script.specs.declared.command.Command.TheVariants.{Get, Drop}
use Rattle.mc_serial_spec.specs.Machine.{Machine, fresh_machine}
use Rattle.mc_serial_spec.specs.Lines.{Outcome, serve, after_all}
use Rattle.mc_serial_spec.specs.Texts.{key_line, words_line}
use Rattle.mc_serial_laws.specs.Answered.{HeldWords, answers, last_words, held_words}

-- the reply to a get of a key with these last words: the worker holds too much, the key has no item, or it has these words
pub data IsReplyToGet (key : ℕ) (last : Option (List ℕ)) (reply : List ℕ) : Type 0 where
  full : reply ≡ key_line (codes "TOO_MANY_REFS") key → IsReplyToGet key last reply
  absent : reply ≡ key_line (codes "NOT_FOUND") key → IsReplyToGet key last reply
  found : (words : List ℕ) → last ≡ Some words → reply ≡ words_line (codes "VALUE") key words → IsReplyToGet key last reply

-- the reply to a drop of a key, where this is the worker's last hold of it
abbrev pub reply_to_drop : ℕ → Option HeldWords → List ℕ
reply_to_drop key None = key_line (codes "NOT_HELD") key
reply_to_drop key (Some held) = words_line (codes "DROPPED") key held.words

-- a get after these commands replies the words of the last stored set of its key, with no delete since
abbrev pub PrintsLastWords : Classes → ℕ → ℕ → List Command → Type 0
PrintsLastWords table bulk mode commands = (m : Machine) (worker key : ℕ) (served : Outcome)
    → after_all (fresh_machine table bulk mode) commands ≡ Some m → serve m (Get worker key) ≡ Some served
    → IsReplyToGet key (last_words key (answers (fresh_machine table bulk mode) commands [])) served.reply

-- a drop after these commands replies the words that its worker last held of the key
abbrev pub PrintsHeldWords : Classes → ℕ → ℕ → List Command → Type 0
PrintsHeldWords table bulk mode commands = (m : Machine) (worker key : ℕ) (served : Outcome)
    → after_all (fresh_machine table bulk mode) commands ≡ Some m → serve m (Drop worker key) ≡ Some served
    → served.reply ≡ reply_to_drop key (find (λ held. held.key == key) (held_words worker (answers (fresh_machine table bulk mode) commands [])))
