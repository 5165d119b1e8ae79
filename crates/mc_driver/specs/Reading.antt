-- How a script comes from a reader.
use Rattle.std.specs.Prelude.{◌≡◌, ℕ, ◌<◌, ◌≤◌, List, ◌++◌, length, drop, Option}
use Rattle.std.specs.Io.KnownBytes.{Consumes}
use Rattle.mc_driver.specs.declared.fault.RunFault.{RunFault}
use Rattle.mc_driver.specs.declared.fault.RunFault.TheVariants.{Config, Script, TooLong, Read, Write, Memory, Thread, Turns}

-- a read failed, which the reader counts; or memory ran out, and no read failed
abbrev pub IsReadFault : ℕ → ℕ → RunFault → Type 0
IsReadFault old new Read = old < new
IsReadFault old new (Memory refused) = new ≡ old
IsReadFault old new (Config number) = ⊥
IsReadFault old new (Script number) = ⊥
IsReadFault old new TooLong = ⊥
IsReadFault old new Write = ⊥
IsReadFault old new (Thread unstarted) = ⊥
IsReadFault old new Turns = ⊥

-- the reader gave n bytes, which went from what was left to the end of what was read
pub record TakesPiece (given_old given_new : List ℕ) (left_old left_new : Option (List ℕ)) (old new : List ℕ) (count : ℕ) : Type 0 where
  pub piece : List ℕ
  pub gave : given_new ≡ given_old ++ piece
  pub consumed : Consumes left_old left_new piece
  pub appended : new ≡ old ++ piece
  pub counted : length piece ≡ count

-- what is behind the bytes of before
abbrev pub since : List ℕ → List ℕ → List ℕ
since old new = drop (length old) new

-- the reader gave at most n bytes
abbrev pub GivesAtMost : ℕ → List ℕ → List ℕ → Type 0
GivesAtMost most old new = (piece : List ℕ) × (new ≡ old ++ piece) × (length piece ≤ most)

-- at most n bytes were taken from what was left
abbrev pub TakesAtMost : ℕ → Option (List ℕ) → Option (List ℕ) → Type 0
TakesAtMost most old new = (taken : List ℕ) × Consumes old new taken × (length taken ≤ most)
