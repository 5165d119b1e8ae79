-- What the reader of lists has read.
use Rattle.std.specs.Prelude.{◌≡◌, ◌++◌, ℕ, List}

-- the reader gave some bytes more, which are behind those that were there
pub record GivesMore (given_old given_new old new : List ℕ) : Type 0 where
  pub piece : List ℕ
  pub gave : given_new ≡ given_old ++ piece
  pub appended : new ≡ old ++ piece
