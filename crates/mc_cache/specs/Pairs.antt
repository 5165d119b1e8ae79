-- Lists whose elements go together, place by place.
use Rattle.std.specs.Prelude.{◌≡◌, ◌<◌, ℕ, List, length, slice_index_or}

-- the two lists are of one length, and the two elements at each place go together
pub record ArePaired {A B : Type 0} (Goes : A → B → Type 0) (xs : List A) (ys : List B) : Type 0 where
  pub count : length ys ≡ length xs
  pub each : (place : ℕ) (x : A) (y : B) → place < length xs → Goes (slice_index_or xs place x) (slice_index_or ys place y)
