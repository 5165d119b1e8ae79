-- What a hand counts beside its chunks: the stamps that it gave out, and the chunks that it fills.
use Rattle.std.specs.Prelude.{◌≡◌, ℕ, ◌+◌, ◌*◌, ◌^◌, nat_lt, if◌then◌else◌, List, [], ◌∷◌, unwrap_or, Option, Some, None}
use Rattle.mc_pages.specs.Accounted.{truth}
use Rattle.mc_core.specs.declared.holding.Holding.{Holding}
use Rattle.mc_core.specs.declared.ids.Ids.{Ids}
use Rattle.mc_core.specs.model.Holdings.{is_fresh}
use Rattle.mc_core.specs.run.Items.{most_stamps}
use Rattle.mc_words.specs.rule.Told.{Sits}

-- how many of the holdings are fresh
abbrev pub fresh_count : List Holding → ℕ
fresh_count [] = 0
fresh_count (holding ∷ holdings) = truth (is_fresh holding) + fresh_count holdings

-- the two numbers are the hand's: how many stamps it gave out, and how many chunks it fills
abbrev pub IsTallied : Sits → ℕ → ℕ → Type 0
IsTallied me stamps fresh = (stamps ≡ me.0.row.ids.stamps) × (fresh ≡ fresh_count me.0.row.holdings)

-- the stamp of the hand's next item: 2^48 times its number, and one more than it gave out; none where all were given out
abbrev pub next_stamp : Ids → Option ℕ
next_stamp ids = if nat_lt ids.stamps most_stamps then Some (unwrap_or ids.number 0 * 2 ^ 48 + (ids.stamps + 1)) else None
