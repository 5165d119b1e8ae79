-- What a chart shows.
use Rattle.std.specs.Prelude.{◌≡◌, ℕ, ◌+◌, List, length, map, Some}
use Rattle.mc_pages.specs.declared.ledger.Owner.{Owner}
use Rattle.mc_pages.specs.declared.ledger.Entry.{Entry}
use Rattle.mc_map.specs.declared.replay.Misfit as misfit
use Rattle.mc_map.specs.declared.replay.Misfit.TheVariants as misfits
use Rattle.mc_map.specs.Replays.{replayed_owners}
use Rattle.mc_picture.specs.declared.chart.ChartError.{ChartError}
use Rattle.mc_picture.specs.declared.chart.ChartError.TheVariants as errors
use Rattle.mc_picture.specs.Drawn.{IsDrawn}

-- why no chart is drawn where entries make no owners
abbrev pub chart_error_of : misfit.Misfit → ChartError
chart_error_of misfits.Entry = errors.Misfit
chart_error_of (misfits.NoMemory refused) = errors.Memory

-- a chart is behind the old text, in which column k shows what the first k entries make of n untouched pages
pub record IsChart (pages : ℕ) (entries : List Entry) (old new : List ℕ) : Type 0 where
  pub columns : List (List Owner)
  pub replayed : map Some columns ≡ replayed_owners pages entries (length entries + 1)
  pub drawn : IsDrawn columns pages old new
