-- A chart: cells, and the text before and behind them.
use Rattle.std.specs.Prelude.{◌≡◌, ℕ, List, ◌++◌}
use Rattle.mc_pages.specs.declared.ledger.Owner.{Owner}
use Rattle.mc_picture.specs.Cells.{cells_text}

-- a text goes on from another
abbrev pub TextExtends : List ℕ → List ℕ → Type 0
TextExtends old new = (more : List ℕ) × (new ≡ old ++ more)

-- the cells of the first n pages in these columns are behind the old text, with some text before them and some behind
pub record IsDrawn (columns : List (List Owner)) (pages : ℕ) (old new : List ℕ) : Type 0 where
  pub front : List ℕ
  pub back : List ℕ
  pub whole : new ≡ old ++ (front ++ cells_text columns pages ++ back)
