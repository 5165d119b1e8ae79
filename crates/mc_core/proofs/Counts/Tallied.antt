-- The clauses on counts and holdings, of a state.
use Rattle.mc_core.specs.model.State.{State}
use Rattle.mc_core.specs.law.Counts.{AreCounted, AreHeld}

-- counts and holdings are as the law says
abbrev pub IsTallied : State → Type 0
IsTallied state = AreCounted state.table state.heads state.holdings × AreHeld state.table state.slabs state.heads state.words state.holdings
