-- What clauses see of an arena and of a hand.
use Rattle.std.specs.Prelude.{◌≡◌}
use Rattle.atomic_table.specs.Seated.{TableId}
use Rattle.mc_words.specs.declared.arena.Arena.{Arena}
use Rattle.mc_words.specs.declared.hand.Hand.{Hand}
use Rattle.mc_words.specs.hand.View.{Setup, View}
use Rattle.mc_words.specs.rule.Happens.{LawfulView}

-- what the hand knows
abbrev pub view : Hand → View
view hand = hand.seat.me.0

-- what the arena was made with
abbrev pub setup_of : Arena → Setup
setup_of arena = arena.table.shared.key

-- what has this view at this table is of the arena, and the view is of a lawful moment
pub record IsOfArena (arena : Arena) (table : TableId) (view : View) : Type 0 where
  pub same_table : table ≡ arena.table.shared.table_id
  pub setup : view.setup ≡ setup_of arena
  pub lawful : LawfulView view

-- the hand is one of the arena's
abbrev pub IsHandOf : Arena → Hand → Type 0
IsHandOf arena hand = IsOfArena arena hand.seat.table_id (view hand)
