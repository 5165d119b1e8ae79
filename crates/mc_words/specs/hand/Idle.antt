-- Hands that have nothing: no lock, and no chunk.
use Rattle.std.specs.Prelude.{Bool, ◌&&◌, ◌==◌, is_none, length}
use Rattle.std.specs.List.{list_all}
use Rattle.mc_words.specs.hand.View.{View}

-- the hand has no stripe's lock
abbrev pub has_no_stripes : View → Bool
has_no_stripes view = list_all is_none view.stripes

-- the hand has no lock
abbrev pub is_unlocked : View → Bool
is_unlocked view = is_none view.slabs && has_no_stripes view

-- the hand has no lock, and holds no chunk
abbrev pub is_idle : View → Bool
is_idle view = is_unlocked view && (length view.row.holdings == 0)
