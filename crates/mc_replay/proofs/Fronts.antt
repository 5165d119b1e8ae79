-- The changes so far and those of what is left.
use Rattle.std.proofs.Common.{List, ◌++◌, Option, Some, None}
use Rattle.mc_core.specs.declared.event.Change.{Change}

-- changes in front of those that are given
abbrev pub after_front : List Change → Option (List Change) → Option (List Change)
after_front front None = None
after_front front (Some changes) = Some (front ++ changes)
