-- The class table of a configuration, computed.
use Rattle.std.specs.Prelude.{ℕ, zero, suc, ◌-◌, nat_le, if◌then◌else◌, List, [], ◌∷◌, length, map, Option, None, Some}
use Rattle.std.specs.List.{range_with_len}
use Rattle.mc_classes.specs.declared.config.Config.{Config}
use Rattle.mc_classes.specs.Classes.{Classes, size_of}
use Rattle.mc_classes.specs.Refusals.{is_below_max, rounded_up}
use Rattle.mc_waste.specs.Waste.{scaled_size, least_item}

-- the sizes from a raw size on, at most n of them before the last one
unfoldable pub sizes_from : ℕ → Config → ℕ → List ℕ
sizes_from zero config raw = config.max ∷ []
sizes_from (suc more) config raw =
    if is_below_max config raw then rounded_up raw ∷ sizes_from more config (scaled_size config (rounded_up raw))
    else config.max ∷ []

-- the configuration's table: 62 sizes at most before the last one
abbrev pub table_of : Config → Classes
table_of config = record { page = config.page; limit = config.limit; sizes = sizes_from 62 config config.first }

-- how many bytes the smallest item of the class leaves unused, if there is an item that goes there
abbrev pub waste_of : Classes → ℕ → Option ℕ
waste_of table class =
    if nat_le (least_item table class) (size_of table class) then Some (size_of table class - least_item table class)
    else None

-- how many bytes the smallest item of each class leaves unused, class 1 first; none for a class to which no item goes
abbrev pub wastes_of : Classes → List (Option ℕ)
wastes_of table = map (λ class. waste_of table class) (range_with_len 1 (length table.sizes))
