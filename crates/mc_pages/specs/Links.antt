-- How a link is kept in memory.
use Rattle.std.specs.Prelude.{◌+◌, ◌-◌, ◌*◌, ◌/◌, ◌%◌, ◌<◌, ◌==◌, if◌then◌else◌, Option, Some, None}
use Rattle.mc_classes.specs.Limits.{most_page_chunks}
use Rattle.mc_pages.specs.declared.ids.ChunkId.{ChunkId}
use Rattle.mc_pages.specs.declared.rows.link.Link.TheInside.{Inside}

-- a chunk is kept as a number above 0, and none as 0
abbrev pub link_of_number : Inside → Option ChunkId
link_of_number link = if link.number == 0 then None else Some (record { page = (link.number - 1) / most_page_chunks; index = (link.number - 1) % most_page_chunks })

-- the number of a link
abbrev pub link_number : Option ChunkId → Inside
link_number None = record { number = 0 }
link_number (Some chunk) = record { number = chunk.page * most_page_chunks + chunk.index + 1 }

-- the chunk, if there is one, has a number
abbrev pub HasNumber : Option ChunkId → Type 0
HasNumber None = Unit {0}
HasNumber (Some chunk) = (chunk.page < 65536) × (chunk.index < most_page_chunks)
