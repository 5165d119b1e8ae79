-- What follows from all that a hand saw and changed under one hold of the slabs lock, the oldest first.
use Rattle.std.specs.Prelude.{Bool, false, not, ◌&&◌, ◌||◌, if◌then◌else◌, List}
use Rattle.std.specs.List.{fold}
use Rattle.mc_pages.specs.declared.ids.ChunkId.{ChunkId}
use Rattle.mc_pages.specs.ClassState.{is_chunk}
use Rattle.mc_core.specs.declared.look.Look.{Look}
use Rattle.mc_core.specs.declared.look.Look.TheVariants.{Saw, Popped, PoppedOff, Condemned, PutBack, Cleared}
use Rattle.mc_core.specs.model.Head.{is_dead, is_linked}

-- after this look: the chunk was found linked, and neither put back nor cleared since; `before` is the answer before the look
abbrev pub stays_linked : ChunkId → Bool → Look → Bool
stays_linked chunk before (Saw seen head) = before || is_chunk seen chunk && is_linked head.tag
stays_linked chunk before (PutBack seen head) = before && not (is_chunk seen chunk)
stays_linked chunk before (Cleared seen head) = before && not (is_chunk seen chunk)
stays_linked chunk before look = before

-- the chunk was found linked, and neither put back nor cleared since
abbrev pub was_linked : List Look → ChunkId → Bool
was_linked looks chunk = fold (stays_linked chunk) false looks

-- after this look: the last look at the chunk found it not dead, and nothing was handed out, condemned or cleared since; `before` is the
-- answer before the look
abbrev pub stays_alive : ChunkId → Bool → Look → Bool
stays_alive chunk before (Saw seen head) = if is_chunk seen chunk then not (is_dead head) else before
stays_alive chunk before (Popped seen head) = false
stays_alive chunk before (PoppedOff seen old head) = false
stays_alive chunk before (Condemned seen head) = false
stays_alive chunk before (Cleared seen head) = false
stays_alive chunk before look = before

-- the last look at the chunk found it not dead, and since then the hand handed out, condemned and cleared nothing
abbrev pub is_found_alive : List Look → ChunkId → Bool
is_found_alive looks chunk = fold (stays_alive chunk) false looks
