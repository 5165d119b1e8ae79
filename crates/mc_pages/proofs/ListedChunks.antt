-- A chunk that a class's lists have: it stands there once, and its page is the class's.
use Rattle.std.proofs.Common.{◌≡◌, ℕ, ◌+◌, ◌≤◌, arith}
use Rattle.mc_pages.specs.declared.ids.ChunkId.{ChunkId}
use Rattle.mc_pages.specs.ClassState.{times_in}
use Rattle.mc_pages.specs.SlabState.{SlabState, HasClass, class_at, class_of_page}
use Rattle.mc_pages.specs.Accounted.{IsAccounted, is_cut}
use Rattle.mc_pages.proofs.Cleared.{truth-le_one}
use Rattle.mc_pages.proofs.HandedOut.{class_of_placed}

-- where a class's lists have a chunk, they have it once, and its page is the class's
pub in_lists_once : (slabs : SlabState) (class : ℕ) (x : ChunkId) → IsAccounted slabs → HasClass slabs class
    → times_in x (class_at slabs class).free + times_in x (class_at slabs class).order ≤ 1
in_lists_once slabs class x accounted valid = omega (arith, accounted.chunks class x valid, truth-le_one (is_cut slabs class x))

pub page_of_listed : (slabs : SlabState) (class : ℕ) (x : ChunkId) → IsAccounted slabs → HasClass slabs class
    → 1 ≤ times_in x (class_at slabs class).free + times_in x (class_at slabs class).order → class_of_page slabs x.page ≡ class
page_of_listed slabs class x accounted valid some = class_of_placed slabs class x accounted valid some
