-- What an owner owns: the client at its pointer, with the right to free the block, or nothing.
use Rattle.std.specs.Prelude.{Bool, true, false}
use base.Fml.{Fml, ftrue}
use denote.RawPtr.{Ptr}
use Rattle.std.specs.declared.alloc.Global.{Global}
use Rattle.std.specs.contracts.impls.GlobalAllocator.TheImpl.{ghosts}
use Rattle.std_alloc.specs.Box.Ownership.{box_owns}
use Rattle.mc_c.specs.declared.client.Client.{Client}
use Rattle.mc_c.specs.contracts.client.Client.{the_row}

-- the client lies at the pointer, whose block may be freed, if the owner is full
abbrev pub owns_if : Bool → Global → Ptr → Client → Fml
owns_if true alloc at client = box_owns (ghosts.dealloc_token alloc) the_row at client
owns_if false alloc at client = ftrue
