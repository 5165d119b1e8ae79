-- A full owner and its parts own what a box at the same types owns.
use mir.Syntax.{impl, tnil, dnil}
use mathlib.Core.List.{[]}
use denote.Signature.{Slot, plain}
use Rattle.std_alloc.proofs.BoxSteps.Form.{Bx}
use Rattle.std_heap.specs.contracts.Global as Heap
use Rattle.std_heap.specs.contracts.GlobalAllocator.TheImpl.{ghosts, dict}
use Rattle.std_heap.proofs.Global.TheLaws as heap
use Rattle.mc_c.specs.contracts.client.Client as Client
use Rattle.mc_c.proofs.client.Client.TheLaws as client
use Rattle.mc_c.specs.contracts.parts.Parts as Parts
use Rattle.mc_c.specs.contracts.owner.Owner as Owner

abbrev pub E : Bx
E = record { row = Client.the_row; laws = client.the_row_laws; al = record { row = Heap.the_row; laws = heap.the_row_laws; g = ghosts; d = dict; drops = impl [] tnil dnil } }

abbrev pub FromParts : Slot 0
FromParts = plain (λ _. Parts.the_row Client.the_row Heap.the_row ghosts)

abbrev pub FromOwner : Slot 0
FromOwner = plain (λ _. Owner.the_row)
