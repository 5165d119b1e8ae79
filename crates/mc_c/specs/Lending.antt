-- What an owner is once a borrow of its client ends.
use base.Fml.{Fml}
use denote.Follow.{follows}
use Rattle.std.specs.Borrow.{MutBor}
use Rattle.mc_c.specs.declared.client.Client.{Client}
use Rattle.mc_c.specs.declared.owner.Owner.{Owner}
use Rattle.mc_c.specs.contracts.client.Client as client
use Rattle.mc_c.specs.contracts.owner.Owner as owner

-- the owner with another client in its place
abbrev pub with_client : Owner → Client → Owner
with_client h client = record { at = h.at; alloc = h.alloc; full = h.full; client = client }

-- once the borrow of the client ends, the owner has the last client that was written through it
abbrev pub owner_follows : MutBor Owner → MutBor Client → Fml
owner_follows o c = follows owner.the_row client.the_row o.ghost_name c.ghost_name (with_client o.now)
