use Rattle.mc_pages.proofs.Owners.{within_from_class_of_owner}
use Rattle.mc_serial_parts.proofs.dead.class_of.Goals as goal

pub owner-requires : goal.owner-requires
owner-requires c = within_from_class_of_owner c.args.chunk.page _ c.requires.0
