use Rattle.mc_large.proofs.Drops.{dropped_this}
use Rattle.mc_large.proofs.parts.drop_part.Goals as goal

pub returns-clause-drops : goal.returns-clause-drops
returns-clause-drops g c =
    let did = c.delete_version-deletion.ensures in
    dropped_this c.args.cache.now c.args.part.now c.args.version c.args.worker.now c.delete_version-deletion.new.self c.delete_version-deletion.result c.requires.key did.deletes did.exists did.missing did.refused did.calls did.looks (did.untouched c.requires.key)
