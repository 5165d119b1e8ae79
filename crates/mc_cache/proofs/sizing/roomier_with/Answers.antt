use Rattle.mc_cache.proofs.Sized.{sized_by, sized_one}
use Rattle.mc_cache.proofs.sizing.roomier_with.Goals as goal

pub returns : goal.returns
returns c =
    let found = c.with_most_shards.ensures in
    let other = sized_by c.args.bytes c.args.usual_item c.args.workers c.args.pages c.sized-config.result c.with_most_shards.result c.sized-config.ensures.config found.accepted found.fits found.full found.workers found.arena in
    record { sized = sized_one c.args.bytes c.args.usual_item c.args.workers c.args.best c.with_most_shards.result c.roomier.result c.requires.sized other c.roomier.ensures.one }
