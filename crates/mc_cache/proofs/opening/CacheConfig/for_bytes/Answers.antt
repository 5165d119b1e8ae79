use Rattle.mc_cache.proofs.Sized.{sized_by}
use Rattle.mc_cache.proofs.opening.CacheConfig.for_bytes.Goals as goal

pub roomiest-requires : goal.roomiest-requires
roomiest-requires c =
    let found = c.with_most_shards-most.ensures in
    record { sized = sized_by c.args.bytes c.args.usual_item c.args.workers 1 c.least_size-least.result c.with_most_shards-most.result c.least_size-least.ensures.config found.accepted found.fits found.full found.workers found.arena }
