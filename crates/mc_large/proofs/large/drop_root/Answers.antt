use Rattle.std.proofs.Common.{true}
use Rattle.mc_cache.specs.Belonging.{ActsOnKey, DeletesNoneOf, hash_in}
use Rattle.mc_cache.specs.Shards.{DeletesThere, IsKey, LooksInVain}
use Rattle.mc_cache.proofs.Acts.{deleted_any}
use Rattle.mc_large.proofs.large.drop_root.Goals as goal

pub returns-clause-drops : goal.returns-clause-drops
returns-clause-drops g c =
    let did = c.delete-deleted.ensures in
    let cache = c.args.cache.now in
    let place = c.args.place.now in
    let before = c.args.worker.now in
    let now = c.delete-deleted.new.self in
    record {
      deletes = deleted_any (ActsOnKey cache place (DeletesThere (hash_in cache place) place true) before now) (DeletesNoneOf cache place before now) (ActsOnKey cache place (LooksInVain (hash_in cache place)) before now) (IsKey place) c.delete-deleted.result c.requires.place did.deletes did.none did.refused;
      calls = did.calls c.requires.place;
      untouched = did.untouched c.requires.place;
    }
