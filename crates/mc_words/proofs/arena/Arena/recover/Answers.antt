use Rattle.std.proofs.Common.{[], refl}
use Rattle.mc_words.specs.hand.Arenas.{view}
use Rattle.mc_words.proofs.Chunks.Recovered.{nothing_in}
use Rattle.mc_words.proofs.arena.Arena.recover.Goals as goal

-- there is no hint, and nothing is looked at
pub returns-then-pages-eq0-clause-recovers : goal.returns-then-pages-eq0-clause-recovers
returns-then-pages-eq0-clause-recovers c = record { looked = []; seen = view c.args.hand.now; sees = refl; again = []; oldest_first = refl; each = (refl, refl); alive = λ chunk there listed out. absurd (nothing_in chunk there) }
