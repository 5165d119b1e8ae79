-- Workers that lie in a struct between calls: of their hands only propositions are known, as a fact of a struct may be.
use Rattle.std.specs.Prelude.{◌≡◌, [], ℕ, List, length}
use Rattle.mc_words.specs.declared.arena.Arena.{Arena}
use Rattle.mc_words.specs.declared.hand.Hand.{Hand}
use Rattle.mc_words.specs.hand.Arenas.{view}
use Rattle.mc_words.specs.hand.Observers.{hand_number}
use Rattle.mc_words.specs.hand.Ready.{IsReady}
use Rattle.mc_words.specs.hand.Seats.{IsSeatedAt}
use Rattle.mc_cache.specs.declared.cache.Cache.{Cache}
use Rattle.mc_cache.specs.declared.cache.Worker.{Worker}
use Rattle.mc_cache.specs.declared.tending.Tender.{Tender}
use Rattle.mc_cache.specs.Belonging.{ActsOnKey, hash_in}
use Rattle.mc_cache.specs.Observers.{shard_count}
use Rattle.mc_cache.specs.Pairs.{ArePaired}
use Rattle.mc_cache.specs.Tending.{deciders_of}

-- the hand sits at the arena's table, may make any call, and holds nothing: what is left of an idle hand without a moment
pub record IsRestingHandOf (arena : Arena) (hand : Hand) : Type 0 where
  pub seated : IsSeatedAt arena hand
  pub ready : IsReady (view hand)
  pub none : (view hand).row.holdings ≡ []

-- the worker has a resting hand of each of the cache's arenas
abbrev pub RestsIn : Cache → Worker → Type 0
RestsIn cache worker = ArePaired IsRestingHandOf cache.arenas.items worker.hands.items

-- the tender has a resting hand and a decider for each shard of the cache
pub record TenderRestsIn (cache : Cache) (tender : Tender) : Type 0 where
  pub hands : RestsIn cache tender.worker
  pub deciders : length (deciders_of tender) ≡ shard_count cache

-- the hand was recalled, which changed nothing of what it has and knows, and then did this
pub record ActsWhenRecalled (Does : Arena → Hand → Hand → Type 0) (arena : Arena) (before now : Hand) : Type 0 where
  pub again : Hand
  pub view_is : view again ≡ view before
  pub number_is : hand_number again ≡ hand_number before
  pub does : Does arena again now

-- the worker's hand of the key's shard was recalled, and then did this; its other hands are unchanged
abbrev pub ActsAgain : Cache → List ℕ → (ℕ → Arena → Hand → Hand → Type 0) → Worker → Worker → Type 0
ActsAgain cache key Does before now = ActsOnKey cache key (ActsWhenRecalled (Does (hash_in cache key))) before now
