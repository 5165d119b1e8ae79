-- The parts of a value that a worker got so far.
use Rattle.std.proofs.Common.{◌≡◌, ◌∙◌, ◌⊎◌, ◌<◌, ◌-◌, ◌++◌, ◌∷◌, [], ℕ, suc, List, length, take, drop, ap, arith, refl, subst, sym, append-nil, append_assoc, length-append, Option, Some, IfSome, get_or}
use Rattle.std.specs.List.{concat}
use Rattle.std.proofs.lemmas.List.{take-append-drop}
use Rattle.std.proofs.Math.Seq.{drop-cons}
use Rattle.std.proofs.lemmas.List.Folds.{concat-append}
use Rattle.mc_cache.specs.declared.cache.Cache.{Cache}
use Rattle.mc_cache.specs.declared.cache.Worker.{Worker}
use Rattle.mc_cache.specs.Belonging.{hash_in}
use Rattle.mc_cache.specs.Shards.{IsKey, ReadsOther, StoresNoMore}
use Rattle.mc_cache.specs.Versions.{GivesVersionOf, ReadsVersion}
use Rattle.mc_update.proofs.Acts.{acts_so}
use Rattle.mc_update.specs.Updates.{EndsWithoutMemory, FindsNoValue, GetsVersion, OnlyGets}
use Rattle.mc_large.specs.Getting.{AddsParts, AddsWhole, GetsRoot, GetsRootAt, OnlyGetsLarge, OnlyGetsSomeParts}
use Rattle.mc_large.specs.Keys.{IsLargeKey, part_key, root_key}
use Rattle.mc_large.specs.Parts.{FindsOtherPart, GetsParts, MissesPart, OnlyGetsParts}
use Rattle.mc_large.proofs.Chains.{gets_more, only_more}

-- what a get with a version gave
pub given : (cache : Cache) (place : List ℕ) (version : ℕ) (old new : List ℕ) (before now : Worker) → GivesVersionOf cache place version old new before now → OnlyGets cache place before now → (value : List ℕ) × GetsVersion cache place value version before now × (new ≡ old ++ value)
given cache place version old new before now gives only = (gives.0, record { reads = gives.1; only = only }, gives.2)

-- such a get did nothing else
pub gets_only : (cache : Cache) (key value : List ℕ) (version : ℕ) (before now : Worker) → GetsVersion cache key value version before now → EndsWithoutMemory cache key before now
gets_only cache key value version before now gets = record {
  stores_nothing = acts_so cache key (ReadsVersion (hash_in cache key) key value version) StoresNoMore before now (λ arena hand after reads. reads.1) gets.reads;
  only = gets.only;
}

pub lacks_only : (cache : Cache) (key : List ℕ) (before now : Worker) → FindsNoValue cache key before now → EndsWithoutMemory cache key before now
lacks_only cache key before now lacks = record {
  stores_nothing = acts_so cache key (ReadsOther (hash_in cache key) key) StoresNoMore before now (λ arena hand after reads. reads.1) lacks.none;
  only = lacks.only;
}

-- a get of a part, by the option that it returned
pub got_part : (cache : Cache) (place part old new : List ℕ) (before now : Worker) (o : Option ℕ) (version : ℕ) → place ≡ part → o ≡ Some version → IfSome o (λ v. GivesVersionOf cache place v old new before now) → OnlyGets cache place before now
    → (piece : List ℕ) × GetsVersion cache part piece version before now × (new ≡ old ++ piece)
got_part cache place part old new before now o version at is gives only =
    let got = given cache place version old new before now (subst (λ (some : Option ℕ). IfSome some (λ v. GivesVersionOf cache place v old new before now)) is gives) only in
    (got.0, subst (λ (p : List ℕ). GetsVersion cache p got.0 version before now) at got.1, got.2)

-- the cache takes a part's key, and a root's
pub part_taken : (key place : List ℕ) (number : ℕ) → IsLargeKey key → place ≡ part_key key number → IsKey place
part_taken key place number is at = subst (λ (p : List ℕ). IsKey p) (sym at) (let few = is.1 in (omega arith, omega (arith, few)))

pub root_taken : (key place : List ℕ) → IsLargeKey key → place ≡ root_key key → IsKey place
root_taken key place is at = subst (λ (p : List ℕ). IsKey p) (sym at) (let few = is.1 in (omega arith, omega (arith, few)))

-- a list is what it begins with, an element, and what follows
pub split_at : (versions : List ℕ) (i : ℕ) → i < length versions → versions ≡ take i versions ++ get_or versions i 0 ∷ drop (suc i) versions
split_at versions i within = sym (take-append-drop i versions) ∙ ap (λ (rest : List ℕ). take i versions ++ rest) (drop-cons versions i 0 within)

-- the parts of the first versions were got, and their pieces added
pub record AreGot (cache : Cache) (key versions old now_bytes : List ℕ) (before now : Worker) : Type 0 where
  pub pieces : List (List ℕ)
  pub gets : GetsParts cache key 0 versions pieces before now
  pub added : now_bytes ≡ old ++ concat pieces
  pub only : OnlyGetsParts (length versions) cache key 0 before now

module _ (cache : Cache) (key old : List ℕ) where
  pub none_got : (before : Worker) → AreGot cache key [] old old before before
  none_got before = record { pieces = []; gets = refl; added = sym (append-nil old); only = refl }

  pub one_got : (versions bytes more : List ℕ) (version : ℕ) (piece : List ℕ) (before between now : Worker) → AreGot cache key versions old bytes before between → GetsVersion cache (part_key key (length versions)) piece version between now
      → EndsWithoutMemory cache (part_key key (length versions)) between now → more ≡ bytes ++ piece → AreGot cache key (versions ++ version ∷ []) old more before now
  one_got versions bytes more version piece before between now were gets only added =
      let count : length (versions ++ version ∷ []) ≡ suc (length versions) = length-append versions (version ∷ []) ∙ omega arith in
      record {
        pieces = were.pieces ++ piece ∷ [];
        gets = gets_more cache key 0 (length versions) versions were.pieces version piece before between now (omega arith) were.gets gets;
        added = added
            ∙ (ap (λ (b : List ℕ). b ++ piece) were.added
            ∙ (append_assoc old (concat were.pieces) piece
            ∙ ap (λ (b : List ℕ). old ++ b) (sym (concat-append were.pieces (piece ∷ []) ∙ ap (λ (p : List ℕ). concat were.pieces ++ p) (append-nil piece)))));
        only = subst (λ (n : ℕ). OnlyGetsParts n cache key 0 before now) (sym count) (only_more cache key (length versions) 0 (length versions) before between now (omega arith) were.only only);
      }

-- only gets of the parts so far, and of one more
pub only_got : (cache : Cache) (key old bytes found : List ℕ) (before between now : Worker) → AreGot cache key found old bytes before between → EndsWithoutMemory cache (part_key key (length found)) between now → OnlyGetsSomeParts cache key before now
only_got cache key old bytes found before between now were only = (suc (length found), only_more cache key (length found) 0 (length found) before between now (omega arith) were.only only)

-- the next part isn't there with its version
pub misses_next : (cache : Cache) (key old bytes versions found others : List ℕ) (version : ℕ) (before between now : Worker) → versions ≡ found ++ version ∷ others → AreGot cache key found old bytes before between
    → FindsNoValue cache (part_key key (length found)) between now ⊎ FindsOtherPart cache (part_key key (length found)) version between now → MissesPart cache key versions before now
misses_next cache key old bytes versions found others version before between now split were misses =
    record { found = found; version = version; others = others; split = split; pieces = were.pieces; between = between; gets = were.gets; misses = misses }

-- pieces that are as long together as the root has it
pub are_whole : (cache : Cache) (key versions old new : List ℕ) (len start end_ : ℕ) (before now : Worker) → start ≡ length old → end_ ≡ length new → end_ - start ≡ len → AddsParts cache key versions old new before now → AddsWhole cache key versions len old new before now
are_whole cache key versions old new len start end_ before now is_start is_end is adds =
    record { adds = adds; whole = omega (arith, is_start, is_end, is, ap length adds.added, length-append old (concat adds.pieces)) }

-- a get of the root under its key
pub got_root : (cache : Cache) (key place bytes root : List ℕ) (before looked : Worker) → place ≡ root_key key → bytes ≡ root → GetsRootAt cache place bytes before looked → GetsRoot cache key root before looked
got_root cache key place bytes root before looked at is gets =
    subst (λ (p : List ℕ). GetsRootAt cache p root before looked) at (subst (λ (b : List ℕ). GetsRootAt cache place b before looked) is gets)

-- only a get of the root, and of some parts
pub only_large : (cache : Cache) (key place : List ℕ) (before looked now : Worker) → place ≡ root_key key → EndsWithoutMemory cache place before looked → OnlyGetsSomeParts cache key looked now → OnlyGetsLarge cache key before now
only_large cache key place before looked now at root parts = record { looked = looked; root = subst (λ (p : List ℕ). EndsWithoutMemory cache p before looked) at root; parts = parts }
