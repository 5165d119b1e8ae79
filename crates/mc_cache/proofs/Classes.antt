-- All shards have the classes of the first.
use Rattle.std.proofs.Common.{◌≡◌, ◌<◌, ◌∙◌, ℕ, false, List, All, IsSomeAnd, Option, Some, ap, arith, get_or, length, option_map, refl, slice_get, subst, sym}
use Rattle.std.proofs.lemmas.List.{get_or_default}
use Rattle.std.proofs.lemmas.Option.{get_or_from_slice_get, slice_get_read, slice_get_within}
use Rattle.mc_classes.specs.Classes.{Classes, IsTableOf}
use Rattle.mc_classes.proofs.OneTable.{one_table}
use Rattle.mc_words.specs.declared.arena.Arena.{Arena}
use Rattle.mc_words.specs.hand.Arenas.{setup_of}
use Rattle.mc_cache.specs.declared.cache.Cache.{Cache}
use Rattle.mc_cache.specs.declared.opening.CacheConfig.{CacheConfig}
use Rattle.mc_cache.specs.Observers.{classes_of}
use Rattle.mc_cache.specs.Opening.{IsNewShard}
use Rattle.mc_cache.specs.Shards.{HaveOneTable}
use Rattle.mc_cache.specs.Sizes.{LacksClassIn}
use Rattle.mc_shard.specs.Sizes.{has_class_for}

-- arenas that are made with one configuration have one table
pub have_one_table : (config : CacheConfig) (arenas : List Arena) → All (IsNewShard config) arenas → HaveOneTable arenas
have_one_table config arenas new first second low high at_low at_high = one_table config.arena (setup_of first).table (setup_of second).table (table_of first low at_low) (table_of second high at_high)
  where
    table_of : (arena : Arena) (place : ℕ) → slice_get arenas place ≡ Some arena → IsTableOf config.arena (setup_of arena).table
    table_of arena place at = subst (λ (a : Arena). IsTableOf config.arena (setup_of a).table) (get_or_from_slice_get arenas place arena arena at) ((new place arena (slice_get_within arenas place arena at)).made.table)

module _ (cache : Cache) (arena : Arena) (shard : ℕ) (in_range : shard < length cache.arenas.items) (is_arena : arena ≡ get_or cache.arenas.items shard arena) where
  -- the cache has the classes of this shard
  pub classes_are : classes_of cache ≡ Some (setup_of arena).table
  classes_are =
      let first : Arena = get_or cache.arenas.items 0 arena in
      let at_first = slice_get_read cache.arenas.items (length cache.arenas.items) 0 first refl (omega (arith, in_range)) (get_or_default cache.arenas.items 0 arena first (omega (arith, in_range))) in
      let at_shard = slice_get_read cache.arenas.items (length cache.arenas.items) shard arena refl in_range is_arena in
      ap (option_map (λ (a : Arena). (setup_of a).table)) at_first ∙ ap Some (cache.alike first arena 0 shard at_first at_shard)

  -- what lacks a class at one shard lacks one in the cache
  pub lacks_in : (key_len value_len : ℕ) → has_class_for (setup_of arena).table key_len value_len ≡ false → LacksClassIn cache key_len value_len
  lacks_in key_len value_len none = subst (λ (o : Option Classes). IsSomeAnd o (λ classes. has_class_for classes key_len value_len ≡ false)) (sym classes_are) none

  -- and the other way
  pub lacks_there : (key_len value_len : ℕ) → LacksClassIn cache key_len value_len → has_class_for (setup_of arena).table key_len value_len ≡ false
  lacks_there key_len value_len lacks = subst (λ (o : Option Classes). IsSomeAnd o (λ classes. has_class_for classes key_len value_len ≡ false)) classes_are lacks
