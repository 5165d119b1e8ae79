-- What a look saw under a hash, with its stamp.
use Rattle.std.proofs.Common.{◌≡◌, ◌∙◌, ℕ, List, Some, sym, ap, subst}
use Rattle.std.specs.Option.{option_map}
use Rattle.mc_packing.specs.Packing.{IsPackingOf, packed_item, value_in}
use Rattle.mc_words.specs.declared.arena.Arena.{Arena}
use Rattle.mc_words.specs.declared.hand.Hand.{Hand}
use Rattle.mc_words.specs.hand.Arenas.{setup_of, view}
use Rattle.mc_items.specs.declared.refs.Ref.{Ref}
use Rattle.mc_items.specs.ItemRefs.{item_stamp, item_words}
use Rattle.mc_shard.specs.declared.looking.Seen.TheVariants.{OtherKey, Key}
use Rattle.mc_shard.specs.Conditions.{FindsVersion, ReturnsVersion, Sees}
use Rattle.mc_shard.specs.Finding.{FindsItem, FindsWords, PutsValue}

module _ (arena : Arena) (hash : ℕ) (key : List ℕ) (before got : Hand) (item : Ref) (stamp : ℕ) (found : FindsItem arena hash item before got) (is : stamp ≡ item_stamp item) where
  abbrev words : List ℕ
  words = item_words (view got) item

  stamp_found : option_map item_stamp found.finds.item ≡ Some stamp
  stamp_found = ap (option_map item_stamp) found.is_item ∙ ap Some (sym is)

  version_found : (value : List ℕ) → words ≡ packed_item key value → FindsVersion (setup_of arena) hash key value stamp before
  version_found value same =
      subst (λ (ws : List ℕ). (finds : FindsWords (setup_of arena) hash before (Some ws)) × (option_map item_stamp finds.item ≡ Some stamp)) same (found.finds, stamp_found)

  pub sees_key : IsPackingOf key words → Sees (setup_of arena) hash key (Key stamp) before
  sees_key own = (value_in words, version_found (value_in words) own)

  pub sees_other : (IsPackingOf key words → ⊥) → Sees (setup_of arena) hash key (OtherKey stamp) before
  sees_other other = record { words = words; finds = found.finds; is_stamp = stamp_found; other = other }

  pub gives_version : (old new : List ℕ) → PutsValue key words old new → ReturnsVersion (setup_of arena) hash key stamp before old new
  gives_version old new puts = (puts.0, version_found puts.0 puts.1, puts.2)
