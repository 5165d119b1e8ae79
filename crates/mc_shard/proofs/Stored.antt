-- A set behind the room that was made for it.
use Rattle.std.proofs.Common.{◌≡◌, ℕ, List, [], Option, None, ap, inl, inr, refl, subst, sym}
use Rattle.mc_words.specs.declared.hand.Hand.{Hand}
use Rattle.mc_words.specs.hand.Arenas.{view}
use Rattle.mc_words.specs.hand.View.{View}
use Rattle.mc_items.specs.Evicting.{RecordsEviction}
use Rattle.mc_items.specs.MakingRoom.{RecordsSomeDeletes}
use Rattle.mc_items.specs.Setting.{RecordsSet, RefusesCompare, RefusesSet, SetsItem, class_for_words}
use Rattle.mc_items.specs.Within.{RefusesCompareWithin, RefusesWithin}
use Rattle.mc_items.specs.declared.comparing.CompareError.{CompareError}
use Rattle.mc_items.specs.declared.comparing.CompareError.TheVariants as compare
use Rattle.mc_items.specs.declared.comparing.Expected.{Expected}
use Rattle.mc_items.specs.declared.within.comparing.CompareWithinError.{CompareWithinError}
use Rattle.mc_items.specs.declared.within.comparing.CompareWithinError.TheVariants as compare_within
use Rattle.mc_items.specs.declared.setting.SetError.{SetError}
use Rattle.mc_items.specs.declared.setting.SetError.TheVariants.{NoMemory, NoRoom, TooLarge, WornOut}
use Rattle.mc_items.specs.declared.within.SetWithinError.{SetWithinError}
use Rattle.mc_items.specs.declared.within.SetWithinError.TheVariants.{Refused, Held}
use Rattle.mc_shard.specs.Within.{LacksRoomWithin, RefusesBytesWithin, RefusesCompareBytesWithin}
use Rattle.mc_shard.specs.Setting.{DiffersBehindRoom, FindsClassFull, LacksRoom, LacksRoomFor, MakesRoomFor, RecordsEvictionsAlone, RecordsSetBehindRoom, RefusesBehindRoom, RefusesBytes, RefusesCompareBytes, SetsBehindRoom}

-- who did nothing recorded no delete
pub no_deletes : (number : ℕ) (view : View) → RecordsSomeDeletes number view view
no_deletes number view = (0, record { places = []; as_many = refl; recorded = refl })

-- room was made, and nothing came behind it
pub room_alone : (number : ℕ) (before now : Hand) → RecordsSomeDeletes number (view before) (view now) → RecordsEvictionsAlone number before now
room_alone number before now deletes = record { between = now; deletes = deletes; evicts = inl refl }

-- room was made for the words, and then they were stored, or refused
module _ (number own hash : ℕ) (same : own ≡ number) (first second words : List ℕ) (is_first : first ≡ words) (is_second : second ≡ words) (before between now : Hand) where
  made : MakesRoomFor first before between → MakesRoomFor words before between
  made makes = subst (λ (ws : List ℕ). MakesRoomFor ws before between) is_first makes

  pub sets_behind : (expected : Expected) (stamp : ℕ) → MakesRoomFor first before between → SetsItem expected own hash stamp second (view between) (view now) → SetsBehindRoom expected number hash stamp words before now
  sets_behind expected stamp makes sets = record {
    between = between;
    makes = made makes;
    sets = subst (λ (ws : List ℕ). SetsItem expected number hash stamp ws (view between) (view now)) is_second (subst (λ (n : ℕ). SetsItem expected n hash stamp second (view between) (view now)) same sets);
  }

  pub calls_behind : (stamp : ℕ) → RecordsSomeDeletes number (view before) (view between) → RecordsSet own hash stamp (view between) (view now) → RecordsSetBehindRoom number hash stamp before now
  calls_behind stamp deletes sets = record { between = between; deletes = deletes; sets = subst (λ (n : ℕ). RecordsSet n hash stamp (view between) (view now)) same sets }

  behind_room : (error : SetError) → MakesRoomFor first before between → RefusesSet own hash second error (view between) (view now) → RefusesBehindRoom number hash words error before now
  behind_room error makes refuses = record {
    between = between;
    makes = made makes;
    refuses = subst (λ (ws : List ℕ). RefusesSet number hash ws error (view between) (view now)) is_second (subst (λ (n : ℕ). RefusesSet n hash second error (view between) (view now)) same refuses);
  }

  -- the words fit a class, so the set wasn't refused as too large
  pub refuses_behind : (class_for_words (view between) second ≡ None → ⊥) → (error : SetError) → MakesRoomFor first before between → RefusesSet own hash second error (view between) (view now) → RefusesBytes number hash words error before now
  refuses_behind fits TooLarge makes refuses = absurd (fits refuses.0)
  refuses_behind fits NoRoom makes refuses = behind_room NoRoom makes refuses
  refuses_behind fits WornOut makes refuses = behind_room WornOut makes refuses
  refuses_behind fits (NoMemory _) makes refuses = inr (inr (behind_room (NoMemory tt) makes refuses))

  differs_behind : (expected : Expected) (found : Option ℕ) → MakesRoomFor first before between → RefusesCompare expected own hash second (compare.Differs found) (view between) (view now) → DiffersBehindRoom expected found number hash words before now
  differs_behind expected found makes differs = record {
    between = between;
    makes = made makes;
    differs = subst (λ (ws : List ℕ). RefusesCompare expected number hash ws (compare.Differs found) (view between) (view now)) is_second (subst (λ (n : ℕ). RefusesCompare expected n hash second (compare.Differs found) (view between) (view now)) same differs);
  }

  pub refuses_within_behind : (class_for_words (view between) second ≡ None → ⊥) → (tries : ℕ) (error : SetWithinError) → MakesRoomFor first before between → RefusesWithin own tries hash second error (view between) (view now) → RefusesBytesWithin number tries hash words error before now
  refuses_within_behind fits tries (Refused error) makes refuses = refuses_behind fits error makes refuses
  refuses_within_behind fits tries Held makes misses = inr (record {
    between = between;
    makes = made makes;
    misses = subst (λ (ws : List ℕ). RefusesWithin number tries hash ws Held (view between) (view now)) is_second (subst (λ (n : ℕ). RefusesWithin n tries hash second Held (view between) (view now)) same misses);
  })

  pub refuses_compare_behind : (class_for_words (view between) second ≡ None → ⊥) → (expected : Expected) (error : CompareError) → MakesRoomFor first before between → RefusesCompare expected own hash second error (view between) (view now) → RefusesCompareBytes expected number hash words error before now
  refuses_compare_behind fits expected (compare.Refused error) makes refuses = inl (refuses_behind fits error makes refuses)
  refuses_compare_behind fits expected (compare.Differs found) makes refuses = differs_behind expected found makes refuses

  pub refuses_compare_within_behind : (class_for_words (view between) second ≡ None → ⊥) → (expected : Expected) (tries : ℕ) (error : CompareWithinError) → MakesRoomFor first before between → RefusesCompareWithin expected own tries hash second error (view between) (view now) → RefusesCompareBytesWithin expected number tries hash words error before now
  refuses_compare_within_behind fits expected tries (compare_within.Refused error) makes refuses = inl (refuses_within_behind fits tries error makes refuses)
  refuses_compare_within_behind fits expected tries (compare_within.Differs found) makes refuses = differs_behind expected found makes refuses

  lacks_memory : (error : SetError) → error ≡ NoMemory tt → LacksRoomFor first before now → RefusesBytes number hash words error before now
  lacks_memory error is lacks = subst (λ (e : SetError). RefusesBytes number hash words e before now) (sym is) (inr (inl (subst (λ (ws : List ℕ). LacksRoomFor ws before now) is_first lacks)))

  pub lacks_room : (expected : Expected) (error : SetError) → LacksRoom expected first error before now → RefusesCompareBytes expected number hash words (compare.Refused error) before now
  lacks_room expected error (inl lacks) = inl (lacks_memory error lacks.0 lacks.1)
  lacks_room expected error (inr full) = inr (full.0, full.1, subst (λ (ws : List ℕ). FindsClassFull ws before now) is_first full.2)

  pub lacks_room_within : (expected : Expected) (tries : ℕ) (error : SetWithinError) → LacksRoomWithin expected tries first error before now → RefusesCompareBytesWithin expected number tries hash words (compare_within.Refused error) before now
  lacks_room_within expected tries (Refused error) (inl lacks) = inl (lacks_memory error lacks.0 lacks.1)
  lacks_room_within expected tries (Refused error) (inr full) = inr (ap Refused full.0, full.1, subst (λ (ws : List ℕ). FindsClassFull ws before now) is_first full.2)
  lacks_room_within expected tries Held missed = inl (inl missed)

  pub evicts_behind : RecordsSomeDeletes number (view before) (view between) → RecordsEviction own (view between) (view now) → RecordsEvictionsAlone number before now
  evicts_behind deletes evicts = record { between = between; deletes = deletes; evicts = subst (λ (n : ℕ). RecordsEviction n (view between) (view now)) same evicts }
