-- A delete of a version, from what the look saw and what the delete of the item returned.
use Rattle.std.proofs.Common.{◌≡◌, ◌∙◌, ◌==◌, ℕ, Bool, true, false, List, Option, None, Some, Result, Ok, Err, OnErr, OnOk, ap, eqb-true, if◌then◌else◌, inr, refl, subst}
use Rattle.std.proofs.lemmas.Bool.{eqb-false}
use Rattle.mc_words.specs.declared.hand.Hand.{Hand}
use Rattle.mc_words.specs.hand.Arenas.{view}
use Rattle.mc_words.specs.hand.View.{Setup, View}
use Rattle.mc_items.specs.Calls.{RecordsNoCall}
use Rattle.mc_items.specs.Deleting.{DeletesItemOf, FindsOtherItem}
use Rattle.mc_items.specs.OnKeys.{FindsNoRoomFor, stripe_of_key}
use Rattle.mc_items.specs.Within.{MissesKeyEachTime}
use Rattle.mc_items.specs.declared.deleting_where.CompareDeleteError.{CompareDeleteError}
use Rattle.mc_items.specs.declared.deleting_where.CompareDeleteError.TheVariants as compare
use Rattle.mc_items.specs.declared.within.deleting_where.CompareDeleteWithinError.{CompareDeleteWithinError}
use Rattle.mc_items.specs.declared.within.deleting_where.CompareDeleteWithinError.TheVariants as compare_within
use Rattle.mc_items.specs.declared.within.error.WithinError.TheVariants as within_error
use Rattle.mc_items.proofs.Locks.{waits_keep}
use Rattle.mc_shard.specs.declared.deleting_version.Deletion.{Deletion}
use Rattle.mc_shard.specs.declared.deleting_version.Deletion.TheVariants.{Deleted, Exists, Missing}
use Rattle.mc_shard.specs.declared.looking.Seen.{Seen}
use Rattle.mc_shard.specs.declared.looking.Seen.TheVariants.{Nothing, OtherKey, Key}
use Rattle.mc_shard.specs.Conditions.{FindsVersion, LooksUnder, Sees}
use Rattle.mc_shard.specs.Deleting.{DeletesVersion, FindsNoVersion, FindsOtherVersion, FindsVersionFirst, HasOtherVersion, LosesVersion, MissesVersion, deletion_at_look, deletion_of, deletion_within}
use Rattle.mc_shard.specs.Finding.{FindsFull, FindsOtherKey}
use Rattle.mc_shard.specs.Reading.{LeavesSlabs}
use Rattle.mc_shard.specs.Recording.{RecordsGetAtMost}
use Rattle.mc_shard.proofs.Found.{full_at_once}
use Rattle.mc_shard.proofs.Recorded.{get_at_most}
use Rattle.mc_shard.proofs.Slabs.{delete_leaves, lock_missed_leaves, no_room_leaves}

-- what was under the hash, where a delete of a version returns this at once, or goes on
module _ (setup : Setup) (hash : ℕ) (key : List ℕ) (version : ℕ) (before : Hand) where
  abbrev pub IsUnder : Option Deletion → Type 0
  IsUnder None = (value : List ℕ) × FindsVersion setup hash key value version before
  IsUnder (Some Deleted) = ⊥
  IsUnder (Some Exists) = HasOtherVersion setup hash key version before
  IsUnder (Some Missing) = FindsOtherKey setup hash key before

  key_under : (stamp : ℕ) (b : Bool) → (stamp == version) ≡ b → ((value : List ℕ) × FindsVersion setup hash key value stamp before) → IsUnder (if b then None else Some Exists)
  key_under stamp true same found = subst (λ (s : ℕ). (value : List ℕ) × FindsVersion setup hash key value s before) (eqb-true stamp version same) found
  key_under stamp false other found = record { other = stamp; differs = eqb-false stamp version other; value = found.0; finds = found.1 }

  seen_under : (seen : Seen) → Sees setup hash key seen before → IsUnder (deletion_at_look seen version)
  seen_under Nothing sees = record { words = None; finds = sees; other = tt }
  seen_under (OtherKey stamp) sees = record { words = Some sees.words; finds = sees.finds; other = sees.other }
  seen_under (Key stamp) sees = key_under stamp (stamp == version) refl sees

  pub is_under : (seen : Seen) (at : Option Deletion) → Sees setup hash key seen before → deletion_at_look seen version ≡ at → IsUnder at
  is_under seen at sees is = subst IsUnder is (seen_under seen sees)

  -- the version was there, and then came more
  pub version_first : (seen : Seen) (between : Hand) → Sees setup hash key seen before → deletion_at_look seen version ≡ None → LooksUnder setup hash before between → FindsVersionFirst setup hash key version before between
  version_first seen between sees is looks =
      let under = is_under seen None sees is in record { value = under.0; finds = under.1; looks = looks }

-- what each return of the delete of the item leads to
module _ (setup : Setup) (hash : ℕ) (key : List ℕ) (version : ℕ) (before between now : Hand) (first : FindsVersionFirst setup hash key version before between) where
  lost : (found : Option ℕ) → FindsOtherItem setup hash version found between now → LosesVersion setup hash key version found before now
  lost found differs = record { between = between; first = first; differs = differs }

  gone : DeletesItemOf setup hash version between now → DeletesVersion setup hash key version before now
  gone deletes = record { between = between; first = first; deletes = deletes }

  pub deletes_version : (r : Result (Unit {0}) CompareDeleteError) → OnOk r (DeletesItemOf setup hash version between now) → deletion_of r ≡ Ok Deleted → DeletesVersion setup hash key version before now
  deletes_version (Ok done) deletes is = gone deletes
  deletes_version (Err (compare.NoMemory refused)) deletes is = absurd (cc)
  deletes_version (Err (compare.Differs (Some other))) deletes is = absurd (cc)
  deletes_version (Err (compare.Differs None)) deletes is = absurd (cc)

  pub finds_other_version : (r : Result (Unit {0}) CompareDeleteError) → ((found : Option ℕ) → r ≡ Err (compare.Differs found) → FindsOtherItem setup hash version found between now) → deletion_of r ≡ Ok Exists → FindsOtherVersion setup hash key version before now
  finds_other_version (Ok done) differs is = absurd (cc)
  finds_other_version (Err (compare.NoMemory refused)) differs is = absurd (cc)
  finds_other_version (Err (compare.Differs (Some other))) differs is = inr (other, lost (Some other) (differs (Some other) refl))
  finds_other_version (Err (compare.Differs None)) differs is = absurd (cc)

  pub finds_no_version : (r : Result (Unit {0}) CompareDeleteError) → ((found : Option ℕ) → r ≡ Err (compare.Differs found) → FindsOtherItem setup hash version found between now) → deletion_of r ≡ Ok Missing → FindsNoVersion setup hash key version before now
  finds_no_version (Ok done) differs is = absurd (cc)
  finds_no_version (Err (compare.NoMemory refused)) differs is = absurd (cc)
  finds_no_version (Err (compare.Differs (Some other))) differs is = absurd (cc)
  finds_no_version (Err (compare.Differs None)) differs is = inr (lost None (differs None refl))

  -- the same within n tries
  pub deletes_version_within : (r : Result (Unit {0}) CompareDeleteWithinError) → OnOk r (DeletesItemOf setup hash version between now) → deletion_within r ≡ Ok Deleted → DeletesVersion setup hash key version before now
  deletes_version_within (Ok done) deletes is = gone deletes
  deletes_version_within (Err (compare_within.NoMemory refused)) deletes is = absurd (cc)
  deletes_version_within (Err (compare_within.Differs (Some other))) deletes is = absurd (cc)
  deletes_version_within (Err (compare_within.Differs None)) deletes is = absurd (cc)
  deletes_version_within (Err compare_within.Held) deletes is = absurd (cc)

  pub finds_other_version_within : (r : Result (Unit {0}) CompareDeleteWithinError) → ((found : Option ℕ) → r ≡ Err (compare_within.Differs found) → FindsOtherItem setup hash version found between now) → deletion_within r ≡ Ok Exists → FindsOtherVersion setup hash key version before now
  finds_other_version_within (Ok done) differs is = absurd (cc)
  finds_other_version_within (Err (compare_within.NoMemory refused)) differs is = absurd (cc)
  finds_other_version_within (Err (compare_within.Differs (Some other))) differs is = inr (other, lost (Some other) (differs (Some other) refl))
  finds_other_version_within (Err (compare_within.Differs None)) differs is = absurd (cc)
  finds_other_version_within (Err compare_within.Held) differs is = absurd (cc)

  pub finds_no_version_within : (r : Result (Unit {0}) CompareDeleteWithinError) → ((found : Option ℕ) → r ≡ Err (compare_within.Differs found) → FindsOtherItem setup hash version found between now) → deletion_within r ≡ Ok Missing → FindsNoVersion setup hash key version before now
  finds_no_version_within (Ok done) differs is = absurd (cc)
  finds_no_version_within (Err (compare_within.NoMemory refused)) differs is = absurd (cc)
  finds_no_version_within (Err (compare_within.Differs (Some other))) differs is = absurd (cc)
  finds_no_version_within (Err (compare_within.Differs None)) differs is = inr (lost None (differs None refl))
  finds_no_version_within (Err compare_within.Held) differs is = absurd (cc)

  pub misses_version : (tries : ℕ) (r : Result (Unit {0}) CompareDeleteWithinError) → (r ≡ Err compare_within.Held → MissesKeyEachTime setup tries hash between now) → deletion_within r ≡ Err within_error.Held → MissesVersion setup tries hash key version before now
  misses_version tries (Ok done) held is = absurd (cc)
  misses_version tries (Err (compare_within.NoMemory refused)) held is = absurd (cc)
  misses_version tries (Err (compare_within.Differs (Some other))) held is = absurd (cc)
  misses_version tries (Err (compare_within.Differs None)) held is = absurd (cc)
  misses_version tries (Err compare_within.Held) held is = inr (record { between = between; first = first; missed = held refl })

-- why it was refused
module _ (setup : Setup) (hash : ℕ) (between now : Hand) where
  pub version_full : (r : Result (Unit {0}) CompareDeleteError) → (r ≡ Err (compare.NoMemory tt) → FindsNoRoomFor setup hash between now) → OnErr (deletion_of r) ((x : Hand) × FindsFull setup hash x now)
  version_full (Ok done) none = tt
  version_full (Err (compare.NoMemory refused)) none = (between, full_at_once setup hash between now (none refl))
  version_full (Err (compare.Differs (Some other))) none = tt
  version_full (Err (compare.Differs None)) none = tt

  pub version_full_within : (r : Result (Unit {0}) CompareDeleteWithinError) → (r ≡ Err (compare_within.NoMemory tt) → FindsNoRoomFor setup hash between now) → deletion_within r ≡ Err (within_error.NoMemory tt) → (x : Hand) × FindsFull setup hash x now
  version_full_within (Ok done) none is = absurd (cc)
  version_full_within (Err (compare_within.NoMemory refused)) none is = (between, full_at_once setup hash between now (none refl))
  version_full_within (Err (compare_within.Differs (Some other))) none is = absurd (cc)
  version_full_within (Err (compare_within.Differs None)) none is = absurd (cc)
  version_full_within (Err compare_within.Held) none is = absurd (cc)

  -- the slabs lock stays as it was
  abbrev count_of : View → ℕ
  count_of view = view.row.knows.hold.count

  other_leaves : (version : ℕ) (found : Option ℕ) → FindsOtherItem setup hash version found between now → LeavesSlabs (view between) (view now)
  other_leaves version found differs =
      ap count_of differs.given ∙ waits_keep count_of (stripe_of_key setup hash) (λ word v. refl) (λ value v. refl) (view between) differs.value differs.taken differs.waits

  pub item_leaves : (version : ℕ) (r : Result (Unit {0}) CompareDeleteError) → OnOk r (DeletesItemOf setup hash version between now) → ((found : Option ℕ) → r ≡ Err (compare.Differs found) → FindsOtherItem setup hash version found between now)
      → (r ≡ Err (compare.NoMemory tt) → FindsNoRoomFor setup hash between now) → LeavesSlabs (view between) (view now)
  item_leaves version (Ok done) deletes differs none = delete_leaves {E = Unit {0}} (Ok true) setup hash between now deletes.deletes tt
  item_leaves version (Err (compare.NoMemory refused)) deletes differs none = no_room_leaves setup hash between now (none refl)
  item_leaves version (Err (compare.Differs found)) deletes differs none = other_leaves version found (differs found refl)

  pub item_leaves_within : (tries version : ℕ) (r : Result (Unit {0}) CompareDeleteWithinError) → OnOk r (DeletesItemOf setup hash version between now) → ((found : Option ℕ) → r ≡ Err (compare_within.Differs found) → FindsOtherItem setup hash version found between now)
      → (r ≡ Err (compare_within.NoMemory tt) → FindsNoRoomFor setup hash between now) → (r ≡ Err compare_within.Held → MissesKeyEachTime setup tries hash between now) → LeavesSlabs (view between) (view now)
  item_leaves_within tries version (Ok done) deletes differs none held = delete_leaves {E = Unit {0}} (Ok true) setup hash between now deletes.deletes tt
  item_leaves_within tries version (Err (compare_within.NoMemory refused)) deletes differs none held = no_room_leaves setup hash between now (none refl)
  item_leaves_within tries version (Err (compare_within.Differs found)) deletes differs none held = other_leaves version found (differs found refl)
  item_leaves_within tries version (Err compare_within.Held) deletes differs none held = lock_missed_leaves setup tries hash between now (held refl)

-- what the hand's own calls got
pub only_looks : {E D : Type 0} (setup : Setup) (hash : ℕ) (before between now : Hand) (r : Result (Unit {0}) E) (to : Result (Unit {0}) E → Result Deletion D) → to (Ok tt) ≡ Ok Deleted → RecordsGetAtMost setup hash before between → OnErr r (RecordsNoCall (view between) (view now))
    → (to r ≡ Ok Deleted → ⊥) → RecordsGetAtMost setup hash before now
only_looks setup hash before between now (Ok done) to does looks none not = absurd (not does)
only_looks setup hash before between now (Err error) to does looks none not = get_at_most setup hash before between now looks none

-- what a delete that was done is known by
pub deleted_so : {P : Type 0} (r : Result (Unit {0}) CompareDeleteError) → OnOk r P → deletion_of r ≡ Ok Deleted → P
deleted_so (Ok done) p is = p
deleted_so (Err (compare.NoMemory refused)) p is = absurd (cc)
deleted_so (Err (compare.Differs (Some other))) p is = absurd (cc)
deleted_so (Err (compare.Differs None)) p is = absurd (cc)

pub deleted_so_within : {P : Type 0} (r : Result (Unit {0}) CompareDeleteWithinError) → OnOk r P → deletion_within r ≡ Ok Deleted → P
deleted_so_within (Ok done) p is = p
deleted_so_within (Err (compare_within.NoMemory refused)) p is = absurd (cc)
deleted_so_within (Err (compare_within.Differs (Some other))) p is = absurd (cc)
deleted_so_within (Err (compare_within.Differs None)) p is = absurd (cc)
deleted_so_within (Err compare_within.Held) p is = absurd (cc)
