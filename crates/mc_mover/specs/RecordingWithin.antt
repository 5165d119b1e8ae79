-- Trims, and stripes that forget their calls, where each lock is tried for n times: where they end.
use Rattle.std.specs.Prelude.{◌<◌, ◌⊎◌, ℕ, ⊤}
use Rattle.std.specs.List.{range_with_len}
use Rattle.mc_core.specs.declared.event.StripeChange.{StripeChange}
use Rattle.mc_core.specs.declared.event.StripeChange.TheVariants.{Trim}
use Rattle.mc_words.specs.hand.View.{View}
use Rattle.mc_words.specs.lock.Wait.{MissesSlabsEachTime, MissesStripeEachTime}
use Rattle.mc_mover.specs.declared.recording_within.TrimWithin.{TrimWithin}
use Rattle.mc_mover.specs.declared.recording_within.TrimWithin.TheVariants.{Refused, Held}
use Rattle.mc_mover.specs.Recording.{ChangesEach}

-- the stripes below one got this change, one after another, and then each try for that one's lock missed
pub record StopsAtStripe (tries : ℕ) (how : StripeChange) (number count : ℕ) (view now : View) : Type 0 where
  pub stripe : ℕ
  pub in_range : stripe < count
  pub before : View
  pub changes : ChangesEach how number (range_with_len 0 stripe) view before
  pub misses : MissesStripeEachTime tries stripe before now

-- all stripes were trimmed, and then each try for the slabs lock missed
pub record StopsAtSlabs (tries number count : ℕ) (view now : View) : Type 0 where
  pub between : View
  pub stripes : ChangesEach Trim number (range_with_len 0 count) view between
  pub misses : MissesSlabsEachTime tries between now

-- a trim ended where each try for a lock missed: for that of a stripe, or for that of the slabs
abbrev pub StopsAtLock : ℕ → ℕ → ℕ → View → View → Type 0
StopsAtLock tries number count view now = StopsAtStripe tries Trim number count view now ⊎ StopsAtSlabs tries number count view now

-- the fact holds if a stripe's trim was refused; of a lock that was missed nothing is stated
abbrev pub IfRefused : TrimWithin → Type 0 → Type 0
IfRefused (Refused refusal) Fact = Fact
IfRefused Held Fact = ⊤
