-- A window of all shards in which no lock was missed is one of a tender that waits.
use Rattle.std.proofs.Common.{◌≡◌, ◌<◌, zero, suc, ◌∙◌, ◌∷◌, [], ℕ, Bool, List, true, false, ap, arith, get_or, length, map, refl, sym}
use Rattle.std.specs.Prelude.{fold, if◌then◌else◌}
use Rattle.std.proofs.lemmas.List.{get_or-map, length-map}
use Rattle.mc_cache.specs.declared.cache.Cache.{Cache}
use Rattle.mc_cache.specs.declared.tended.Tended.{Tended}
use Rattle.mc_cache.specs.declared.tending.Tender.{Tender}
use Rattle.mc_cache.specs.declared.tending_within.TendedWithin.{TendedWithin}
use Rattle.mc_cache.specs.declared.window_within.Window.{Window}
use Rattle.mc_cache.specs.Tending.{TendsCache, tended_with}
use Rattle.mc_cache.specs.TendingWithin.{TendsCacheWithin, nothing_within, with_shard_window}
use Rattle.mc_cache.specs.Windows.{count_with}

abbrev IsWhole : Window → Type 0
IsWhole window = window.stopped ≡ false

-- one window more was missed by none
one_whole : (held : ℕ) (stopped : Bool) → count_with (if stopped then 1 else 0) held ≡ 0 → (held ≡ 0) × (stopped ≡ false)
one_whole held true none = absurd (omega (arith, none))
one_whole held false none = (omega (arith, none), refl)

-- each of these was whole
abbrev AreWhole : List Window → Type 0
AreWhole windows = (place : ℕ) (other : Window) → place < length windows → IsWhole (get_or windows place other)

one_before : (window : Window) (windows : List Window) → IsWhole window → AreWhole windows → AreWhole (window ∷ windows)
one_before window windows first rest zero other less = first
one_before window windows first rest (suc place) other less = rest place other (omega (arith, less))

-- none of these was missed, where none is counted
all_whole_from : (windows : List Window) (done : TendedWithin) → (fold with_shard_window done windows).held ≡ 0 → (done.held ≡ 0) × AreWhole windows
all_whole_from [] done none = (none, λ place other less. absurd (omega (arith, less)))
all_whole_from (window ∷ windows) done none =
    let rest = all_whole_from windows (with_shard_window done window) none in
    let first = one_whole done.held window.stopped rest.0 in (first.0, one_before window windows first.1 rest.1)

-- the sums of the windows are those of what each did
sums_of : (windows : List Window) (done : TendedWithin) → (fold with_shard_window done windows).tended ≡ fold tended_with done.tended (map (λ (w : Window). w.done) windows)
sums_of [] done = refl
sums_of (window ∷ windows) done = sums_of windows (with_shard_window done window)

some_window : Tended → Window
some_window done = record { done = done; stopped = false }

pub all_whole : (tries : ℕ) (cache : Cache) (done : TendedWithin) (before now : Tender) → TendsCacheWithin tries cache done before now → done.held ≡ 0 → TendsCache cache done.tended before now
all_whole tries cache done before now h none =
    let whole = (all_whole_from h.windows nothing_within (ap (λ (d : TendedWithin). d.held) (sym h.counted) ∙ none)).1 in record {
      shares = map (λ (w : Window). w.done) h.windows;
      tends = record {
        shared = length-map h.windows (λ (w : Window). w.done) ∙ h.tends.shared;
        each = λ shard share hand now decider left in_range.
            let there : shard < length h.windows = omega (arith, h.tends.shared, in_range) in
            let window = get_or h.windows shard (some_window share) in
            let is : get_or (map (λ (w : Window). w.done) h.windows) shard share ≡ window.done = get_or-map (λ (w : Window). w.done) h.windows shard (some_window share) share there in
            let all = h.tends.each shard (some_window share) hand now decider left in_range in
            rw is (all.whole (whole shard (some_window share) there));
      };
      counted = ap (λ (d : TendedWithin). d.tended) h.counted ∙ sums_of h.windows nothing_within;
    }
