-- A map as JSON has no float.
use Rattle.std.proofs.Common.{◌≡◌, ℕ, Bool, true, false, ◌||◌, List, [], ◌∷◌, Option, Some, None, Ordering, Less, Equal, Greater, refl, ap₂}
use Rattle.std.specs.Prelude.{codes, map}
use Rattle.std.specs.Ordering.{match_ordering, nat_cmp}
use Rattle.std.specs.Cmp.Lexicographic.{slice_cmp}
use Rattle.serde_json.specs.Data.{Data, boolean, Members, no_members, member, put}
use Rattle.serde_json.specs.Written.{has_float, members_have_float}
use Rattle.mc_pages.specs.declared.ids.Moving.{Moving}
use Rattle.mc_pages.specs.declared.ledger.Entry.{Entry}
use Rattle.mc_pages.specs.declared.ledger.Entry.TheVariants.{Granted, Taken, Began, Ended}
use Rattle.mc_pages.specs.declared.ledger.Owner.{Owner}
use Rattle.mc_pages.specs.declared.ledger.Owner.TheVariants as owner
use Rattle.mc_map.specs.declared.hang.Blocker.{Blocker}
use Rattle.mc_map.specs.declared.hang.Hang.{Hang}
use Rattle.mc_map.specs.declared.hang.Hang.TheVariants.{Idle, Found, Unknown}
use Rattle.mc_map.specs.declared.kept.ClassLine.{ClassLine}
use Rattle.mc_map.specs.declared.map.Map.{Map}
use Rattle.mcmap.specs.Json.{blocker_json, blocker_members, class_counts, class_json, number_json, pairs_json, entry_json, hang_json, map_json, map_members, moving_counts, moving_json, object_json, owner_json, row_json, total_counts, with_members}

-- neither is so
both_false : (a b : Bool) → a ≡ false → b ≡ false → (a || b) ≡ false
both_false a b first second = ap₂ (λ (c d : Bool). c || d) first second

first_false : (a b : Bool) → (a || b) ≡ false → a ≡ false
first_false false b h = refl
first_false true b h = h

second_false : (a b : Bool) → (a || b) ≡ false → b ≡ false
second_false false b h = h
second_false true b h = absurd (cc)

-- where a member is put, by how its name compares
put_there : (o : Ordering) (k l : List ℕ) (d e : Data) (ms more : Members) → has_float d ≡ false → has_float e ≡ false → members_have_float ms ≡ false → members_have_float more ≡ false
    → members_have_float (match_ordering o (member k d (member l e ms)) (member l d ms) (member l e more)) ≡ false
put_there Less k l d e ms more d_none e_none ms_none more_none = both_false _ _ d_none (both_false _ _ e_none ms_none)
put_there Equal k l d e ms more d_none e_none ms_none more_none = both_false _ _ d_none ms_none
put_there Greater k l d e ms more d_none e_none ms_none more_none = both_false _ _ e_none more_none

no_float_put : (k : List ℕ) (d : Data) (ms : Members) → has_float d ≡ false → members_have_float ms ≡ false → members_have_float (put k d ms) ≡ false
no_float_put k d no_members d_none ms_none = both_false _ _ d_none refl
no_float_put k d (member l e ms) d_none ms_none =
    let rest = second_false (has_float e) (members_have_float ms) ms_none in
    put_there (slice_cmp nat_cmp k l) k l d e ms (put k d ms) d_none (first_false (has_float e) (members_have_float ms) ms_none) rest (no_float_put k d ms d_none rest)

-- whether one of these has a float
abbrev any_float : List (List ℕ × Data) → Bool
any_float [] = false
any_float (pair ∷ pairs) = has_float pair.1 || any_float pairs

no_float_all : (pairs : List (List ℕ × Data)) (ms : Members) → any_float pairs ≡ false → members_have_float ms ≡ false → members_have_float (with_members ms pairs) ≡ false
no_float_all [] ms none ms_none = ms_none
no_float_all (pair ∷ pairs) ms none ms_none =
    no_float_all pairs (put pair.0 pair.1 ms) (second_false (has_float pair.1) (any_float pairs) none)
    (no_float_put pair.0 pair.1 ms (first_false (has_float pair.1) (any_float pairs) none) ms_none)

no_float_named : (pairs : List (List ℕ × Data)) → any_float pairs ≡ false → has_float (object_json pairs) ≡ false
no_float_named pairs none = no_float_all pairs no_members none refl

any_count : (pairs : List (List ℕ × ℕ)) → any_float (map (λ pair. (pair.0, number_json pair.1)) pairs) ≡ false
any_count [] = refl
any_count (pair ∷ pairs) = any_count pairs

no_float_counts : (pairs : List (List ℕ × ℕ)) → has_float (pairs_json pairs) ≡ false
no_float_counts pairs = no_float_named (map (λ pair. (pair.0, number_json pair.1)) pairs) (any_count pairs)

no_float_row : {X : Type 0} (json : X → Data) (xs : List X) → ((x : X) → has_float (json x) ≡ false) → has_float (row_json json xs) ≡ false
no_float_row json [] none = refl
no_float_row json (x ∷ xs) none = both_false _ _ (none x) (no_float_row json xs none)

no_float_numbers : (ns : List ℕ) → has_float (row_json number_json ns) ≡ false
no_float_numbers ns = no_float_row number_json ns (λ n. refl)

no_float_owner : (o : Owner) → has_float (owner_json o) ≡ false
no_float_owner owner.Untouched = refl
no_float_owner owner.Pool = refl
no_float_owner (owner.Class class) = refl
no_float_owner (owner.Moving src dst) = refl

no_float_entry : (entry : Entry) → has_float (entry_json entry) ≡ false
no_float_entry (Granted page class grace) = no_float_named ((codes "granted", number_json page) ∷ (codes "class", number_json class) ∷ (codes "grace", boolean grace) ∷ []) refl
no_float_entry (Taken page class) = no_float_counts ((codes "taken", page) ∷ (codes "class", class) ∷ [])
no_float_entry (Began page src dst) = no_float_counts ((codes "began", page) ∷ (codes "src", src) ∷ (codes "dst", dst) ∷ [])
no_float_entry (Ended page dst) = no_float_counts ((codes "ended", page) ∷ (codes "dst", dst) ∷ [])

no_float_class : (line : ClassLine) → has_float (class_json line) ≡ false
no_float_class line = no_float_counts (class_counts line)

no_float_moving : (moving : Option Moving) → has_float (moving_json moving) ≡ false
no_float_moving None = refl
no_float_moving (Some moving) = no_float_counts (moving_counts moving)

no_float_blocker : (blocker : Blocker) → has_float (blocker_json blocker) ≡ false
no_float_blocker blocker = no_float_named (blocker_members blocker) (both_false (has_float (row_json number_json blocker.workers.items)) false (no_float_numbers blocker.workers.items) refl)

no_float_hang : (hang : Hang) → has_float (hang_json hang) ≡ false
no_float_hang Idle = refl
no_float_hang (Found blockers) = no_float_row blocker_json blockers.items no_float_blocker
no_float_hang Unknown = refl

-- none of what a map has
no_float_members : (line : ℕ) (m : Map) → any_float (map_members line m) ≡ false
no_float_members line m =
    let owners = no_float_row owner_json m.owners.items no_float_owner in
    let pool = no_float_numbers m.pool.items in
    let classes = no_float_row class_json m.classes.items no_float_class in
    let totals = no_float_counts (total_counts m.totals) in
    let ledger = no_float_row entry_json m.ledger.items no_float_entry in
    let moving = no_float_moving m.moving in
    let hang = no_float_hang m.hang in
    cc

-- a map has none
pub no_float_map : (line : ℕ) (m : Map) → has_float (map_json line m) ≡ false
no_float_map line m = no_float_named (map_members line m) (no_float_members line m)
