-- What a history means: the calls, one after another, on a map from keys to stamps.
use Rattle.std.specs.Prelude.{◌≡◌, ℕ, ◌==◌, ⊤, if◌then◌else◌, List, [], ◌∷◌, is_some, IsSome, Option, Some, None}
use Rattle.mc_stripe.specs.declared.history.Call.{Call}
use Rattle.mc_stripe.specs.declared.history.Call.TheVariants.{Set, Get, Delete, Evict, Rescue}

-- each key's stamp, if it has one
abbrev pub StampMap : Type 0
StampMap = ℕ → Option ℕ

-- no key has a stamp
abbrev pub no_stamps : StampMap
no_stamps key = None

-- the stamps where this key has this stamp or none, and all other keys have theirs
abbrev pub with_stamp : StampMap → ℕ → Option ℕ → StampMap
with_stamp stamps key stamp other = if other == key then stamp else stamps other

-- the call's reply is right: what it records of its key agrees with the stamps before the call
abbrev pub IsReply : Call → StampMap → Type 0
IsReply (Set hand key stamp) stamps = ⊤
IsReply (Get hand key found) stamps = found ≡ stamps key
IsReply (Delete hand key was_there) stamps = was_there ≡ is_some (stamps key)
IsReply (Evict hand key) stamps = IsSome (stamps key)
IsReply (Rescue hand key) stamps = IsSome (stamps key)

-- the map that a call leaves
abbrev pub map_after : Call → StampMap → StampMap
map_after (Set hand key stamp) stamps = with_stamp stamps key (Some stamp)
map_after (Get hand key found) stamps = stamps
map_after (Delete hand key was_there) stamps = with_stamp stamps key None
map_after (Evict hand key) stamps = with_stamp stamps key None
map_after (Rescue hand key) stamps = stamps

-- the history is legal from the one map on, and leaves the other
abbrev pub Leads : StampMap → List Call → StampMap → Type 0
Leads before [] after = (key : ℕ) → after key ≡ before key
Leads before (call ∷ history) after = IsReply call before × Leads (map_after call before) history after
