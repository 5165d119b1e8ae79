-- The history of a stripe, and the map from keys to stamps that it makes.
use Rattle.std.specs.Prelude.{ℕ, nat_eq, Bool, true, if◌then◌else◌, List, [], ◌∷◌, is_some, is_none, Option, Some, None}
use Rattle.std.specs.Option.{option_eq}
use Rattle.mc_stripe.specs.declared.history.Call.{Call}
use Rattle.mc_stripe.specs.declared.history.Call.TheVariants.{Set, Get, Delete, Evict, Rescue}
use Rattle.mc_stripe.specs.Entries.{entry_at, with_entry, without_entry}

-- keys and their stamps, by rising key
abbrev pub Stamps : Type 0
Stamps = List (ℕ × ℕ)

-- the reply is right where the keys have these stamps
abbrev pub is_reply_right : Call → Stamps → Bool
is_reply_right (Set hand key stamp) stamps = true
is_reply_right (Get hand key found) stamps = option_eq nat_eq found (entry_at stamps key)
is_reply_right (Delete hand key was_there) stamps = if was_there then is_some (entry_at stamps key) else is_none (entry_at stamps key)
is_reply_right (Evict hand key) stamps = is_some (entry_at stamps key)
is_reply_right (Rescue hand key) stamps = is_some (entry_at stamps key)

-- the stamps that a call leaves
abbrev pub stamps_after : Call → Stamps → Stamps
stamps_after (Set hand key stamp) stamps = with_entry stamps key stamp
stamps_after (Get hand key found) stamps = stamps
stamps_after (Delete hand key was_there) stamps = without_entry stamps key
stamps_after (Evict hand key) stamps = without_entry stamps key
stamps_after (Rescue hand key) stamps = stamps

-- the stamps after these calls, or none where a reply isn't right
abbrev pub stamps_after_calls : Stamps → List Call → Option Stamps
stamps_after_calls stamps [] = Some stamps
stamps_after_calls stamps (call ∷ history) = if is_reply_right call stamps then stamps_after_calls (stamps_after call stamps) history else None
