-- How long a key's item stays: while nothing came that may have taken it away, and while somebody holds it.
use Rattle.std.specs.Prelude.{◌≡◌, ℕ, ◌+◌, ◌-◌, ◌≤◌, ◌==◌, Bool, true, false, not, ◌&&◌, ◌||◌, if◌then◌else◌, List, [], ◌∷◌, codes, Some}
use Rattle.std.specs.Str.{bytes_eq}
use Rattle.mc_classes.specs.Classes.{Classes}
use Rattle.mc_script.specs.declared.command.Command.{Command}
use Rattle.mc_script.specs.declared.command.Command.TheVariants.{Set, Delete, Get, Hold, Drop, Touch, Turn}
use Rattle.mc_serial_spec.specs.Machine.{Machine, fresh_machine}
use Rattle.mc_serial_spec.specs.Lines.{Outcome, serve, after_all}
use Rattle.mc_serial_spec.specs.Texts.{key_line}
use Rattle.mc_serial_laws.specs.Answered.{AnsweredCommand, answers, last_words}
use Rattle.mc_serial_laws.specs.Present.{holds_by_answers, reply_to_get}

-- the answer shows that the key has an item: STORED, VALUE, HELD or TOUCHED
abbrev pub is_item_shown : ℕ → Command → List ℕ → Bool
is_item_shown key (Set worker own count base) reply = own == key && bytes_eq reply (key_line (codes "STORED") key)
is_item_shown key (Get worker own) reply =
    own == key && (not (bytes_eq reply (key_line (codes "NOT_FOUND") key)) && not (bytes_eq reply (key_line (codes "TOO_MANY_REFS") key)))
is_item_shown key (Hold worker own) reply = own == key && bytes_eq reply (key_line (codes "HELD") key)
is_item_shown key (Touch worker own) reply = own == key && bytes_eq reply (key_line (codes "TOUCHED") key)
is_item_shown key command reply = false

-- the line may have taken the key's item away: a stored set, which may evict another key's item; a delete that found the key; and turns,
-- which evict what they can't rescue
abbrev pub may_take : ℕ → Command → List ℕ → Bool
may_take key (Set worker own count base) reply = bytes_eq reply (key_line (codes "STORED") own)
may_take key (Delete worker own) reply = own == key && bytes_eq reply (key_line (codes "DELETED") key)
may_take key (Turn count) reply = true
may_take key command reply = false

-- some answer showed the key's item, and no line behind it may have taken it away
abbrev pub is_seen : ℕ → List AnsweredCommand → Bool
is_seen key [] = false
is_seen key (answered ∷ before) =
    is_item_shown key answered.command answered.reply || (not (may_take key answered.command answered.reply) && is_seen key before)

-- how many holds of the key's item a worker has after a command and its reply, where it had n: one more after HELD, and one fewer after a
-- drop. A stored set, or a delete that found the key, leaves none, as the item is another's then
abbrev pub holds_after : ℕ → ℕ → Command → List ℕ → ℕ → ℕ
holds_after worker key (Hold own asked) reply holds = if own == worker && (asked == key && bytes_eq reply (key_line (codes "HELD") key)) then holds + 1 else holds
holds_after worker key (Drop own asked) reply holds = if own == worker && asked == key then holds - 1 else holds
holds_after worker key (Set own stored count base) reply holds = if stored == key && bytes_eq reply (key_line (codes "STORED") key) then 0 else holds
holds_after worker key (Delete own asked) reply holds = if asked == key && bytes_eq reply (key_line (codes "DELETED") key) then 0 else holds
holds_after worker key command reply holds = holds

-- how many holds a worker has of the item that the key leads to now
abbrev pub holds_now : ℕ → ℕ → List AnsweredCommand → ℕ
holds_now worker key [] = 0
holds_now worker key (answered ∷ before) = holds_after worker key answered.command answered.reply (holds_now worker key before)

-- a get of the key by this worker is answered by the key's last words, unless the worker has the most holds
abbrev pub GetsWords : Machine → List AnsweredCommand → ℕ → Type 0
GetsWords m told key = (worker : ℕ) (served : Outcome) → serve m (Get worker key) ≡ Some served
    → (words : List ℕ) × (last_words key told ≡ Some words) × (served.reply ≡ reply_to_get (holds_by_answers worker told) key (Some words))

-- after these commands a key that was seen, and not taken away since, has its words
abbrev pub KeepsSeen : Classes → ℕ → ℕ → List Command → Type 0
KeepsSeen table bulk mode commands = (m : Machine) (key : ℕ) → after_all (fresh_machine table bulk mode) commands ≡ Some m
    → let told = answers (fresh_machine table bulk mode) commands [] in
    is_seen key told ≡ true → GetsWords m told key

-- after these commands a key whose item somebody holds has its words
abbrev pub KeepsHeldWords : Classes → ℕ → ℕ → List Command → Type 0
KeepsHeldWords table bulk mode commands = (m : Machine) (holder key : ℕ) → after_all (fresh_machine table bulk mode) commands ≡ Some m
    → let told = answers (fresh_machine table bulk mode) commands [] in
    1 ≤ holds_now holder key told → GetsWords m told key
