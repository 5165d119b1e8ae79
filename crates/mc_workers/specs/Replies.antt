-- The text of a worker's reply.
use Rattle.std.specs.Prelude.{ℕ, List, codes}
use Rattle.mc_serial_spec.specs.Texts.{key_line, words_line}
use Rattle.mc_workers.specs.declared.reply.Reply.{Reply}
use Rattle.mc_workers.specs.declared.reply.Reply.TheVariants.{Stored, TooLarge, NoRoom, WornOut, Value, Held, Dropped, Deleted, Touched, NotFound, NotHeld, TooManyRefs}

-- the line of a reply about a key
abbrev pub reply_text : ℕ → Reply → List ℕ
reply_text key Stored = key_line (codes "STORED") key
reply_text key TooLarge = key_line (codes "TOO_LARGE") key
reply_text key NoRoom = key_line (codes "NO_ROOM") key
reply_text key WornOut = key_line (codes "WORN_OUT") key
reply_text key (Value words) = words_line (codes "VALUE") key words.items
reply_text key Held = key_line (codes "HELD") key
reply_text key (Dropped words) = words_line (codes "DROPPED") key words.items
reply_text key Deleted = key_line (codes "DELETED") key
reply_text key Touched = key_line (codes "TOUCHED") key
reply_text key NotFound = key_line (codes "NOT_FOUND") key
reply_text key NotHeld = key_line (codes "NOT_HELD") key
reply_text key TooManyRefs = key_line (codes "TOO_MANY_REFS") key
