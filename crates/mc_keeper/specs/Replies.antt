-- The words of replies, by what the typed calls answer.
use Rattle.std.specs.Prelude.{ℕ, List, codes, Result, Ok, Err}
use Rattle.mc_pages.specs.declared.moves.Reassign.{Reassign}
use Rattle.mc_serial_spec.specs.Lines.{refusal_name}
use Rattle.mc_keeper.specs.declared.keeper.store.Stored.{Stored}
use Rattle.mc_keeper.specs.declared.keeper.store.Stored.TheVariants.{Yes, TooLarge, NoRoom}

-- the word for whether an item was stored
abbrev pub stored_name : Stored → List ℕ
stored_name Yes = codes "STORED"
stored_name TooLarge = codes "TOO_LARGE"
stored_name NoRoom = codes "NO_ROOM"

-- the word for whether a page began to move
abbrev pub reassign_word : Result (Unit {0}) Reassign → List ℕ
reassign_word (Ok began) = codes "OK"
reassign_word (Err refusal) = refusal_name refusal
