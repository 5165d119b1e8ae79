-- Worked cases of what a worker's lines do and reply.
use Rattle.std.specs.Prelude.{◌≡◌, ℕ, List, [], ◌∷◌, ◌++◌, codes}
use Rattle.mc_words.specs.declared.hand.Hand.{Hand}
use Rattle.mc_words.specs.hand.View.{Setup, View}
use Rattle.mc_words.specs.hand.Views.{chunk_released}
use Rattle.mc_items.specs.declared.refs.Ref.{Ref}
use Rattle.mc_items.specs.ItemRefs.{item_chunk, item_key}
use Rattle.mc_serial_spec.specs.Texts.{key_line}
use Rattle.mc_script.specs.declared.command.Command.{Command}
use Rattle.mc_script.specs.declared.command.Command.TheVariants.{Set, Get, Drop, Touch, Turn}
use Rattle.mc_workers.specs.declared.reply.Reply.TheVariants.{Stored, NotFound, NotHeld, Held}
use Rattle.mc_workers.specs.Asking.{greatest_worker, lines_of, lines_of_mover, asking_worker}
use Rattle.mc_workers.specs.Kept.{KeptReference, IsLastOf}
use Rattle.mc_workers.specs.Lines.{all_released, reply_texts}
use Rattle.mc_workers.specs.Serving.{Serves}

-- of holds of keys 5, 6 and 5 the third is dropped by key 5, and the others stay
abbrev pub TheLastHoldIsDropped : Type 0
TheLastHoldIsDropped = (first other third last : KeptReference) (left : List KeptReference) → item_key first.item ≡ 5 → item_key other.item ≡ 6 → item_key third.item ≡ 5
    → IsLastOf 5 (first ∷ other ∷ third ∷ []) last left → (last ≡ third) × (left ≡ first ∷ other ∷ [])

-- four lines of two workers and of none
abbrev pub some_lines : List Command
some_lines = Set 1 5 3 0 ∷ Turn 2 ∷ Get 2 5 ∷ Drop 1 5 ∷ []

-- each worker has its own lines, in their order, and the mover those of no worker
abbrev pub LinesComeApart : Type 0
LinesComeApart = (lines_of 1 some_lines ≡ Set 1 5 3 0 ∷ Drop 1 5 ∷ []) × (lines_of 2 some_lines ≡ Get 2 5 ∷ []) × (lines_of 3 some_lines ≡ []) × (lines_of_mover some_lines ≡ Turn 2 ∷ [])

-- the greatest worker of four lines is worker 2, whose line isn't the last; of the mover's lines alone the greatest is 0
abbrev pub TheGreatestIsFound : Type 0
TheGreatestIsFound = (greatest_worker some_lines ≡ 2) × (greatest_worker (Turn 2 ∷ []) ≡ 0) × (asking_worker (Get 2 5) ≡ 2)

-- each reply is about the key of its own line
abbrev pub RepliesArePrinted : Type 0
RepliesArePrinted = reply_texts (Set 1 7 3 0 ∷ Touch 1 8 ∷ []) (Stored ∷ NotFound ∷ []) ≡ key_line (codes "STORED") 7 ++ key_line (codes "NOT_FOUND") 8

-- no line has the reply of another one
abbrev pub RepliesFitTheirLines : Type 0
RepliesFitTheirLines = (setup : Setup) (worker key : ℕ) (held left : List KeptReference) (before now : Hand) →
    (Serves setup (Get worker key) Stored held before left now → ⊥) × (Serves setup (Get worker key) Held held before left now → ⊥) × (Serves setup (Drop worker key) NotFound held before left now → ⊥)
    × (Serves setup (Turn 1) NotHeld held before left now → ⊥)

-- the holds that a worker still has are given back from the last on
abbrev pub TheLastIsReleasedFirst : Type 0
TheLastIsReleasedFirst = (first second : Ref) (view : View) → all_released (first ∷ second ∷ []) view ≡ chunk_released (item_chunk first) (chunk_released (item_chunk second) view)
