-- What clauses state of a line: of the hand that did it, and of the references that it keeps, before and after.
use Rattle.std.specs.Prelude.{ℕ, List}
use Rattle.mc_words.specs.declared.arena.Arena.{Arena}
use Rattle.mc_words.specs.declared.hand.Hand.{Hand}
use Rattle.mc_words.specs.hand.Arenas.{setup_of, view}
use Rattle.mc_items.specs.declared.refs.Ref.{Ref}
use Rattle.mc_script.specs.declared.command.Command.{Command}
use Rattle.mc_workers.specs.declared.mover.Mover.{Mover}
use Rattle.mc_workers.specs.declared.reply.Reply.{Reply}
use Rattle.mc_workers.specs.Kept.{kept_references}
use Rattle.mc_workers.specs.Lines.{AddsReply, ServesLines}
use Rattle.mc_workers.specs.Moves.{AddsMove, AddsMoves}
use Rattle.mc_workers.specs.Serving.{AnswersDrop, AnswersHold, Serves}

-- a hold of this key, by the reply: what it made of the hand and of the references that it keeps
abbrev pub AnswersHoldBy : Arena → ℕ → Reply → Hand → List Ref → Hand → List Ref → Type 0
AnswersHoldBy arena key reply before kept now left =
    AnswersHold (setup_of arena) key reply (kept_references (view before) kept) before (kept_references (view now) left) now

-- a drop of this key, by the reply: what it made of the hand and of the references that it keeps
abbrev pub AnswersDropBy : ℕ → Reply → Hand → List Ref → Hand → List Ref → Type 0
AnswersDropBy key reply before kept now left = AnswersDrop key reply (kept_references (view before) kept) before (kept_references (view now) left) now

-- any line of a worker, by the reply: what it made of the hand and of the references that it keeps
abbrev pub ServesBy : Arena → Command → Reply → Hand → List Ref → Hand → List Ref → Type 0
ServesBy arena command reply before kept now left =
    Serves (setup_of arena) command reply (kept_references (view before) kept) before (kept_references (view now) left) now

-- a line of a worker was done, and the line of its reply was added to the text
abbrev pub AddsReplyBy : Arena → Command → Hand → List Ref → List ℕ → Hand → List Ref → List ℕ → Type 0
AddsReplyBy arena command before kept text now left longer =
    AddsReply (setup_of arena) command (kept_references (view before) kept) before text (kept_references (view now) left) now longer

-- all lines of a worker were done, in order, and the lines of their replies were added to the text
abbrev pub ServesLinesBy : Arena → ℕ → List Command → Hand → List Ref → List ℕ → Hand → List Ref → List ℕ → Type 0
ServesLinesBy arena worker commands before kept text now left longer =
    ServesLines (setup_of arena) worker commands (kept_references (view before) kept) before text (kept_references (view now) left) now longer

-- a line of the mover was done, and the lines of its reply were added to the text
abbrev pub AddsMoveBy : Arena → Command → Hand → Mover → List ℕ → Hand → Mover → List ℕ → Type 0
AddsMoveBy arena command before mover text now left longer = AddsMove (setup_of arena).table command mover before text left now longer

-- all lines of the mover were done, in order, and the lines of their replies were added to the text
abbrev pub AddsMovesBy : Arena → List Command → Hand → Mover → List ℕ → Hand → Mover → List ℕ → Type 0
AddsMovesBy arena commands before mover text now left longer = AddsMoves (setup_of arena).table commands mover before text left now longer
