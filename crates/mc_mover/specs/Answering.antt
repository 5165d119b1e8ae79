-- What a turn's answer states of the move: none ran, the page moves still, or it came to its destination.
use Rattle.std.specs.Prelude.{◌≡◌, Bool, true, false, ◌&&◌, is_none, is_some, Option, Some, None}
use Rattle.mc_pages.specs.declared.ids.Moving.{Moving}
use Rattle.mc_words.specs.hand.View.{View}
use Rattle.mc_mover.specs.declared.counts.Turn.{Turn}
use Rattle.mc_mover.specs.declared.counts.Turn.TheVariants.{Idle, Went, Finished}

-- one move at two times: of the same page, from the same class and to the same one
abbrev pub IsSameMove : Moving → Moving → Type 0
IsSameMove first last = (last.page ≡ first.page) × (last.src ≡ first.src) × (last.dst ≡ first.dst)

-- a move ran, and it runs still
abbrev pub RunsStill : Option Moving → Option Moving → Type 0
RunsStill found left = (first : Moving) × (last : Moving) × (found ≡ Some first) × (left ≡ Some last) × IsSameMove first last

-- what the answer states of the move that the turn found and of the one that it left
abbrev pub IsAnswerOf : Turn → Option Moving → Option Moving → Type 0
IsAnswerOf Idle found left = (found ≡ None) × (left ≡ None)
IsAnswerOf (Went counts) found left = RunsStill found left
IsAnswerOf (Finished counts) found left = (is_some found ≡ true) × (left ≡ None)

-- the turn's answer is right for the move that the hand's last hold of the slabs lock found and left
abbrev pub AnswersMove : View → Turn → Type 0
AnswersMove now turn = IsAnswerOf turn now.row.knows.hold.found.moving now.row.knows.hold.left.moving

-- the turn's answer is that the page came to its destination
abbrev pub is_finished : Turn → Bool
is_finished (Finished counts) = true
is_finished other = false

-- a turn's answer is `Finished` exactly where a page moved, and none moves any more
abbrev pub FinishesExactly : Type 0
FinishesExactly = (turn : Turn) (found left : Option Moving) → IsAnswerOf turn found left → is_finished turn ≡ (is_some found && is_none left)
