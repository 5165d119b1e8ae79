-- Turns of a window, one after another.
use Rattle.std.proofs.Common.{◌≡◌, ◌<◌, true, false, ◌+◌, ◌∷◌, ◌∙◌, [], ℕ, List, ap, arith, drop, length, refl}
use Rattle.mc_mover.specs.declared.counts.Turn.{Turn}
use Rattle.mc_words.specs.declared.hand.Hand.{Hand}
use Rattle.mc_cache.specs.declared.tended.Tended.{Tended}
use Rattle.mc_cache.specs.Windows.{AreUnderWay, DoesTurns, DoesWindowTurns, MakesTurn, is_under_way, nothing_tended, turns_tended, with_turn}

-- so many turns were done, and did this; each left its page on the move
abbrev pub AreDone : ℕ → Hand → Hand → Tended → Type 0
AreDone count before now done = (turns : List Turn) × (length turns ≡ count) × DoesTurns turns before now × (done ≡ turns_tended turns) × AreUnderWay turns

pub none_done : (hand : Hand) (done : Tended) → done ≡ nothing_tended → AreDone 0 hand hand done
unfolding AreUnderWay DoesTurns turns_tended
none_done hand done is = ([], refl, refl, is, tt)

pub one_more : (count : ℕ) (before between now : Hand) (done after : Tended) (turn : Turn) → AreDone count before between done → MakesTurn turn between now → after ≡ with_turn turn done → is_under_way turn ≡ true → AreDone (count + 1) before now after
unfolding AreUnderWay DoesTurns turns_tended
one_more count before between now done after turn h makes is moves = (turn ∷ h.0, omega (arith, h.1), (between, h.2, makes), is ∙ ap (with_turn turn) h.3, (moves, h.4))

-- the last one found no move, or ended one
pub last_done : (count : ℕ) (before between now : Hand) (done after : Tended) (turn : Turn) → count < 16 → AreDone count before between done → MakesTurn turn between now → after ≡ with_turn turn done → is_under_way turn ≡ false → DoesWindowTurns after before now
unfolding DoesTurns turns_tended
last_done count before between now done after turn less h makes is over = record {
  turns = turn ∷ h.0;
  most = omega (arith, h.1, less);
  fewer = λ fewer. over;
  before_newest = h.4;
  does = (between, h.2, makes);
  counted = is ∙ ap (with_turn turn) h.3;
}

-- what holds of all turns holds of those before the newest
before_newest : (turns : List Turn) → AreUnderWay turns → AreUnderWay (drop 1 turns)
unfolding AreUnderWay
before_newest [] are = tt
before_newest (turn ∷ turns) are = are.1

-- or so many were done
pub all_done : (count : ℕ) (before now : Hand) (done : Tended) → count ≡ 16 → AreDone count before now done → DoesWindowTurns done before now
all_done count before now done all h = record {
  turns = h.0;
  most = omega (arith, h.1, all);
  fewer = λ fewer. absurd (omega (arith, h.1, all, fewer));
  before_newest = before_newest h.0 h.4;
  does = h.2;
  counted = h.3;
}
