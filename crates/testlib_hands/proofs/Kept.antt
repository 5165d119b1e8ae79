-- Hands that are kept in a list, of which the first leaves; hands that looked at a header; and hands that hold nothing.
use Rattle.std.proofs.Common.{◌≡◌, ◌∙◌, ℕ, ◌+◌, ◌==◌, Bool, true, ◌&&◌, if◌then◌else◌, List, [], ◌∷◌, ◌++◌, length, Some, ap, sym, subst}
use Rattle.mc_pages.specs.declared.ids.ChunkId.{ChunkId}
use Rattle.mc_core.specs.declared.head.Head.{Head}
use Rattle.mc_core.specs.declared.holding.Holding.{Holding}
use Rattle.mc_core.specs.model.Holdings.{is_of_chunk, without_first}
use Rattle.mc_pages.proofs.Chunks.{is_chunk-same}
use Rattle.mc_words.specs.declared.arena.Arena.{Arena}
use Rattle.mc_words.specs.declared.hand.Hand.{Hand}
use Rattle.mc_words.specs.hand.View.{View, both_views}
use Rattle.mc_words.specs.hand.Idle.{is_idle}
use Rattle.mc_words.specs.hand.Views.{head_seen}
use Rattle.mc_words.specs.hand.Hands.{AreHandsFrom, AreNewHands}
use Rattle.mc_words.specs.hand.Ready.{IsReady}
use Rattle.mc_items.specs.declared.refs.Ref.{Ref}
use Rattle.mc_items.specs.ItemRefs.{item_chunk}
use Rattle.mc_words.specs.item.Refs.{HoldsTheSame}
use Rattle.mc_items.specs.Keeping.{HoldsLess, HoldsToo, holding_by}
use Rattle.testlib_hands.specs.Hands.{AreEmptyHandsOf, HoldsNothing}

hands_from : (arena : Arena) (number : ℕ) (hands : List Hand) → AreHandsFrom arena number hands → AreEmptyHandsOf arena hands
hands_from arena number [] are = record {}
hands_from arena number (hand ∷ hands) are = (((are.0.of_arena, are.0.ready), ap (λ (v : View). v.row.holdings) are.0.new), hands_from arena (1 + number) hands are.1)

pub all_hands : (arena : Arena) (hands : List Hand) → AreNewHands arena hands → AreEmptyHandsOf arena hands
all_hands arena hands are = hands_from arena 0 hands are.1

-- a hand that saw a header holds what it held, and has the same locks
pub ready_behind_head : (view now : View) (chunk : ChunkId) (head : Head) → now ≡ head_seen chunk head view → IsReady view → IsReady now
ready_behind_head view now chunk head seen ready = subst IsReady (sym seen) (record { unlocked = ready.unlocked; unfilled = ready.unfilled; within_limit = ready.within_limit })

-- a hand that holds nothing is idle
pub idle : (view : View) → IsReady view → HoldsNothing view → is_idle view ≡ true
idle view ready none = λ k. ready.unlocked k && (length (none k) == 0)

-- a hand that took another one over has the locks and holds the chunks that it had
pub ready_of_both : (kept spent now : View) → now ≡ both_views kept spent → IsReady kept → IsReady now
ready_of_both kept spent now both ready = subst IsReady (sym both) (record { unlocked = ready.unlocked; unfilled = ready.unfilled; within_limit = ready.within_limit })

pub nothing_of_both : (kept spent now : View) → now ≡ both_views kept spent → HoldsNothing kept → HoldsNothing now
nothing_of_both kept spent now both none = ap (λ (v : View). v.row.holdings) both ∙ none

-- a hand that held nothing, and gave up the item that it got, holds nothing
pub nothing_left : (view got now : View) (item : Ref) → HoldsNothing view → HoldsToo (Some item) view got → HoldsLess item got now → HoldsNothing now
nothing_left view got now item none more less =
    let one : Holding = holding_by got item in
    less ∙ (ap (without_first (is_of_chunk (item_chunk item))) (more ∙ ap (λ (hs : List Holding). hs ++ one ∷ []) none) ∙ ap (λ (b : Bool). if b then [] else one ∷ []) (is_chunk-same (item_chunk item)))

-- a hand that gave an item up behind calls that left it what it held holds one less than before them
pub less_later : (view last now : View) (item : Ref) → HoldsTheSame view last → HoldsLess item last now → HoldsLess item view now
less_later view last now item same less = less ∙ ap (without_first (is_of_chunk (item_chunk item))) same

-- and nothing, where it got that item when it held nothing
pub nothing_left_later : (view got last now : View) (item : Ref) → HoldsNothing view → HoldsToo (Some item) view got → HoldsTheSame got last → HoldsLess item last now → HoldsNothing now
nothing_left_later view got last now item none more same less = nothing_left view got now item none more (less_later got last now item same less)
