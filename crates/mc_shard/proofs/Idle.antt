-- Hands that hold nothing before a call, and after it.
use Rattle.std.proofs.Common.{◌≡◌, ◌∙◌, Bool, List, [], ◌∷◌, ◌++◌, ap, arith, if◌then◌else◌, refl, Some}
use Rattle.mc_pages.specs.declared.ids.ChunkId.{ChunkId}
use Rattle.mc_core.specs.declared.holding.Holding.{Holding}
use Rattle.mc_core.specs.model.Columns.{count_of_holdings}
use Rattle.mc_core.specs.model.Holdings.{is_of_chunk, without_first}
use Rattle.mc_core.proofs.Counts.Holders.{holds-cons}
use Rattle.mc_pages.specs.Accounted.{truth}
use Rattle.mc_pages.proofs.Chunks.{is_chunk-same}
use Rattle.mc_words.specs.hand.View.{View}
use Rattle.mc_items.specs.declared.refs.Ref.{Ref}
use Rattle.mc_items.specs.ItemRefs.{item_chunk}
use Rattle.mc_words.specs.item.Refs.{HoldsTheSame}
use Rattle.mc_items.specs.Keeping.{HoldsAsOften, HoldsLess, HoldsToo, holding_by}

-- of a hand that held nothing, the item that it got is all that it holds
pub alone : (before got : View) (item : Ref) → before.row.holdings ≡ [] → HoldsToo (Some item) before got → got.row.holdings ≡ holding_by got item ∷ []
alone before got item none more = more ∙ ap (λ (hs : List Holding). hs ++ holding_by got item ∷ []) none

-- it is given up, and nothing is left
pub none_left : (got last now : View) (item : Ref) → got.row.holdings ≡ holding_by got item ∷ [] → HoldsTheSame got last → HoldsLess item last now → now.row.holdings ≡ []
none_left got last now item one same less =
    less ∙ (ap (without_first (is_of_chunk (item_chunk item))) (same ∙ one) ∙ ap (λ (b : Bool). if b then [] else holding_by got item ∷ []) (is_chunk-same (item_chunk item)))

no_holding : (holdings : List Holding) → ((chunk : ChunkId) → count_of_holdings chunk holdings ≡ 0) → holdings ≡ []
no_holding [] none = refl
no_holding (holding ∷ holdings) none =
    absurd (omega (arith, none holding.chunk, holds-cons holding.chunk holding holdings, ap truth (is_chunk-same holding.chunk)))

-- what holds each chunk as often as what holds none holds nothing
pub none_as_often : (view now : View) → view.row.holdings ≡ [] → HoldsAsOften view now → now.row.holdings ≡ []
none_as_often view now none same = no_holding now.row.holdings (λ chunk. same chunk ∙ ap (count_of_holdings chunk) none)
