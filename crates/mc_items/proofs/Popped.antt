-- A chunk that was just handed out is one that the hand fills with an item of its own.
use Rattle.std.proofs.Common.{◌≡◌, ℕ, ◌+◌, Bool, true, List, [], ◌∷◌, Option, Some, None, sym, ap, subst, ◌∙◌, if◌then◌else◌}
use Rattle.std.specs.Option.{option_map_or, option_or}
use Rattle.std.proofs.lemmas.List.Folds.{find-append}
use Rattle.mc_pages.specs.declared.ids.ChunkId.{ChunkId}
use Rattle.mc_pages.specs.SlabState.{SlabState}
use Rattle.mc_pages.proofs.Chunks.{is_chunk-same}
use Rattle.mc_core.specs.declared.holding.Holding.{Holding}
use Rattle.mc_core.specs.model.Holdings.{holding_of, is_of_chunk, holding_words}
use Rattle.mc_core.specs.model.State.{is_class, room_in}
use Rattle.mc_words.specs.hand.View.{View}
use Rattle.mc_words.specs.rule.Happens.{LawfulView}
use Rattle.mc_words.specs.item.Items.{issue_in, known_words_in}
use Rattle.mc_words.specs.item.Links.{own_item}
use Rattle.mc_words.specs.page.Owner.{PopsFirst}
use Rattle.mc_words.specs.hand.Views.{fresh_holding}
use Rattle.mc_words.proofs.Chunks.Judging.{not_held}
use Rattle.mc_words.proofs.Pages.Owners.{first_near}
use Rattle.mc_items.specs.Storing.{IsOwnItem}

pub popped_own : (view now : View) (slabs : SlabState) (class : ℕ) (chunk : ChunkId) → LawfulView view → view.slabs ≡ Some slabs → is_class view.setup.table class ≡ true → PopsFirst view slabs class chunk now → IsOwnItem now chunk
popped_own view now slabs class chunk was mine is pops =
    let holding : Holding = fresh_holding chunk (pops.head.issue + 1) (room_in view.setup.table class) in
    let in_range = first_near view was slabs class chunk mine is pops.first in
    let none : holding_of chunk view.row.holdings ≡ None = not_held view now slabs mine class chunk pops.head is pops.first was in_range in
    let found : holding_of chunk now.row.holdings ≡ Some holding =
    ap (λ (v : View). holding_of chunk v.row.holdings) pops.is
    ∙ (find-append (is_of_chunk chunk) view.row.holdings (holding ∷ [])
    ∙ (ap (λ (o : Option Holding). option_or o (holding_of chunk (holding ∷ []))) none ∙ ap (λ (b : Bool). if b then Some holding else None) (is_chunk-same chunk))) in
    let issue : issue_in now chunk ≡ holding.issue = ap (λ (o : Option Holding). option_map_or (λ (h : Holding). h.issue) o 0) found in
    let words : known_words_in now chunk ≡ holding_words holding = ap (λ (o : Option Holding). option_map_or holding_words o []) found in
    found ∙ (λ k. Some (own_item chunk (sym issue k) (sym words k)))

-- and it is so still while the hand has the same chunks
pub own_still : (view now : View) (chunk : ChunkId) → now.row.holdings ≡ view.row.holdings → IsOwnItem view chunk → IsOwnItem now chunk
own_still view now chunk same own =
    subst (λ (hs : List Holding). holding_of chunk hs ≡ Some (own_item chunk (option_map_or (λ (h : Holding). h.issue) (holding_of chunk hs) 0) (option_map_or holding_words (holding_of chunk hs) []))) (sym same) own
