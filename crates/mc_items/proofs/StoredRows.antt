-- What a hand holds and knows after a set: no chunk more, and what it knew.
use Rattle.std.proofs.Common.{◌≡◌, ℕ, true, false, List, [], ◌∷◌, ◌++◌, Option, Some, None, refl, ap, sym, ◌∙◌}
use Rattle.std.specs.Option.{option_or}
use Rattle.std.proofs.lemmas.List.Folds.{find-append}
use Rattle.mc_pages.specs.declared.ids.ChunkId.{ChunkId}
use Rattle.mc_core.specs.declared.holding.Holding.{Holding}
use Rattle.mc_core.specs.model.Holdings.{has_fresh, holding_of, is_fresh, is_of_chunk, words_of_item, without_first, numbers_of_known}
use Rattle.mc_core.specs.run.Items.{ids_after_stamp}
use Rattle.mc_core.specs.past.Past.{KnownItem, known_by}
use Rattle.mc_words.specs.hand.View.{View}
use Rattle.mc_words.specs.item.Items.{issue_in, known_words_in}
use Rattle.mc_words.specs.item.Links.{own_item}
use Rattle.mc_words.specs.item.References.{reference_to}
use Rattle.mc_words.specs.item.Refs.{KeepsHoldings}
use Rattle.mc_stripe.specs.StripeState.{ReadyStripe}
use Rattle.mc_items.specs.Storing.{IsOwnItem, LeavesDead, StoresItem, holding_with, item_filled}
use Rattle.mc_items.specs.declared.comparing.Expected.{Expected}
use Rattle.mc_items.proofs.Chains.{holdings_kept, holdings_stay}
use Rattle.mc_items.proofs.Left.{Kept, kept_of, only_keeps, waited}
use Rattle.mc_items.proofs.Made.{Gains}
use Rattle.mc_items.proofs.Rows.{change_last, last_passes, lose_last}
use Rattle.mc_items.proofs.Stores.{fresh_among}

-- a chunk that the hand just got it didn't hold before
pub not_before : (chunk : ChunkId) (view between : View) → has_fresh view.row.holdings ≡ false → Gains chunk view between → IsOwnItem between chunk → holding_of chunk view.row.holdings ≡ None
not_before chunk view between none gains own = by (holding_of chunk view.row.holdings) refl
  where
    by : (o : Option Holding) → holding_of chunk view.row.holdings ≡ o → o ≡ None
    by None is = refl
    by (Some one) is =
        let first : holding_of chunk between.row.holdings ≡ Some one =
        ap (holding_of chunk) gains.holdings ∙ (find-append (is_of_chunk chunk) view.row.holdings (gains.fresh ∷ []) ∙ ap (λ (o : Option Holding). option_or o (holding_of chunk (gains.fresh ∷ []))) is) in
        let same : Some one ≡ Some (own_item chunk (issue_in between chunk) (known_words_in between chunk)) = sym first ∙ own in
        let fresh : is_fresh one ≡ true = ap (λ (o : Option Holding). Rattle.std.specs.Option.option_map_or is_fresh o true) same in
        let wrong : false ≡ true = sym none ∙ fresh_among chunk view.row.holdings one is fresh in absurd (cc)

module _ (chunk : ChunkId) (item : List ℕ) (view between : View) (none : has_fresh view.row.holdings ≡ false) (gains : Gains chunk view between) (own : IsOwnItem between chunk) where
  abbrev filled : View
  filled = item_filled chunk item between

  before : holding_of chunk view.row.holdings ≡ None
  before = not_before chunk view between none gains own

  filled_holds : filled.row.holdings ≡ view.row.holdings ++ holding_with item gains.fresh ∷ []
  filled_holds =
      ap (Rattle.mc_core.specs.model.Holdings.change_each (is_of_chunk chunk) (holding_with item)) gains.holdings ∙ change_last chunk (holding_with item) view.row.holdings gains.fresh before (last_passes chunk gains.fresh gains.of)

  pub lost_again : without_first (is_of_chunk chunk) filled.row.holdings ≡ view.row.holdings
  lost_again = ap (without_first (is_of_chunk chunk)) filled_holds ∙ lose_last chunk view.row.holdings (holding_with item gains.fresh) before (last_passes chunk (holding_with item gains.fresh) gains.of)

  -- stored, it is given up
  module _ {expected : Expected} (number stripe key stamp room : ℕ) (now : View) (stored : StoresItem expected number stripe key stamp chunk room filled now) where
    taken_is : kept_of stored.stores.taken ≡ kept_of filled
    taken_is = waited stripe filled stored.stores.value stored.stores.taken stored.stores.waits

    abbrev linked : Holding
    linked = reference_to chunk (issue_in stored.stores.taken chunk) (numbers_of_known (words_of_item (known_words_in stored.stores.taken chunk)))

    linked_holds : stored.linked.row.holdings ≡ view.row.holdings ++ linked ∷ []
    linked_holds =
        ap (λ (v : View). v.row.holdings) stored.stores.done.given
        ∙ (ap (λ (v : View). v.row.holdings) stored.stores.done.does.0
        ∙ (ap (λ (k : Kept). without_first (is_of_chunk chunk) k.0 ++ linked ∷ []) taken_is ∙ ap (λ (hs : List Holding). hs ++ linked ∷ []) lost_again))

    stored_holds : now.row.holdings ≡ view.row.holdings
    stored_holds =
        ap (λ (v : View). v.row.holdings) stored.dropped
        ∙ (ap (without_first (is_of_chunk chunk)) linked_holds ∙ lose_last chunk view.row.holdings linked before (last_passes chunk linked refl))

    stored_knows : now.row.knows.known ≡ between.row.knows.known ++ known_by room linked ∷ []
    stored_knows =
        ap (λ (v : View). v.row.knows.known) stored.dropped
        ∙ (ap (λ (v : View). v.row.knows.known) stored.stores.done.given
        ∙ (ap (λ (v : View). v.row.knows.known) stored.stores.done.does.0
        ∙ ap (λ (k : Kept). k.1 ++ known_by room linked ∷ []) taken_is))

    pub stored_ids : now.row.ids ≡ ids_after_stamp between.row.ids
    stored_ids =
        ap (λ (v : View). v.row.ids) stored.dropped
        ∙ (ap (λ (v : View). v.row.ids) stored.stores.done.given
        ∙ (ap (λ (v : View). v.row.ids) stored.stores.done.does.0
        ∙ ap (λ (k : Kept). ids_after_stamp k.3) taken_is))

    -- so each holding stays
    pub stored_keeps : between.row.knows.known ≡ view.row.knows.known → KeepsHoldings view now
    stored_keeps same = holdings_kept view now (known_by room linked ∷ []) stored_holds (stored_knows ∙ ap (λ (l : List KnownItem). l ++ known_by room linked ∷ []) same)

  -- left dead, it is given up, too
  module _ {Is : ReadyStripe → Type 0} (stripe : ℕ) (now : View) (dead : LeavesDead Is stripe chunk filled now) where
    given_is : kept_of dead.given ≡ kept_of filled
    given_is = only_keeps stripe filled dead.given dead.waits

    dead_holds : now.row.holdings ≡ view.row.holdings
    dead_holds = ap (λ (v : View). v.row.holdings) dead.dropped ∙ (ap (λ (k : Kept). without_first (is_of_chunk chunk) k.0) given_is ∙ lost_again)

    dead_knows : now.row.knows.known ≡ between.row.knows.known
    dead_knows = ap (λ (v : View). v.row.knows.known) dead.dropped ∙ ap (λ (k : Kept). k.1) given_is

    pub dead_keeps : between.row.knows.known ≡ view.row.knows.known → KeepsHoldings view now
    dead_keeps same = holdings_stay view now dead_holds (dead_knows ∙ same)
