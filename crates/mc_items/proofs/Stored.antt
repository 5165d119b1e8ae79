-- What a hand has and knows once it stored an item.
use Rattle.std.proofs.Common.{◌≡◌, ℕ, List, [], ◌∷◌, ◌++◌, map, Some, refl, ap, sym, subst, ◌∙◌}
use Rattle.std.specs.Option.{option_map_or}
use Rattle.mc_pages.specs.declared.ids.ChunkId.{ChunkId}
use Rattle.mc_stripe.specs.declared.history.Call.TheVariants.{Set}
use Rattle.mc_core.specs.declared.holding.Holding.{Holding}
use Rattle.mc_core.specs.model.Holdings.{Words, all_known, holding_of, is_complete, words_of_item, known_key, numbers_of_known, stamp_in, holding_words}
use Rattle.mc_core.specs.past.Past.{Own, StoredItem}
use Rattle.mc_words.specs.hand.View.{View}
use Rattle.mc_words.specs.item.Calls.{with_own_call}
use Rattle.mc_words.specs.item.Items.{issue_in, known_words_in}
use Rattle.mc_words.specs.item.Links.{IsItemFilled, own_item}
use Rattle.mc_items.specs.Calls.{RecordsNoCall}
use Rattle.mc_stripe.specs.StripeState.{ReadyStripe}
use Rattle.mc_items.specs.Storing.{LeavesDead, StoresItem}
use Rattle.mc_items.specs.declared.comparing.Expected.{Expected}
use Rattle.mc_items.proofs.Tells.{told_none}
use Rattle.mc_items.proofs.Locks.{waits_keep}

-- the words of the chunk among these holdings
abbrev words_among : ChunkId → List Holding → Words
words_among chunk holdings = option_map_or holding_words (holding_of chunk holdings) []

-- what was filled stays so, as long as the holdings do
pub filled_still : (chunk : ChunkId) (key stamp : ℕ) (view now : View) → now.row.holdings ≡ view.row.holdings → IsItemFilled view chunk (issue_in view chunk) (known_words_in view chunk) key stamp → IsItemFilled now chunk (issue_in now chunk) (known_words_in now chunk) key stamp
filled_still chunk key stamp view now same filled = record {
  found = subst (λ (hs : List Holding). holding_of chunk hs ≡ Some (own_item chunk (option_map_or (λ (h : Holding). h.issue) (holding_of chunk hs) 0) (words_among chunk hs))) (sym same) filled.found;
  complete = ap (λ (hs : List Holding). is_complete (words_among chunk hs)) same ∙ filled.complete;
  same_key = ap (λ (hs : List Holding). known_key (words_among chunk hs)) same ∙ filled.same_key;
  same_stamp = ap (λ (hs : List Holding). stamp_in (words_among chunk hs)) same ∙ filled.same_stamp;
}

-- known words as numbers
pub numbers_known : (item : List ℕ) → numbers_of_known (all_known item) ≡ item
numbers_known [] = refl
numbers_known (word ∷ item) = ap (λ (l : List ℕ). word ∷ l) (numbers_known item)

module _ {expected : Expected} (number stripe key stamp : ℕ) (chunk : ChunkId) (room : ℕ) (view now : View) (stored : StoresItem expected number stripe key stamp chunk room view now) where
  -- the hand's own calls have the one more
  pub stored_mine : now.row.knows.mine ≡ map (with_own_call number stripe (Set number key stamp)) view.row.knows.mine
  stored_mine =
      ap (λ (v : View). v.row.knows.mine) stored.dropped
      ∙ (ap (λ (v : View). v.row.knows.mine) stored.stores.done.given
      ∙ (ap (λ (v : View). v.row.knows.mine) stored.stores.done.does.0
      ∙ ap (λ (mine : List Own). map (with_own_call number stripe (Set number key stamp)) mine) (waits_keep (λ (v : View). v.row.knows.mine) stripe (λ word v. refl) (λ value v. refl) view stored.stores.value stored.stores.taken stored.stores.waits)))

  -- and it said the item with its stamp
  pub stored_said : now.row.knows.stored ≡ view.row.knows.stored ++ record { stamp = stamp; words = numbers_of_known (words_of_item (known_words_in view chunk)) } ∷ []
  stored_said =
      ap (λ (v : View). v.row.knows.stored) stored.dropped
      ∙ (ap (λ (v : View). v.row.knows.stored) stored.stores.done.given
      ∙ (ap (λ (v : View). v.row.knows.stored) stored.stores.done.does.0
      ∙ ap (λ (p : List StoredItem × List Holding). p.0 ++ record { stamp = stamp; words = numbers_of_known (words_of_item (words_among chunk p.1)) } ∷ []) (waits_keep (λ (v : View). (v.row.knows.stored, v.row.holdings)) stripe (λ word v. refl) (λ value v. refl) view stored.stores.value stored.stores.taken stored.stores.waits)))

-- who gave its chunk up told nothing
pub dead_told : {Is : ReadyStripe → Type 0} (stripe : ℕ) (chunk : ChunkId) (view now : View) → LeavesDead Is stripe chunk view now → RecordsNoCall view now
dead_told stripe chunk view now dead = ap (λ (v : View). v.row.knows.mine) dead.dropped ∙ told_none stripe view dead.given dead.waits
