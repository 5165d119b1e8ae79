-- Items that a hand links: what it filled, and what it has and knows then.
use Rattle.std.specs.Prelude.{◌≡◌, ℕ, true, List, [], ◌∷◌, ◌++◌, map, slice_set, Some}
use Rattle.mc_pages.specs.declared.ids.ChunkId.{ChunkId}
use Rattle.mc_stripe.specs.declared.history.Call.TheVariants.{Rescue, Set}
use Rattle.mc_stripe.specs.StripeState.{ReadyStripe, StripeState}
use Rattle.mc_stripe.specs.Changes.{after_link, after_rescue, used_up}
use Rattle.mc_core.specs.declared.holding.Holding.{Holding}
use Rattle.mc_core.specs.declared.holding.Kind.TheVariants.{Fresh}
use Rattle.mc_core.specs.declared.holding.Purpose.TheVariants.{Item}
use Rattle.mc_core.specs.declared.holding.Purpose.TheVariants as purpose
use Rattle.mc_core.specs.model.Holdings.{Words, holding_of, is_complete, is_of_chunk, words_of_item, known_key, without_first, numbers_of_known, stamp_in}
use Rattle.mc_core.specs.run.Items.{are_same, is_entry_aside, ids_after_stamp}
use Rattle.mc_core.specs.past.Past.{known_by}
use Rattle.mc_core.specs.declared.event.Step.TheVariants.{Link}
use Rattle.mc_words.specs.hand.View.{View, made}
use Rattle.mc_words.specs.item.Calls.{with_own_call}
use Rattle.mc_words.specs.item.References.{reference_to}

-- the holding of a chunk that the hand fills with an item of its own, as far as these words
abbrev pub own_item : ChunkId → ℕ → Words → Holding
own_item chunk issue words = record { chunk = chunk; issue = issue; kind = Fresh Item words }

-- the hand filled the chunk with a whole item of its own: key, stamp, length, and as many words as the length counts
pub record IsItemFilled (view : View) (chunk : ChunkId) (issue : ℕ) (words : Words) (key stamp : ℕ) : Type 0 where
  pub found : holding_of chunk view.row.holdings ≡ Some (own_item chunk issue words)
  pub complete : is_complete words ≡ true
  pub same_key : known_key words ≡ key
  pub same_stamp : stamp_in words ≡ stamp

-- the view after the hand of this number linked the item: the hand refers to the item, stored its words with its stamp, and recorded the
-- set in the key's stripe
abbrev pub item_linked : ℕ → ℕ → ReadyStripe → ℕ → ℕ → ChunkId → ℕ → Words → ℕ → View → View
item_linked number stripe value key stamp chunk issue words room view = record view {
  events = view.events ++ made [] (Link chunk) ∷ [];
  row = record {
    ids = ids_after_stamp view.row.ids;
    holdings = without_first (is_of_chunk chunk) view.row.holdings ++ reference_to chunk issue (numbers_of_known (words_of_item words)) ∷ [];
    looks = view.row.looks;
    knows = record view.row.knows {
      mine = map (with_own_call number stripe (Set number key stamp)) view.row.knows.mine;
      stored = view.row.knows.stored ++ record { stamp = stamp; words = numbers_of_known (words_of_item words) } ∷ [];
      known = view.row.knows.known ++ known_by room (reference_to chunk issue (numbers_of_known (words_of_item words))) ∷ [];
    };
  };
  stripes = slice_set view.stripes stripe (Some (used_up (after_link value.state number key chunk stamp)));
}

-- the holding of a chunk that the hand fills with the item that it took away from another one, as far as these words
abbrev pub copied_item : ChunkId → ChunkId → ℕ → List ℕ → Words → Holding
copied_item old chunk issue item words = record { chunk = chunk; issue = issue; kind = Fresh (purpose.Rescue old item) words }

-- the hand filled the chunk with the words of an item that it took away from another one, whose entry is aside in this stripe
pub record IsCopyFilled (view : View) (stripe : StripeState) (chunk : ChunkId) (issue : ℕ) (words : Words) (key stamp : ℕ) : Type 0 where
  pub old : ChunkId
  pub item : List ℕ
  pub found : holding_of chunk view.row.holdings ≡ Some (copied_item old chunk issue item words)
  pub complete : is_complete words ≡ true
  pub same : are_same (words_of_item words) item ≡ true
  pub same_key : known_key words ≡ key
  pub same_stamp : stamp_in words ≡ stamp
  pub aside : is_entry_aside stripe key old stamp ≡ true

-- the view after the hand of this number linked the copy: the hand refers to it, recorded the rescue in the key's stripe, and gave out and
-- stored no stamp
abbrev pub copy_linked : ℕ → ℕ → ReadyStripe → ℕ → ChunkId → ℕ → Words → ℕ → View → View
copy_linked number stripe value key chunk issue words room view = record view {
  events = view.events ++ made [] (Link chunk) ∷ [];
  row = record {
    ids = view.row.ids;
    holdings = without_first (is_of_chunk chunk) view.row.holdings ++ reference_to chunk issue (numbers_of_known (words_of_item words)) ∷ [];
    looks = view.row.looks;
    knows = record view.row.knows {
      mine = map (with_own_call number stripe (Rescue number key)) view.row.knows.mine;
      known = view.row.knows.known ++ known_by room (reference_to chunk issue (numbers_of_known (words_of_item words))) ∷ [];
    };
  };
  stripes = slice_set view.stripes stripe (Some (used_up (after_rescue value.state number key chunk)));
}
