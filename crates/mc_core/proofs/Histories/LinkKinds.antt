-- A link stores an item under a new stamp, or brings a rescued one back.
use Rattle.std.proofs.Common.{◌≡◌, ◌⊎◌, ℕ, ◌+◌, ◌/◌, ◌%◌, ◌^◌, ◌==◌, ◌&&◌, true, List, [], ◌∷◌, Option, Some, None, refl, ap, inl, inr, slice_set, nat_lt, nat_eq, eqb-true, ltb-true, ◌<◌}
use Rattle.std.specs.Option.{option_eq}
use Rattle.std.proofs.lemmas.Bool.{and_parts}
use Rattle.mc_pages.specs.declared.ids.ChunkId.{ChunkId}
use Rattle.mc_stripe.specs.Changes.{after_rescue, used_up}
use Rattle.mc_stripe.specs.Changes as stripe_changes
use Rattle.mc_core.specs.declared.ids.Ids.{Ids}
use Rattle.mc_core.specs.declared.holding.Holding.{Holding}
use Rattle.mc_core.specs.declared.holding.Kind.{Kind}
use Rattle.mc_core.specs.declared.holding.Kind.TheVariants.{Reference, Fresh}
use Rattle.mc_core.specs.declared.holding.Purpose.TheVariants.{Item, Copy, Rescue}
use Rattle.mc_core.specs.model.Holdings.{known_key, stamp_in, words_of_item, is_of_chunk, numbers_of_known, holding_words}
use Rattle.mc_core.specs.model.State.{State, ids_at, stripe_of, stripe_at, without_holding}
use Rattle.mc_core.specs.run.Silent.{writer_of}
use Rattle.mc_core.specs.run.Items.{most_stamps, is_allowed_for, is_next_stamp, ids_after_stamp, recorded_link, can_link_holding, after_link_of}
use Rattle.mc_core.specs.past.Past.{StoredItem, stored_item_of, item_stored_by_link}
use Rattle.mc_core.proofs.Hands.HandsSteps.{link_parts}

-- the parts of a next stamp
pub next_parts : (ids : Ids) (stamp : ℕ) → is_next_stamp ids stamp ≡ true → (ids.stamps < most_stamps) × (ids.number ≡ Some (stamp / 2 ^ 48)) × (stamp % 2 ^ 48 ≡ ids.stamps + 1)
next_parts ids stamp h =
    let both = and_parts (nat_lt ids.stamps most_stamps && option_eq nat_eq ids.number (Some (stamp / 2 ^ 48))) (stamp % 2 ^ 48 == ids.stamps + 1) h in
    let front = and_parts (nat_lt ids.stamps most_stamps) (option_eq nat_eq ids.number (Some (stamp / 2 ^ 48))) both.0 in
    (ltb-true ids.stamps most_stamps front.0, number_is ids.number front.1, eqb-true (stamp % 2 ^ 48) (ids.stamps + 1) both.1)
  where
    number_is : (number : Option ℕ) → option_eq nat_eq number (Some (stamp / 2 ^ 48)) ≡ true → number ≡ Some (stamp / 2 ^ 48)
    number_is None is = absurd (cc)
    number_is (Some n) is = ap Some (eqb-true n (stamp / 2 ^ 48) is)

module _ (state : State) (hand : ℕ) (chunk : ChunkId) where
  abbrev without : State
  without = without_holding state hand (is_of_chunk chunk)

  -- a new stamp is said, and stored in the history of the key's stripe
  pub record IsStored (holding : Holding) (now : State) (said : List StoredItem) : Type 0 where
    pub next : is_next_stamp (ids_at state hand) (stamp_in (holding_words holding)) ≡ true
    pub ids : now.ids ≡ slice_set state.ids hand (ids_after_stamp (ids_at state hand))
    pub says : said ≡ record { stamp = stamp_in (holding_words holding); words = numbers_of_known (words_of_item (holding_words holding)) } ∷ []
    pub stripes : now.stripes ≡ slice_set state.stripes (stripe_of state (known_key (holding_words holding)))
        (used_up (stripe_changes.after_link (stripe_at state (stripe_of state (known_key (holding_words holding)))).state (writer_of state hand) (known_key (holding_words holding)) holding.chunk (stamp_in (holding_words holding))))

  -- an old stamp stays, and the rescue comes into the history of the key's stripe
  pub record IsBack (holding : Holding) (now : State) (said : List StoredItem) : Type 0 where
    pub ids : now.ids ≡ state.ids
    pub says : said ≡ []
    pub stripes : now.stripes ≡ slice_set state.stripes (stripe_of state (known_key (holding_words holding)))
        (used_up (after_rescue (stripe_at state (stripe_of state (known_key (holding_words holding)))).state (writer_of state hand) (known_key (holding_words holding)) holding.chunk))

  by_kind : (holding : Holding) (kind : Kind) → is_allowed_for state hand (holding_words holding) kind ≡ true →
      IsStored holding (recorded_link without hand holding kind) (stored_item_of kind (holding_words holding)) ⊎ IsBack holding (recorded_link without hand holding kind) (stored_item_of kind (holding_words holding))
  by_kind holding (Reference own) h = absurd (cc)
  by_kind holding (Fresh Item own) h = inl record { next = (and_parts (is_next_stamp (ids_at state hand) (stamp_in (holding_words holding))) _ h).0; ids = refl; says = refl; stripes = refl }
  by_kind holding (Fresh (Copy old) own) h = inl record { next = (and_parts (is_next_stamp (ids_at state hand) (stamp_in (holding_words holding))) _ h).0; ids = refl; says = refl; stripes = refl }
  by_kind holding (Fresh (Rescue old item) own) h = inr record { ids = refl; says = refl; stripes = refl }

  kind_after : (holding : Holding) → IsStored holding (recorded_link without hand holding holding.kind) (stored_item_of holding.kind (holding_words holding)) ⊎ IsBack holding (recorded_link without hand holding holding.kind) (stored_item_of holding.kind (holding_words holding))
      → IsStored holding (after_link_of without hand chunk (Some holding)) (item_stored_by_link (Some holding)) ⊎ IsBack holding (after_link_of without hand chunk (Some holding)) (item_stored_by_link (Some holding))
  kind_after holding (inl is) = inl record { next = is.next; ids = is.ids; says = is.says; stripes = is.stripes }
  kind_after holding (inr is) = inr record { ids = is.ids; says = is.says; stripes = is.stripes }

  pub link_kind : (found : Option Holding) → can_link_holding state hand chunk found ≡ true → (holding : Holding) × (found ≡ Some holding)
      × (IsStored holding (after_link_of without hand chunk found) (item_stored_by_link found) ⊎ IsBack holding (after_link_of without hand chunk found) (item_stored_by_link found))
  link_kind None h = absurd (cc)
  link_kind (Some holding) h = (holding, refl, kind_after holding (by_kind holding holding.kind (link_parts state hand chunk holding h).2))
