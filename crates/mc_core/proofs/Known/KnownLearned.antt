-- Known items where a hand learns one.
use Rattle.std.proofs.Common.{◌≡◌, ℕ, ◌<◌, ◌≤◌, true, List, [], ◌∷◌, ◌++◌, length, refl, sym, subst, arith, slice_set, Contains, All}
use Rattle.mc_pages.specs.declared.ids.ChunkId.{ChunkId}
use Rattle.std.proofs.lemmas.List.Elements.{All-weaker}
use Rattle.mc_core.specs.declared.head.Head.{Head}
use Rattle.mc_core.specs.declared.holding.Holding.{Holding}
use Rattle.mc_core.specs.model.Holdings.{stamp_in_words}
use Rattle.mc_core.specs.past.Past.{Moment, KnownItem, StoredItem, known_by, with_more, IsKnownToSome}
use Rattle.mc_core.specs.model.State.{has_chunk, head_place, is_hand}
use Rattle.mc_core.specs.model.Columns.{Each}
use Rattle.mc_core.specs.law.Identities.{stored_count}
use Rattle.mc_core.specs.law.Knowing.{WasStored, IsTrueStill, AreKnown}
use Rattle.mc_core.specs.law.Lawful.{IsLawful}
use Rattle.mc_core.proofs.Steps.Base.{each_map, all_more}
use Rattle.mc_core.proofs.Counts.Rows.{rows_more}
use Rattle.mc_core.proofs.Steps.Plays.{hand_there}
use Rattle.mc_core.proofs.Hands.MoreRows.{row_of, rows_set, more_contains, more_added, one_contained, all_one, each_more, each_both}
use Rattle.mc_core.proofs.Known.KnownStill.{linked_turned}
use Rattle.mc_core.proofs.Known.KnownQuiet.{IsOwn, IsStill, all_agree}

-- two items of one chunk and issue are the same
abbrev pub AreOne : KnownItem → KnownItem → Type 0
AreOne k other = other.chunk ≡ k.chunk → other.issue ≡ k.issue → other.words ≡ k.words

-- who knew something knows it still
pub known_more : (known : List (List KnownItem)) (hand : ℕ) (more : List KnownItem) (P : KnownItem → Type 0) → IsKnownToSome known P → IsKnownToSome (with_more known hand more) P
known_more known hand more P (other, k, has, p) = (other, k, more_contains known hand other more k has, p)

pub own_more : (known : List (List KnownItem)) (hand : ℕ) (more : List KnownItem) (other : ℕ) (row : List Holding) → All (IsOwn known other) row → All (IsOwn (with_more known hand more) other) row
own_more known hand more other row all = All-weaker (IsOwn known other) (IsOwn (with_more known hand more) other)
    (λ holding own stale. let (room, has) = own stale in (room, more_contains known hand other more (known_by room holding) has)) row all

module _ (m : Moment) (l : IsLawful m) (hand : ℕ) (there : is_hand m.state hand ≡ true) (knew : KnownItem) where
  abbrev known' : List (List KnownItem)
  known' = with_more m.past.known hand (knew ∷ [])

  known_within : hand < length m.past.known
  known_within = let row = l.rows.known in let is = hand_there m.state hand there in omega arith

  pub newly_known : Contains (row_of known' hand) knew
  newly_known = more_added m.past.known hand (knew ∷ []) knew known_within (one_contained knew)

  -- the new item is the only one of its chunk and issue, or known already
  one_more : Each (AreOne knew) m.past.known → Each (λ k. Each (AreOne k) known') known'
  one_more agrees =
      each_more (λ k. Each (AreOne k) known') m.past.known hand (knew ∷ [])
      (each_both (λ k. Each (AreOne k) m.past.known) (AreOne knew) (λ k. Each (AreOne k) known') m.past.known
      (λ k all is. each_more (AreOne k) m.past.known hand (knew ∷ []) all (all_one (AreOne k) knew (λ at issue. sym (is (sym at) (sym issue))))) l.known.one agrees)
      (all_one (λ k. Each (AreOne k) known') knew (each_more (AreOne knew) m.past.known hand (knew ∷ []) agrees (all_one (AreOne knew) knew (λ _ _. refl))))

  -- the hand's new reference is to the item that it learned
  own_learned : (rows' : List (List Holding)) (reference : Holding) → ((other : ℕ) → All (IsOwn m.past.known other) (row_of rows' other)) → known_by knew.room reference ≡ knew →
      (other : ℕ) → All (IsOwn known' other) (row_of (rows_more rows' hand reference) other)
  own_learned rows' reference own is =
      let grown = λ (other : ℕ). own_more m.past.known hand (knew ∷ []) other (row_of rows' other) (own other) in
      rows_set (IsOwn known') rows' hand (row_of rows' hand ++ reference ∷ []) grown
      (all_more (IsOwn known' hand) (row_of rows' hand) reference (grown hand) (λ _. (knew.room, subst (λ (k : KnownItem). Contains (row_of known' hand) k) (sym is) newly_known)))

  -- one header changes, and the hand gets a reference to the item
  module _ (chunk : ChunkId) (head : Head) (in_range : has_chunk m.state.table chunk ≡ true) (reference : Holding) (rows' : List (List Holding)) (said' : List (List StoredItem)) where
    abbrev heads' : List Head
    heads' = slice_set m.state.heads (head_place m.state.table chunk) head

    abbrev IsStillNow : KnownItem → Type 0
    IsStillNow k = IsTrueStill m.state.table m.state.slabs heads' m.state.words (rows_more rows' hand reference) k

    pub known_learned : ((stamp : ℕ) → stored_count stamp said' ≤ 1) → ((stamp : ℕ) (words : List ℕ) → WasStored m.past.stored stamp words → WasStored said' stamp words) → WasStored said' (stamp_in_words knew.words) knew.words →
        ((k : KnownItem) → IsStill m l k → IsStillNow k) → IsStillNow knew → Each (AreOne knew) m.past.known → ((other : ℕ) → All (IsOwn m.past.known other) (row_of rows' other)) → known_by knew.room reference ≡ knew →
        knew.chunk ≡ chunk → knew.issue ≡ head.issue → AreKnown m.state.table m.state.slabs heads' m.state.words (rows_more rows' hand reference) said' known'
    known_learned once more said still knew_still agrees own is at issue =
        let by_some = each_more (λ k. WasStored said' (stamp_in_words k.words) k.words) m.past.known hand (knew ∷ [])
        (each_map (λ k. WasStored m.past.stored (stamp_in_words k.words) k.words) (λ k. WasStored said' (stamp_in_words k.words) k.words) m.past.known (λ k was. more (stamp_in_words k.words) k.words was) l.known.said_by_some)
        (all_one (λ k. WasStored said' (stamp_in_words k.words) k.words) knew said) in
        record {
          once = once;
          agree = all_agree said' known' once by_some;
          said_by_some = by_some;
          still = each_more IsStillNow m.past.known hand (knew ∷ []) (each_map (IsStill m l) IsStillNow m.past.known still l.known.still) (all_one IsStillNow knew knew_still);
          one = one_more agrees;
          own = own_learned rows' reference own is;
          linked = linked_turned m.state.table m.state.heads chunk head l.sized.headers in_range m.past.known known' (known_more m.past.known hand (knew ∷ [])) l.known.linked
              (λ _. (hand, knew, newly_known, (at, issue)));
        }
