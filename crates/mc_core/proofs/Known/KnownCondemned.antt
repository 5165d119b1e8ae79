-- Known items as the item of a chunk is taken away, and as two hands become one.
use Rattle.std.proofs.Common.{◌≡◌, ◌≢◌, ℕ, ◌<◌, ◌==◌, not, true, List, [], ◌++◌, length, refl, sym, ap, subst, ◌∙◌, inl, inr, arith, Contains, All, eqb-true, eq-eqb}
use Rattle.std.proofs.lemmas.Bool.{and_parts, both_ways, cases_eq}
use Rattle.std.proofs.lemmas.List.{nil_from_length}
use Rattle.std.proofs.lemmas.List.Elements.{All-nil, All-weaker}
use Rattle.mc_pages.specs.declared.ids.ChunkId.{ChunkId}
use Rattle.mc_core.specs.declared.event.Step.TheVariants.{Condemn, Join}
use Rattle.mc_core.specs.declared.head.Head.{Head}
use Rattle.mc_core.specs.declared.head.Tag.TheVariants.{Linked}
use Rattle.mc_core.specs.declared.holding.Holding.{Holding}
use Rattle.mc_core.specs.declared.holding.Kind.{Kind}
use Rattle.mc_core.specs.declared.holding.Kind.TheVariants.{Reference, Fresh}
use Rattle.mc_core.specs.model.Head.{is_linked}
use Rattle.mc_core.specs.model.Holdings.{is_fresh_kind, is_copy_of, is_copy_kind, stamp_in_words}
use Rattle.mc_core.specs.model.State.{State, is_hand, has_chunk, head_at, item_at, has_slabs, has_stripe, stripe_of, stripe_at, with_head, holdings_at, looks_at}
use Rattle.mc_core.specs.run.Evictions.{is_linked_unheld, head_after_condemn, key_at, has_copy, has_reason, can_lose_entry, with_eviction_call, with_bound, as_rescue}
use Rattle.mc_core.specs.run.Hands as hands
use Rattle.mc_core.specs.past.Past.{Moment, KnownItem, StoredItem, with_more, known_by, moment_stepped, IsKnownToSome}
use Rattle.mc_core.specs.model.Columns.{head_in, Each}
use Rattle.mc_core.specs.law.Knowing.{WasStored}
use Rattle.mc_core.specs.law.Laws.{MayStep}
use Rattle.mc_core.specs.law.Lawful.{IsLawful, KnownIn}
use Rattle.mc_core.proofs.Steps.Base.{each_map}
use Rattle.mc_core.proofs.Steps.Plays.{hand_there}
use Rattle.mc_core.proofs.Counts.Changed.{rows_changed, each_changed}
use Rattle.mc_core.proofs.Hands.MoreRows.{row_of, row_other, joined_rows, each_joined, joined_contains}
use Rattle.mc_core.proofs.Histories.SaidOnce.{said_joined, once_joined}
use Rattle.mc_core.proofs.Known.KnownStill.{IsApartFrom}
use Rattle.mc_core.proofs.Known.KnownQuiet.{known_turned, own_changed, all_agree, IsOwn, IsStill, younger_condemned}
use Rattle.mc_core.proofs.Known.KnownLearned.{AreOne}
use Rattle.mc_core.proofs.Known.KnownChunks.{known_end}
use Rattle.mc_core.proofs.Known.KnownReferences.{linked_tag}

-- a copy is fresh
pub copy_fresh : (old : ChunkId) (kind : Kind) → is_copy_kind old kind ≡ true → is_fresh_kind kind ≡ true
copy_fresh old (Reference own) h = absurd (cc)
copy_fresh old (Fresh purpose own) h = refl

-- what may be condemned
pub record IsCondemnable (s : State) (hand : ℕ) (chunk : ChunkId) : Type 0 where
  pub slabs : has_slabs s hand ≡ true
  pub in_range : has_chunk s.table chunk ≡ true
  pub linked : (head_at s chunk).tag ≡ Linked
  pub alone : (head_at s chunk).count ≡ 1

pub condemnable : (m : Moment) (hand : ℕ) (chunk : ChunkId) → MayStep m hand (Condemn chunk) → IsCondemnable m.state hand chunk
condemnable m hand chunk may =
    let reason = and_parts _ (has_reason m.state.table m.state.heads m.state.slabs (looks_at m.state hand) (holdings_at m.state hand) chunk) may.allowed in
    let take = and_parts _ (can_lose_entry (stripe_at m.state (stripe_of m.state (key_at m.state chunk))) (key_at m.state chunk) (has_copy (holdings_at m.state hand) chunk)) reason.0 in
    let stripe = and_parts _ (has_stripe m.state hand (stripe_of m.state (key_at m.state chunk))) take.0 in
    let idle = and_parts _ (is_linked_unheld (head_at m.state chunk)) stripe.0 in
    let both = and_parts (has_slabs m.state hand) (has_chunk m.state.table chunk) idle.0 in
    let head = and_parts (is_linked (head_at m.state chunk).tag) ((head_at m.state chunk).count == 1) idle.1 in
    record { slabs = both.0; in_range = both.1; linked = linked_tag (head_at m.state chunk).tag head.0; alone = eqb-true (head_at m.state chunk).count 1 head.1 }

module _ (m : Moment) (hand : ℕ) (chunk : ChunkId) (may : MayStep m hand (Condemn chunk)) where
  abbrev l : IsLawful m
  l = may.lawful

  abbrev is : IsCondemnable m.state hand chunk
  is = condemnable m hand chunk may

  abbrev head : Head
  head = head_after_condemn (head_at m.state chunk)

  abbrev told : State
  told = with_eviction_call m.state hand chunk (key_at m.state chunk)

  -- what the hand's copies of the chunk become
  abbrev binds : Holding → Holding
  binds = as_rescue chunk (item_at m.state chunk)

  pub known_condemn : KnownIn (moment_stepped m hand (Condemn chunk))
  known_condemn =
      known_end m hand (with_head (with_bound told hand chunk (item_at m.state chunk)) chunk head)
      (known_turned m l m.state.slabs chunk head (rows_changed m.state.holdings hand (is_copy_of chunk) binds) (λ page. refl) is.in_range (younger_condemned (head_at m.state chunk) is.linked) (λ never. absurd (cc))
      (λ k still. each_changed (is_copy_of chunk) binds m.state.holdings hand (IsApartFrom k) (IsApartFrom k) (λ h apart. apart) (λ h copy apart _. apart (copy_fresh chunk h.kind copy)) still.apart)
      (own_changed m l hand (is_copy_of chunk) binds (λ h _. refl)))

-- what two hands are that may become one
pub record AreJoined (m : Moment) (hand kept spent : ℕ) : Type 0 where
  pub same : hand ≡ kept
  pub apart : kept ≢ spent
  pub there : is_hand m.state kept ≡ true
  pub there_too : is_hand m.state spent ≡ true
  pub nothing : row_of m.state.holdings kept ≡ []
  pub nothing_too : row_of m.state.holdings spent ≡ []

differ : (a b : ℕ) → not (a == b) ≡ true → a ≢ b
differ a b h same = both_ways (not (a == b)) (ap not (eq-eqb a b same)) h

pub are_joined : (m : Moment) (hand kept spent : ℕ) → MayStep m hand (Join kept spent) → AreJoined m hand kept spent
are_joined m hand kept spent may =
    let idle = and_parts _ (hands.is_hand_idle m.state spent) may.allowed in
    let idle' = and_parts _ (hands.is_hand_idle m.state kept) idle.0 in
    let there = and_parts _ (is_hand m.state spent) idle'.0 in
    let apart = and_parts (hand == kept) (not (kept == spent)) there.0 in
    let same = eqb-true hand kept apart.0 in
    record {
      same = same;
      apart = differ kept spent apart.1;
      there = subst (λ n. is_hand m.state n ≡ true) same may.there;
      there_too = there.1;
      nothing = nil_from_length (row_of m.state.holdings kept) (eqb-true (length (row_of m.state.holdings kept)) 0 (and_parts _ (length (row_of m.state.holdings kept) == 0) idle'.1).1);
      nothing_too = nil_from_length (row_of m.state.holdings spent) (eqb-true (length (row_of m.state.holdings spent)) 0 (and_parts _ (length (row_of m.state.holdings spent) == 0) idle.1).1);
    }

module _ (m : Moment) (hand kept spent : ℕ) (may : MayStep m hand (Join kept spent)) where
  abbrev lawful : IsLawful m
  lawful = may.lawful

  abbrev join : AreJoined m hand kept spent
  join = are_joined m hand kept spent may

  abbrev said' : List (List StoredItem)
  said' = joined_rows m.past.stored kept spent

  abbrev known' : List (List KnownItem)
  known' = joined_rows m.past.known kept spent

  within : (n : ℕ) → is_hand m.state n ≡ true → n < length m.state.ids
  within n there = hand_there m.state n there

  said_still : (stamp : ℕ) (words : List ℕ) → WasStored m.past.stored stamp words → WasStored said' stamp words
  said_still stamp words said =
      let rows = lawful.rows.stored in let is = within kept join.there in said_joined m.past.stored kept spent stamp words join.apart (omega arith) said

  pub known_still : (P : KnownItem → Type 0) → IsKnownToSome m.past.known P → IsKnownToSome known' P
  known_still P (other, k, has, p) =
      let rows = lawful.rows.known in let is = within kept join.there in
      let there = joined_contains m.past.known kept spent other k join.apart (omega arith) has in (there.0, k, there.1, p)

  none_own : (other : ℕ) → row_of m.state.holdings other ≡ [] → All (IsOwn known' other) (row_of m.state.holdings other)
  none_own other none = subst (λ (row : List Holding). All (IsOwn known' other) row) (sym none) (All-nil (IsOwn known' other))

  own_still : (other : ℕ) → All (IsOwn known' other) (row_of m.state.holdings other)
  own_still other =
      elim (cases_eq other spent) [
        | inl same ↦ subst (λ n. All (IsOwn known' n) (row_of m.state.holdings n)) (sym same) (none_own spent join.nothing_too)
        | inr apart ↦
            elim (cases_eq other kept) [
              | inl same ↦ subst (λ n. All (IsOwn known' n) (row_of m.state.holdings n)) (sym same) (none_own kept join.nothing)
              | inr apart_too ↦
                  let row : row_of known' other ≡ row_of m.past.known other =
                  row_other (with_more m.past.known kept (row_of m.past.known spent)) spent other [] apart ∙ row_other m.past.known kept other (row_of m.past.known kept ++ row_of m.past.known spent) apart_too in
                  All-weaker (IsOwn m.past.known other) (IsOwn known' other) (λ holding own stale. let (room, has) = own stale in (room, subst (λ (r : List KnownItem). Contains r (known_by room holding)) (sym row) has)) (row_of m.state.holdings other) (lawful.known.own other)
            ]
      ]

  pub known_join : KnownIn (moment_stepped m hand (Join kept spent))
  known_join =
      let rows = lawful.rows.stored in let in_kept = within kept join.there in let in_spent = within spent join.there_too in
      let once = λ (stamp : ℕ). once_joined m.past.stored kept spent stamp join.apart (omega arith) (omega arith) (lawful.known.once stamp) in
      let by_some = each_joined (λ k. WasStored said' (stamp_in_words k.words) k.words) m.past.known kept spent
      (each_map (λ k. WasStored m.past.stored (stamp_in_words k.words) k.words) (λ k. WasStored said' (stamp_in_words k.words) k.words) m.past.known (λ k. said_still (stamp_in_words k.words) k.words) lawful.known.said_by_some) in
      record {
        once = once;
        agree = all_agree said' known' once by_some;
        said_by_some = by_some;
        still = each_joined (IsStill m lawful) m.past.known kept spent lawful.known.still;
        one = each_joined (λ k. Each (AreOne k) known') m.past.known kept spent
            (each_map (λ k. Each (AreOne k) m.past.known) (λ k. Each (AreOne k) known') m.past.known (λ k all. each_joined (AreOne k) m.past.known kept spent all) lawful.known.one);
        own = own_still;
        linked = λ chunk in_range linked. known_still (λ k. (k.chunk ≡ chunk) × (k.issue ≡ (head_in m.state.table m.state.heads chunk).issue)) (lawful.known.linked chunk in_range linked);
      }
