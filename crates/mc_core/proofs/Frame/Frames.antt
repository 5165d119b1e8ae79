-- A step or a change leaves the rows of all other hands as they were.
use Rattle.std.proofs.Common.{◌≡◌, ◌≢◌, ℕ, true, false, List, [], ◌++◌, map, Option, Some, None, refl, ap, ◌∙◌, slice_index_or, get_or-set_other}
use Rattle.mc_pages.specs.declared.ids.ChunkId.{ChunkId}
use Rattle.mc_core.specs.declared.holding.Holding.{Holding}
use Rattle.mc_core.specs.declared.holding.Kind.{Kind}
use Rattle.mc_core.specs.declared.holding.Kind.TheVariants.{Reference, Fresh}
use Rattle.mc_core.specs.declared.holding.Purpose.TheVariants.{Item, Copy, Rescue}
use Rattle.mc_core.specs.declared.ids.Ids.{Ids}
use Rattle.mc_core.specs.declared.event.Step.{Step}
use Rattle.mc_core.specs.declared.event.Step.TheVariants as step
use Rattle.mc_core.specs.declared.event.Change.{Change}
use Rattle.mc_core.specs.declared.event.Change.TheVariants.{Grow, BeginMove, FinishMove, Touch, SetAutomove, TrimLedger, Passed, Wrap, Evicted, OfStripe, GotNone, DeletedNone}
use Rattle.mc_core.specs.model.Holdings.{is_of_chunk, holding_of}
use Rattle.mc_core.specs.model.State.{State, no_ids, number_at, ids_at, holdings_at, looks_at, without_holding}
use Rattle.mc_core.specs.run.Silent.{after_change}
use Rattle.mc_core.specs.run.Items.{after_link_of, recorded_link}
use Rattle.mc_core.specs.run.Run.{after_step}
use Rattle.mc_core.specs.past.Past.{Past, Moment, no_hold, seen_words_of, hold_after, own_after, seen_after, items_stored_by_step, known_of, learned_alone, moment_stepped, moment_changed}
use Rattle.mc_core.proofs.Frame.Own.{own_step, own_change, is_plain}
use Rattle.mc_core.proofs.Hands.HandsKept.{ids_step, ids_change}
use Rattle.mc_core.proofs.Known.Learned.{is_join, learned_is}
use Rattle.mc_core.specs.model.Views.{hand_row}

-- what the state has of a hand
pub record SameHand (before now : State) (other : ℕ) : Type 0 where
  pub ids : ids_at now other ≡ ids_at before other
  pub holdings : holdings_at now other ≡ holdings_at before other
  pub looks : looks_at now other ≡ looks_at before other

ids_told : (s : State) (hand other : ℕ) (holding : Holding) (kind : Kind) → other ≢ hand → ids_at (recorded_link s hand holding kind) other ≡ ids_at s other
ids_told s hand other holding (Reference own) apart = get_or-set_other s.ids hand other _ no_ids apart
ids_told s hand other holding (Fresh Item own) apart = get_or-set_other s.ids hand other _ no_ids apart
ids_told s hand other holding (Fresh (Copy old) own) apart = get_or-set_other s.ids hand other _ no_ids apart
ids_told s hand other holding (Fresh (Rescue old item) own) apart = refl

ids_linked : (s : State) (hand other : ℕ) (chunk : ChunkId) (found : Option Holding) → other ≢ hand → ids_at (after_link_of s hand chunk found) other ≡ ids_at s other
ids_linked s hand other chunk None apart = refl
ids_linked s hand other chunk (Some holding) apart = ids_told s hand other holding holding.kind apart

module _ (s : State) (hand other : ℕ) (apart : other ≢ hand) where
  from_own : (next : Step) → is_plain next ≡ true → ids_at (after_step s hand next) other ≡ ids_at s other → SameHand s (after_step s hand next) other
  from_own next plain ids = let own = own_step s hand next plain in record { ids = ids; holdings = own.holdings other apart; looks = own.looks other apart }

  same_ids : (now : State) → now.ids ≡ s.ids → ids_at now other ≡ ids_at s other
  same_ids now e = ap (λ (ids : List Ids). slice_index_or ids other no_ids) e

  plain : (next : Step) → is_plain next ≡ true → (after_step s hand next).ids ≡ s.ids → SameHand s (after_step s hand next) other
  plain next is e = from_own next is (same_ids (after_step s hand next) e)

  pub same_hand : (next : Step) → is_join next ≡ false → SameHand s (after_step s hand next) other
  same_hand step.TakeSlabs h = record { ids = refl; holdings = refl; looks = get_or-set_other s.looks hand other [] [] apart }
  same_hand (step.TakeStripe stripe) h = record { ids = refl; holdings = refl; looks = refl }
  same_hand step.MissSlabs h = record { ids = refl; holdings = refl; looks = refl }
  same_hand (step.MissStripe stripe) h = plain (step.MissStripe stripe) refl (ids_step s hand (step.MissStripe stripe) refl)
  same_hand step.GiveSlabs h = record { ids = refl; holdings = refl; looks = refl }
  same_hand (step.GiveStripe stripe) h = record { ids = refl; holdings = refl; looks = refl }
  same_hand (step.Head chunk) h = plain (step.Head chunk) refl (ids_step s hand (step.Head chunk) refl)
  same_hand (step.Pop class) h = plain (step.Pop class) refl (ids_step s hand (step.Pop class) refl)
  same_hand (step.PopOff old) h = plain (step.PopOff old) refl (ids_step s hand (step.PopOff old) refl)
  same_hand (step.Fill chunk place word) h = plain (step.Fill chunk place word) refl (ids_step s hand (step.Fill chunk place word) refl)
  same_hand (step.Word chunk place) h = record { ids = refl; holdings = refl; looks = refl }
  same_hand (step.WordHeld chunk place) h = plain (step.WordHeld chunk place) refl (ids_step s hand (step.WordHeld chunk place) refl)
  same_hand (step.Link chunk) h = from_own (step.Link chunk) refl (ids_linked (without_holding s hand (is_of_chunk chunk)) hand other chunk (holding_of chunk (holdings_at s hand)) apart)
  same_hand (step.Refer key) h = plain (step.Refer key) refl (ids_step s hand (step.Refer key) refl)
  same_hand (step.Unlink key) h = plain (step.Unlink key) refl (ids_step s hand (step.Unlink key) refl)
  same_hand (step.Release chunk) h = plain (step.Release chunk) refl (ids_step s hand (step.Release chunk) refl)
  same_hand (step.Discard chunk) h = plain (step.Discard chunk) refl (ids_step s hand (step.Discard chunk) refl)
  same_hand (step.Condemn chunk) h = plain (step.Condemn chunk) refl (ids_step s hand (step.Condemn chunk) refl)
  same_hand (step.PutBack chunk) h = plain (step.PutBack chunk) refl (ids_step s hand (step.PutBack chunk) refl)
  same_hand (step.Clear chunk) h = plain (step.Clear chunk) refl (ids_step s hand (step.Clear chunk) refl)
  same_hand (step.Cut page index) h = plain (step.Cut page index) refl (ids_step s hand (step.Cut page index) refl)
  same_hand (step.Again chunk issue) h = plain (step.Again chunk issue) refl (ids_step s hand (step.Again chunk issue) refl)
  same_hand (step.Join kept spent) h = absurd (cc)

-- the rows of a hand that doesn't step, where what is learned is one row of each column
row_alone : (m : Moment) (now : State) (hand other : ℕ) (next : Step) → other ≢ hand → SameHand m.state now other
    → hand_row (record { state = now; past = learned_alone m.state now m.past hand next }) other ≡ hand_row m other
row_alone m now hand other next apart same = λ k. record {
  ids = same.ids k;
  holdings = same.holdings k;
  looks = same.looks k;
  knows = record {
    seen_words = get_or-set_other m.past.seen_words hand other (slice_index_or m.past.seen_words hand [] ++ seen_words_of m.state next) [] apart k;
    hold = get_or-set_other m.past.holds hand other (hold_after m.state next (slice_index_or m.past.holds hand no_hold)) no_hold apart k;
    mine = get_or-set_other m.past.mine hand other (map (own_after m.state now (number_at m.state hand)) (slice_index_or m.past.mine hand [])) [] apart k;
    seen = get_or-set_other m.past.seen hand other (seen_after m.state next (slice_index_or m.past.seen hand [])) [] apart k;
    stored = get_or-set_other m.past.stored hand other (slice_index_or m.past.stored hand [] ++ items_stored_by_step m.state hand next) [] apart k;
    known = get_or-set_other m.past.known hand other (slice_index_or m.past.known hand [] ++ known_of m.state hand next) [] apart k;
  };
}

pub row_stays : (m : Moment) (hand other : ℕ) (next : Step) → is_join next ≡ false → other ≢ hand → hand_row (moment_stepped m hand next) other ≡ hand_row m other
row_stays m hand other next alone apart =
    let now = after_step m.state hand next in
    ap (λ (past : Past). hand_row (record { state = now; past = past }) other) (learned_is m.state now m.past hand next alone)
    ∙ row_alone m now hand other next apart (same_hand m.state hand other apart next alone)

-- the same of a change of a value behind a lock
pub table_change : (s : State) (hand : ℕ) (change : Change) → (after_change s hand change).table ≡ s.table
table_change s hand (Grow class) = refl
table_change s hand (BeginMove src dst) = refl
table_change s hand FinishMove = refl
table_change s hand (Touch chunk) = refl
table_change s hand (SetAutomove mode) = refl
table_change s hand TrimLedger = refl
table_change s hand (Passed found) = refl
table_change s hand Wrap = refl
table_change s hand (Evicted class) = refl
table_change s hand (OfStripe stripe how) = refl
table_change s hand (GotNone key) = refl
table_change s hand (DeletedNone key) = refl

pub row_stays_changed : (m : Moment) (hand other : ℕ) (change : Change) → other ≢ hand → hand_row (moment_changed m hand change) other ≡ hand_row m other
row_stays_changed m hand other change apart =
    let now = after_change m.state hand change in
    let own = own_change m.state hand change in λ k. record {
      ids = ap (λ (ids : List Ids). slice_index_or ids other no_ids) (ids_change m.state hand change) k;
      holdings = own.holdings other apart k;
      looks = own.looks other apart k;
      knows = record {
        seen_words = slice_index_or m.past.seen_words other [];
        hold = slice_index_or m.past.holds other no_hold;
        mine = get_or-set_other m.past.mine hand other (map (own_after m.state now (number_at m.state hand)) (slice_index_or m.past.mine hand [])) [] apart k;
        seen = slice_index_or m.past.seen other [];
        stored = slice_index_or m.past.stored other [];
        known = slice_index_or m.past.known other [];
      };
    }
