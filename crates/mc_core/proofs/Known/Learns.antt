-- What a hand knows after a step is told by what it knew and by the step.
use Rattle.std.proofs.Common.{◌≡◌, ℕ, ◌<◌, false, List, [], ◌++◌, length, ap, ◌∙◌, slice_set, slice_index_or, inl, inr, arith, length-set, get_or-set_same, get_or-set_other}
use Rattle.mc_core.specs.declared.event.Change.{Change}
use Rattle.mc_core.specs.declared.event.Step.{Step}
use Rattle.mc_core.specs.declared.event.Step.TheVariants.{Join}
use Rattle.mc_core.specs.model.State.{State}
use Rattle.mc_core.specs.run.Silent.{after_change}
use Rattle.mc_core.specs.run.Run.{after_step}
use Rattle.mc_core.specs.law.Identities.{HaveRows}
use Rattle.mc_core.specs.past.Past.{Past, Moment, Own, Knowledge, no_hold, longer_each, with_more, knowledge_at, with_knowledge, knowledge_after, own_calls_after, moment_changed, moment_stepped}
use Rattle.mc_core.specs.law.Laws.{MayChange, MayStep}
use Rattle.mc_core.specs.past.Learns.{both_know, knows_nothing, AreLearned}
use Rattle.mc_core.proofs.Known.Learned.{is_join, learned_is}
use Rattle.mc_core.proofs.Hands.NumberedSteps.{hand_within, join_facts}
use Rattle.mc_core.proofs.Hands.RowsKept.{by_join}

-- a hand has its row of each column
record HasRow (past : Past) (hand : ℕ) : Type 0 where
  seen_words : hand < length past.seen_words
  hold : hand < length past.holds
  mine : hand < length past.mine
  seen : hand < length past.seen
  stored : hand < length past.stored
  known : hand < length past.known

has_row : (m : Moment) (hand : ℕ) → HaveRows m.state.ids (length m.state.stripes) m.past → hand < length m.state.ids → HasRow m.past hand
has_row m hand rows within = record {
  seen_words = omega (arith, rows.seen_words, within);
  hold = omega (arith, rows.holds, within);
  mine = omega (arith, rows.mine, within);
  seen = omega (arith, rows.seen, within);
  stored = omega (arith, rows.stored, within);
  known = omega (arith, rows.known, within);
}

-- a row that is written is read
row_written : (past : Past) (hand : ℕ) (before now : State) (step : Step) (knew : Knowledge) → HasRow past hand
    → knowledge_at (with_knowledge past hand (knowledge_after before now hand step knew)) hand ≡ knowledge_after before now hand step knew
row_written past hand before now step knew has =
    let knows : Knowledge = knowledge_after before now hand step knew in λ k. record {
      seen_words = get_or-set_same past.seen_words hand knows.seen_words [] has.seen_words k;
      hold = get_or-set_same past.holds hand knows.hold no_hold has.hold k;
      mine = get_or-set_same past.mine hand knows.mine [] has.mine k;
      seen = get_or-set_same past.seen hand knows.seen [] has.seen k;
      stored = get_or-set_same past.stored hand knows.stored [] has.stored k;
      known = get_or-set_same past.known hand knows.known [] has.known k;
    }

learned_change : (m : Moment) (hand : ℕ) (change : Change) → MayChange m hand change →
    knowledge_at (moment_changed m hand change).past hand ≡ record (knowledge_at m.past hand) { mine = own_calls_after m.state (after_change m.state hand change) hand (slice_index_or m.past.mine hand []) }
learned_change m hand change may =
    let has = has_row m hand may.lawful.rows (hand_within m.state.ids hand may.there) in
    ap (λ (mine : List Own). record (knowledge_at m.past hand) { mine = mine }) (get_or-set_same m.past.mine hand _ [] has.mine)

learned_step : (m : Moment) (hand : ℕ) (next : Step) → MayStep m hand next → is_join next ≡ false →
    knowledge_at (moment_stepped m hand next).past hand ≡ knowledge_after m.state (after_step m.state hand next) hand next (knowledge_at m.past hand)
learned_step m hand next may alone =
    let has = has_row m hand may.lawful.rows (hand_within m.state.ids hand may.there) in
    let now : State = after_step m.state hand next in
    ap (λ (past : Past). knowledge_at past hand) (learned_is m.state now m.past hand next alone) ∙ row_written m.past hand m.state now next (knowledge_at m.past hand) has

-- the hand that takes over, and the hand that is taken over
module _ (m : Moment) (kept spent : ℕ) (may : MayStep m kept (Join kept spent)) where
  abbrev now : Past
  now = (moment_stepped m kept (Join kept spent)).past

  kept_knows : knowledge_at now kept ≡ both_know (knowledge_at m.past kept) (knowledge_at m.past spent)
  kept_knows =
      let facts = join_facts m kept kept spent may in
      let has = has_row m kept may.lawful.rows facts.1 in
      let past = m.past in λ k. record {
        seen_words = get_or-set_other past.seen_words spent kept [] [] facts.0 k;
        hold = get_or-set_other past.holds spent kept no_hold no_hold facts.0 k;
        mine = (get_or-set_other (with_more past.mine kept (slice_index_or past.mine spent [])) spent kept [] [] facts.0 ∙ get_or-set_same past.mine kept _ [] has.mine) k;
        seen = (get_or-set_other (slice_set past.seen kept (longer_each (slice_index_or past.seen kept []) (slice_index_or past.seen spent []))) spent kept [] [] facts.0 ∙ get_or-set_same past.seen kept _ [] has.seen) k;
        stored = (get_or-set_other (with_more past.stored kept (slice_index_or past.stored spent [])) spent kept [] [] facts.0 ∙ get_or-set_same past.stored kept _ [] has.stored) k;
        known = (get_or-set_other (with_more past.known kept (slice_index_or past.known spent [])) spent kept [] [] facts.0 ∙ get_or-set_same past.known kept _ [] has.known) k;
      }

  spent_knows : knowledge_at now spent ≡ knows_nothing
  spent_knows =
      let facts = join_facts m kept kept spent may in
      let has = has_row m spent may.lawful.rows facts.2 in
      let past = m.past in λ k. record {
        seen_words = get_or-set_same past.seen_words spent [] [] has.seen_words k;
        hold = get_or-set_same past.holds spent no_hold no_hold has.hold k;
        mine = get_or-set_same (with_more past.mine kept (slice_index_or past.mine spent [])) spent [] [] (omega (arith, has.mine, length-set past.mine kept (slice_index_or past.mine kept [] ++ slice_index_or past.mine spent []))) k;
        seen = get_or-set_same (slice_set past.seen kept (longer_each (slice_index_or past.seen kept []) (slice_index_or past.seen spent []))) spent [] [] (omega (arith, has.seen, length-set past.seen kept (longer_each (slice_index_or past.seen kept []) (slice_index_or past.seen spent [])))) k;
        stored = get_or-set_same (with_more past.stored kept (slice_index_or past.stored spent [])) spent [] [] (omega (arith, has.stored, length-set past.stored kept (slice_index_or past.stored kept [] ++ slice_index_or past.stored spent []))) k;
        known = get_or-set_same (with_more past.known kept (slice_index_or past.known spent [])) spent [] [] (omega (arith, has.known, length-set past.known kept (slice_index_or past.known kept [] ++ slice_index_or past.known spent []))) k;
      }

pub are_learned : AreLearned
are_learned = record {
  changes = learned_change;
  steps = λ m hand next may apart. elim (by_join m.state hand next) [
    | inl (alone, same) ↦ learned_step m hand next may alone
    | inr (kept, spent, is) ↦ absurd (apart kept spent is)
  ];
  joins = λ m kept spent may. (kept_knows m kept spent may, spent_knows m kept spent may);
}
