-- Each step keeps whose numbers and stamps are.
use Rattle.std.proofs.Common.{◌≡◌, ◌≢◌, ℕ, ◌<◌, ◌==◌, ◌&&◌, true, false, not, List, [], length, refl, sym, ap, ◌∙◌, subst, slice_set, is_some, inl, inr, arith, eqb-true, eq-eqb}
use Rattle.std.proofs.lemmas.Bool.{and_parts, cases_lt, false≢true}
use Rattle.std.proofs.lemmas.List.{get_or_past}
use Rattle.mc_pages.specs.declared.ids.ChunkId.{ChunkId}
use Rattle.mc_core.specs.declared.event.Step.{Step}
use Rattle.mc_core.specs.declared.event.Step.TheVariants as step
use Rattle.mc_core.specs.declared.ids.Ids.{Ids}
use Rattle.mc_core.specs.declared.holding.Holding.{Holding}
use Rattle.mc_core.specs.model.Holdings.{stamp_in, words_of_item, holding_of, numbers_of_known, holding_words}
use Rattle.mc_core.specs.model.State.{no_ids, is_hand, ids_at, holdings_at}
use Rattle.mc_core.specs.run.Hands as hands
use Rattle.mc_core.specs.run.Items.{ids_after_stamp}
use Rattle.mc_core.specs.past.Past.{Moment, StoredItem, learned_alone, items_stored_by_step, with_more, moment_stepped}
use Rattle.mc_core.specs.law.Identities.{number_in, AreNumbered}
use Rattle.mc_core.specs.law.Lawful.{NumberedIn}
use Rattle.mc_core.specs.law.Laws.{MayStep, StepsKeep}
use Rattle.mc_core.specs.run.Run.{after_step}
use Rattle.mc_core.proofs.Hands.HandsKept.{ids_step, leaves_ids}
use Rattle.mc_core.proofs.Known.Learned.{is_join, same_numbers}
use Rattle.mc_core.proofs.Histories.LinkKinds.{IsStored, link_kind}
use Rattle.mc_core.proofs.Hands.MoreRows.{row_other}
use Rattle.mc_core.proofs.Hands.NumberedKept.{numbered_quiet, numbered_unsaid}
use Rattle.mc_core.proofs.Hands.NumberedLink.{numbered_said}
use Rattle.mc_core.proofs.Hands.NumberedJoin.{numbered_joined}

-- a hand that is there is one of the hands
pub hand_within : (ids : List Ids) (hand : ℕ) → is_some (number_in ids hand) ≡ true → hand < length ids
hand_within ids hand there = elim (cases_lt hand (length ids)) [
  | inl within ↦ within
  | inr past ↦ absurd (false≢true (sym (ap (λ (i : Ids). is_some i.number) (get_or_past ids hand no_ids past)) ∙ there))
]

quiet : (m : Moment) (hand : ℕ) (next : Step) → is_join next ≡ false → leaves_ids next ≡ true → items_stored_by_step m.state hand next ≡ [] → MayStep m hand next → NumberedIn (moment_stepped m hand next)
quiet m hand next alone same stores_nothing may = numbered_unsaid m hand next alone (ids_step m.state hand next same) stores_nothing may.there may.lawful.numbered

-- what is so after calls came in is so with the new stamp, too
stored : (m : Moment) (hand : ℕ) (chunk : ChunkId) (holding : Holding) → MayStep m hand (step.Link chunk)
    → IsStored m.state hand chunk holding (after_step m.state hand (step.Link chunk)) (items_stored_by_step m.state hand (step.Link chunk)) → NumberedIn (moment_stepped m hand (step.Link chunk))
stored m hand chunk holding may is =
    let now = after_step m.state hand (step.Link chunk) in
    let past = learned_alone m.state now m.past hand (step.Link chunk) in
    let s : StoredItem = record { stamp = stamp_in (holding_words holding); words = numbers_of_known (words_of_item (holding_words holding)) } in
    let within = hand_within m.state.ids hand may.there in
    let told : AreNumbered m.state.ids past.mine m.past.stored m.past.known =
    numbered_quiet m.state.ids m.past.mine past.mine m.past.stored m.past.known m.past.known (same_numbers m.state now m.past hand) may.lawful.numbered (λ other none. refl) in
    subst (λ (ids : List Ids). AreNumbered ids past.mine past.stored past.known) (sym is.ids)
    (subst (λ (more : List StoredItem). AreNumbered (slice_set m.state.ids hand (ids_after_stamp (ids_at m.state hand))) past.mine (with_more m.past.stored hand more) past.known) (sym is.says)
    (numbered_said m.state.ids past.mine m.past.stored m.past.known past.known hand s told is.next within (omega (arith, within, may.lawful.rows.stored))
    (λ other apart. row_other m.past.known hand other _ apart)))

linked : (m : Moment) (hand : ℕ) (chunk : ChunkId) → MayStep m hand (step.Link chunk) → NumberedIn (moment_stepped m hand (step.Link chunk))
linked m hand chunk may =
    let kind = link_kind m.state hand chunk (holding_of chunk (holdings_at m.state hand)) may.allowed in
    elim kind.2 [
      | inl is ↦ stored m hand chunk kind.0 may is
      | inr is ↦ numbered_unsaid m hand (step.Link chunk) refl is.ids is.says may.there may.lawful.numbered
    ]

-- two hands that may be joined are apart, and are there
pub join_facts : (m : Moment) (hand kept spent : ℕ) → MayStep m hand (step.Join kept spent) → (kept ≢ spent) × (kept < length m.state.ids) × (spent < length m.state.ids) × (is_some (number_in m.state.ids kept) ≡ true) × (is_some (number_in m.state.ids spent) ≡ true)
join_facts m hand kept spent may =
    let parts = and_parts (hand == kept && not (kept == spent) && is_hand m.state spent && hands.is_hand_idle m.state kept) (hands.is_hand_idle m.state spent) may.allowed in
    let first = and_parts (hand == kept && not (kept == spent) && is_hand m.state spent) (hands.is_hand_idle m.state kept) parts.0 in
    let second = and_parts (hand == kept && not (kept == spent)) (is_hand m.state spent) first.0 in
    let third = and_parts (hand == kept) (not (kept == spent)) second.0 in
    let there : is_some (number_in m.state.ids kept) ≡ true = subst (λ h. is_some (number_in m.state.ids h) ≡ true) (eqb-true hand kept third.0) may.there in
    ((λ e. false≢true (ap not (sym (eq-eqb kept spent e)) ∙ third.1)), hand_within m.state.ids kept there, hand_within m.state.ids spent second.1, there, second.1)

join : (m : Moment) (hand kept spent : ℕ) → MayStep m hand (step.Join kept spent) → NumberedIn (moment_stepped m hand (step.Join kept spent))
join m hand kept spent may =
    let facts = join_facts m hand kept spent may in
    let rows = may.lawful.rows in
    numbered_joined m.state.ids m.past.mine m.past.stored m.past.known kept spent may.lawful.numbered facts.0 facts.3
    (omega (arith, facts.1, rows.mine), omega (arith, facts.2, rows.mine)) (omega (arith, facts.1, rows.stored), omega (arith, facts.2, rows.stored)) (omega (arith, facts.2, rows.known))

pub numbered_steps : StepsKeep NumberedIn
numbered_steps m hand step.TakeSlabs may = quiet m hand step.TakeSlabs refl refl refl may
numbered_steps m hand (step.TakeStripe stripe) may = quiet m hand (step.TakeStripe stripe) refl refl refl may
numbered_steps m hand step.MissSlabs may = quiet m hand step.MissSlabs refl refl refl may
numbered_steps m hand (step.MissStripe stripe) may = quiet m hand (step.MissStripe stripe) refl refl refl may
numbered_steps m hand step.GiveSlabs may = quiet m hand step.GiveSlabs refl refl refl may
numbered_steps m hand (step.GiveStripe stripe) may = quiet m hand (step.GiveStripe stripe) refl refl refl may
numbered_steps m hand (step.Head chunk) may = quiet m hand (step.Head chunk) refl refl refl may
numbered_steps m hand (step.Pop class) may = quiet m hand (step.Pop class) refl refl refl may
numbered_steps m hand (step.PopOff old) may = quiet m hand (step.PopOff old) refl refl refl may
numbered_steps m hand (step.Fill chunk place word) may = quiet m hand (step.Fill chunk place word) refl refl refl may
numbered_steps m hand (step.Word chunk place) may = quiet m hand (step.Word chunk place) refl refl refl may
numbered_steps m hand (step.WordHeld chunk place) may = quiet m hand (step.WordHeld chunk place) refl refl refl may
numbered_steps m hand (step.Link chunk) may = linked m hand chunk may
numbered_steps m hand (step.Refer key) may = quiet m hand (step.Refer key) refl refl refl may
numbered_steps m hand (step.Unlink key) may = quiet m hand (step.Unlink key) refl refl refl may
numbered_steps m hand (step.Release chunk) may = quiet m hand (step.Release chunk) refl refl refl may
numbered_steps m hand (step.Discard chunk) may = quiet m hand (step.Discard chunk) refl refl refl may
numbered_steps m hand (step.Condemn chunk) may = quiet m hand (step.Condemn chunk) refl refl refl may
numbered_steps m hand (step.PutBack chunk) may = quiet m hand (step.PutBack chunk) refl refl refl may
numbered_steps m hand (step.Clear chunk) may = quiet m hand (step.Clear chunk) refl refl refl may
numbered_steps m hand (step.Cut page index) may = quiet m hand (step.Cut page index) refl refl refl may
numbered_steps m hand (step.Again chunk issue) may = quiet m hand (step.Again chunk issue) refl refl refl may
numbered_steps m hand (step.Join kept spent) may = join m hand kept spent may
