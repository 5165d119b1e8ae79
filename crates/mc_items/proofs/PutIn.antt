-- A get by a hint can be put into its stripe's history.
use Rattle.std.proofs.Common.{◌≡◌, ◌≢◌, ℕ, List, [], ◌∷◌, ◌++◌, length, IfSome, Option, Some, None, refl, sym, ap, ◌∙◌, inl, inr}
use Rattle.std.proofs.lemmas.Bool.{and_parts, cases_Bool, cases_lt}
use Rattle.std.proofs.lemmas.List.{append-nil, append_assoc, get_or_past}
use Rattle.std.specs.Option.{option_map}
use Rattle.mc_pages.specs.declared.ids.ChunkId.{ChunkId}
use Rattle.mc_stripe.specs.declared.history.Call.{Call}
use Rattle.mc_stripe.specs.declared.history.Call.TheVariants.{Get}
use Rattle.mc_stripe.specs.History.{Stamps, is_reply_right, stamps_after, stamps_after_calls}
use Rattle.mc_stripe.specs.Legal.{IsLegal}
use Rattle.mc_stripe.specs.StripeState.{StripeState, new_stripe, chunk_and_stamp, stamps_of}
use Rattle.mc_stripe.proofs.Histories.{None≢Some}
use Rattle.mc_stripe.proofs.Kept.{IsLegal-after_got, IsLegal-new}
use Rattle.mc_core.specs.declared.event.Event.{Event}
use Rattle.mc_core.specs.law.Laws.{IsRun, moment_at_end}
use Rattle.mc_core.specs.law.Lawful.{IsLawful}
use Rattle.mc_core.specs.model.State.{is_hand, number_at, stripe_at, stripe_of}
use Rattle.mc_core.specs.past.Past.{Moment, history_at, moment_after}
use Rattle.mc_core.proofs.Frame.Effects.{histories_grow}
use Rattle.mc_core.proofs.Law.LawKept.{are_lawful}
use Rattle.mc_core.proofs.Seen.SeenLooks.{some_is}
use Rattle.mc_words.specs.hand.Observers.{hint_chunk}
use Rattle.mc_items.specs.ItemRefs.{item_key, item_stamp}
use Rattle.mc_items.specs.PutIn.{exchange_of, HintedGetsAreLegal, HintedGetsLeaveOthers}

-- what comes behind a legal beginning is replayed from the stamps that this leaves
replay_on : (start stamps : Stamps) (history more : List Call) → stamps_after_calls start history ≡ Some stamps → stamps_after_calls start (history ++ more) ≡ stamps_after_calls stamps more
replay_on start stamps [] more h = let same : start ≡ stamps = cc in ap (λ (s : Stamps). stamps_after_calls s more) same
replay_on start stamps (first ∷ history) more h =
    elim (cases_Bool (is_reply_right first start)) [
      | inl right ↦ rw right (replay_on (stamps_after first start) stamps history more (rw right at h))
      | inr wrong ↦ absurd (None≢Some stamps (rw wrong at h))
    ]

-- the key aside is no key of the index
not_aside : (stripe : StripeState) (key : ℕ) (place : ChunkId × ℕ) → IsLegal stripe → chunk_and_stamp stripe key ≡ Some place → (aside : Option (ℕ × (ChunkId × ℕ))) → stripe.aside ≡ aside
    → IfSome (option_map (λ (entry : ℕ × (ChunkId × ℕ)). entry.0) aside) (λ other. other ≢ key)
not_aside stripe key place legal there None is = tt
not_aside stripe key place legal there (Some entry) is = λ same.
    let gone : chunk_and_stamp stripe key ≡ None = ap (chunk_and_stamp stripe) (sym same) ∙ legal.apart entry is in
    absurd (cc)

module _ (stripe : StripeState) (number key stamp : ℕ) (chunk : ChunkId) (legal : IsLegal stripe) (there : chunk_and_stamp stripe key ≡ Some (chunk, stamp)) where
  -- the get is right behind the stripe's calls
  right : stamps_after_calls [] (stripe.history ++ Get number key (Some stamp) ∷ []) ≡ Some (stamps_of stripe)
  right =
      ap (λ (found : Option (ChunkId × ℕ)). stamps_after_calls [] (stripe.history ++ Get number key (option_map (λ (place : ChunkId × ℕ). place.1) found) ∷ [])) (sym there)
      ∙ (IsLegal-after_got stripe number key legal (not_aside stripe key (chunk, stamp) legal there stripe.aside refl)).replayed

  -- and what comes behind it is replayed as without it
  leaves_others : (more : List Call) → stamps_after_calls [] (stripe.history ++ Get number key (Some stamp) ∷ more) ≡ stamps_after_calls [] (stripe.history ++ more)
  leaves_others more =
      ap (λ (calls : List Call). stamps_after_calls [] calls) (sym (append_assoc stripe.history (Get number key (Some stamp) ∷ []) more))
      ∙ replay_on [] (stamps_of stripe) (stripe.history ++ Get number key (Some stamp) ∷ []) more right
      ∙ sym (replay_on [] (stamps_of stripe) stripe.history more legal.replayed)

-- each stripe's history is legal, and that of a stripe that isn't there is empty
legal_at : (m : Moment) (stripe : ℕ) → IsLawful m → IsLegal (stripe_at m.state stripe).state
legal_at m stripe l =
    elim (cases_lt stripe (length m.state.stripes)) [
      | inl inside ↦ l.legal.legal stripe new_stripe inside
      | inr beyond ↦ rw (get_or_past m.state.stripes stripe new_stripe beyond) IsLegal-new
    ]

-- over a run each history grows at its end
grows : (m : Moment) (events : List Event) (stripe : ℕ) → IsLawful m → IsRun m events → (more : List Call) × (history_at (moment_at_end m events).state stripe ≡ history_at m.state stripe ++ more)
grows m [] stripe l run = ([], sym (append-nil (history_at m.state stripe)))
grows m (event ∷ events) stripe l run =
    let next = moment_after m event in
    let number = some_is (number_at m.state event.hand) (and_parts (is_hand m.state event.hand) _ run.0).0 in
    let one = histories_grow.events m event l run.0 number.0 stripe number.1 in
    let rest = grows next events stripe (are_lawful.runs m (event ∷ []) l (run.0, tt)) run.1 in
    (one.more ++ rest.0, rest.1 ∙ ap (λ (calls : List Call). calls ++ rest.0) one.grown ∙ append_assoc (history_at m.state stripe) one.more rest.0)

pub hinted_gets_leave_others : HintedGetsLeaveOthers
hinted_gets_leave_others hint item view now got number more =
    let m = exchange_of got in
    leaves_others (stripe_at m.state (stripe_of m.state (item_key item))).state number (item_key item) (item_stamp item) (hint_chunk hint) (legal_at m _ got.gets.1.refers.happens.was.lawful) got.current more

pub hinted_gets_are_legal : HintedGetsAreLegal
hinted_gets_are_legal hint item view now got number events run =
    let m = exchange_of got in
    let l = got.gets.1.refers.happens.was.lawful in
    let end = moment_at_end m events in
    let stripe = stripe_of m.state (item_key item) in
    let grown = grows m events stripe l run in
    let replayed = (legal_at end stripe (are_lawful.runs m events l run)).replayed in
    record {
      more = grown.0;
      goes_on = grown.1;
      stamps = stamps_of (stripe_at end.state stripe).state;
      legal = hinted_gets_leave_others hint item view now got number grown.0 ∙ ap (λ (calls : List Call). stamps_after_calls [] calls) (sym grown.1) ∙ replayed;
      same = replayed;
    }
