-- An own item that a hand finds is the one that it stored last under the hash.
use Rattle.std.proofs.Common.{◌≡◌, ◌≢◌, ◌∙◌, ℕ, ◌+◌, ◌/◌, ◌%◌, ◌^◌, ◌==◌, ◌<◌, Bool, true, false, cond, if◌then◌else◌, List, [], ◌∷◌, length, Option, Some, None, All, refl, sym, ap, subst, arith, inl, inr, filter, map, slice_index_or, eq-eqb, true≢false}
use Rattle.std.specs.List.{fold}
use Rattle.std.specs.Option.{option_map}
use Rattle.std.proofs.lemmas.Bool.{cases_Bool}
use Rattle.std.proofs.lemmas.Nat.{mod_below}
use Rattle.std.proofs.lemmas.List.{get_or-map}
use Rattle.std.proofs.lemmas.List.Elements.{All-head, All-tail, All-weaker}
use Rattle.std.proofs.lemmas.Option.{slice_get-get_or}
use Rattle.mc_pages.specs.declared.ids.ChunkId.{ChunkId}
use Rattle.mc_stripe.specs.declared.history.Call.{Call}
use Rattle.mc_stripe.specs.declared.history.Call.TheVariants.{Set, Get, Delete, Evict, Rescue}
use Rattle.mc_stripe.specs.Entries.{entry_at}
use Rattle.mc_stripe.specs.Legal.{IsLegal}
use Rattle.mc_stripe.specs.Sequential.{StampMap, Leads, map_after, no_stamps}
use Rattle.mc_stripe.specs.StripeState.{Index, ReadyStripe, StripeState, chunk_and_stamp, new_stripe, stamps_of, with_aside}
use Rattle.mc_stripe.proofs.Entries.{at_with_entry, nat_eq_other}
use Rattle.mc_stripe.proofs.Sequential.{leads_from_replay}
use Rattle.mc_stripe.proofs.Stamps.{stamp_at}
use Rattle.mc_core.specs.declared.event.StripeChange.TheVariants.{ReserveCall}
use Rattle.mc_core.specs.law.Histories.{IsSetIn, hand_of}
use Rattle.mc_core.specs.model.Holdings.{stamp_in_words}
use Rattle.mc_core.specs.past.Past.{Moment, Own}
use Rattle.mc_core.specs.run.Items.{chunk_of_key}
use Rattle.mc_core.specs.run.Silent.{stripe_after}
use Rattle.mc_words.specs.declared.hand.Hand.{Hand}
use Rattle.mc_words.specs.hand.Arenas.{view}
use Rattle.mc_words.specs.hand.Observers.{hand_number, hint_chunk}
use Rattle.mc_words.specs.hand.View.{Setup, View}
use Rattle.mc_words.specs.hand.Views.{fields_seen, head_seen, stripe_changed}
use Rattle.mc_words.specs.item.Items.{held_item}
use Rattle.mc_words.specs.rule.Happens.{LawfulView}
use Rattle.mc_words.specs.declared.item.refs.Hint.{Hint}
use Rattle.mc_words.proofs.Items.Refers.{LeadsTo, leads_here}
use Rattle.mc_words.proofs.Locks.LockViews.{rows_there}
use Rattle.mc_words.proofs.Locks.StripeChanges.{set_found}
use Rattle.mc_items.specs.declared.refs.Ref.{Ref}
use Rattle.mc_items.specs.Calls.{CallsOn, LooksUp}
use Rattle.mc_items.specs.Current.{GetsCurrent, IsCurrent}
use Rattle.mc_items.specs.ItemRefs.{IsItemRef, item_chunk, item_key, item_reference, item_stamp}
use Rattle.mc_items.specs.OnKeys.{stripe_of_key}
use Rattle.mc_items.proofs.Locks.{waits_keep}
use Rattle.mc_shard.specs.Finding.{GetsUnder}
use Rattle.mc_shard.specs.Newest.{IsNewestOwn, own_calls_on, stamp_after_call, stamp_after_calls}

-- where a choice gives the stamp, so does the same choice by the hand's own calls
pick : (b : Bool) (chosen own before : Option ℕ) (stamp : ℕ) → (before ≡ Some stamp → own ≡ Some stamp) → (if b then chosen else before) ≡ Some stamp → (if b then chosen else own) ≡ Some stamp
pick true chosen own before stamp so is = is
pick false chosen own before stamp so is = so is

-- and a choice that doesn't give the stamp wasn't taken
pass : (b : Bool) (chosen own before : Option ℕ) (stamp : ℕ) → (chosen ≡ Some stamp → ⊥) → (before ≡ Some stamp → own ≡ Some stamp) → (if b then chosen else before) ≡ Some stamp → own ≡ Some stamp
pass true chosen own before stamp never so is = absurd (never is)
pass false chosen own before stamp never so is = so is

none_is : (stamp : ℕ) → None ≡ Some stamp → ⊥
none_is stamp is = cc

same_stamp : (a b : ℕ) → Some a ≡ Some b → a ≡ b
same_stamp a b is = cc

none_there : {X : Type 0} (x : X) → None ≡ Some x → ⊥
none_there x is = cc

module _ (hash stamp : ℕ) where
  -- a call of the number
  own_call : (call : Call) (before : StampMap) (own : Option ℕ) → (before hash ≡ Some stamp → own ≡ Some stamp) → map_after call before hash ≡ Some stamp → stamp_after_call hash own call ≡ Some stamp
  own_call (Set hand key other) before own so is = pick (hash == key) (Some other) own (before hash) stamp so is
  own_call (Get hand key found) before own so is = so is
  own_call (Delete hand key there) before own so is = pick (hash == key) None own (before hash) stamp so is
  own_call (Evict hand key) before own so is = pick (hash == key) None own (before hash) stamp so is
  own_call (Rescue hand key) before own so is = so is

  -- a call of another number
  other_call : (stripes stripe number : ℕ) (call : Call) (before : StampMap) (own : Option ℕ) → stamp / 2 ^ 48 ≡ number → IsSetIn stripes stripe call → (hand_of call == number) ≡ false
      → (before hash ≡ Some stamp → own ≡ Some stamp) → map_after call before hash ≡ Some stamp → own ≡ Some stamp
  other_call stripes stripe number (Set hand key other) before own owned set apart so is =
      pass (hash == key) (Some other) own (before hash) stamp
      (λ same.
      let hands : hand ≡ number = sym set.1 ∙ (ap (λ (n : ℕ). n / 2 ^ 48) (same_stamp other stamp same) ∙ owned) in
      true≢false (sym (eq-eqb hand number hands) ∙ apart))
      so is
  other_call stripes stripe number (Get hand key found) before own owned set apart so is = so is
  other_call stripes stripe number (Delete hand key there) before own owned set apart so is = pass (hash == key) None own (before hash) stamp (none_is stamp) so is
  other_call stripes stripe number (Evict hand key) before own owned set apart so is = pass (hash == key) None own (before hash) stamp (none_is stamp) so is
  other_call stripes stripe number (Rescue hand key) before own owned set apart so is = so is

  -- where all calls leave the hash a stamp of the number, the number's own calls do
  newest_of : (stripes stripe number : ℕ) (calls : List Call) (before after : StampMap) (own : Option ℕ) → Leads before calls after → All (IsSetIn stripes stripe) calls → stamp / 2 ^ 48 ≡ number
      → (before hash ≡ Some stamp → own ≡ Some stamp) → after hash ≡ Some stamp → fold (stamp_after_call hash) own (filter (λ (call : Call). hand_of call == number) calls) ≡ Some stamp
  newest_of stripes stripe number [] before after own leads sets owned so is = so (sym (leads hash) ∙ is)
  newest_of stripes stripe number (call ∷ calls) before after own leads sets owned so is =
      let rest = All-tail (IsSetIn stripes stripe) call calls sets in
      elim (cases_Bool (hand_of call == number)) [
        | inl mine ↦ rw mine (newest_of stripes stripe number calls (map_after call before) after (stamp_after_call hash own call) leads.1 rest owned (own_call call before own so) is)
        | inr apart ↦
            rw apart
            (newest_of stripes stripe number calls (map_after call before) after own leads.1 rest owned
            (other_call stripes stripe number call before own owned (All-head (IsSetIn stripes stripe) call calls sets) apart so) is)
      ]

  -- an entry of the index stays where one is put beside it that was aside
  beside_aside : (index : Index) (aside : Option (ℕ × (ChunkId × ℕ))) (place : ChunkId × ℕ) → ((entry : ℕ × (ChunkId × ℕ)) → aside ≡ Some entry → entry_at index entry.0 ≡ None) → entry_at index hash ≡ Some place
      → entry_at (with_aside index aside) hash ≡ Some place
  beside_aside index None place apart is = is
  beside_aside index (Some entry) place apart is =
      let other : hash ≢ entry.0 = λ same. none_there place (sym (apart entry refl) ∙ (ap (entry_at index) (sym same) ∙ is)) in
      at_with_entry index entry.0 entry.1 hash ∙ (ap (λ (b : Bool). cond b (Some entry.1) (entry_at index hash)) (nat_eq_other hash entry.0 other) ∙ is)

  -- so, where the index of a legal stripe leads the hash to the stamp
  legal_newest : (stripes stripe number : ℕ) (state : StripeState) (chunk : ChunkId) → IsLegal state → All (IsSetIn stripes stripe) state.history → stamp / 2 ^ 48 ≡ number → chunk_and_stamp state hash ≡ Some (chunk, stamp)
      → stamp_after_calls hash (filter (λ (call : Call). hand_of call == number) state.history) ≡ Some stamp
  legal_newest stripes stripe number state chunk legal sets owned leads =
      newest_of stripes stripe number state.history no_stamps (entry_at (stamps_of state)) None (leads_from_replay state.history no_stamps [] (stamps_of state) tt (λ key. refl) legal.replayed) sets owned
      (λ none. absurd (none_is stamp none))
      (stamp_at (with_aside state.index state.aside) hash ∙ ap (option_map (λ (place : ChunkId × ℕ). place.1)) (beside_aside state.index state.aside (chunk, stamp) legal.apart leads))

  -- in a lawful moment that leads the hash to the stamp, the hand's own calls leave the hash this stamp, if it is of the hand's number
  pub moment_newest : (v : View) (was : LawfulView v) (chunk : ChunkId) → chunk_of_key was.moment.state hash ≡ Some (chunk, stamp) → IsNewestOwn v.setup hash stamp v.row.knows.mine
  moment_newest v was chunk leads =
      let m : Moment = was.moment in
      let id : ℕ = was.hand in
      let l = was.lawful in
      let stripe : ℕ = hash % length m.state.stripes in
      let in_range : stripe < length m.state.stripes = mod_below hash (length m.state.stripes) (omega (arith, l.legal.some)) in
      let here = slice_get-get_or m.state.stripes stripe new_stripe in_range in
      let value : ReadyStripe = slice_index_or m.state.stripes stripe new_stripe in
      let calls_of : ℕ → ReadyStripe → List Call = λ number value. filter (λ (call : Call). hand_of call == number) value.state.history in
      let own_row : All (λ (own : Own). own.calls ≡ map (calls_of own.number) m.state.stripes) (slice_index_or m.past.mine id []) =
      l.told.own_calls id [] (let rows = l.rows.mine in let there = rows_there v was in omega arith) in
      let mine_same : slice_index_or m.past.mine id [] ≡ v.row.knows.mine = ap (λ (w : View). w.row.knows.mine) (sym was.is) in
      subst (IsNewestOwn v.setup hash stamp) mine_same
      (All-weaker (λ (own : Own). own.calls ≡ map (calls_of own.number) m.state.stripes) (λ (own : Own). stamp / 2 ^ 48 ≡ own.number → stamp_after_calls hash (own_calls_on v.setup hash own) ≡ Some stamp)
      (λ own e owned.
      ap (λ (n : ℕ). stamp_after_calls hash (slice_index_or own.calls (hash % n) [])) (sym was.stripes)
      ∙ (ap (λ (rows : List (List Call)). stamp_after_calls hash (slice_index_or rows stripe [])) e
      ∙ (ap (stamp_after_calls hash) (get_or-map (calls_of own.number) m.state.stripes stripe new_stripe [] in_range)
      ∙ legal_newest (length m.state.stripes) stripe own.number value.state chunk (l.legal.legal stripe new_stripe in_range) (l.told.sets stripe value here) owned leads)))
      (slice_index_or m.past.mine id []) own_row)

-- an item that was got under the lock of its stripe
looked_newest : (setup : Setup) (number hash : ℕ) (item : Ref) (before got now : View) → CallsOn number (stripe_of_key setup hash) (LooksUp number (stripe_of_key setup hash) hash (Some (item_reference item))) before got
    → now ≡ fields_seen (item_chunk item) got → IsItemRef now item → now.setup ≡ setup → IsNewestOwn setup hash (item_stamp item) before.row.knows.mine
looked_newest setup number hash item before got now on is ref same =
    let stripe : ℕ = stripe_of_key setup hash in
    let chunk : ChunkId = item_chunk item in
    let gets = on.done.does.0 in
    let ready : ReadyStripe = stripe_after ReserveCall on.value in
    let made : View = stripe_changed ReserveCall stripe on.value (number + 1) on.taken in
    let was : LawfulView made = gets.happens.was in
    let setups : made.setup ≡ setup = sym (ap (λ (v : View). v.setup) is ∙ (ap (λ (v : View). v.setup) on.done.given ∙ ap (λ (v : View). v.setup) gets.is)) ∙ same in
    let held : held_item now chunk ≡ gets.item = ap (λ (v : View). held_item v chunk) is ∙ (ap (λ (v : View). held_item v chunk) on.done.given ∙ gets.held) in
    let stamps : gets.stamp ≡ item_stamp item = sym gets.stamp_is ∙ (ap stamp_in_words (sym held) ∙ ref.stamp) in
    let mine : made.row.knows.mine ≡ before.row.knows.mine = waits_keep (λ (v : View). v.row.knows.mine) stripe (λ word v. refl) (λ value v. refl) before on.value on.taken on.waits in
    let to : LeadsTo made stripe ready hash chunk gets.stamp = record { mine = set_found on.taken.stripes stripe on.value ready on.lent.mine; of_key = ap (λ (s : Setup). stripe_of_key s hash) setups; leads = gets.leads } in
    subst (λ (p : Setup × ℕ × List Own). IsNewestOwn p.0 hash p.1 p.2) (λ k. (setups k, stamps k, mine k))
    (moment_newest hash gets.stamp made was chunk (leads_here made stripe ready hash chunk gets.stamp to was))

-- an item that was got by a hint
hinted_newest : (setup : Setup) (hash : ℕ) (hint : Hint) (item : Ref) (before now : View) → GetsCurrent hint item before now → item_key item ≡ hash → now.setup ≡ setup → IsNewestOwn setup hash (item_stamp item) before.row.knows.mine
hinted_newest setup hash hint item before now current keys same =
    let gets = current.gets.1 in
    let refers = gets.refers in
    let was = refers.happens.was in
    let setups : before.setup ≡ setup = sym (ap (λ (v : View). v.setup) current.gets.2 ∙ ap (λ (v : View). v.setup) refers.is) ∙ same in
    subst (λ (s : Setup). IsNewestOwn s hash (item_stamp item) before.row.knows.mine) setups
    (moment_newest hash (item_stamp item) (head_seen (hint_chunk hint) gets.head before) was (hint_chunk hint) (subst (λ (key : ℕ). IsCurrent was.moment key (item_stamp item) (hint_chunk hint)) keys current.current))

-- an item that was got
pub newest_found : (setup : Setup) (hash : ℕ) (tried got : Hand) (item : Ref) → GetsUnder setup hash (Some item) tried got → IsItemRef (view got) item → (view got).setup ≡ setup → IsNewestOwn setup hash (item_stamp item) (view tried).row.knows.mine
newest_found setup hash tried got item gets ref same =
    elim gets [
      | inl locked ↦ looked_newest setup (hand_number tried) hash item (view tried) locked.0 (view got) locked.1 locked.2 ref same
      | inr hinted ↦ hinted_newest setup hash hinted.0 item (view tried) (view got) hinted.1 hinted.2 same
    ]
