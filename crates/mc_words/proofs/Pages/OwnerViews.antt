-- What a hand's view is after a step of the owner's pass.
use Rattle.std.proofs.Common.{◌≡◌, ℕ, ◌+◌, ◌<◌, false, List, [], ◌∷◌, ◌++◌, length, Some, None, refl, ap, ap₂, ◌∙◌, arith, replicate, get_or-set_same}
use Rattle.mc_pages.specs.declared.ids.ChunkId.{ChunkId}
use Rattle.mc_pages.specs.ClassState.{first_free}
use Rattle.mc_pages.specs.SlabState.{SlabState, class_at, class_of_page}
use Rattle.mc_pages.specs.Changes as slabs_changes
use Rattle.mc_core.specs.declared.head.Head.{Head}
use Rattle.mc_core.specs.declared.holding.Holding.{Holding}
use Rattle.mc_core.specs.declared.look.Look.{Look}
use Rattle.mc_core.specs.declared.look.Look.TheVariants.{Popped, PoppedOff, PutBack, Cleared, Cut}
use Rattle.mc_core.specs.declared.event.Step.{Step}
use Rattle.mc_core.specs.declared.event.Step.TheVariants as core
use Rattle.mc_core.specs.model.Holdings.{is_of_chunk, without_first, change_each}
use Rattle.mc_core.specs.model.State.{State, is_class, has_chunk, has_slabs, head_at, holdings_at, looks_at, room_in, with_slabs}
use Rattle.mc_core.specs.run.Chunks.{next_free, head_after_hand_out, with_tag_free, with_tag_out, state_after_pop_of, popped_off, target_of, holding_with_word}
use Rattle.mc_core.specs.past.Past.{Moment, Knowledge, knowledge_at, moment_stepped}
use Rattle.mc_core.specs.model.Views.{held_slabs}
use Rattle.mc_core.specs.run.Run.{after_step}
use Rattle.mc_core.proofs.Known.Learned.{is_join}
use Rattle.mc_words.specs.hand.View.{View}
use Rattle.mc_words.specs.rule.Happens.{LawfulView, Happens}
use Rattle.mc_words.specs.hand.Views.{copy_holding, fresh_holding, word_filled, chunk_discarded, chunk_popped, chunk_popped_off, chunk_put_back, chunk_cleared, chunk_cut}
use Rattle.mc_words.proofs.Hands.Knows.{known_after, more_seen, knows_after, knows_same}
use Rattle.mc_words.proofs.Locks.LockViews.{may_step, rows_there, view_from, holdings_were, looks_were, knew, slabs_were, stripes_were, rows}
use Rattle.mc_words.proofs.Pages.Owners.{slabs_here}

-- there is a row of holdings
pub holding_rows : (view : View) (was : LawfulView view) → was.hand < length was.moment.state.holdings
holding_rows view was = let in_range = rows_there view was in let count = was.lawful.hands.holding_rows in omega arith

module _ (view now : View) where
  -- nothing was learned
  pub learned_none : (step : Step) (h : Happens view [] step now) → is_join step ≡ false → (after_step h.was.moment.state h.was.hand step).stripes ≡ h.was.moment.state.stripes
      → ((knows : Knowledge) → known_after h.was.moment h.was.hand step knows ≡ more_seen (knows.seen_words ++ []) knows.hold knows.seen knows)
      → knowledge_at (moment_stepped h.was.moment h.was.hand step).past h.was.hand ≡ view.row.knows
  learned_none step h alone same none =
      let m : Moment = h.was.moment in
      knows_after m h.was.hand step alone (may_step h) same ∙ (none (knowledge_at m.past h.was.hand) ∙ (knows_same (knowledge_at m.past h.was.hand) ∙ knew view now h.was))

  -- a word of a fresh chunk was written
  pub filled_word : (chunk : ChunkId) (place word : ℕ) → Happens view [] (core.Fill chunk place word) now → now ≡ word_filled chunk place word view
  filled_word chunk place word h =
      let m : Moment = h.was.moment in
      let id : ℕ = h.was.hand in
      let after : Moment = moment_stepped m id (core.Fill chunk place word) in
      let change : List Holding → List Holding = λ holdings. change_each (is_of_chunk chunk) (holding_with_word place word) holdings in
      h.is ∙ view_from view h.was _ after refl (change view.row.holdings) (get_or-set_same m.state.holdings id (change (holdings_at m.state id)) [] (holding_rows view h.was) ∙ ap change (holdings_were view now h.was)) view.row.looks (looks_were view now h.was)
      view.row.knows (learned_none (core.Fill chunk place word) h refl refl (λ knows. refl)) view.slabs (slabs_were view now h.was) view.stripes (stripes_were view now h.was)

  -- a fresh chunk was given up
  pub discarded_chunk : (chunk : ChunkId) → Happens view [] (core.Discard chunk) now → now ≡ chunk_discarded chunk view
  discarded_chunk chunk h =
      let m : Moment = h.was.moment in
      let id : ℕ = h.was.hand in
      let after : Moment = moment_stepped m id (core.Discard chunk) in
      h.is ∙ view_from view h.was _ after refl (without_first (is_of_chunk chunk) view.row.holdings) (get_or-set_same m.state.holdings id (without_first (is_of_chunk chunk) (holdings_at m.state id)) [] (holding_rows view h.was) ∙ ap (without_first (is_of_chunk chunk)) (holdings_were view now h.was)) view.row.looks (looks_were view now h.was)
      view.row.knows (learned_none (core.Discard chunk) h refl refl (λ knows. refl)) view.slabs (slabs_were view now h.was) view.stripes (stripes_were view now h.was)

  module _ (slabs : SlabState) (mine : view.slabs ≡ Some slabs) where
    -- pages and lists that a step of their holder changed
    slabs_after : (step : Step) (h : Happens view [] step now) (after : SlabState) → (moment_stepped h.was.moment h.was.hand step).state.slabs ≡ after → has_slabs (moment_stepped h.was.moment h.was.hand step).state h.was.hand ≡ has_slabs h.was.moment.state h.was.hand
        → held_slabs (moment_stepped h.was.moment h.was.hand step).state h.was.hand ≡ Some after
    slabs_after step h after is same = (λ k. Rattle.std.specs.Prelude.if◌then◌else◌ ((same ∙ (slabs_here view h.was slabs mine).0) k) (Some (is k)) None)

    -- a chunk whose header was this was put back
    pub put_back_chunk : (chunk : ChunkId) (head : Head) (h : Happens view [] (core.PutBack chunk) now) → head_at h.was.moment.state chunk ≡ head → now ≡ chunk_put_back slabs chunk head view
    put_back_chunk chunk head h is =
        let m : Moment = h.was.moment in
        let id : ℕ = h.was.hand in
        let after : Moment = moment_stepped m id (core.PutBack chunk) in
        let same = (slabs_here view h.was slabs mine).1 in
        h.is ∙ view_from view h.was _ after refl view.row.holdings (holdings_were view now h.was)
        (view.row.looks ++ PutBack chunk (with_tag_free head) ∷ [])
        (get_or-set_same m.state.looks id (looks_at m.state id ++ PutBack chunk (with_tag_free (head_at m.state chunk)) ∷ []) [] (rows view now h.was) ∙ ap₂ (λ (looks : List Look) (head : Head). looks ++ PutBack chunk (with_tag_free head) ∷ []) (looks_were view now h.was) is)
        view.row.knows (learned_none (core.PutBack chunk) h refl refl (λ knows. refl))
        (Some (slabs_changes.after_back slabs chunk)) (slabs_after (core.PutBack chunk) h (slabs_changes.after_back slabs chunk) (ap (λ slabs. slabs_changes.after_back slabs chunk) same) refl) view.stripes (stripes_were view now h.was)

    -- a chunk whose header was this was cleared
    pub cleared_chunk : (chunk : ChunkId) (head : Head) (h : Happens view [] (core.Clear chunk) now) → head_at h.was.moment.state chunk ≡ head → now ≡ chunk_cleared slabs chunk head view
    cleared_chunk chunk head h is =
        let m : Moment = h.was.moment in
        let id : ℕ = h.was.hand in
        let after : Moment = moment_stepped m id (core.Clear chunk) in
        let same = (slabs_here view h.was slabs mine).1 in
        h.is ∙ view_from view h.was _ after refl view.row.holdings (holdings_were view now h.was)
        (view.row.looks ++ Cleared chunk (with_tag_out head) ∷ [])
        (get_or-set_same m.state.looks id (looks_at m.state id ++ Cleared chunk (with_tag_out (head_at m.state chunk)) ∷ []) [] (rows view now h.was) ∙ ap₂ (λ (looks : List Look) (head : Head). looks ++ Cleared chunk (with_tag_out head) ∷ []) (looks_were view now h.was) is)
        view.row.knows (learned_none (core.Clear chunk) h refl refl (λ knows. refl))
        (Some (slabs_changes.after_clear slabs chunk)) (slabs_after (core.Clear chunk) h (slabs_changes.after_clear slabs chunk) (ap (λ slabs. slabs_changes.after_clear slabs chunk) same) refl) view.stripes (stripes_were view now h.was)

    -- a chunk whose header was this was cut
    pub cut_chunk : (page index : ℕ) (head : Head) (h : Happens view [] (core.Cut page index) now) → head_at h.was.moment.state (record { page = page; index = index }) ≡ head → now ≡ chunk_cut slabs (record { page = page; index = index }) head view
    cut_chunk page index head h is =
        let m : Moment = h.was.moment in
        let id : ℕ = h.was.hand in
        let chunk : ChunkId = record { page = page; index = index } in
        let after : Moment = moment_stepped m id (core.Cut page index) in
        let same = (slabs_here view h.was slabs mine).1 in
        h.is ∙ view_from view h.was _ after refl view.row.holdings (holdings_were view now h.was)
        (view.row.looks ++ Cut chunk (with_tag_free head) ∷ [])
        (get_or-set_same m.state.looks id (looks_at m.state id ++ Cut chunk (with_tag_free (head_at m.state chunk)) ∷ []) [] (rows view now h.was) ∙ ap₂ (λ (looks : List Look) (head : Head). looks ++ Cut chunk (with_tag_free head) ∷ []) (looks_were view now h.was) is)
        view.row.knows (learned_none (core.Cut page index) h refl refl (λ knows. refl))
        (Some (slabs_changes.after_cut slabs chunk)) (slabs_after (core.Cut page index) h (slabs_changes.after_cut slabs chunk) (ap (λ slabs. slabs_changes.after_cut slabs chunk) same) refl) view.stripes (stripes_were view now h.was)

    -- the next free chunk of the class, whose header was this, was handed out
    pub popped_chunk : (class : ℕ) (chunk : ChunkId) (head : Head) (h : Happens view [] (core.Pop class) now) → first_free (class_at slabs class) ≡ Some chunk → class_of_page h.was.moment.state.slabs chunk.page ≡ class → head_at h.was.moment.state chunk ≡ head
        → now ≡ chunk_popped slabs class chunk head view
    popped_chunk class chunk head h first on is =
        let m : Moment = h.was.moment in
        let id : ℕ = h.was.hand in
        let same = (slabs_here view h.was slabs mine).1 in
        let next : next_free m.state class ≡ Some chunk = ap (λ slabs. first_free (class_at slabs class)) same ∙ first in
        let with : State = with_slabs m.state (slabs_changes.after_pop m.state.slabs class) in
        let state_is : (moment_stepped m id (core.Pop class)).state ≡ state_after_pop_of with id (Some chunk) = ap (state_after_pop_of with id) next in
        let after : Moment = moment_stepped m id (core.Pop class) in
        let room : room_in m.state.table (class_of_page m.state.slabs chunk.page) ≡ room_in view.setup.table class = ap₂ room_in h.was.same_table on in
        let new : Holding = record { chunk = chunk; issue = (head_at m.state chunk).issue + 1; kind = Rattle.mc_core.specs.declared.holding.Kind.TheVariants.Fresh Rattle.mc_core.specs.declared.holding.Purpose.TheVariants.Item (replicate (room_in m.state.table (class_of_page m.state.slabs chunk.page)) None) } in
        let held : held_slabs (state_after_pop_of with id (Some chunk)) id ≡ Some (slabs_changes.after_pop slabs class) =
        (λ k. Rattle.std.specs.Prelude.if◌then◌else◌ ((slabs_here view h.was slabs mine).0 k) (Some (slabs_changes.after_pop (same k) class)) None) in
        h.is ∙ view_from view h.was _ after (ap (λ (s : State). Rattle.mc_core.specs.model.State.ids_at s id) state_is)
        (view.row.holdings ++ fresh_holding chunk (head.issue + 1) (room_in view.setup.table class) ∷ [])
        (ap (λ (s : State). holdings_at s id) state_is
        ∙ (get_or-set_same m.state.holdings id (holdings_at m.state id ++ new ∷ []) [] (holding_rows view h.was)
        ∙ (λ k. holdings_were view now h.was k ++ fresh_holding chunk ((is k).issue + 1) (room k) ∷ [])))
        (view.row.looks ++ Popped chunk (head_after_hand_out head) ∷ [])
        (ap (λ (s : State). looks_at s id) state_is
        ∙ (get_or-set_same m.state.looks id (looks_at m.state id ++ Popped chunk (head_after_hand_out (head_at m.state chunk)) ∷ []) [] (rows view now h.was)
        ∙ ap₂ (λ (looks : List Look) (head : Head). looks ++ Popped chunk (head_after_hand_out head) ∷ []) (looks_were view now h.was) is))
        view.row.knows (learned_none (core.Pop class) h refl (ap (λ (s : State). s.stripes) state_is) (λ knows. refl))
        (Some (slabs_changes.after_pop slabs class)) (ap (λ (s : State). held_slabs s id) state_is ∙ held) view.stripes
        (ap (λ (s : State). Rattle.mc_words.specs.hand.View.held_stripes view.setup s id) state_is ∙ stripes_were view now h.was)

    -- a free chunk, whose header was this, was handed out for a copy
    pub popped_off_chunk : (old chunk : ChunkId) (head : Head) (h : Happens view [] (core.PopOff old) now) → target_of h.was.moment.state.table h.was.moment.state.heads h.was.moment.state.slabs old.page ≡ Some chunk
        → class_of_page h.was.moment.state.slabs chunk.page ≡ class_of_page slabs old.page → head_at h.was.moment.state chunk ≡ head → now ≡ chunk_popped_off slabs old chunk head view
    popped_off_chunk old chunk head h target on is =
        let m : Moment = h.was.moment in
        let id : ℕ = h.was.hand in
        let same = (slabs_here view h.was slabs mine).1 in
        let class : ℕ = class_of_page slabs old.page in
        let state_is : (moment_stepped m id (core.PopOff old)).state ≡ popped_off m.state id old (Some chunk) = ap (popped_off m.state id old) target in
        let after : Moment = moment_stepped m id (core.PopOff old) in
        let room : room_in m.state.table (class_of_page m.state.slabs chunk.page) ≡ room_in view.setup.table class = ap₂ room_in h.was.same_table on in
        let new : Holding = record { chunk = chunk; issue = (head_at m.state chunk).issue + 1; kind = Rattle.mc_core.specs.declared.holding.Kind.TheVariants.Fresh (Rattle.mc_core.specs.declared.holding.Purpose.TheVariants.Copy old) (replicate (room_in m.state.table (class_of_page m.state.slabs chunk.page)) None) } in
        let held : held_slabs (popped_off m.state id old (Some chunk)) id ≡ Some (slabs_changes.after_replace slabs chunk old) =
        (λ k. Rattle.std.specs.Prelude.if◌then◌else◌ ((slabs_here view h.was slabs mine).0 k) (Some (slabs_changes.after_replace (same k) chunk old)) None) in
        h.is ∙ view_from view h.was _ after (ap (λ (s : State). Rattle.mc_core.specs.model.State.ids_at s id) state_is)
        (view.row.holdings ++ copy_holding old chunk (head.issue + 1) (room_in view.setup.table class) ∷ [])
        (ap (λ (s : State). holdings_at s id) state_is
        ∙ (get_or-set_same m.state.holdings id (holdings_at m.state id ++ new ∷ []) [] (holding_rows view h.was)
        ∙ (λ k. holdings_were view now h.was k ++ copy_holding old chunk ((is k).issue + 1) (room k) ∷ [])))
        (view.row.looks ++ PoppedOff chunk old (head_after_hand_out head) ∷ [])
        (ap (λ (s : State). looks_at s id) state_is
        ∙ (get_or-set_same m.state.looks id (looks_at m.state id ++ PoppedOff chunk old (head_after_hand_out (head_at m.state chunk)) ∷ []) [] (rows view now h.was)
        ∙ ap₂ (λ (looks : List Look) (head : Head). looks ++ PoppedOff chunk old (head_after_hand_out head) ∷ []) (looks_were view now h.was) is))
        view.row.knows (learned_none (core.PopOff old) h refl (ap (λ (s : State). s.stripes) state_is) (λ knows. refl))
        (Some (slabs_changes.after_replace slabs chunk old)) (ap (λ (s : State). held_slabs s id) state_is ∙ held) view.stripes
        (ap (λ (s : State). Rattle.mc_words.specs.hand.View.held_stripes view.setup s id) state_is ∙ stripes_were view now h.was)
