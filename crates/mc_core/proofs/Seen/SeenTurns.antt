-- Steps that append a look keep what the holder of the slabs lock saw.
use Rattle.std.proofs.Common.{◌≡◌, ℕ, ◌||◌, nat_lt, true, false, if◌then◌else◌, List, [], refl, ap, inl, inr, slice_set, slice_index, Option, Some, None, ltb-true}
use Rattle.std.proofs.lemmas.Bool.{and_parts}
use Rattle.mc_classes.specs.Classes.{Classes}
use Rattle.mc_pages.specs.declared.ids.ChunkId.{ChunkId}
use Rattle.mc_pages.specs.SlabState.{SlabState, class_at, class_of_page}
use Rattle.mc_pages.specs.Changes as slabs_changes
use Rattle.mc_pages.proofs.HandedOut.{IsClass-handed_out}
use Rattle.mc_pages.specs.Pages.{is_on_the_move}
use Rattle.mc_core.specs.declared.event.Step.TheVariants.{MissStripe, Pop, PopOff, WordHeld, Condemn, PutBack, Clear, Cut}
use Rattle.mc_core.specs.declared.event.Step.TheVariants as step
use Rattle.mc_core.specs.declared.head.Head.{Head}
use Rattle.mc_core.specs.declared.head.Tag.{Tag}
use Rattle.mc_core.specs.declared.head.Tag.TheVariants.{Out, Free, Unlinked, Linked}
use Rattle.mc_core.specs.declared.look.Look.{Look}
use Rattle.mc_core.specs.declared.look.Look.TheVariants as look
use Rattle.mc_core.specs.model.Head.{is_out, is_free, is_dead}
use Rattle.mc_core.specs.model.Looks.{was_linked}
use Rattle.mc_core.specs.run.Silent.{is_handed_out, is_listed}
use Rattle.mc_core.specs.run.Locks.{state_after_look}
use Rattle.mc_core.specs.run.Chunks.{head_after_hand_out, with_tag_free, with_tag_out, next_free, state_after_pop_of, target_of, is_target, popped_off, has_place, can_hand_out, is_next_uncut}
use Rattle.mc_core.specs.run.Evictions.{head_after_condemn}
use Rattle.mc_core.specs.model.State.{has_slabs, is_hand, has_chunk, is_class, head_at, head_place, chunk_room, looks_at, with_slabs, with_head, with_look}
use Rattle.mc_core.specs.run.Run.{after_step}
use Rattle.mc_core.specs.past.Past.{Moment, moment_stepped}
use Rattle.mc_core.specs.model.Columns.{IsHandedOut}
use Rattle.mc_core.specs.law.Seen.{newer, last_head, linked_issue, last_read, slabs_after_look}
use Rattle.mc_core.specs.law.Laws.{MayStep}
use Rattle.mc_core.specs.law.Lawful.{IsLawful, SeenIn}
use Rattle.mc_core.proofs.Steps.Listed.{IsClass_from, Contains_from_among}
use Rattle.mc_core.proofs.Places.FreeChunks.{near_placed, first_placed, found_placed}
use Rattle.mc_core.proofs.Frame.Own.{own_step}
use Rattle.mc_core.proofs.Known.KnownStill.{not_shown}
use Rattle.mc_core.proofs.Known.KnownCondemned.{condemnable}
use Rattle.mc_core.proofs.Seen.SeenLooks.{AddsLook}
use Rattle.mc_core.proofs.Seen.SeenAdds.{adds_stripe, adds_saw, adds_read, adds_turned, adds_ended}
use Rattle.mc_core.proofs.Seen.SeenHolder.{has_before, seen_look}
use Rattle.mc_core.proofs.Seen.SeenQuiet.{SeenBy, seen_same}

free_tag : (tag : Tag) → is_free tag ≡ true → tag ≡ Free
free_tag Out h = absurd (cc)
free_tag Free h = refl
free_tag Unlinked h = absurd (cc)
free_tag Linked h = absurd (cc)

out_tag : (tag : Tag) → is_out tag ≡ true → tag ≡ Out
out_tag Out h = refl
out_tag Free h = absurd (cc)
out_tag Unlinked h = absurd (cc)
out_tag Linked h = absurd (cc)

module _ (m : Moment) (hand : ℕ) (l : IsLawful m) (there : is_hand m.state hand ≡ true) (mine : has_slabs m.state hand ≡ true) where
  abbrev table : Classes
  table = m.state.table

  abbrev looks : List Look
  looks = looks_at m.state hand

  -- the hand looked once more, and wrote one header or none
  looks_more : (next : SlabState) (heads' : List Head) (seen : Look) → AddsLook table m.state.slabs next m.state.heads heads' m.state.words m.past.known looks seen →
      (h : ℕ) → has_slabs m.state h ≡ true → SeenBy m hand l [] (with_look (record (with_slabs m.state next) { heads = heads' }) hand seen) h
  looks_more next heads' seen adds h has = seen_look m l hand there mine next heads' seen adds h has

  -- a header is written of a chunk that isn't given back
  turns : (next : SlabState) (chunk : ChunkId) (head : Head) (seen : Look) → AddsLook table m.state.slabs next m.state.heads (slice_set m.state.heads (head_place table chunk) head) m.state.words m.past.known looks seen →
      (h : ℕ) → has_slabs m.state h ≡ true → SeenBy m hand l [] (with_look (with_head (with_slabs m.state next) chunk head) hand seen) h
  turns next chunk head seen adds h has = looks_more next (slice_set m.state.heads (head_place table chunk) head) seen adds h has

module _ (m : Moment) (hand : ℕ) where
  pub seen_put_back : (chunk : ChunkId) → MayStep m hand (PutBack chunk) → SeenIn (moment_stepped m hand (PutBack chunk))
  seen_put_back chunk may h has =
      let l = may.lawful in
      let parts = and_parts _ (is_handed_out m.state.slabs chunk) may.allowed in
      let more = and_parts _ (is_dead (head_at m.state chunk)) parts.0 in
      let both = and_parts (has_slabs m.state hand) (has_chunk m.state.table chunk) more.0 in
      let head = with_tag_free (head_at m.state chunk) in
      turns m hand l may.there both.0 (slabs_changes.after_back m.state.slabs chunk) chunk head (look.PutBack chunk head)
      (adds_ended m.state.table m.state.slabs m.state.heads m.state.words m.past.known (looks_at m.state hand) (slabs_changes.after_back m.state.slabs chunk) chunk head (look.PutBack chunk head) l.sized.headers both.1
      (λ page. refl) refl (λ other before. refl) (λ other before. refl) (λ other place before. refl)) h has

  pub seen_clear : (chunk : ChunkId) → MayStep m hand (Clear chunk) → SeenIn (moment_stepped m hand (Clear chunk))
  seen_clear chunk may h has =
      let l = may.lawful in
      let parts = and_parts _ (is_listed m.state.slabs (class_of_page m.state.slabs chunk.page) chunk) may.allowed in
      let dead = and_parts _ (is_free (head_at m.state chunk).tag || is_dead (head_at m.state chunk)) parts.0 in
      let moving = and_parts _ (is_on_the_move m.state.slabs chunk.page) dead.0 in
      let both = and_parts (has_slabs m.state hand) (has_chunk m.state.table chunk) moving.0 in
      let head = with_tag_out (head_at m.state chunk) in
      turns m hand l may.there both.0 (slabs_changes.after_clear m.state.slabs chunk) chunk head (look.Cleared chunk head)
      (adds_ended m.state.table m.state.slabs m.state.heads m.state.words m.past.known (looks_at m.state hand) (slabs_changes.after_clear m.state.slabs chunk) chunk head (look.Cleared chunk head) l.sized.headers both.1
      (λ page. refl) refl (λ other before. refl) (λ other before. refl) (λ other place before. refl)) h has

  pub seen_cut : (page index : ℕ) → MayStep m hand (Cut page index) → SeenIn (moment_stepped m hand (Cut page index))
  seen_cut page index may h has =
      let l = may.lawful in
      let chunk : ChunkId = record { page = page; index = index } in
      let parts = and_parts _ (is_out (head_at m.state chunk).tag) may.allowed in
      let next = and_parts _ (is_next_uncut m.state.slabs chunk) parts.0 in
      let both = and_parts (has_slabs m.state hand) (has_chunk m.state.table chunk) next.0 in
      let head = with_tag_free (head_at m.state chunk) in
      turns m hand l may.there both.0 (slabs_changes.after_cut m.state.slabs chunk) chunk head (look.Cut chunk head)
      (adds_turned m.state.table m.state.slabs m.state.heads m.state.words m.past.known (looks_at m.state hand) (slabs_changes.after_cut m.state.slabs chunk) chunk head (look.Cut chunk head) l.sized.headers both.1
      (λ page. refl) refl (λ other before. refl) (λ other before. refl) (λ other place before. refl)
      (λ issue out. not_shown (head_at m.state chunk) issue (IsHandedOut head issue) (inr (out_tag (head_at m.state chunk).tag parts.1)) out)) h has

  pub seen_word_held : (chunk : ChunkId) (place : ℕ) → MayStep m hand (WordHeld chunk place) → SeenIn (moment_stepped m hand (WordHeld chunk place))
  seen_word_held chunk place may h has =
      let l = may.lawful in
      let parts = and_parts _ (nat_lt place (chunk_room m.state chunk)) may.allowed in
      let linked = and_parts _ (was_linked (looks_at m.state hand) chunk) parts.0 in
      let both = and_parts (has_slabs m.state hand) (has_chunk m.state.table chunk) linked.0 in
      looks_more m hand l may.there both.0 m.state.slabs m.state.heads _
      (adds_read m.state.table m.state.slabs m.state.heads m.state.words m.past.known (looks_at m.state hand) chunk place linked.1 (ltb-true place (chunk_room m.state chunk) parts.1)) h has

  -- a look counts under the lock alone
  seen_looked : (l : IsLawful m) → is_hand m.state hand ≡ true → (seen : Look) → AddsLook m.state.table m.state.slabs m.state.slabs m.state.heads m.state.heads m.state.words m.past.known (looks_at m.state hand) seen →
      (h : ℕ) → has_slabs m.state h ≡ true → SeenBy m hand l [] (state_after_look m.state hand seen) h
  seen_looked l there seen adds h has =
      elim (has_slabs m.state hand) as (λ b. has_slabs m.state hand ≡ b → SeenBy m hand l [] (if b then with_look m.state hand seen else m.state) h) [
        | true ↦ λ mine. looks_more m hand l there mine m.state.slabs m.state.heads seen adds h has
        | false ↦ λ _. seen_same m hand l h has
      ] refl

  pub seen_miss_stripe : (stripe : ℕ) → MayStep m hand (MissStripe stripe) → SeenIn (moment_stepped m hand (MissStripe stripe))
  seen_miss_stripe stripe may h has =
      let before = has_before m.state (after_step m.state hand (MissStripe stripe)) hand h (own_step m.state hand (MissStripe stripe) refl) has in
      seen_looked may.lawful may.there (look.SawStripe stripe (slice_index m.state.stripe_locks stripe))
      (adds_stripe m.state.table m.state.slabs m.state.heads m.state.words m.past.known (looks_at m.state hand) stripe (slice_index m.state.stripe_locks stripe)) h before

  pub seen_head : (chunk : ChunkId) → MayStep m hand (step.Head chunk) → SeenIn (moment_stepped m hand (step.Head chunk))
  seen_head chunk may h has =
      let before = has_before m.state (after_step m.state hand (step.Head chunk)) hand h (own_step m.state hand (step.Head chunk) refl) has in
      seen_looked may.lawful may.there (look.Saw chunk (head_at m.state chunk))
      (adds_saw m.state.table m.state.slabs m.state.heads m.state.words m.past.known (looks_at m.state hand) chunk may.lawful.known.linked) h before

  -- a free chunk is handed out
  adds_handed_out : (l : IsLawful m) (next : SlabState) (chunk : ChunkId) (seen : Look) → has_chunk m.state.table chunk ≡ true → is_free (head_at m.state chunk).tag ≡ true →
      ((page : ℕ) → class_of_page next page ≡ class_of_page m.state.slabs page) → slabs_after_look m.state.slabs seen ≡ next →
      ((other : ChunkId) (before : Option Head) → last_head other before seen ≡ newer other chunk (head_after_hand_out (head_at m.state chunk)) before) →
      ((other : ChunkId) (before : Option ℕ) → linked_issue other before seen ≡ before) → ((other : ChunkId) (place : ℕ) (before : Option ℕ) → last_read other place before seen ≡ before) →
      AddsLook m.state.table m.state.slabs next m.state.heads (slice_set m.state.heads (head_place m.state.table chunk) (head_after_hand_out (head_at m.state chunk))) m.state.words m.past.known (looks_at m.state hand) seen
  adds_handed_out l next chunk seen in_range free same told headed link read =
      adds_turned m.state.table m.state.slabs m.state.heads m.state.words m.past.known (looks_at m.state hand) next chunk (head_after_hand_out (head_at m.state chunk)) seen l.sized.headers in_range same told headed link read
      (λ issue out. not_shown (head_at m.state chunk) issue (IsHandedOut (head_after_hand_out (head_at m.state chunk)) issue) (inl (free_tag (head_at m.state chunk).tag free)) out)

  pub seen_pop : (class : ℕ) → MayStep m hand (Pop class) → SeenIn (moment_stepped m hand (Pop class))
  seen_pop class may h has =
      let l = may.lawful in
      let before = has_before m.state (after_step m.state hand (Pop class)) hand h (own_step m.state hand (Pop class) refl) has in
      let parts = and_parts _ (can_hand_out m.state (next_free m.state class)) may.allowed in
      let more = and_parts _ (has_place m.state hand) parts.0 in
      let both = and_parts (has_slabs m.state hand) (is_class m.state.table class) more.0 in
      let is = IsClass_from m.state.table m.state.slabs class l.paged.of_table both.1 in
      let next = slabs_changes.after_pop m.state.slabs class in
      elim (next_free m.state class) as (λ o. next_free m.state class ≡ o → can_hand_out m.state o ≡ true → SeenBy m hand l [] (state_after_pop_of (with_slabs m.state (slabs_changes.after_pop m.state.slabs class)) hand o) h) [
        | None ↦ λ _ never. absurd (cc)
        | Some chunk ↦ λ first _.
            let at = first_placed m l class chunk is first in
            let head = head_after_hand_out (head_at m.state chunk) in
            turns m hand l may.there both.0 next chunk head (look.Popped chunk head)
            (adds_handed_out l next chunk (look.Popped chunk head) (near_placed m l chunk at.1) at.2 (λ page. refl) (ap (λ n. slabs_changes.after_pop m.state.slabs n) at.0)
            (λ other before. refl) (λ other before. refl) (λ other place before. refl)) h before
      ] refl parts.1

  pub seen_pop_off : (old : ChunkId) → MayStep m hand (PopOff old) → SeenIn (moment_stepped m hand (PopOff old))
  seen_pop_off old may h has =
      let l = may.lawful in
      let before = has_before m.state (after_step m.state hand (PopOff old)) hand h (own_step m.state hand (PopOff old) refl) has in
      let parts = and_parts _ (can_hand_out m.state (target_of m.state.table m.state.heads m.state.slabs old.page)) may.allowed in
      let more = and_parts _ (has_place m.state hand) parts.0 in
      let out = and_parts _ (is_handed_out m.state.slabs old) more.0 in
      let mine = (and_parts (has_slabs m.state hand) (is_on_the_move m.state.slabs old.page) out.0).0 in
      let class = class_of_page m.state.slabs old.page in
      let is = IsClass-handed_out m.state.slabs old l.paged.of_table.accounted (Contains_from_among (class_at m.state.slabs class).order old out.1) in
      elim (target_of m.state.table m.state.heads m.state.slabs old.page) as (λ o. target_of m.state.table m.state.heads m.state.slabs old.page ≡ o → can_hand_out m.state o ≡ true → SeenBy m hand l [] (popped_off m.state hand old o) h) [
        | None ↦ λ _ never. absurd (cc)
        | Some chunk ↦ λ found _.
            let at = found_placed m l class chunk (is_target m.state.table m.state.heads old.page) is found in
            let head = head_after_hand_out (head_at m.state chunk) in
            let next = slabs_changes.after_replace m.state.slabs chunk old in
            turns m hand l may.there mine next chunk head (look.PoppedOff chunk old head)
            (adds_handed_out l next chunk (look.PoppedOff chunk old head) (near_placed m l chunk at.1) at.2 (λ page. refl) refl (λ other before. refl) (λ other before. refl) (λ other place before. refl)) h before
      ] refl parts.1

  -- the item of a chunk is taken away
  pub seen_condemn : (chunk : ChunkId) → MayStep m hand (Condemn chunk) → SeenIn (moment_stepped m hand (Condemn chunk))
  seen_condemn chunk may h has =
      let l = may.lawful in
      let before = has_before m.state (after_step m.state hand (Condemn chunk)) hand h (own_step m.state hand (Condemn chunk) refl) has in
      let is = condemnable m hand chunk may in
      let head = head_after_condemn (head_at m.state chunk) in
      turns m hand l may.there is.slabs m.state.slabs chunk head (look.Condemned chunk head)
      (adds_turned m.state.table m.state.slabs m.state.heads m.state.words m.past.known (looks_at m.state hand) m.state.slabs chunk head (look.Condemned chunk head) l.sized.headers is.in_range (λ page. refl) refl
      (λ other before. refl) (λ other before. refl) (λ other place before. refl) (λ issue out. (inl refl, out.1))) h before
