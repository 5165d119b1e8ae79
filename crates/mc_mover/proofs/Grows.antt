-- What a hand knows after a turn's sections: pages and lists as it took them, what it said and its ids stay, and the items that it ever held stay among those.
use Rattle.std.proofs.Common.{◌≡◌, ℕ, Bool, true, false, List, [], ◌∷◌, ◌++◌, refl, sym, ap, ◌∙◌, inl, inr, append_assoc, append-nil}
use Rattle.mc_pages.specs.declared.ids.ChunkId.{ChunkId}
use Rattle.mc_pages.specs.declared.moves.Found.{Found}
use Rattle.mc_pages.specs.declared.moves.Found.TheVariants.{Cleared, Rescued, Evicted, Busy, Locked, Already}
use Rattle.mc_pages.specs.Moves.{chunk_at_position}
use Rattle.mc_pages.specs.SlabState.{SlabState, class_of_page}
use Rattle.mc_stripe.specs.Changes.{after_reserve}
use Rattle.mc_stripe.specs.StripeState.{ReadyStripe}
use Rattle.mc_core.specs.declared.head.Head.{Head}
use Rattle.mc_core.specs.declared.ids.Ids.{Ids}
use Rattle.mc_core.specs.model.Holdings.{words_of_item, numbers_of_known}
use Rattle.mc_core.specs.past.Past.{KnownItem, StoredItem, known_by}
use Rattle.mc_core.specs.model.State.{room_in}
use Rattle.mc_words.specs.hand.View.{View}
use Rattle.mc_words.specs.item.Removal.{FindsHeld}
use Rattle.mc_words.specs.page.Cuts.{CutsEach}
use Rattle.mc_words.specs.item.Items.{issue_in, item_with, known_words_in}
use Rattle.mc_words.specs.item.References.{reference_to}
use Rattle.mc_words.specs.chunk.Copies.{PassesAll, PopsOff}
use Rattle.mc_words.specs.lock.Doing.{SlabsDoing}
use Rattle.mc_words.specs.chunk.Sweeps.{SweepsOne}
use Rattle.mc_words.specs.hand.Views.{head_seen}
use Rattle.mc_mover.specs.declared.counts.Turn.{Turn}
use Rattle.mc_mover.specs.declared.counts.Turn.TheVariants.{Idle, Went, Finished}
use Rattle.mc_mover.specs.Copying.{Copies}
use Rattle.mc_mover.specs.declared.sweep.Sweep.{Sweep}
use Rattle.mc_mover.specs.declared.sweep.Sweep.TheVariants.{Due}
use Rattle.mc_mover.specs.Saving.{BothDoing, Evicts, FailsToEvict, FailsToRescue, Rescues, SweepsToEvict, SweepsToRescue}
use Rattle.mc_mover.specs.Linked.{HoldsUp, ReachesStripe, SavesAndClears, SavesAs, SavesWith, StripeDoing}
use Rattle.mc_mover.specs.Visiting.{Visits}
use Rattle.mc_mover.specs.Turning.{GoesOn, TurnLacksMemory, Sections, Turns}
use Rattle.mc_mover.proofs.Copied.{copied_keeps}
use Rattle.mc_mover.proofs.Kept.{finds_keep, passes_keep, swept_keep, to_evict_keeps, to_rescue_keeps}

-- pages and lists as the hand took them, what was said, and number and stamps
abbrev pub Stays : Type 0
Stays = SlabState × List StoredItem × Ids

abbrev pub stays_of : View → Stays
stays_of view = (view.row.knows.hold.found, view.row.knows.stored, view.row.ids)

-- and the items that it ever held
abbrev Kept : Type 0
Kept = Stays × List KnownItem

abbrev kept_of : View → Kept
kept_of view = (stays_of view, view.row.knows.known)

-- these grow, and the others stay
pub record Grows (view now : View) : Type 0 where
  pub stays : stays_of now ≡ stays_of view
  pub more : List KnownItem
  pub known : now.row.knows.known ≡ view.row.knows.known ++ more

grows_same : (view now : View) → kept_of now ≡ kept_of view → Grows view now
grows_same view now same = record { stays = ap (λ (k : Kept). k.0) same; more = []; known = ap (λ (k : Kept). k.1) same ∙ sym (append-nil view.row.knows.known) }

grows_on : (view next now : View) → Grows view next → Grows next now → Grows view now
grows_on view next now first later = record {
  stays = later.stays ∙ first.stays;
  more = first.more ++ later.more;
  known = later.known ∙ (ap (λ (l : List KnownItem). l ++ later.more) first.known ∙ append_assoc view.row.knows.known first.more later.more);
}

-- what only looks leaves all that
swept_kept : (chunk : ChunkId) (view : View) (slabs : SlabState) (now : View) (left : SlabState) → SweepsOne chunk view slabs now left → kept_of now ≡ kept_of view
swept_kept chunk view slabs now left sweeps = swept_keep kept_of (λ one v. refl) (λ chunk one v. refl) (λ slabs chunk one v. refl) chunk view slabs now left sweeps

-- a sweep does so, too
abbrev LeavesKept : SlabsDoing → Type 0
LeavesKept Swept = (view : View) (slabs : SlabState) (now : View) (left : SlabState) → Swept view slabs now left → kept_of now ≡ kept_of view

to_evict_kept : (class : ℕ) (chunk : ChunkId) (sweep : Sweep) → LeavesKept (SweepsToEvict class chunk sweep)
to_evict_kept class chunk sweep view slabs now left sweeps = to_evict_keeps kept_of (λ one v. refl) (λ chunk one v. refl) (λ slabs chunk one v. refl) class chunk sweep view slabs now left sweeps

to_rescue_kept : (class : ℕ) (chunk : ChunkId) (sweep : Sweep) → LeavesKept (SweepsToRescue class chunk sweep)
to_rescue_kept class chunk sweep view slabs now left sweeps = to_rescue_keeps kept_of (λ one v. refl) (λ chunk one v. refl) (λ slabs chunk one v. refl) class chunk sweep view slabs now left sweeps

passes_kept : (page : ℕ) (chunks : List ChunkId) (view now : View) → PassesAll page chunks view now → kept_of now ≡ kept_of view
passes_kept page chunks view now passes = passes_keep kept_of (λ one v. refl) (λ chunk one v. refl) page chunks view now passes

finds_kept : (chunk : ChunkId) (view now : View) → FindsHeld view chunk now → kept_of now ≡ kept_of view
finds_kept chunk view now finds = finds_keep kept_of (λ one v. refl) (λ chunk one v. refl) chunk view now finds

pops_kept : (view : View) (slabs : SlabState) (old chunk : ChunkId) (now : View) → PopsOff view slabs old chunk now → kept_of now ≡ kept_of view
pops_kept view slabs old chunk now pops = ap kept_of pops.is ∙ (ap kept_of pops.finds.fit.is ∙ passes_kept old.page pops.finds.before view pops.finds.passed pops.finds.passes)

copies_kept : (chunk copy : ChunkId) (key stamp : ℕ) (view now : View) → Copies chunk copy key stamp view now → kept_of now ≡ kept_of view
copies_kept chunk copy key stamp view now copies = ap kept_of copies.is ∙ copied_keeps chunk copy kept_of (λ place word v. refl) 0 (item_with key stamp copies.words) view

-- an eviction leaves it, too
evicts_grow : (number stripe : ℕ) (chunk : ChunkId) (slabs : SlabState) (value : ReadyStripe) (view : View) (kept : SlabState) (left : ReadyStripe) (now : View) → Evicts number stripe chunk slabs value view kept left now → Grows view now
evicts_grow number stripe chunk slabs value view kept left now evicts = grows_same view now (ap kept_of evicts.condemns.is ∙ passes_kept chunk.page _ view evicts.passed evicts.passes)

fails_evict_grow : (chunk : ChunkId) (slabs : SlabState) (value : ReadyStripe) (view : View) (kept : SlabState) (left : ReadyStripe) (now : View) → FailsToEvict chunk slabs value view kept left now → Grows view now
fails_evict_grow chunk slabs value view kept left now fails = grows_same view now (finds_kept chunk fails.passed now fails.finds ∙ passes_kept chunk.page _ view fails.passed fails.passes)

-- a rescue adds the item of the copy
pub condemned_kept : (number stripe : ℕ) (chunk : ChunkId) (slabs : SlabState) (value : ReadyStripe) (view : View) (kept : SlabState) (left : ReadyStripe) (now : View) → (rescues : Rescues number stripe chunk slabs value view kept left now) → kept_of rescues.moves.condemned ≡ kept_of view
condemned_kept number stripe chunk slabs value view kept left now rescues =
    let moves = rescues.moves in
    ap kept_of moves.condemns.is ∙ (copies_kept chunk rescues.copy moves.key moves.stamp rescues.popped moves.filled moves.copies ∙ pops_kept view slabs chunk rescues.copy rescues.popped rescues.pops)

abbrev pub known_copy : (number stripe : ℕ) (chunk : ChunkId) (slabs : SlabState) (value : ReadyStripe) (view : View) (kept : SlabState) (left : ReadyStripe) (now : View) → Rescues number stripe chunk slabs value view kept left now → KnownItem
known_copy number stripe chunk slabs value view kept left now rescues =
    known_by (room_in view.setup.table (class_of_page slabs chunk.page)) (reference_to rescues.copy (issue_in rescues.moves.condemned rescues.copy) (numbers_of_known (words_of_item (known_words_in rescues.moves.condemned rescues.copy))))

pub known_rescued : (number stripe : ℕ) (chunk : ChunkId) (slabs : SlabState) (value : ReadyStripe) (view : View) (kept : SlabState) (left : ReadyStripe) (now : View) → (rescues : Rescues number stripe chunk slabs value view kept left now)
    → now.row.knows.known ≡ view.row.knows.known ++ known_copy number stripe chunk slabs value view kept left now rescues ∷ []
known_rescued number stripe chunk slabs value view kept left now rescues =
    ap (λ (v : View). v.row.knows.known) rescues.moves.is
    ∙ ap (λ (k : Kept). k.1 ++ known_copy number stripe chunk slabs value view kept left now rescues ∷ []) (condemned_kept number stripe chunk slabs value view kept left now rescues)

rescues_grow : (number stripe : ℕ) (chunk : ChunkId) (slabs : SlabState) (value : ReadyStripe) (view : View) (kept : SlabState) (left : ReadyStripe) (now : View) → Rescues number stripe chunk slabs value view kept left now → Grows view now
rescues_grow number stripe chunk slabs value view kept left now rescues = record {
  stays = ap stays_of rescues.moves.is ∙ ap (λ (k : Kept). k.0) (condemned_kept number stripe chunk slabs value view kept left now rescues);
  more = known_copy number stripe chunk slabs value view kept left now rescues ∷ [];
  known = known_rescued number stripe chunk slabs value view kept left now rescues;
}

fails_rescue_grow : (chunk copy : ChunkId) (slabs : SlabState) (value : ReadyStripe) (view : View) (kept : SlabState) (left : ReadyStripe) (now : View) → FailsToRescue chunk copy slabs value view kept left now → Grows view now
fails_rescue_grow chunk copy slabs value view kept left now fails =
    let moves = fails.fails in
    grows_same view now (ap kept_of moves.dropped
    ∙ (finds_kept chunk moves.filled moves.found moves.finds
    ∙ (copies_kept chunk copy moves.key moves.stamp fails.popped moves.filled moves.copies ∙ pops_kept view slabs chunk copy fails.popped fails.pops)))

-- under the stripe's lock, behind a sweep
saves_grow : (number stripe : ℕ) (Swept : SlabsDoing) → LeavesKept Swept → (Does : ℕ → BothDoing) → ((slabs : SlabState) (value : ReadyStripe) (view : View) (kept : SlabState) (left : ReadyStripe) (now : View) → Does stripe slabs value view kept left now → Grows view now)
    → (value : ReadyStripe) (taken : View) (slabs : SlabState) (now : View) (left : SlabState) → SavesWith number Swept Does stripe value taken slabs now left → Grows taken now
saves_grow number stripe Swept leaves Does each value taken slabs now left saves =
    let sweeping = saves.does in
    grows_on taken sweeping.swept now (grows_same taken sweeping.swept (leaves _ slabs sweeping.swept sweeping.between sweeping.sweeps))
    (grows_on sweeping.swept saves.last now (each sweeping.between (after_reserve value) sweeping.swept left saves.left saves.last sweeping.does) (grows_same saves.last now (ap kept_of saves.given)))

-- by what was found
saved_grow : (number class : ℕ) (chunk : ChunkId) (sweep : Sweep) (found : Found) (stripe : ℕ) (value : ReadyStripe) (taken : View) (slabs : SlabState) (now : View) (left : SlabState) → SavesAs number class chunk sweep found stripe value taken slabs now left → Grows taken now
saved_grow number class chunk sweep Rescued stripe value taken slabs now left saves =
    saves_grow number stripe (SweepsToRescue class chunk sweep) (to_rescue_kept class chunk sweep) (λ stripe. Rescues number stripe chunk) (rescues_grow number stripe chunk) value taken slabs now left saves
saved_grow number class chunk sweep Evicted stripe value taken slabs now left saves =
    saves_grow number stripe (SweepsToEvict class chunk sweep) (to_evict_kept class chunk sweep) (λ stripe. Evicts number stripe chunk) (evicts_grow number stripe chunk) value taken slabs now left saves
saved_grow number class chunk sweep Busy stripe value taken slabs now left (inl saves) =
    saves_grow number stripe (SweepsToEvict class chunk sweep) (to_evict_kept class chunk sweep) (λ stripe. FailsToEvict chunk) (fails_evict_grow chunk) value taken slabs now left saves
saved_grow number class chunk sweep Busy stripe value taken slabs now left (inr gives) =
    grows_on taken gives.failed now
    (saves_grow number stripe (SweepsToRescue class chunk sweep) (to_rescue_kept class chunk sweep) (λ stripe. FailsToRescue chunk gives.copy) (fails_rescue_grow chunk gives.copy) value taken slabs gives.failed gives.kept gives.fails)
    (grows_same gives.failed now (swept_kept gives.copy gives.failed gives.kept now left gives.puts))
saved_grow number class chunk sweep Cleared stripe value taken slabs now left never = absurd never
saved_grow number class chunk sweep Locked stripe value taken slabs now left never = absurd never
saved_grow number class chunk sweep Already stripe value taken slabs now left never = absurd never

-- the stripe was reached
reached_grow : (chunk : ChunkId) (Does : ℕ → StripeDoing) (view : View) (slabs : SlabState) (now : View) (left : SlabState) → (reaches : ReachesStripe chunk Does view slabs now left) → Grows reaches.taken now → Grows view now
reached_grow chunk Does view slabs now left reaches grows = grows_on view reaches.taken now (grows_same view reaches.taken (ap kept_of reaches.is_taken ∙ ap kept_of reaches.reads.1)) grows

cleared_grow : (number class : ℕ) (chunk : ChunkId) (sweep : Sweep) (found : Found) (view : View) (slabs : SlabState) (now : View) (left : SlabState) → SavesAndClears number class chunk sweep found view slabs now left → Grows view now
cleared_grow number class chunk sweep found view slabs now left saves =
    let reaches = saves.reaches in
    grows_on view saves.saved now
    (reached_grow chunk (λ key. SavesAs number class chunk sweep found) view slabs saves.saved saves.kept reaches (saved_grow number class chunk sweep found _ reaches.value reaches.taken slabs saves.saved saves.kept reaches.does))
    (grows_same saves.saved now (ap kept_of saves.clears.is))

holds_grow : (number class : ℕ) (chunk : ChunkId) (sweep : Sweep) (unheld : Bool) (next : Sweep) (view : View) (slabs : SlabState) (now : View) (left : SlabState) → HoldsUp number class chunk sweep unheld next view slabs now left → Grows view now
holds_grow number class chunk sweep false next view slabs now left (reaches, then) = reached_grow chunk _ view slabs now left reaches (grows_same reaches.taken now (ap kept_of reaches.does.0))
holds_grow number class chunk sweep true next view slabs now left (inl (reaches, then)) = reached_grow chunk _ view slabs now left reaches (grows_same reaches.taken now (ap kept_of reaches.does.1.0))
holds_grow number class chunk sweep true next view slabs now left (inr (reaches, then)) =
    reached_grow chunk _ view slabs now left reaches (saved_grow number class chunk sweep Busy _ reaches.value reaches.taken slabs now left reaches.does)

-- a header was seen first
seen_grow : (chunk : ChunkId) (head : Head) (view now : View) → Grows (head_seen chunk head view) now → Grows view now
seen_grow chunk head view now grows = grows_on view (head_seen chunk head view) now (grows_same view (head_seen chunk head view) refl) grows

visit_grows : (number class : ℕ) (chunk : ChunkId) (sweep : Sweep) (found : Found) (next : Sweep) (view : View) (slabs : SlabState) (now : View) (left : SlabState) → Visits number class chunk sweep found next view slabs now left → Grows view now
visit_grows number class chunk sweep Already next view slabs now left (sees, same, then) = grows_same view now (ap kept_of sees.is)
visit_grows number class chunk sweep Cleared next view slabs now left (clears, then) = grows_same view now (ap kept_of clears.clears.is ∙ ap kept_of clears.sees.is)
visit_grows number class chunk sweep Rescued next view slabs now left sees = seen_grow chunk sees.head view now (cleared_grow number class chunk sweep Rescued _ slabs now left sees.does.1)
visit_grows number class chunk sweep Evicted next view slabs now left sees = seen_grow chunk sees.head view now (cleared_grow number class chunk sweep Evicted _ slabs now left sees.does.1)
visit_grows number class chunk sweep Busy next view slabs now left (inl (finds, same, then)) = grows_same view now (ap kept_of finds.other.is ∙ ap kept_of finds.sees.is)
visit_grows number class chunk sweep Busy next view slabs now left (inr sees) = seen_grow chunk sees.head view now (holds_grow number class chunk sweep _ next _ slabs now left sees.does)
visit_grows number class chunk sweep Locked next view slabs now left sees = let (finds, same, then) = sees.does in seen_grow chunk sees.head view now (grows_same _ now (ap kept_of finds.is ∙ ap kept_of finds.reads.1))

sections_grow : (number : ℕ) (sweep : Sweep) (found : List Found) (last : Sweep) (view : View) (slabs : SlabState) (now : View) (left : SlabState) → Sections number sweep found last view slabs now left → Grows view now
sections_grow number sweep [] last view slabs now left (same, is, then) = grows_same view now (ap kept_of same)
sections_grow number sweep (first ∷ found) last view slabs now left (next, between, then, section, rest) =
    grows_on view next now
    (grows_on view section.visited next (visit_grows number section.move.src _ sweep first then view slabs section.visited section.kept section.visits) (grows_same section.visited next (ap kept_of section.is)))
    (sections_grow number then found last next between now left rest)

-- the end of a turn leaves it
cuts_kept : (chunks : List ChunkId) (view : View) (slabs : SlabState) (now : View) (left : SlabState) → CutsEach chunks view slabs now left → kept_of now ≡ kept_of view
cuts_kept [] view slabs now left (same, is) = ap kept_of same
cuts_kept (chunk ∷ chunks) view slabs now left (next, cuts, rest) = cuts_kept chunks next _ now left rest ∙ ap kept_of cuts.is

goes_on_kept : (number : ℕ) (view : View) (slabs : SlabState) (now : View) (left : SlabState) → GoesOn number view slabs now left → kept_of now ≡ kept_of view
goes_on_kept number view slabs now left (inl (move, runs, within, same, is)) = ap kept_of same
goes_on_kept number view slabs now left (inr (move, at_end, busy, happens, same, is)) = ap kept_of same

-- so does a turn
pub turns_grow : (number : ℕ) (turn : Turn) (view : View) (slabs : SlabState) (now : View) (left : SlabState) → Turns number turn view slabs now left → Grows view now
turns_grow number Idle view slabs now left (none, same, is) = grows_same view now (ap kept_of same)
turns_grow number (Went counts) view slabs now left turns =
    let looks = turns.looks in
    grows_on view turns.looked now (sections_grow number Due looks.found looks.last view slabs turns.looked turns.kept looks.sections) (grows_same turns.looked now (goes_on_kept number turns.looked turns.kept now left turns.ends))
turns_grow number (Finished counts) view slabs now left turns =
    let looks = turns.looks in
    let ends = turns.ends in
    grows_on view turns.looked now (sections_grow number Due looks.found looks.last view slabs turns.looked turns.kept looks.sections) (grows_same turns.looked now (cuts_kept _ ends.moved _ now left ends.cuts ∙ ap kept_of ends.is))

-- and one that there was no memory for
pub lacks_grow : (number : ℕ) (view : View) (slabs : SlabState) (now : View) (left : SlabState) → TurnLacksMemory number view slabs now left → Grows view now
lacks_grow number view slabs now left lacks =
    let reaches = lacks.lacks.does.1 in
    grows_on view lacks.looked now (sections_grow number Due lacks.found lacks.last view slabs lacks.looked lacks.kept lacks.sections)
    (seen_grow (chunk_at_position lacks.move) lacks.lacks.head lacks.looked now
    (reached_grow _ _ _ lacks.kept now left reaches (grows_same reaches.taken now (ap kept_of reaches.does.2.0))))
