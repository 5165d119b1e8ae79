-- What a turn leaves of stamps and words, and of the hand's own calls: these have an eviction or a rescue more for each item that was saved.
use Rattle.std.proofs.Common.{◌≡◌, ℕ, ◌+◌, ◌%◌, ◌<◌, Bool, true, false, List, [], ◌∷◌, length, map, Some, refl, sym, ap, subst, ◌∙◌, inl, inr, arith, count_by, All}
use Rattle.std.proofs.lemmas.List.Elements.{All-cons, All-nil}
use Rattle.std.proofs.lemmas.List.Sums.{sum_by-cons}
use Rattle.mc_pages.specs.declared.ids.ChunkId.{ChunkId}
use Rattle.mc_pages.specs.declared.moves.Found.{Found}
use Rattle.mc_pages.specs.declared.moves.Found.TheVariants.{Cleared, Rescued, Evicted, Busy, Locked, Already}
use Rattle.mc_pages.specs.Accounted.{truth}
use Rattle.mc_pages.specs.SlabState.{SlabState}
use Rattle.mc_stripe.specs.Changes.{after_reserve}
use Rattle.mc_stripe.specs.declared.history.Call.{Call}
use Rattle.mc_stripe.specs.declared.history.Call.TheVariants.{Evict, Rescue}
use Rattle.mc_stripe.specs.StripeState.{ReadyStripe, chunk_and_stamp}
use Rattle.mc_core.specs.declared.ids.Ids.{Ids}
use Rattle.mc_core.specs.past.Past.{Own, StoredItem}
use Rattle.mc_words.specs.hand.View.{Setup, View}
use Rattle.mc_words.specs.item.Calls.{with_own_call}
use Rattle.mc_words.specs.item.Removal.{FindsHeld}
use Rattle.mc_words.specs.page.Cuts.{CutsEach}
use Rattle.mc_words.specs.lock.Doing.{HoldsSlabs, SlabsDoing}
use Rattle.mc_words.specs.rule.Happens.{LawfulView}
use Rattle.mc_words.specs.item.Items.{item_with}
use Rattle.mc_words.specs.chunk.Copies.{PassesAll, PopsOff}
use Rattle.mc_words.specs.chunk.Sweeps.{SweepsOne}
use Rattle.mc_mover.specs.declared.counts.Counts.{Counts}
use Rattle.mc_mover.specs.declared.counts.Turn.{Turn}
use Rattle.mc_mover.specs.declared.counts.Turn.TheVariants.{Idle, Went, Finished}
use Rattle.mc_mover.specs.declared.sweep.Sweep.{Sweep}
use Rattle.mc_mover.specs.declared.sweep.Sweep.TheVariants.{Due}
use Rattle.mc_mover.specs.Saving.{BothDoing, Evicts, FailsToEvict, FailsToMove, FailsToRescue, Rescues, SweepsToEvict, SweepsToRescue}
use Rattle.mc_mover.specs.Linked.{HoldsUp, ReachesStripe, SavesAndClears, SavesAs, SavesWith, StripeDoing}
use Rattle.mc_mover.specs.Visiting.{Visits}
use Rattle.mc_mover.specs.Turning.{GoesOn, Finishes, TurnLacksMemory, Section, Sections, Turns, counts_with_found, counts_with_all, no_counts}
use Rattle.mc_mover.specs.Telling.{IsSaving, RecordsAsCounted, RecordsFewer, called_key, counts_in, is_eviction, is_rescue, with_own_calls}
use Rattle.mc_mover.proofs.Copied.{copied_keeps}
use Rattle.mc_mover.proofs.HoldsSlabs.{wait_keeps}
use Rattle.mc_mover.proofs.Kept.{finds_keep, passes_keep, swept_keep, to_evict_keeps, to_rescue_keeps}
use Rattle.mc_mover.proofs.Moved.{key_copied}
use Rattle.mc_mover.proofs.OwnCalls.{calls_more}

-- the arena, the stamps, what was said, and the own calls
abbrev Told : Type 0
Told = Setup × Ids × List StoredItem × List Own

abbrev told_of : View → Told
told_of view = (view.setup, view.row.ids, view.row.knows.stored, view.row.knows.mine)

-- with a call more
abbrev told_call : ℕ → ℕ → Call → Told → Told
told_call number stripe call told = (told.0, told.1, told.2, map (with_own_call number stripe call) told.3)

-- with these more
abbrev told_calls : ℕ → List Call → Told → Told
told_calls number calls told = (told.0, told.1, told.2, with_own_calls number told.0.config.stripes calls told.3)

-- what only looks leaves all that
swept_told : (chunk : ChunkId) (view : View) (slabs : SlabState) (now : View) (left : SlabState) → SweepsOne chunk view slabs now left → told_of now ≡ told_of view
swept_told chunk view slabs now left sweeps = swept_keep told_of (λ one v. refl) (λ chunk one v. refl) (λ slabs chunk one v. refl) chunk view slabs now left sweeps

-- a sweep does so, too
abbrev LeavesTold : SlabsDoing → Type 0
LeavesTold Swept = (view : View) (slabs : SlabState) (now : View) (left : SlabState) → Swept view slabs now left → told_of now ≡ told_of view

to_evict_told : (class : ℕ) (chunk : ChunkId) (sweep : Sweep) → LeavesTold (SweepsToEvict class chunk sweep)
to_evict_told class chunk sweep view slabs now left sweeps = to_evict_keeps told_of (λ one v. refl) (λ chunk one v. refl) (λ slabs chunk one v. refl) class chunk sweep view slabs now left sweeps

to_rescue_told : (class : ℕ) (chunk : ChunkId) (sweep : Sweep) → LeavesTold (SweepsToRescue class chunk sweep)
to_rescue_told class chunk sweep view slabs now left sweeps = to_rescue_keeps told_of (λ one v. refl) (λ chunk one v. refl) (λ slabs chunk one v. refl) class chunk sweep view slabs now left sweeps

passes_told : (page : ℕ) (chunks : List ChunkId) (view now : View) → PassesAll page chunks view now → told_of now ≡ told_of view
passes_told page chunks view now passes = passes_keep told_of (λ one v. refl) (λ chunk one v. refl) page chunks view now passes

finds_told : (chunk : ChunkId) (view now : View) → FindsHeld view chunk now → told_of now ≡ told_of view
finds_told chunk view now finds = finds_keep told_of (λ one v. refl) (λ chunk one v. refl) chunk view now finds

pops_told : (view : View) (slabs : SlabState) (old chunk : ChunkId) (now : View) → PopsOff view slabs old chunk now → told_of now ≡ told_of view
pops_told view slabs old chunk now pops = ap told_of pops.is ∙ (ap told_of pops.finds.fit.is ∙ passes_told old.page pops.finds.before view pops.finds.passed pops.finds.passes)

-- a call on a key that leads somewhere was told
abbrev TellsKey : ℕ → ℕ → (ℕ → Call) → ReadyStripe → View → View → Type 0
TellsKey number stripe call value view now = (key : ℕ) × (place : ChunkId × ℕ) × (chunk_and_stamp value.state key ≡ Some place) × (told_of now ≡ told_call number stripe (call key) (told_of view))

evicts_tell : (number stripe : ℕ) (chunk : ChunkId) (slabs : SlabState) (value : ReadyStripe) (view : View) (kept : SlabState) (left : ReadyStripe) (now : View)
    → Evicts number stripe chunk slabs value view kept left now → TellsKey number stripe (λ key. Evict number key) value view now
evicts_tell number stripe chunk slabs value view kept left now evicts =
    let took = evicts.condemns in (
      took.key,
      (chunk, took.stamp),
      took.led,
      ap told_of took.is ∙ ap (told_call number stripe (Evict number took.key)) (passes_told chunk.page _ view evicts.passed evicts.passes),
    )

rescues_tell : (number stripe : ℕ) (chunk : ChunkId) (slabs : SlabState) (value : ReadyStripe) (view : View) (kept : SlabState) (left : ReadyStripe) (now : View)
    → Rescues number stripe chunk slabs value view kept left now → TellsKey number stripe (λ key. Rescue number key) value view now
rescues_tell number stripe chunk slabs value view kept left now rescues =
    let moves = rescues.moves in
    let took = moves.condemns in
    let copies = moves.copies in
    let read = key_copied chunk rescues.copy moves.key moves.stamp copies.words rescues.popped moves.filled copies.is in
    let same : took.key ≡ moves.key = one (sym took.is_key ∙ read) in
    let filled : told_of moves.filled ≡ told_of rescues.popped =
    ap told_of copies.is ∙ copied_keeps chunk rescues.copy told_of (λ place word v. refl) 0 (item_with moves.key moves.stamp copies.words) rescues.popped in (
      moves.key,
      (chunk, took.stamp),
      ap (λ k. chunk_and_stamp value.state k) (sym same) ∙ took.led,
      ap told_of moves.is ∙ ap (told_call number stripe (Rescue number moves.key)) (ap told_of took.is ∙ (filled ∙ pops_told view slabs chunk rescues.copy rescues.popped rescues.pops)),
    )
  where
    one : {a b : ℕ} → Some a ≡ Some b → a ≡ b
    one e = cc

fails_told : (chunk copy : ChunkId) (view now : View) → FailsToMove chunk copy view now → told_of now ≡ told_of view
fails_told chunk copy view now fails =
    ap told_of fails.dropped
    ∙ (finds_told chunk fails.filled fails.found fails.finds
    ∙ (ap told_of fails.copies.is ∙ copied_keeps chunk copy told_of (λ place word v. refl) 0 (item_with fails.key fails.stamp fails.copies.words) view))

-- under the stripe's lock, behind a sweep
saves_tell : (number stripe : ℕ) (Swept : SlabsDoing) → LeavesTold Swept → (Does : ℕ → BothDoing) (call : ℕ → Call) → ((slabs : SlabState) (value : ReadyStripe) (view : View) (kept : SlabState) (left : ReadyStripe) (now : View) → Does stripe slabs value view kept left now → TellsKey number stripe call value view now)
    → (value : ReadyStripe) (taken : View) (slabs : SlabState) (now : View) (left : SlabState) → SavesWith number Swept Does stripe value taken slabs now left → TellsKey number stripe call value taken now
saves_tell number stripe Swept leaves Does call each value taken slabs now left saves =
    let sweeping = saves.does in
    let (key, place, led, tells) = each sweeping.between (after_reserve value) sweeping.swept left saves.left saves.last sweeping.does in
    (key, place, led, ap told_of saves.given ∙ (tells ∙ ap (told_call number stripe (call key)) (leaves _ slabs sweeping.swept sweeping.between sweeping.sweeps)))

saves_quiet : (number stripe : ℕ) (Swept : SlabsDoing) → LeavesTold Swept → (Does : ℕ → BothDoing) → ((slabs : SlabState) (value : ReadyStripe) (view : View) (kept : SlabState) (left : ReadyStripe) (now : View) → Does stripe slabs value view kept left now → told_of now ≡ told_of view)
    → (value : ReadyStripe) (taken : View) (slabs : SlabState) (now : View) (left : SlabState) → SavesWith number Swept Does stripe value taken slabs now left → told_of now ≡ told_of taken
saves_quiet number stripe Swept leaves Does each value taken slabs now left saves =
    let sweeping = saves.does in
    ap told_of saves.given
    ∙ (each sweeping.between (after_reserve value) sweeping.swept left saves.left saves.last sweeping.does ∙ leaves _ slabs sweeping.swept sweeping.between sweeping.sweeps)

held_quiet : (number class : ℕ) (chunk : ChunkId) (sweep : Sweep) (stripe : ℕ) (value : ReadyStripe) (taken : View) (slabs : SlabState) (now : View) (left : SlabState) → SavesAs number class chunk sweep Busy stripe value taken slabs now left → told_of now ≡ told_of taken
held_quiet number class chunk sweep stripe value taken slabs now left (inl saves) =
    saves_quiet number stripe (SweepsToEvict class chunk sweep) (to_evict_told class chunk sweep) (λ stripe. FailsToEvict chunk)
    (λ slabs value view kept left now fails. finds_told chunk fails.passed now fails.finds ∙ passes_told chunk.page _ view fails.passed fails.passes) value taken slabs now left saves
held_quiet number class chunk sweep stripe value taken slabs now left (inr gives) =
    swept_told gives.copy gives.failed gives.kept now left gives.puts
    ∙ saves_quiet number stripe (SweepsToRescue class chunk sweep) (to_rescue_told class chunk sweep) (λ stripe. FailsToRescue chunk gives.copy)
    (λ slabs value view kept left now fails. fails_told chunk gives.copy fails.popped now fails.fails ∙ pops_told view slabs chunk gives.copy fails.popped fails.pops) value taken slabs gives.failed gives.kept gives.fails

-- the stripe was reached
module _ (chunk : ChunkId) (Does : ℕ → StripeDoing) (view : View) (slabs : SlabState) (now : View) (left : SlabState) (reaches : ReachesStripe chunk Does view slabs now left) where
  taken_told : told_of reaches.taken ≡ told_of view
  taken_told = ap told_of reaches.is_taken ∙ ap told_of reaches.reads.1

  -- and the call is on a key of it
  reaches_tell : (number : ℕ) (call : ℕ → Call) → ((key : ℕ) → called_key (call key) ≡ key) → TellsKey number (reaches.key % view.setup.config.stripes) call reaches.value reaches.taken now
      → (key : ℕ) × (told_of now ≡ told_calls number (call key ∷ []) (told_of view))
  reaches_tell number call of (key, place, led, tells) =
      let here : key % reaches.taken.setup.config.stripes ≡ reaches.key % view.setup.config.stripes = reaches.lent.keys key place led in
      let at : reaches.key % view.setup.config.stripes ≡ called_key (call key) % view.setup.config.stripes = sym here ∙ (λ k. sym (of key) k % (taken_told k).0.config.stripes) in
      (key, tells ∙ (λ k. told_call number (at k) (call key) (taken_told k)))

-- the calls on a chunk's key, by what was found
abbrev calls_for : ℕ → Found → ℕ → List Call
calls_for number Evicted key = Evict number key ∷ []
calls_for number Rescued key = Rescue number key ∷ []
calls_for number Cleared key = []
calls_for number Busy key = []
calls_for number Locked key = []
calls_for number Already key = []

abbrev TellsFound : ℕ → Found → View → View → Type 0
TellsFound number found view now = (key : ℕ) × (told_of now ≡ told_calls number (calls_for number found key) (told_of view))

rescued_tells : (number class : ℕ) (chunk : ChunkId) (sweep : Sweep) (view : View) (slabs : SlabState) (now : View) (left : SlabState) → SavesAndClears number class chunk sweep Rescued view slabs now left → TellsFound number Rescued view now
rescued_tells number class chunk sweep view slabs now left saves =
    let reaches = saves.reaches in
    let (key, tells) = reaches_tell chunk (λ key. SavesAs number class chunk sweep Rescued) view slabs saves.saved saves.kept reaches number (λ key. Rescue number key) (λ key. refl)
    (saves_tell number _ (SweepsToRescue class chunk sweep) (to_rescue_told class chunk sweep) (λ stripe. Rescues number stripe chunk) (λ key. Rescue number key) (rescues_tell number _ chunk) reaches.value reaches.taken slabs saves.saved saves.kept reaches.does) in
    (key, ap told_of saves.clears.is ∙ tells)

evicted_tells : (number class : ℕ) (chunk : ChunkId) (sweep : Sweep) (view : View) (slabs : SlabState) (now : View) (left : SlabState) → SavesAndClears number class chunk sweep Evicted view slabs now left → TellsFound number Evicted view now
evicted_tells number class chunk sweep view slabs now left saves =
    let reaches = saves.reaches in
    let (key, tells) = reaches_tell chunk (λ key. SavesAs number class chunk sweep Evicted) view slabs saves.saved saves.kept reaches number (λ key. Evict number key) (λ key. refl)
    (saves_tell number _ (SweepsToEvict class chunk sweep) (to_evict_told class chunk sweep) (λ stripe. Evicts number stripe chunk) (λ key. Evict number key) (evicts_tell number _ chunk) reaches.value reaches.taken slabs saves.saved saves.kept reaches.does) in
    (key, ap told_of saves.clears.is ∙ tells)

holds_told : (number class : ℕ) (chunk : ChunkId) (sweep : Sweep) (unheld : Bool) (next : Sweep) (view : View) (slabs : SlabState) (now : View) (left : SlabState) → HoldsUp number class chunk sweep unheld next view slabs now left → told_of now ≡ told_of view
holds_told number class chunk sweep false next view slabs now left (reaches, then) = ap told_of reaches.does.0 ∙ taken_told chunk _ view slabs now left reaches
holds_told number class chunk sweep true next view slabs now left (inl (reaches, then)) = ap told_of reaches.does.1.0 ∙ taken_told chunk _ view slabs now left reaches
holds_told number class chunk sweep true next view slabs now left (inr (reaches, then)) =
    held_quiet number class chunk sweep _ reaches.value reaches.taken slabs now left reaches.does ∙ taken_told chunk _ view slabs now left reaches

visit_tells : (number class : ℕ) (chunk : ChunkId) (sweep : Sweep) (found : Found) (next : Sweep) (view : View) (slabs : SlabState) (now : View) (left : SlabState) → Visits number class chunk sweep found next view slabs now left → TellsFound number found view now
visit_tells number class chunk sweep Already next view slabs now left (sees, same, then) = (0, ap told_of sees.is)
visit_tells number class chunk sweep Cleared next view slabs now left (clears, then) = (0, ap told_of clears.clears.is ∙ ap told_of clears.sees.is)
visit_tells number class chunk sweep Rescued next view slabs now left sees = rescued_tells number class chunk sweep _ slabs now left sees.does.1
visit_tells number class chunk sweep Evicted next view slabs now left sees = evicted_tells number class chunk sweep _ slabs now left sees.does.1
visit_tells number class chunk sweep Busy next view slabs now left (inl (finds, same, then)) = (0, ap told_of finds.other.is ∙ ap told_of finds.sees.is)
visit_tells number class chunk sweep Busy next view slabs now left (inr sees) = (0, holds_told number class chunk sweep _ next _ slabs now left sees.does)
visit_tells number class chunk sweep Locked next view slabs now left sees = let (finds, same, then) = sees.does in (0, ap told_of finds.is ∙ ap told_of finds.reads.1)

section_tells : (number : ℕ) (sweep : Sweep) (found : Found) (next : Sweep) (view : View) (slabs : SlabState) (now : View) (left : SlabState) → Section number sweep found next view slabs now left → TellsFound number found view now
section_tells number sweep found next view slabs now left section =
    let (key, tells) = visit_tells number section.move.src _ sweep found next view slabs section.visited section.kept section.visits in
    (key, ap told_of section.is ∙ tells)

-- what was told of all that was found
record TellsAll (number : ℕ) (found : List Found) (view now : View) : Type 0 where
  pub calls : List Call
  pub own : All (IsSaving number) calls
  pub evicted : (counts : Counts) → (counts_with_all found counts).evicted ≡ counts.evicted + count_by is_eviction calls
  pub rescued : (counts : Counts) → (counts_with_all found counts).rescued ≡ counts.rescued + count_by is_rescue calls
  pub come : told_of now ≡ told_calls number calls (told_of view)

-- what was found first, which tells of nothing
quiet_first : (number : ℕ) (first : Found) (found : List Found) (view next now : View) → ((counts : Counts) → (counts_with_found first counts).evicted ≡ counts.evicted) → ((counts : Counts) → (counts_with_found first counts).rescued ≡ counts.rescued)
    → told_of next ≡ told_of view → TellsAll number found next now → TellsAll number (first ∷ found) view now
quiet_first number first found view next now no_eviction no_rescue same rest = record {
  calls = rest.calls;
  own = rest.own;
  evicted = λ counts. rest.evicted (counts_with_found first counts) ∙ ap (λ n. n + count_by is_eviction rest.calls) (no_eviction counts);
  rescued = λ counts. rest.rescued (counts_with_found first counts) ∙ ap (λ n. n + count_by is_rescue rest.calls) (no_rescue counts);
  come = rest.come ∙ ap (told_calls number rest.calls) same;
}

-- a call that isn't counted
count_other : (is : Call → Bool) (call : Call) (calls : List Call) → is call ≡ false → count_by is (call ∷ calls) ≡ count_by is calls
count_other is call calls other =
    let count : count_by is (call ∷ calls) ≡ truth (is call) + count_by is calls = sum_by-cons (λ (c : Call). truth (is c)) call calls in
    let none : truth (is call) ≡ 0 = ap truth other in
    omega (arith, count, none)

found_first : (number : ℕ) (first : Found) (found : List Found) (view next now : View) → TellsFound number first view next → TellsAll number found next now → TellsAll number (first ∷ found) view now
found_first number Evicted found view next now (key, tells) rest = record {
  calls = Evict number key ∷ rest.calls;
  own = All-cons (IsSaving number) (Evict number key) rest.calls refl rest.own;
  evicted = λ counts.
      let more = rest.evicted (counts_with_found Evicted counts) in
      let count : count_by is_eviction (Evict number key ∷ rest.calls) ≡ 1 + count_by is_eviction rest.calls = sum_by-cons (λ (call : Call). truth (is_eviction call)) (Evict number key) rest.calls in
      omega (arith, more, count);
  rescued = λ counts. rest.rescued (counts_with_found Evicted counts) ∙ ap (λ n. counts.rescued + n) (sym (count_other is_rescue (Evict number key) rest.calls refl));
  come = rest.come ∙ ap (told_calls number rest.calls) tells;
}
found_first number Rescued found view next now (key, tells) rest = record {
  calls = Rescue number key ∷ rest.calls;
  own = All-cons (IsSaving number) (Rescue number key) rest.calls refl rest.own;
  evicted = λ counts. rest.evicted (counts_with_found Rescued counts) ∙ ap (λ n. counts.evicted + n) (sym (count_other is_eviction (Rescue number key) rest.calls refl));
  rescued = λ counts.
      let more = rest.rescued (counts_with_found Rescued counts) in
      let count : count_by is_rescue (Rescue number key ∷ rest.calls) ≡ 1 + count_by is_rescue rest.calls = sum_by-cons (λ (call : Call). truth (is_rescue call)) (Rescue number key) rest.calls in
      omega (arith, more, count);
  come = rest.come ∙ ap (told_calls number rest.calls) tells;
}
found_first number Cleared found view next now (key, tells) rest = quiet_first number Cleared found view next now (λ counts. refl) (λ counts. refl) tells rest
found_first number Busy found view next now (key, tells) rest = quiet_first number Busy found view next now (λ counts. refl) (λ counts. refl) tells rest
found_first number Locked found view next now (key, tells) rest = quiet_first number Locked found view next now (λ counts. refl) (λ counts. refl) tells rest
found_first number Already found view next now (key, tells) rest = quiet_first number Already found view next now (λ counts. refl) (λ counts. refl) tells rest

sections_tell : (number : ℕ) (sweep : Sweep) (found : List Found) (last : Sweep) (view : View) (slabs : SlabState) (now : View) (left : SlabState) → Sections number sweep found last view slabs now left → TellsAll number found view now
sections_tell number sweep [] last view slabs now left (same, is, then) = record {
  calls = [];
  own = All-nil (IsSaving number);
  evicted = λ counts. omega arith;
  rescued = λ counts. omega arith;
  come = ap told_of same;
}
sections_tell number sweep (first ∷ found) last view slabs now left (next, between, then, section, rest) =
    found_first number first found view next now (section_tells number sweep first then view slabs next between section) (sections_tell number then found last next between now left rest)

cuts_told : (chunks : List ChunkId) (view : View) (slabs : SlabState) (now : View) (left : SlabState) → CutsEach chunks view slabs now left → told_of now ≡ told_of view
cuts_told [] view slabs now left (same, is) = ap told_of same
cuts_told (chunk ∷ chunks) view slabs now left (next, cuts, rest) = cuts_told chunks next _ now left rest ∙ ap told_of cuts.is

goes_on_told : (number : ℕ) (view : View) (slabs : SlabState) (now : View) (left : SlabState) → GoesOn number view slabs now left → told_of now ≡ told_of view
goes_on_told number view slabs now left (inl (move, runs, within, same, is)) = ap told_of same
goes_on_told number view slabs now left (inr (move, at_end, busy, happens, same, is)) = ap told_of same

finishes_told : (number : ℕ) (view : View) (slabs : SlabState) (now : View) (left : SlabState) → Finishes number view slabs now left → told_of now ≡ told_of view
finishes_told number view slabs now left finishes = cuts_told _ finishes.moved _ now left finishes.cuts ∙ ap told_of finishes.is

-- what was told under one hold of the slabs' lock, and of what was found, as the hand knows it afterwards
module _ (number : ℕ) (view : View) (was : LawfulView view) (own : view.row.ids.number ≡ Some number) (now taken last : View) (before : told_of taken ≡ told_of view) (after : told_of now ≡ told_of last) where
  tells_found : (found : List Found) (looked : View) → TellsAll number found taken looked → told_of last ≡ told_of looked → (counts : Counts) → counts ≡ counts_with_all found no_counts → RecordsAsCounted number counts view now
  tells_found found looked tells ends counts are =
      let all : told_of now ≡ told_calls number tells.calls (told_of view) = after ∙ (ends ∙ (tells.come ∙ ap (told_calls number tells.calls) before)) in
      let come = ap (λ (t : Told). t.3) all in record {
        calls = tells.calls;
        own = tells.own;
        evicted = let count = tells.evicted no_counts in let is = ap (λ (c : Counts). c.evicted) are in omega (arith, count, is);
        rescued = let count = tells.rescued no_counts in let is = ap (λ (c : Counts). c.rescued) are in omega (arith, count, is);
        come = come;
        more = calls_more view now was number own tells.calls come;
        stored = ap (λ (t : Told). t.2) all;
        ids = ap (λ (t : Told). t.1) all;
      }

  tells_turn : (turn : Turn) (slabs left : SlabState) → Turns number turn taken slabs last left → RecordsAsCounted number (counts_in turn) view now
  tells_turn Idle slabs left (none, same, is) = tells_found [] taken (sections_tell number Due [] Due taken slabs taken slabs (refl, refl, refl)) (ap told_of same) no_counts refl
  tells_turn (Went counts) slabs left turns =
      let looks = turns.looks in
      tells_found looks.found turns.looked (sections_tell number Due looks.found looks.last taken slabs turns.looked turns.kept looks.sections) (goes_on_told number turns.looked turns.kept last left turns.ends) counts looks.counts_are
  tells_turn (Finished counts) slabs left turns =
      let looks = turns.looks in
      tells_found looks.found turns.looked (sections_tell number Due looks.found looks.last taken slabs turns.looked turns.kept looks.sections) (finishes_told number turns.looked turns.kept last left turns.ends) counts looks.counts_are

  tells_fewer : (slabs left : SlabState) → TurnLacksMemory number taken slabs last left → RecordsFewer number view now
  tells_fewer slabs left lacks =
      let within_limit : length lacks.found < view.setup.config.bulk = subst (λ (t : Told). length lacks.found < t.0.config.bulk) before lacks.within_limit in
      let given : told_of last ≡ told_of lacks.looked = ap told_of lacks.lacks.does.1.does.2.0 ∙ taken_told _ _ _ lacks.kept last left lacks.lacks.does.1 in
      (lacks.found, within_limit, tells_found lacks.found lacks.looked (sections_tell number Due lacks.found lacks.last taken slabs lacks.looked lacks.kept lacks.sections) given (counts_with_all lacks.found no_counts) refl)

-- a turn tells as many evictions and rescues as it counts
pub turn_told : (number : ℕ) (turn : Turn) (view now : View) → LawfulView view → view.row.ids.number ≡ Some number → HoldsSlabs (Turns number turn) view now → RecordsAsCounted number (counts_in turn) view now
turn_told number turn view now was own holds =
    tells_turn number view was own now holds.taken holds.last (wait_keeps told_of (λ word v. refl) (λ slabs v. refl) view holds.found holds.taken holds.waits) (ap told_of holds.given) turn holds.found holds.left holds.does

pub fewer_told : (number : ℕ) (view now : View) → LawfulView view → view.row.ids.number ≡ Some number → HoldsSlabs (TurnLacksMemory number) view now → RecordsFewer number view now
fewer_told number view now was own holds =
    tells_fewer number view was own now holds.taken holds.last (wait_keeps told_of (λ word v. refl) (λ slabs v. refl) view holds.found holds.taken holds.waits) (ap told_of holds.given) holds.found holds.left holds.does
