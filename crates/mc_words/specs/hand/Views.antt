-- What each call changes of a hand's view: all else stays.
use Rattle.std.specs.Prelude.{ℕ, ◌+◌, List, [], ◌∷◌, ◌++◌, is_some, if◌then◌else◌, replicate, slice_set, Some, None}
use Rattle.mc_pages.specs.declared.ids.ChunkId.{ChunkId}
use Rattle.mc_pages.specs.SlabState.{SlabState, class_of_page}
use Rattle.mc_stripe.specs.StripeState.{ReadyStripe}
use Rattle.mc_core.specs.declared.head.Head.{Head}
use Rattle.mc_core.specs.declared.holding.Holding.{Holding}
use Rattle.mc_core.specs.declared.look.Look.{Look}
use Rattle.mc_core.specs.declared.look.Look.TheVariants.{Read, Saw, SawStripe, Popped, PoppedOff, PutBack, Cleared, Cut, Changed}
use Rattle.mc_core.specs.declared.event.Change.{Change}
use Rattle.mc_core.specs.declared.event.Change.TheVariants as change
use Rattle.mc_core.specs.declared.event.Step.{Step}
use Rattle.mc_core.specs.declared.event.StripeChange.{StripeChange}
use Rattle.mc_core.specs.declared.event.StripeChange.TheVariants.{Reserve, ReserveCall}
use Rattle.mc_core.specs.declared.event.Step.TheVariants as step
use Rattle.mc_core.specs.run.Silent.{slabs_after, stripe_after}
use Rattle.mc_core.specs.past.Past.{SeenWord, Knowledge, begin_hold, end_hold, header, slabs_word, stripe_word}
use Rattle.mc_core.specs.model.Holdings.{is_of_chunk, without_first, change_each}
use Rattle.mc_pages.specs.Changes.{after_pop, after_replace, after_back, after_clear, after_cut}
use Rattle.mc_core.specs.declared.holding.Kind.TheVariants.{Fresh}
use Rattle.mc_core.specs.declared.holding.Purpose.TheVariants.{Copy, Item}
use Rattle.mc_core.specs.model.State.{room_in}
use Rattle.mc_core.specs.run.Chunks.{holding_with_word, head_after_hand_out, with_tag_free, with_tag_out}
use Rattle.mc_words.specs.hand.View.{View, made}

-- the hand made one event more
abbrev pub with_event : List Change → Step → View → View
with_event before step view = record view { events = view.events ++ made before step ∷ [] }

-- the hand knows this
abbrev pub view_with_knowledge : Knowledge → View → View
view_with_knowledge knows view = record view { row = record view.row { knows = knows } }

-- the hand found a word by a look
abbrev pub view_after_sight : SeenWord → View → View
view_after_sight sight view = view_with_knowledge (record view.row.knows { seen_words = view.row.knows.seen_words ++ sight ∷ [] }) view

-- what the hand saw or did under the slabs lock is now this, the oldest first
abbrev pub view_with_looks : List Look → View → View
view_with_looks looks view = record view { row = record view.row { looks = looks } }

-- the hand looked, or changed something, under the slabs lock
abbrev pub view_after_look : Look → View → View
view_after_look look view = view_with_looks (view.row.looks ++ look ∷ []) view

-- the hand looked, which counts under the slabs lock alone
abbrev pub looked_if_held : Look → View → View
looked_if_held look view = view_with_looks (if is_some view.slabs then view.row.looks ++ look ∷ [] else view.row.looks) view

-- the hand's holdings are now these
abbrev pub with_holdings : List Holding → View → View
with_holdings holdings view = record view { row = record view.row { holdings = holdings } }

-- the hand has pages and lists, which are now these
abbrev pub view_with_slabs : SlabState → View → View
view_with_slabs slabs view = record view { slabs = Some slabs }

-- the slabs lock was taken: a hold begins with these pages and lists, and nothing was looked at
abbrev pub slabs_taken : SlabState → View → View
slabs_taken slabs view =
    let hold = view.row.knows.hold in
    with_event [] step.TakeSlabs (view_with_slabs slabs (view_with_looks [] (view_with_knowledge (record view.row.knows { hold = record hold { found = slabs; count = hold.count + 1 } }) view)))

-- the slabs lock was given back: the hold ends with these pages and lists
abbrev pub slabs_given : SlabState → View → View
slabs_given slabs view =
    let hold = view.row.knows.hold in
    with_event [] step.GiveSlabs (record (view_with_knowledge (record view.row.knows { hold = record hold { left = slabs } }) view) { slabs = None })

-- a stripe's lock was taken: a hold begins with this value, and its history is seen
abbrev pub stripe_taken : ℕ → ReadyStripe → View → View
stripe_taken stripe value view =
    let knows = view.row.knows in
    with_event [] (step.TakeStripe stripe)
    (record (view_with_knowledge (record knows { hold = begin_hold stripe value knows.hold; seen = slice_set knows.seen stripe value.state.history }) view) { stripes = slice_set view.stripes stripe (Some value) })

-- a stripe's lock was given back: the hold ends with this value, and its history is seen
abbrev pub stripe_given : ℕ → ReadyStripe → View → View
stripe_given stripe value view =
    let knows = view.row.knows in
    with_event [] (step.GiveStripe stripe)
    (record (view_with_knowledge (record knows { hold = end_hold stripe value knows.hold; seen = slice_set knows.seen stripe value.state.history }) view) { stripes = slice_set view.stripes stripe None })

-- the word of the slabs lock was seen, after these changes
abbrev pub slabs_lock_seen : List Change → ℕ → View → View
slabs_lock_seen before word view = with_event before step.MissSlabs (view_after_sight (slabs_word word) view)

-- the word of a stripe's lock was seen, after these changes
abbrev pub stripe_lock_seen : List Change → ℕ → ℕ → View → View
stripe_lock_seen before stripe word view = with_event before (step.MissStripe stripe) (looked_if_held (SawStripe stripe word) (view_after_sight (stripe_word stripe word) view))

-- the word of the slabs lock was seen, and nothing was changed
abbrev pub slabs_missed : ℕ → View → View
slabs_missed word view = slabs_lock_seen [] word view

-- the word of a stripe's lock was seen, and nothing was changed
abbrev pub stripe_missed : ℕ → ℕ → View → View
stripe_missed stripe word view = stripe_lock_seen [] stripe word view

-- a header was seen
abbrev pub head_seen : ChunkId → Head → View → View
head_seen chunk head view = with_event [] (step.Head chunk) (looked_if_held (Saw chunk head) (view_after_sight (header chunk head) view))

-- a word of a linked chunk was read under the slabs lock
abbrev pub held_word_seen : ChunkId → ℕ → ℕ → View → View
held_word_seen chunk place word view = with_event [] (step.WordHeld chunk place) (view_after_look (Read chunk place word) view)

-- a word of an item was read, to which the hand refers
abbrev pub word_seen : ChunkId → ℕ → View → View
word_seen chunk place view = with_event [] (step.Word chunk place) view

-- key, stamp and length of an item were read so, one after another
abbrev pub fields_seen : ChunkId → View → View
fields_seen chunk view = word_seen chunk 2 (word_seen chunk 1 (word_seen chunk 0 view))

-- a word of a fresh chunk was written
abbrev pub word_filled : ChunkId → ℕ → ℕ → View → View
word_filled chunk place word view = with_event [] (step.Fill chunk place word) (with_holdings (change_each (is_of_chunk chunk) (holding_with_word place word) view.row.holdings) view)

-- the hand's first holding of the chunk was given up
abbrev pub chunk_dropped : ChunkId → View → View
chunk_dropped chunk view = with_holdings (without_first (is_of_chunk chunk) view.row.holdings) view

-- a reference to the chunk was given up
abbrev pub chunk_released : ChunkId → View → View
chunk_released chunk view = with_event [] (step.Release chunk) (chunk_dropped chunk view)

-- a fresh chunk was given up
abbrev pub chunk_discarded : ChunkId → View → View
chunk_discarded chunk view = with_event [] (step.Discard chunk) (chunk_dropped chunk view)

-- the holding of a chunk for an item of the hand's own, with room for n words, of which none is filled yet
abbrev pub fresh_holding : ChunkId → ℕ → ℕ → Holding
fresh_holding chunk issue room = record { chunk = chunk; issue = issue; kind = Fresh Item (replicate room None) }

-- the next free chunk of the class, whose header was this, was handed out
abbrev pub chunk_popped : SlabState → ℕ → ChunkId → Head → View → View
chunk_popped slabs class chunk head view =
    with_event [] (step.Pop class) (view_after_look (Popped chunk (head_after_hand_out head)) (view_with_slabs (after_pop slabs class)
    (with_holdings (view.row.holdings ++ fresh_holding chunk (head.issue + 1) (room_in view.setup.table class) ∷ []) view)))

-- the holding of a chunk for a copy of the item in another one, with room for n words, of which none is filled yet
abbrev pub copy_holding : ChunkId → ChunkId → ℕ → ℕ → Holding
copy_holding old chunk issue room = record { chunk = chunk; issue = issue; kind = Fresh (Copy old) (replicate room None) }

-- a free chunk, whose header was this, was handed out in another one's place, for a copy of its item
abbrev pub chunk_popped_off : SlabState → ChunkId → ChunkId → Head → View → View
chunk_popped_off slabs old chunk head view =
    with_event [] (step.PopOff old) (view_after_look (PoppedOff chunk old (head_after_hand_out head)) (view_with_slabs (after_replace slabs chunk old)
    (with_holdings (view.row.holdings ++ copy_holding old chunk (head.issue + 1) (room_in view.setup.table (class_of_page slabs old.page)) ∷ []) view)))

-- a dead chunk, whose header was this, went to its free list
abbrev pub chunk_put_back : SlabState → ChunkId → Head → View → View
chunk_put_back slabs chunk head view = with_event [] (step.PutBack chunk) (view_after_look (PutBack chunk (with_tag_free head)) (view_with_slabs (after_back slabs chunk) view))

-- a chunk of the moving page, whose header was this, left the list that it was in
abbrev pub chunk_cleared : SlabState → ChunkId → Head → View → View
chunk_cleared slabs chunk head view = with_event [] (step.Clear chunk) (view_after_look (Cleared chunk (with_tag_out head)) (view_with_slabs (after_clear slabs chunk) view))

-- a chunk, whose header was this, was cut
abbrev pub chunk_cut : SlabState → ChunkId → Head → View → View
chunk_cut slabs chunk head view = with_event [] (step.Cut chunk.page chunk.index) (view_after_look (Cut chunk (with_tag_free head)) (view_with_slabs (after_cut slabs chunk) view))

-- the view after the hand changed pages and lists, and recorded the change by a look at the word of their lock
abbrev pub slabs_changed : SlabState → Change → ℕ → View → View
slabs_changed slabs change word view = slabs_lock_seen (change ∷ []) word (view_after_look (Changed change) (view_with_slabs (slabs_after slabs change) view))

-- the view after a stripe changed, and the hand recorded the change by a look at the word of the stripe's lock
abbrev pub stripe_changed : StripeChange → ℕ → ReadyStripe → ℕ → View → View
stripe_changed how stripe value word view = stripe_lock_seen (change.OfStripe stripe how ∷ []) stripe word (record view { stripes = slice_set view.stripes stripe (Some (stripe_after how value)) })

-- the view after the hand made room in a stripe for a call that stores no entry. The hand recorded the change by a look at the lock's word
abbrev pub call_reserved : ℕ → ReadyStripe → ℕ → View → View
call_reserved stripe value word view = stripe_changed ReserveCall stripe value word view

-- the view after the hand made room in a stripe for a call and an entry. The hand recorded the change by a look at the lock's word
abbrev pub stripe_reserved : ℕ → ReadyStripe → ℕ → View → View
stripe_reserved stripe value word view = stripe_changed Reserve stripe value word view
