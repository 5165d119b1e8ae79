-- Visits of a class's oldest chunks: what they leave of what the hand has, and which deletes came among its calls.
use Rattle.std.proofs.Common.{◌≡◌, ◌≤◌, ℕ, ◌+◌, ◌%◌, ◌==◌, ◌&&◌, ◌||◌, Contains, slice_get, Bool, true, false, is_some, if◌then◌else◌, List, [], ◌∷◌, ◌++◌, length, map, Some, None, refl, sym, ap, subst, ◌∙◌, inl, inr, arith}
use Rattle.std.proofs.lemmas.List.{length-append}
use Rattle.std.proofs.lemmas.List.Elements.{Contains-append_left, Contains-push}
use Rattle.std.proofs.lemmas.List.Sums.{fold-append}
use Rattle.std.specs.List.{fold}
use Rattle.mc_pages.specs.declared.ids.ChunkId.{ChunkId}
use Rattle.mc_pages.specs.ClassState.{is_chunk}
use Rattle.mc_pages.specs.SlabState.{SlabState}
use Rattle.mc_pages.proofs.Chunks.{is_chunk-same}
use Rattle.mc_stripe.specs.declared.history.Call.TheVariants.{Delete}
use Rattle.mc_stripe.specs.StripeState.{ReadyStripe, chunk_and_stamp}
use Rattle.mc_core.specs.declared.event.Step.TheVariants as step
use Rattle.mc_core.specs.declared.head.Head.{Head}
use Rattle.mc_core.specs.declared.look.Look.{Look}
use Rattle.mc_core.specs.declared.look.Look.TheVariants.{Read, SawStripe}
use Rattle.mc_core.specs.run.Evictions.{is_linked_unheld}
use Rattle.mc_core.specs.run.Silent.{is_among}
use Rattle.mc_core.specs.law.Seen.{last_read}
use Rattle.mc_core.specs.past.Past.{Own}
use Rattle.mc_words.specs.hand.View.{View}
use Rattle.mc_words.specs.hand.Views.{call_reserved, head_seen, stripe_given, stripe_taken}
use Rattle.mc_words.specs.item.Calls.{with_own_call}
use Rattle.mc_words.specs.item.Removal.{key_read, key_seen}
use Rattle.mc_words.specs.lock.Doing.{UsesRoomForCall}
use Rattle.mc_words.specs.lock.Lent.{BeginsWithSeen, IsLentStripe}
use Rattle.mc_words.specs.rule.Happens.{Happens}
use Rattle.mc_items.specs.declared.visiting.Visit.{Visit}
use Rattle.mc_items.specs.declared.visiting.Visit.TheVariants.{Passed, Dead, Evicted, EvictedHeld}
use Rattle.mc_items.specs.Calls.{Deletes}
use Rattle.mc_items.specs.Visiting.{EndsUnlinked, FindsNewer, LacksCallAtOldest, EndsVisits, LeadsElsewhere, PutsBackOrPasses, RecordsDeletes, SparesItem, Unlinks, UnlinksAtOnce, VisitsChunk, VisitsEach, VisitsFirst, VisitsOldest, evicted_by, evicted_count, freed_by, freed_count, room_items, room_tries, with_deletes}
use Rattle.mc_items.proofs.Passes.{OwnTuple, lacks_spares, own_of, passed_spares, reach_spares, sees_spares}

-- the key of a chunk that was read stays known where room is made in a stripe
pub key_still : (view made : View) (stripe word : ℕ) (value : ReadyStripe) (chunk : ChunkId) (key : ℕ) → made ≡ call_reserved stripe value word view → key_read view chunk ≡ Some key → key_read made chunk ≡ Some key
key_still view made stripe word value chunk key is read = ap (λ (v : View). key_read v chunk) is ∙ by (is_some view.slabs)
  where
    by : (held : Bool) → fold (last_read chunk 0) None (if held then view.row.looks ++ SawStripe stripe word ∷ [] else view.row.looks) ≡ Some key
    by true = fold-append (last_read chunk 0) None view.row.looks (SawStripe stripe word ∷ []) ∙ read
    by false = read

-- the key that led to the chunk was deleted, from the parts of the call
pub unlinked_so : (number stripe : ℕ) (value : ReadyStripe) (chunk : ChunkId) (key stamp : ℕ) (view now : View) → key_read view chunk ≡ Some key → chunk_and_stamp value.state key ≡ Some (chunk, stamp) → UsesRoomForCall number stripe value (Deletes number stripe key true) view now
    → UsesRoomForCall number stripe value (Unlinks number stripe chunk) view now
unlinked_so number stripe value chunk key stamp view now read led done = record {
  left = done.left;
  last = done.last;
  does = record { key = key; is_key = key_still view (call_reserved stripe value (number + 1) view) stripe (number + 1) value chunk key refl read; stamp = stamp; led = led; deletes = done.does };
  given = done.given;
}

-- the hand has the chunks, the words said, the numbers and what it knew, and of its own calls came n deletes
pub record Deletions (number count : ℕ) (view now : View) : Type 0 where
  pub holdings : now.row.holdings ≡ view.row.holdings
  pub stored : now.row.knows.stored ≡ view.row.knows.stored
  pub ids : now.row.ids ≡ view.row.ids
  pub known : now.row.knows.known ≡ view.row.knows.known
  pub calls : RecordsDeletes number count view now

-- it did nothing
pub deletes_none : (number : ℕ) (view now : View) → own_of now ≡ own_of view → Deletions number 0 view now
deletes_none number view now own = record {
  holdings = ap (λ (o : OwnTuple). o.0) own;
  stored = ap (λ (o : OwnTuple). o.1) own;
  ids = ap (λ (o : OwnTuple). o.2) own;
  known = ap (λ (o : OwnTuple). o.4) own;
  calls = record { places = []; as_many = refl; recorded = ap (λ (o : OwnTuple). o.3) own };
}

deletes_append : (number : ℕ) (later before : List (ℕ × ℕ)) (calls : List Own) → with_deletes number (later ++ before) calls ≡ with_deletes number later (with_deletes number before calls)
deletes_append number [] before calls = refl
deletes_append number (place ∷ later) before calls = ap (λ (own : List Own). map (with_own_call number place.0 (Delete number place.1 true)) own) (deletes_append number later before calls)

-- the one, and then the other
pub deletes_both : (number first second : ℕ) (view next now : View) → Deletions number first view next → Deletions number second next now → Deletions number (first + second) view now
deletes_both number first second view next now a b = record {
  holdings = b.holdings ∙ a.holdings;
  stored = b.stored ∙ a.stored;
  ids = b.ids ∙ a.ids;
  known = b.known ∙ a.known;
  calls = record {
    places = b.calls.places ++ a.calls.places;
    as_many = let both = length-append b.calls.places a.calls.places in let one = a.calls.as_many in let other = b.calls.as_many in omega arith;
    recorded = b.calls.recorded ∙ (ap (with_deletes number b.calls.places) a.calls.recorded ∙ sym (deletes_append number b.calls.places a.calls.places view.row.knows.mine));
  };
}

-- nothing before it, and nothing behind it
pub deletes_after : (number count : ℕ) (view next now : View) → own_of next ≡ own_of view → Deletions number count next now → Deletions number count view now
deletes_after number count view next now own rest = subst (λ n. Deletions number n view now) (let sum : 0 + count ≡ count = omega arith in sum) (deletes_both number 0 count view next now (deletes_none number view next own) rest)

pub deletes_before : (number count : ℕ) (view next now : View) → Deletions number count view next → own_of now ≡ own_of next → Deletions number count view now
deletes_before number count view next now first own = subst (λ n. Deletions number n view now) (let sum : count + 0 ≡ count = omega arith in sum) (deletes_both number count 0 view next now first (deletes_none number next now own))

-- a key was deleted in its stripe
unlinked_done : (number stripe : ℕ) (chunk : ChunkId) (value : ReadyStripe) (view now : View) → UsesRoomForCall number stripe value (Unlinks number stripe chunk) view now → Deletions number 1 view now
unlinked_done number stripe chunk value view now done =
    let is = done.does.deletes.1 in record {
      holdings = ap (λ (v : View). v.row.holdings) done.given ∙ ap (λ (v : View). v.row.holdings) is;
      stored = ap (λ (v : View). v.row.knows.stored) done.given ∙ ap (λ (v : View). v.row.knows.stored) is;
      ids = ap (λ (v : View). v.row.ids) done.given ∙ ap (λ (v : View). v.row.ids) is;
      known = ap (λ (v : View). v.row.knows.known) done.given ∙ ap (λ (v : View). v.row.knows.known) is;
      calls = record { places = (stripe, done.does.key) ∷ []; as_many = refl; recorded = ap (λ (v : View). v.row.knows.mine) done.given ∙ ap (λ (v : View). v.row.knows.mine) is };
    }

pub unlinks_delete : (number : ℕ) (chunk : ChunkId) (view now : View) → UnlinksAtOnce number chunk view now → Deletions number 1 view now
unlinks_delete number chunk view now reaches =
    deletes_after number 1 view reaches.taken now (reach_spares number chunk (λ number stripe. Unlinks number stripe chunk) view now reaches).own
    (unlinked_done number (reaches.key % view.setup.config.stripes) chunk reaches.value reaches.taken now reaches.done)

-- an item that stayed left all of this
pub spared_own : (chunk : ChunkId) (view now : View) → SparesItem chunk view now → own_of now ≡ own_of view
spared_own chunk view now (inl sees) = (sees_spares chunk _ view now sees).own
spared_own chunk view now (inr (inl reads)) = ap own_of reads.is
spared_own chunk view now (inr (inr (inl misses))) = (passed_spares 0 chunk view now (inr (inl misses))).own
spared_own chunk view now (inr (inr (inr newer))) = ap own_of newer.given ∙ ap own_of newer.is_taken

-- so did what came behind it
ends_own : (number class : ℕ) (visit : Visit) (chunk : ChunkId) (view : View) (slabs : SlabState) (now : View) (left : SlabState) → EndsUnlinked number class visit chunk view slabs now left → (own_of now ≡ own_of view) × (evicted_by visit ≡ 1) × (left.uncut ≡ slabs.uncut)
ends_own number class Passed chunk view slabs now left ends = absurd ends
ends_own number class Dead chunk view slabs now left ends = absurd ends
ends_own number class Evicted chunk view slabs now left (counted, counts, (back, is)) = (ap own_of back.is ∙ ap own_of counts.is, refl, ap (λ (s : SlabState). s.uncut) is)
ends_own number class EvictedHeld chunk view slabs now left (counted, counts, alive, is) = ((sees_spares chunk _ counted now alive).own ∙ ap own_of counts.is, refl, ap (λ (s : SlabState). s.uncut) is)

passes_own : (number : ℕ) (visit : Visit) (chunk : ChunkId) (view : View) (slabs : SlabState) (now : View) (left : SlabState) → PutsBackOrPasses number visit chunk view slabs now left → (own_of now ≡ own_of view) × (evicted_by visit ≡ 0) × (left.uncut ≡ slabs.uncut)
passes_own number Passed chunk view slabs now left (seen, alive, (is, bumped)) = (ap own_of bumped ∙ (sees_spares chunk _ view seen alive).own, refl, ap (λ (s : SlabState). s.uncut) is)
passes_own number Dead chunk view slabs now left (back, is) = (ap own_of back.is, refl, ap (λ (s : SlabState). s.uncut) is)
passes_own number Evicted chunk view slabs now left ends = absurd ends
passes_own number EvictedHeld chunk view slabs now left ends = absurd ends

-- a visit deletes what it evicts, and cuts no page
pub first_deletes : (number class : ℕ) (visit : Visit) (view : View) (slabs : SlabState) (now : View) (left : SlabState) → VisitsFirst number class visit view slabs now left → Deletions number (evicted_by visit) view now × (left.uncut ≡ slabs.uncut)
first_deletes number class visit view slabs now left first = by first.visits
  where
    by : VisitsChunk number class visit first.chunk view slabs now left → Deletions number (evicted_by visit) view now × (left.uncut ≡ slabs.uncut)
    by (tried, inl (unlinks, ends)) =
        let own = ends_own number class visit first.chunk tried slabs now left ends in
        (subst (λ n. Deletions number n view now) (sym own.1) (deletes_before number 1 view tried now (unlinks_delete number first.chunk view tried unlinks) own.0), own.2)
    by (tried, inr (spares, ends)) =
        let own = passes_own number visit first.chunk tried slabs now left ends in
        (subst (λ n. Deletions number n view now) (sym own.1) (deletes_none number view now (own.0 ∙ spared_own first.chunk view tried spares)), own.2)

pub each_deletes : (number class : ℕ) (visits : List Visit) (view : View) (slabs : SlabState) (now : View) (left : SlabState) → VisitsEach number class visits view slabs now left → Deletions number (evicted_count visits) view now × (left.uncut ≡ slabs.uncut)
each_deletes number class [] view slabs now left (same, is) = (deletes_none number view now (ap own_of same), ap (λ (s : SlabState). s.uncut) is)
each_deletes number class (visit ∷ visits) view slabs now left (before, between, each, last) =
    let first = each_deletes number class visits view slabs before between each in
    let then_now = first_deletes number class visit before between now left last in
    (deletes_both number (evicted_count visits) (evicted_by visit) view before now first.0 then_now.0, then_now.1 ∙ first.1)

pub oldest_deletes : (number class evicted freed : ℕ) (view : View) (slabs : SlabState) (now : View) (left : SlabState) → VisitsOldest number class evicted freed view slabs now left → Deletions number evicted view now × (left.uncut ≡ slabs.uncut)
oldest_deletes number class evicted freed view slabs now left visits =
    let each = each_deletes number class visits.visits view slabs now left visits.each in
    (subst (λ n. Deletions number n view now) visits.evicted_is each.0, each.1)

-- and where a call was lacking, n were deleted before
pub lacking_deletes : (number class : ℕ) (view : View) (slabs : SlabState) (now : View) (left : SlabState) → LacksCallAtOldest number class view slabs now left → (count : ℕ) × Deletions number count view now × (left.uncut ≡ slabs.uncut)
lacking_deletes number class view slabs now left lacks =
    let each = each_deletes number class lacks.visits view slabs lacks.visited lacks.between lacks.each in
    (evicted_count lacks.visits, deletes_before number (evicted_count lacks.visits) view lacks.visited now each.0 (lacks_spares lacks.lacks.chunk lacks.visited now lacks.lacks.lacks).own, ap (λ (s : SlabState). s.uncut) lacks.lacks.same ∙ each.1)

-- one visit evicts one item at most, and puts back one chunk at most
pub evicts_one : (visit : Visit) → evicted_by visit ≤ 1
evicts_one Passed = omega arith
evicts_one Dead = omega arith
evicts_one Evicted = omega arith
evicts_one EvictedHeld = omega arith

pub frees_one : (visit : Visit) → freed_by visit ≤ 1
frees_one Passed = omega arith
frees_one Dead = omega arith
frees_one Evicted = omega arith
frees_one EvictedHeld = omega arith

-- a key that was deleted in its stripe leaves the pages
pub unlinked_slabs : (number stripe : ℕ) (chunk : ChunkId) (value : ReadyStripe) (view now : View) → UsesRoomForCall number stripe value (Unlinks number stripe chunk) view now → now.slabs ≡ view.slabs
unlinked_slabs number stripe chunk value view now done = ap (λ (v : View). v.slabs) done.given ∙ ap (λ (v : View). v.slabs) done.does.deletes.1

-- the key that was read is known once the stripe was taken
pub key_found : (chunk : ChunkId) (key stripe : ℕ) (value : ReadyStripe) (seen read taken : View) → read ≡ key_seen chunk key seen → taken ≡ stripe_taken stripe value read → key_read taken chunk ≡ Some key
key_found chunk key stripe value seen read taken read_is taken_is =
    ap (λ (looks : List Look). fold (last_read chunk 0) None looks) (ap (λ (v : View). v.row.looks) taken_is ∙ ap (λ (v : View). v.row.looks) read_is)
    ∙ (fold-append (last_read chunk 0) None seen.row.looks (Read chunk 0 key ∷ []) ∙ ap (λ (b : Bool). if b && 0 == 0 then Some key else fold (last_read chunk 0) None seen.row.looks) (is_chunk-same chunk))

-- the key led to another chunk, from the parts of the call
pub newer_found : (view : View) (chunk : ChunkId) (head : Head) (seen read taken now : View) (key stripe stripe' : ℕ) (value : ReadyStripe) → is_linked_unheld head ≡ true → seen ≡ head_seen chunk head view → read ≡ key_seen chunk key seen
    → stripe ≡ key % view.setup.config.stripes → stripe' ≡ stripe → Happens view [] (step.Head chunk) seen → Happens seen [] (step.WordHeld chunk 0) read → Happens read [] (step.TakeStripe stripe) taken → taken ≡ stripe_taken stripe value read → IsLentStripe taken stripe value → BeginsWithSeen read stripe value
    → LeadsElsewhere value key chunk → now ≡ stripe_given stripe' value taken → FindsNewer chunk view now
newer_found view chunk head seen read taken now key stripe stripe' value unheld seen_is read_is at same looks reads takes taken_is lent begins elsewhere given =
    let all : read ≡ key_seen chunk key (head_seen chunk head view) = read_is ∙ ap (key_seen chunk key) seen_is in record {
      head = head;
      unheld = unheld;
      key = key;
      value = value;
      looks = subst (λ (v : View). Happens view [] (step.Head chunk) v) seen_is looks;
      reads = subst (λ (p : View × View). Happens p.0 [] (step.WordHeld chunk 0) p.1) (λ k. (seen_is k, all k)) reads;
      taken = taken;
      takes = subst (λ (p : View × ℕ). Happens p.0 [] (step.TakeStripe p.1) taken) (λ k. (all k, at k)) takes;
      is_taken = taken_is ∙ (λ k. stripe_taken (at k) value (all k));
      lent = subst (λ n. IsLentStripe taken n value) at lent;
      begins = subst (λ (p : View × ℕ). BeginsWithSeen p.0 p.1 value) (λ k. (all k, at k)) begins;
      elsewhere = elsewhere;
      given = given ∙ (λ k. stripe_given ((same ∙ at) k) value taken);
    }

-- the first of a list is in it
pub first_there : (chunks : List ChunkId) (chunk : ChunkId) → slice_get chunks 0 ≡ Some chunk → Contains chunks chunk
first_there [] chunk is = absurd (cc)
first_there (first ∷ chunks) chunk is =
    let same : first ≡ chunk = cc in
    Contains-append_left (first ∷ []) chunks chunk (subst (λ (c : ChunkId). Contains (c ∷ []) chunk) (sym same) (Contains-push [] chunk))

pub first_among : (chunks : List ChunkId) (chunk : ChunkId) → slice_get chunks 0 ≡ Some chunk → is_among chunks chunk ≡ true
first_among [] chunk is = absurd (cc)
first_among (first ∷ chunks) chunk is =
    let same : first ≡ chunk = cc in
    ap (λ (b : Bool). b || is_among chunks chunk) (ap (λ (c : ChunkId). is_chunk c chunk) same ∙ is_chunk-same chunk)

-- visits that ended, by why they did
module _ (number class : ℕ) (visits : List Visit) (view : View) (slabs : SlabState) (now : View) (left : SlabState) (each : VisitsEach number class visits view slabs now left) (within_limit : length visits ≤ room_tries) (evicted freed : ℕ) (evicted_is : evicted_count visits ≡ evicted) (freed_is : freed_count visits ≡ freed) (evictions_within_limit : evicted ≤ room_items) where
  pub ended : EndsVisits class visits left → VisitsOldest number class evicted freed view slabs now left
  ended ends = record { visits = visits; each = each; within_limit = within_limit; evictions_within_limit = subst (λ n. n ≤ room_items) (sym evicted_is) evictions_within_limit; ends = ends; evicted_is = evicted_is; freed_is = freed_is }
