-- A chunk whose item couldn't be taken away: what its walk leaves of what the hand has, and of what it found of other chunks.
use Rattle.std.proofs.Common.{◌≡◌, ℕ, ◌+◌, ◌%◌, Bool, true, false, not, is_some, if◌then◌else◌, List, [], ◌∷◌, ◌++◌, Some, refl, sym, ap, subst, ◌∙◌, inl, inr, ◌⊎◌}
use Rattle.std.specs.List.{list_all}
use Rattle.std.proofs.lemmas.Bool.{cases_Bool}
use Rattle.std.proofs.lemmas.List.Sums.{fold-append}
use Rattle.mc_pages.specs.declared.ids.ChunkId.{ChunkId}
use Rattle.mc_pages.specs.ClassState.{is_chunk}
use Rattle.mc_pages.specs.SlabState.{SlabState}
use Rattle.mc_stripe.specs.StripeState.{ReadyStripe}
use Rattle.mc_core.specs.declared.head.Head.{Head}
use Rattle.mc_core.specs.declared.holding.Holding.{Holding}
use Rattle.mc_core.specs.declared.ids.Ids.{Ids}
use Rattle.mc_core.specs.declared.look.Look.{Look}
use Rattle.mc_core.specs.declared.look.Look.TheVariants.{Read, Saw, SawStripe}
use Rattle.mc_core.specs.model.Head.{is_dead}
use Rattle.mc_core.specs.model.Looks.{is_found_alive, stays_alive}
use Rattle.mc_core.specs.past.Past.{KnownItem, Own, StoredItem}
use Rattle.mc_words.specs.lock.Doing.{Doing, UsesRoomForCall}
use Rattle.mc_words.specs.hand.View.{View}
use Rattle.mc_words.specs.item.Removal.{FindsHeld, key_seen}
use Rattle.mc_words.specs.page.Owner.{SeesOther}
use Rattle.mc_words.specs.hand.Views.{head_seen, stripe_given, stripe_missed, call_reserved, stripe_taken}
use Rattle.mc_words.proofs.Items.Reasoned.{all_weaker}
use Rattle.mc_items.specs.Evicting.{PassesEach, PassesOne}
use Rattle.mc_items.specs.Supplying.{FindsItemHeld, LacksCall, PassesItem, ReachesItem}

-- what a hand has of its own: its chunks, what it said, its numbers, its calls and what it knows
abbrev pub OwnTuple : Type 0
OwnTuple = List Holding × List StoredItem × Ids × List Own × List KnownItem

abbrev pub own_of : View → OwnTuple
own_of view = (view.row.holdings, view.row.knows.stored, view.row.ids, view.row.knows.mine, view.row.knows.known)

-- this stayed, and so did what was found alive of other chunks than this
pub record Spares (chunk : ChunkId) (view now : View) : Type 0 where
  pub own : own_of now ≡ own_of view
  pub slabs : now.slabs ≡ view.slabs
  pub others : (other : ChunkId) → is_chunk chunk other ≡ false → is_found_alive view.row.looks other ≡ true → is_found_alive now.row.looks other ≡ true

pub spares_on : (chunk : ChunkId) (view next now : View) → Spares chunk view next → Spares chunk next now → Spares chunk view now
spares_on chunk view next now first second = record {
  own = second.own ∙ first.own;
  slabs = second.slabs ∙ first.slabs;
  others = λ other apart was. second.others other apart (first.others other apart was);
}

-- each step
looked_spares : (chunk : ChunkId) (head : Head) (view : View) → Spares chunk view (head_seen chunk head view)
looked_spares chunk head view = record { own = refl; slabs = refl; others = λ other apart was. by other apart was (is_some view.slabs) }
  where
    by : (other : ChunkId) → is_chunk chunk other ≡ false → is_found_alive view.row.looks other ≡ true → (held : Bool) → is_found_alive (if held then view.row.looks ++ Saw chunk head ∷ [] else view.row.looks) other ≡ true
    by other apart was true =
        fold-append (stays_alive other) false view.row.looks (Saw chunk head ∷ []) ∙ (ap (λ (b : Bool). if b then not (is_dead head) else is_found_alive view.row.looks other) apart ∙ was)
    by other apart was false = was

read_spares : (chunk : ChunkId) (key : ℕ) (view : View) → Spares chunk view (key_seen chunk key view)
read_spares chunk key view = record { own = refl; slabs = refl; others = λ other apart was. fold-append (stays_alive other) false view.row.looks (Read chunk 0 key ∷ []) ∙ was }

missed_spares : (chunk : ChunkId) (stripe word : ℕ) (view : View) → Spares chunk view (stripe_missed stripe word view)
missed_spares chunk stripe word view = record { own = refl; slabs = refl; others = λ other apart was. by other was (is_some view.slabs) }
  where
    by : (other : ChunkId) → is_found_alive view.row.looks other ≡ true → (held : Bool) → is_found_alive (if held then view.row.looks ++ SawStripe stripe word ∷ [] else view.row.looks) other ≡ true
    by other was true = fold-append (stays_alive other) false view.row.looks (SawStripe stripe word ∷ []) ∙ was
    by other was false = was

reserved_spares : (chunk : ChunkId) (stripe word : ℕ) (value : ReadyStripe) (view : View) → Spares chunk view (call_reserved stripe value word view)
reserved_spares chunk stripe word value view = record { own = refl; slabs = refl; others = λ other apart was. by other was (is_some view.slabs) }
  where
    by : (other : ChunkId) → is_found_alive view.row.looks other ≡ true → (held : Bool) → is_found_alive (if held then view.row.looks ++ SawStripe stripe word ∷ [] else view.row.looks) other ≡ true
    by other was true = fold-append (stays_alive other) false view.row.looks (SawStripe stripe word ∷ []) ∙ was
    by other was false = was

taken_spares : (chunk : ChunkId) (stripe : ℕ) (value : ReadyStripe) (view : View) → Spares chunk view (stripe_taken stripe value view)
taken_spares chunk stripe value view = record { own = refl; slabs = refl; others = λ other apart was. was }

given_spares : (chunk : ChunkId) (stripe : ℕ) (value : ReadyStripe) (view : View) → Spares chunk view (stripe_given stripe value view)
given_spares chunk stripe value view = record { own = refl; slabs = refl; others = λ other apart was. was }

-- what is so of a view is so of the same one
spares_at : (chunk : ChunkId) (view now is : View) → is ≡ now → Spares chunk view now → Spares chunk view is
spares_at chunk view now is same spares = subst (λ (v : View). Spares chunk view v) (sym same) spares

-- a look that was asked for is at the chunk that was asked for
pub sees_is : (chunk : ChunkId) (IsOther : Head → Type 0) (view now : View) (sees : SeesOther view (Some chunk) IsOther now) → now ≡ head_seen chunk sees.head view
sees_is chunk IsOther view now sees = sees.is ∙ ap (λ (c : ChunkId). head_seen c sees.head view) (one sees.chunk sees.is_asked)
  where
    one : (c : ChunkId) → Some chunk ≡ Some c → c ≡ chunk
    one c e = cc

pub sees_spares : (chunk : ChunkId) (IsOther : Head → Type 0) (view now : View) → SeesOther view (Some chunk) IsOther now → Spares chunk view now
sees_spares chunk IsOther view now sees = spares_at chunk view (head_seen chunk sees.head view) now (sees_is chunk IsOther view now sees) (looked_spares chunk sees.head view)

-- the chunk's header was seen, and its key was read
key_spares : (chunk : ChunkId) (head : Head) (key : ℕ) (view : View) → Spares chunk view (key_seen chunk key (head_seen chunk head view))
key_spares chunk head key view = spares_on chunk view (head_seen chunk head view) (key_seen chunk key (head_seen chunk head view)) (looked_spares chunk head view) (read_spares chunk key (head_seen chunk head view))

finds_spares : (chunk : ChunkId) (view now : View) → FindsHeld view chunk now → Spares chunk view now
finds_spares chunk view now finds = spares_on chunk view (key_seen chunk finds.key view) now (read_spares chunk finds.key view) (by finds.finds)
  where
    seen : View
    seen = key_seen chunk finds.key view

    by : Rattle.mc_words.specs.item.Removal.SeesHeld seen chunk now ⊎ ((head : Head) × Rattle.mc_words.specs.rule.Happens.Happens seen [] (Rattle.mc_core.specs.declared.event.Step.TheVariants.Head chunk) (head_seen chunk head seen) × Rattle.mc_words.specs.item.Removal.SeesHeld (head_seen chunk head seen) chunk now) → Spares chunk seen now
    by (inl sees) = sees_spares chunk _ seen now sees
    by (inr (head, happens, sees)) = spares_on chunk seen (head_seen chunk head seen) now (looked_spares chunk head seen) (sees_spares chunk _ (head_seen chunk head seen) now sees)

-- up to the lock of its stripe
pub reach_spares : (number : ℕ) (chunk : ChunkId) (Does : ℕ → ℕ → Doing) (view now : View) (reaches : ReachesItem number chunk Does view now) → Spares chunk view reaches.taken
reach_spares number chunk Does view now reaches =
    let key = key_seen chunk reaches.key (head_seen chunk reaches.head view) in
    spares_at chunk view (stripe_taken (reaches.key % view.setup.config.stripes) reaches.value key) reaches.taken reaches.is_taken
    (spares_on chunk view key (stripe_taken (reaches.key % view.setup.config.stripes) reaches.value key) (key_spares chunk reaches.head reaches.key view) (taken_spares chunk (reaches.key % view.setup.config.stripes) reaches.value key))

held_spares : (number stripe : ℕ) (chunk : ChunkId) (value : ReadyStripe) (view now : View) → UsesRoomForCall number stripe value (FindsItemHeld chunk) view now → Spares chunk view now
held_spares number stripe chunk value view now done =
    let made = call_reserved stripe value (number + 1) view in
    spares_at chunk view (stripe_given stripe done.left done.last) now done.given
    (spares_on chunk view done.last (stripe_given stripe done.left done.last)
    (spares_on chunk view made done.last (reserved_spares chunk stripe (number + 1) value view) (finds_spares chunk made done.last done.does.0))
    (given_spares chunk stripe done.left done.last))

pub passed_spares : (number : ℕ) (chunk : ChunkId) (view now : View) → PassesItem number chunk view now → Spares chunk view now
passed_spares number chunk view now (inl sees) = sees_spares chunk _ view now sees
passed_spares number chunk view now (inr (inl misses)) =
    let key = key_seen chunk misses.key (head_seen chunk misses.head view) in
    let stripe = misses.key % view.setup.config.stripes in
    spares_at chunk view (stripe_missed stripe misses.word key) now misses.is
    (spares_on chunk view key (stripe_missed stripe misses.word key) (key_spares chunk misses.head misses.key view) (missed_spares chunk stripe misses.word key))
passed_spares number chunk view now (inr (inr reaches)) =
    spares_on chunk view reaches.taken now (reach_spares number chunk (λ number stripe. FindsItemHeld chunk) view now reaches)
    (held_spares number (reaches.key % view.setup.config.stripes) chunk reaches.value reaches.taken now reaches.done)

pub lacks_spares : (chunk : ChunkId) (view now : View) → LacksCall chunk view now → Spares chunk view now
lacks_spares chunk view now lacks =
    let key = key_seen chunk lacks.key (head_seen chunk lacks.head view) in
    let stripe = lacks.key % view.setup.config.stripes in
    let taken = stripe_taken stripe lacks.value key in
    spares_at chunk view (stripe_given stripe lacks.value taken) now (lacks.given ∙ ap (stripe_given stripe lacks.value) lacks.is_taken)
    (spares_on chunk view taken (stripe_given stripe lacks.value taken)
    (spares_on chunk view key taken (key_spares chunk lacks.head lacks.key view) (taken_spares chunk stripe lacks.value key)) (given_spares chunk stripe lacks.value taken))

-- a chunk that was passed is alive, and so is each that was
module _ (number : ℕ) (chunk : ChunkId) (view now : View) (passes : PassesOne number chunk view now) where
  pub one_spares : Spares chunk view now
  one_spares = spares_on chunk view passes.tried now (passed_spares number chunk view passes.tried passes.passes) (sees_spares chunk _ passes.tried now passes.alive)

  pub passed_alive : (slabs : SlabState) → view.slabs ≡ Some slabs → (order : List ChunkId) → list_all (is_found_alive view.row.looks) order ≡ true → list_all (is_found_alive now.row.looks) order ≡ true
  passed_alive slabs mine order = all_weaker (is_found_alive view.row.looks) (is_found_alive now.row.looks) order each
    where
      looks_are : now.row.looks ≡ passes.tried.row.looks ++ Saw chunk passes.alive.head ∷ []
      looks_are =
          ap (λ (v : View). v.row.looks) (sees_is chunk _ passes.tried now passes.alive)
          ∙ ap (λ (b : Bool). if b then passes.tried.row.looks ++ Saw chunk passes.alive.head ∷ [] else passes.tried.row.looks) (ap is_some ((passed_spares number chunk view passes.tried passes.passes).slabs ∙ mine))

      each : (other : ChunkId) → is_found_alive view.row.looks other ≡ true → is_found_alive now.row.looks other ≡ true
      each other was = elim (cases_Bool (is_chunk chunk other)) [
        | inl same ↦ ap (λ (looks : List Look). is_found_alive looks other) looks_are
            ∙ (fold-append (stays_alive other) false passes.tried.row.looks (Saw chunk passes.alive.head ∷ [])
            ∙ (ap (λ (b : Bool). if b then not (is_dead passes.alive.head) else is_found_alive passes.tried.row.looks other) same ∙ ap not passes.alive.other))
        | inr apart ↦ one_spares.others other apart was
      ]

-- some that were passed
pub each_keeps : (number : ℕ) (chunks : List ChunkId) (view now : View) → PassesEach number chunks view now → own_of now ≡ own_of view
each_keeps number [] view now same = ap own_of same
each_keeps number (chunk ∷ chunks) view now (next, one, rest) = each_keeps number chunks next now rest ∙ (one_spares number chunk view next one).own

pub passes_on : (number : ℕ) (chunk : ChunkId) (now next : View) (chunks : List ChunkId) (view : View) → PassesEach number chunks view now → PassesOne number chunk now next → PassesEach number (chunks ++ chunk ∷ []) view next
passes_on number chunk now next [] view same one = (next, subst (λ (v : View). PassesOne number chunk v next) same one, refl)
passes_on number chunk now next (first ∷ chunks) view (between, did, rest) one = (between, did, passes_on number chunk now next chunks between rest one)
