-- The law: what holds of a moment between any two events; and what a holding means.
use Rattle.std.specs.Prelude.{◌≡◌, ℕ, true, [], length, slice_index_or}
use Rattle.mc_pages.specs.SlabState.{HasClass, class_of_page}
use Rattle.mc_core.specs.declared.holding.Holding.{Holding}
use Rattle.mc_core.specs.model.State.{State, has_slabs}
use Rattle.mc_core.specs.past.Past.{Past, Moment, no_hold}
use Rattle.mc_core.specs.model.Columns.{head_in, Shows, Each, IsHandedOut}
use Rattle.mc_core.specs.law.Places.{AreSized, ArePaged, ArePlaced}
use Rattle.mc_core.specs.law.Counts.{AreCounted, AreHeld}
use Rattle.mc_core.specs.law.Indexed.{AreIndexed, AreLegal}
use Rattle.mc_core.specs.law.Seen.{AreSeen}
use Rattle.mc_core.specs.law.Identities.{AreHands, HaveRows, AreNumbered}
use Rattle.mc_core.specs.law.Knowing.{AreKnown, IsRescue}
use Rattle.mc_core.specs.law.Histories.{AreRecorded}
use Rattle.mc_core.specs.model.Holdings.{holding_words}

-- in this moment each index of each page has its header, and each page all its data words
abbrev pub SizedIn : Moment → Type 0
SizedIn m = AreSized m.state.table m.state.heads m.state.words

-- in this moment pages and lists are accounted for, and no page is half cut while the slabs lock is free
abbrev pub PagedIn : Moment → Type 0
PagedIn m = ArePaged m.state.table m.state.slabs m.state.slabs_lock

-- in this moment free lists have the free chunks, hand-out orders those handed out, and all others are out
abbrev pub PlacedIn : Moment → Type 0
PlacedIn m = ArePlaced m.state.table m.state.slabs m.state.heads

-- in this moment each header counts its holders, and one more where its chunk is linked
abbrev pub CountedIn : Moment → Type 0
CountedIn m = AreCounted m.state.table m.state.heads m.state.holdings

-- in this moment a holding has its header's issue and its chunk's words, and a fresh one is its chunk's only one
abbrev pub HeldIn : Moment → Type 0
HeldIn m = AreHeld m.state.table m.state.slabs m.state.heads m.state.words m.state.holdings

-- in this moment the entries of the stripes are the linked chunks, each in its key's stripe
abbrev pub IndexedIn : Moment → Type 0
IndexedIn m = AreIndexed m.state.table m.state.slabs m.state.heads m.state.words m.state.stripes

-- in this moment each history is legal and makes its index, and a free stripe has nothing aside
abbrev pub LegalIn : Moment → Type 0
LegalIn m = AreLegal m.state.stripes m.state.stripe_locks

-- in this moment the hands' numbers are apart, a lock is free or one hand's, and a hand that is gone holds nothing
abbrev pub HandsIn : Moment → Type 0
HandsIn m = AreHands m.state.ids m.state.slabs_lock m.state.stripe_locks m.state.holdings m.state.looks

-- in this moment there is a row for each hand, and a live hand's row has a history for each stripe
abbrev pub RowsIn : Moment → Type 0
RowsIn m = HaveRows m.state.ids (length m.state.stripes) m.past

-- in this moment a number is one hand's at most, and the stamps that hands stored are counted without a gap
abbrev pub NumberedIn : Moment → Type 0
NumberedIn m = AreNumbered m.state.ids m.past.mine m.past.stored m.past.known

-- what this hand saw or did under its last hold of the slabs lock holds still
abbrev pub IsSeenBy : State → Past → ℕ → Type 0
IsSeenBy state past hand =
    AreSeen state.table state.slabs state.heads state.words past.known (slice_index_or past.holds hand no_hold).found
    (slice_index_or state.looks hand [])

-- in this moment what the hand that has the slabs lock saw or did under it holds still
abbrev pub SeenIn : Moment → Type 0
SeenIn m = (hand : ℕ) → has_slabs m.state hand ≡ true → IsSeenBy m.state m.past hand

-- in this moment a known item is whole, was stored, and is in its chunk while the chunk is handed out with the item's issue
abbrev pub KnownIn : Moment → Type 0
KnownIn m = AreKnown m.state.table m.state.slabs m.state.heads m.state.words m.state.holdings m.past.stored m.past.known

-- in this moment a chunk for a copy is off its original's page, and an item that is being rescued was stored with its stamp
abbrev pub RescuedIn : Moment → Type 0
RescuedIn m = Each (λ holding. IsRescue m.past.stored holding.chunk holding.kind) m.state.holdings

-- in this moment a hand's own calls are the histories', which begin with what the hand saw and have the stamps that hands stored
abbrev pub RecordedIn : Moment → Type 0
RecordedIn m = AreRecorded m.state.stripes m.past.mine m.past.seen m.past.stored

-- *lawful*: what holds of the moment, subject by subject
pub record IsLawful (moment : Moment) : Type 0 where
  pub sized : SizedIn moment
  pub paged : PagedIn moment
  pub placed : PlacedIn moment
  pub counted : CountedIn moment
  pub held : HeldIn moment
  pub indexed : IndexedIn moment
  pub legal : LegalIn moment
  pub hands : HandsIn moment
  pub rows : RowsIn moment
  pub numbered : NumberedIn moment
  pub seen : SeenIn moment
  pub known : KnownIn moment
  pub rescued : RescuedIn moment
  pub told : RecordedIn moment

-- *kept*: the chunk of a holding is handed out with its issue and has its words; its page belongs to a class or moves away from one
pub record IsKept (state : State) (holding : Holding) : Type 0 where
  pub handed_out : IsHandedOut (head_in state.table state.heads holding.chunk) holding.issue
  pub shows : Shows state.table state.slabs state.words holding.chunk (holding_words holding)
  pub owned : HasClass state.slabs (class_of_page state.slabs holding.chunk.page)
