-- A load that is no event keeps the rule of the table, and the word of a page tells how many words a chunk of it has.
use Rattle.std.proofs.Common.{◌≡◌, ℕ, ◌<◌, true, List, length, refl, sym, subst, ◌∙◌, arith, slice_set, slice_index, le-leb}
use Rattle.std.proofs.lemmas.Bool.{and_from}
use Rattle.std.proofs.lemmas.List.{set-get_or}
use mathlib.Core.Option.{none}
use Rattle.atomic_table.specs.Table as table
use Rattle.atomic_table.specs.Table.{keeps, Allows}
use Rattle.mc_classes.specs.Classes.{arena_pages_of}
use Rattle.mc_pages.specs.declared.ids.ChunkId.{ChunkId}
use Rattle.mc_pages.specs.SlabState.{class_of_page}
use Rattle.mc_core.specs.model.State.{is_class, room_in}
use Rattle.mc_core.specs.past.Past.{Moment}
use Rattle.mc_core.specs.law.Lawful.{IsLawful}
use Rattle.mc_core.proofs.Steps.Base.{chunk_within}
use Rattle.mc_core.proofs.Law.Next.{IsNext}
use Rattle.mc_core.proofs.Places.OfTable.{class_count}
use Rattle.mc_words.specs.hand.View.{Setup, View}
use Rattle.mc_words.specs.rule.Layout.{page_word}
use Rattle.mc_words.specs.rule.Meaning.{AreHome}
use Rattle.mc_words.specs.rule.Happens.{LawfulView}
use Rattle.mc_words.specs.rule.Joins.{Rule}
use Rattle.mc_words.specs.item.Refs.{IsRefOf}
use Rattle.mc_words.specs.rule.Shown.{IsShown, ShowsWord}
use Rattle.mc_words.specs.rule.Told.{Sits}
use Rattle.mc_words.proofs.Rules.Quiet.{was}
use Rattle.mc_words.proofs.Items.Releases.{held_is_near}
use Rattle.mc_words.proofs.Rules.NextMoments.{ruled_next}
use Rattle.mc_words.proofs.Rules.Settled.{IsSettled, lifts}
use Rattle.mc_words.proofs.Items.WordReads.{placed, room_is}
use Rattle.mc_words.proofs.Rules.Written.{page_read, unwritten}

-- nothing happens
stays : (m : Moment) → IsLawful m → (id : ℕ) → IsNext m m id
stays m l id = record { lawful = l; table = refl; count = refl; stripe_count = refl; number = refl; rows = λ other apart. refl; slabs = λ other apart. refl; stripes = λ other i apart. refl }

pub shows : (setup : Setup) (slots id : ℕ) (me : Sits) → IsSettled me.0 → me.0.setup ≡ setup → (place first second : ℕ) → Allows (Rule setup) slots id me place (λ n. n) (ShowsWord (table.step slots place first second none) me)
shows setup slots id me live of place first second =
    lifts setup slots id me live.1 place (λ n. n) (ShowsWord (table.step slots place first second none) me)
    (λ t r _ at fits.
    let m : Moment = r.moment in (
      me.0,
      keeps,
      tt,
      ruled_next setup t r id me.0 at r.cuts m r.run (slice_set t.words place (slice_index t.words place)) t.homes me.0 (stays m r.lawful id) r.reached (λ other apart. refl)
          (unwritten setup r.cuts t.words m.state.slabs_lock m.state.stripe_locks m.state.heads m.state.words r.means.words place) r.means.cut
          (subst (λ (words : List ℕ). AreHome setup words t.homes m.state) (sym (set-get_or t.words place 0)) r.means.homes) refl (r.means.views id me.0 at) refl,
      (refl, (was setup slots id me live of t r at, refl)),
    ))

-- its page is one of the arena's
pub page_near : (view : View) → LawfulView view → (chunk : ChunkId) (room : ℕ) → IsRefOf view chunk room → chunk.page < arena_pages_of view.setup.table
page_near view was chunk room ref = (chunk_within view.setup.table chunk (held_is_near view was chunk ref.holding ref.found)).0

-- the word of its page is a class, whose chunks have so many words
pub class_shown : (view : View) (chunk : ChunkId) (room word : ℕ) → IsRefOf view chunk room → IsShown (page_word view.setup chunk.page) word view → (is_class view.setup.table word ≡ true) × (room_in view.setup.table word ≡ room)
class_shown view chunk room word ref shown =
    let was = shown.0 in
    let m : Moment = was.moment in
    let class : ℕ = class_of_page m.state.slabs chunk.page in
    let there = placed view chunk room ref was in
    let is : class ≡ word =
    sym (page_read view.setup was.cuts was.words m.state.slabs_lock m.state.stripe_locks m.state.heads m.state.words was.are chunk.page (page_near view was chunk room ref) ∙ was.cut chunk.page) ∙ shown.1 in
    let count = class_count m.state.table m.state.slabs was.lawful.paged.of_table in
    let within = there.class in
    let in_classes : is_class m.state.table class ≡ true = and_from _ _ (le-leb 1 class within.0) (le-leb class (length m.state.table.sizes) (omega arith)) in (
      (λ k. is_class (sym was.same_table k) (sym is k)) ∙ in_classes,
      (λ k. room_in (sym was.same_table k) (sym is k)) ∙ room_is view chunk room ref was,
    )
