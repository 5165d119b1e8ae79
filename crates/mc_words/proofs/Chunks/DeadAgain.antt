-- A chunk that the hand saw dead, or made so, under this hold of the slabs lock is found dead again.
use Rattle.std.proofs.Common.{◌≡◌, true, [], Option, Some, None, refl, sym, ap, ◌∙◌, slice_index}
use Rattle.std.specs.Option.{option_map}
use Rattle.mc_pages.specs.declared.ids.ChunkId.{ChunkId}
use Rattle.mc_pages.specs.SlabState.{SlabState}
use Rattle.mc_core.specs.declared.head.Head.{Head}
use Rattle.mc_core.specs.declared.event.Step.TheVariants as core
use Rattle.mc_core.specs.model.Head.{decode, is_dead}
use Rattle.mc_core.specs.law.Seen.{seen_head}
use Rattle.mc_core.specs.model.State.{has_chunk, head_at}
use Rattle.mc_words.specs.hand.View.{View}
use Rattle.mc_words.specs.rule.Layout.{head_word}
use Rattle.mc_words.specs.rule.Happens.{Happens}
use Rattle.mc_words.specs.hand.Views.{head_seen}
use Rattle.mc_words.proofs.Chunks.Heads.{head_is, near_here}
use Rattle.mc_words.proofs.Chunks.Judging.{seen_last}
use Rattle.mc_words.proofs.Locks.LockViews as views
use Rattle.mc_words.proofs.Pages.Owners.{judged, looks_here}

-- the header that was seen dead
seen_dead : (seen : Option Head) → option_map is_dead seen ≡ Some true → (head : Head) × (seen ≡ Some head) × (is_dead head ≡ true)
seen_dead None dead = absurd (cc)
seen_dead (Some head) dead = (head, refl, cc)

same_head : (a b : Head) → Some a ≡ Some b → a ≡ b
same_head a b e = cc

pub found_dead : (view now : View) (slabs : SlabState) (chunk : ChunkId) (head : Head) → view.slabs ≡ Some slabs → has_chunk view.setup.table chunk ≡ true → option_map is_dead (seen_head view.row.looks chunk) ≡ Some true
    → Happens view [] (core.Head chunk) now → now ≡ head_seen chunk head view → is_dead head ≡ true
found_dead view now slabs chunk head mine in_range dead h is =
    let (seen, last, gone) = seen_dead (seen_head view.row.looks chunk) dead in
    let word = slice_index h.was.words (head_word view.setup chunk) in
    let still : head_at h.was.moment.state chunk ≡ seen =
    ((judged view h.was slabs mine).put_back chunk seen (near_here view chunk in_range h.was) (ap (λ looks. seen_head looks chunk) (looks_here view h.was) ∙ last) gone).0 in
    let found : now ≡ head_seen chunk (decode word) view = views.seen_head view now chunk word in_range (h, refl) in
    let same : head ≡ decode word =
    same_head head (decode word) (sym (seen_last view chunk head slabs mine) ∙ (ap (λ (v : View). seen_head v.row.looks chunk) (sym is ∙ found) ∙ seen_last view chunk (decode word) slabs mine)) in
    ap is_dead (same ∙ (sym (head_is view chunk in_range h.was) ∙ still)) ∙ gone
