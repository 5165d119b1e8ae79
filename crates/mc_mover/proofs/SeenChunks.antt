-- A chunk that the mover has looked at: what follows from its header.
use Rattle.std.proofs.Common.{◌≡◌, ℕ, ◌&&◌, ◌||◌, Bool, true, false, List, [], ◌∷◌, ◌++◌, Some, ap, subst, ◌∙◌, inr}
use Rattle.std.proofs.lemmas.Bool.{and_from, or_left, or_right}
use Rattle.std.proofs.lemmas.List.Sums.{fold-append}
use Rattle.mc_pages.specs.declared.ids.ChunkId.{ChunkId}
use Rattle.mc_pages.specs.declared.moves.Found.{Found}
use Rattle.mc_pages.specs.declared.moves.Found.TheVariants.{Cleared, Rescued, Evicted, Busy, Locked, Already}
use Rattle.mc_pages.specs.Accounted.{is_cleared, is_cut}
use Rattle.mc_pages.specs.ClassState.{is_chunk}
use Rattle.mc_pages.specs.SlabState.{HasClass, SlabState}
use Rattle.mc_pages.proofs.Chunks.{is_chunk-same}
use Rattle.mc_core.specs.declared.head.Head.{Head}
use Rattle.mc_core.specs.declared.look.Look.{Look}
use Rattle.mc_core.specs.declared.look.Look.TheVariants.{Saw}
use Rattle.mc_core.specs.declared.event.Step.TheVariants as step
use Rattle.mc_core.specs.run.Evictions.{is_linked_unheld}
use Rattle.mc_core.specs.model.Head.{is_dead, is_free, is_linked, is_out}
use Rattle.mc_core.specs.model.Looks.{stays_linked, was_linked}
use Rattle.mc_core.specs.law.Seen.{seen_head}
use Rattle.mc_core.specs.model.State.{has_chunk, head_at}
use Rattle.mc_words.specs.hand.View.{View}
use Rattle.mc_words.specs.rule.Happens.{Happens, LawfulView}
use Rattle.mc_words.specs.hand.Views.{head_seen}
use Rattle.mc_words.proofs.Chunks.Heads.{near_here}
use Rattle.mc_words.proofs.Chunks.Judging.{seen_is, seen_last, seen_slabs}
use Rattle.mc_words.proofs.Pages.Owners.{looks_here, slabs_here}
use Rattle.mc_mover.specs.declared.sweep.Sweep.{Sweep}
use Rattle.mc_mover.specs.Linked.{VisitsLinked}
use Rattle.mc_mover.specs.Visiting.{SeesLinked, Visits}
use Rattle.mc_mover.proofs.ClearedPages.{cleared_out}

module _ (view now : View) (slabs : SlabState) (mine : view.slabs ≡ Some slabs) (chunk : ChunkId) (head : Head) (is : now ≡ head_seen chunk head view) where
  -- one that was found linked
  pub linked_found : is_linked head.tag ≡ true → was_linked now.row.looks chunk ≡ true
  linked_found linked =
      let looks : now.row.looks ≡ view.row.looks ++ Saw chunk head ∷ [] = ap (λ (v : View). v.row.looks) (is ∙ seen_is view chunk head slabs mine) in
      ap (λ (looks : List Look). was_linked looks chunk) looks
      ∙ (fold-append (stays_linked chunk) false view.row.looks (Saw chunk head ∷ []) ∙ or_right (was_linked view.row.looks chunk) (is_chunk chunk chunk && is_linked head.tag) (and_from _ _ (is_chunk-same chunk) linked))

  -- one that was found out
  pub out_found : LawfulView now → has_chunk now.setup.table chunk ≡ true → (class : ℕ) → HasClass slabs class → is_cut slabs class chunk ≡ true → is_out head.tag ≡ true → is_cleared slabs class chunk ≡ true
  out_found was in_range class valid cut out =
      let mine' : now.slabs ≡ Some slabs = ap (λ (v : View). v.slabs) is ∙ seen_slabs view chunk head slabs mine in
      let last : seen_head now.row.looks chunk ≡ Some head = ap (λ (v : View). seen_head v.row.looks chunk) is ∙ seen_last view chunk head slabs mine in
      let still = (was.lawful.seen was.hand (slabs_here now was slabs mine').0).last_heads chunk head (near_here now chunk in_range was) (ap (λ looks. seen_head looks chunk) (looks_here now was) ∙ last) in
      let same : head_at was.moment.state chunk ≡ head = still.0 (or_left (is_out head.tag || is_free head.tag) (is_dead head) (or_left (is_out head.tag) (is_free head.tag) out)) in
      cleared_out now was slabs mine' class chunk valid cut (ap (λ (h : Head). is_out h.tag) same ∙ out)

-- what was done with a linked chunk, behind the look that found it so
module _ (number class : ℕ) (chunk : ChunkId) (view seen : View) (slabs : SlabState) (now : View) (left : SlabState) (head : Head) (linked : is_linked head.tag ≡ true) (looks : Happens view [] (step.Head chunk) seen) (is : seen ≡ head_seen chunk head view) where
  pub sees_linked : (Does : Bool → View → SlabState → View → SlabState → Type 0) → Does (is_linked_unheld head) seen slabs now left → SeesLinked chunk Does view slabs now left
  sees_linked Does does = record {
    head = head;
    linked = linked;
    looks = subst (λ (v : View). Happens view [] (step.Head chunk) v) is looks;
    does = subst (λ (v : View). Does (is_linked_unheld head) v slabs now left) is does;
  }

  pub visited : (sweep : Sweep) (found : Found) (next : Sweep) → VisitsLinked number class chunk sweep (is_linked_unheld head) found next seen slabs now left → Visits number class chunk sweep found next view slabs now left
  visited sweep Rescued next does = sees_linked (λ unheld. VisitsLinked number class chunk sweep unheld Rescued next) does
  visited sweep Evicted next does = sees_linked (λ unheld. VisitsLinked number class chunk sweep unheld Evicted next) does
  visited sweep Busy next does = inr (sees_linked (λ unheld. VisitsLinked number class chunk sweep unheld Busy next) does)
  visited sweep Locked next does = sees_linked (λ unheld. VisitsLinked number class chunk sweep unheld Locked next) does
  visited sweep Cleared next does = absurd does
  visited sweep Already next does = absurd does
