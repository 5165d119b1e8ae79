-- An evicted item's chunk that is put back, from the parts of the call.
use Rattle.std.proofs.Common.{◌≡◌, ℕ, ◌+◌, true, [], ◌∷◌, Some, None, Result, Ok, Err, IsOk, OnOk, ap, subst, ◌∙◌}
use Rattle.std.specs.Option.{option_map}
use Rattle.std.proofs.lemmas.List.Sums.{fold-append}
use Rattle.mc_pages.specs.declared.ids.ChunkId.{ChunkId}
use Rattle.mc_pages.specs.Changes.{after_back, after_evicted}
use Rattle.mc_pages.specs.SlabState.{SlabState}
use Rattle.mc_core.specs.declared.look.Look.TheVariants.{Changed}
use Rattle.mc_core.specs.declared.event.Change.TheVariants as change
use Rattle.mc_core.specs.declared.event.Step.TheVariants as step
use Rattle.mc_core.specs.model.Head.{is_dead}
use Rattle.mc_core.specs.law.Seen.{last_head, seen_head}
use Rattle.mc_words.specs.hand.View.{View}
use Rattle.mc_words.specs.rule.Happens.{Happens}
use Rattle.mc_words.specs.page.Owner.{PutsBack}
use Rattle.mc_words.specs.hand.Views.{slabs_changed}
use Rattle.mc_items.specs.Supplying.{FreesEvicted}

-- what is so where it went well, and it did
pub went_well : {A E P : Type 0} (r : Result A E) → IsOk r → OnOk r P → P
went_well (Ok a) is p = p
went_well (Err e) is p = absurd (cc)

-- the count is no look at a chunk
pub dead_still : (view counted : View) (slabs : SlabState) (class word : ℕ) (chunk : ChunkId) → counted ≡ slabs_changed slabs (change.Evicted class) word view → option_map is_dead (seen_head view.row.looks chunk) ≡ Some true → option_map is_dead (seen_head counted.row.looks chunk) ≡ Some true
dead_still view counted slabs class word chunk is dead =
    ap (λ (v : View). option_map is_dead (seen_head v.row.looks chunk)) is ∙ (ap (option_map is_dead) (fold-append (last_head chunk) None view.row.looks (Changed (change.Evicted class) ∷ [])) ∙ dead)

pub freed : (number class : ℕ) (chunk : ChunkId) (view counted now : View) (slabs between left : SlabState) → counted ≡ slabs_changed slabs (change.Evicted class) (number + 1) view → Happens view (change.Evicted class ∷ []) step.MissSlabs counted → between ≡ after_evicted slabs class
    → PutsBack counted between chunk now → left ≡ after_back between chunk → FreesEvicted number class chunk view slabs now left
freed number class chunk view counted now slabs between left is happens same back left_is = record {
  counted = counted;
  is_counted = is;
  happens = happens;
  back = subst (λ (s : SlabState). PutsBack counted s chunk now) same back;
  left_is = left_is ∙ ap (λ (s : SlabState). after_back s chunk) same;
}
