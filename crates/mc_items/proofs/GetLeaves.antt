-- What a get leaves, and a delete, from what they did.
use Rattle.std.proofs.Common.{◌≡◌, ◌<◌, ℕ, Bool, true, [], ◌∷◌, length, Option, Some, None, Result, Ok, Err, IfOk, IfSome, OnErr, refl, ap, sym, ◌∙◌}
use Rattle.std.specs.Option.{option_map}
use Rattle.mc_classes.specs.Limits.{most_refs}
use Rattle.mc_pages.specs.declared.ids.ChunkId.{ChunkId}
use Rattle.mc_core.specs.past.Past.{known_by}
use Rattle.mc_words.specs.declared.item.refs.Again.{Again}
use Rattle.mc_words.specs.declared.item.refs.Again.TheVariants.{Gone, Contended, TooManyRefs}
use Rattle.mc_words.specs.declared.item.refs.Ref as words
use Rattle.mc_words.specs.item.Again.{FindsContended, FindsGone}
use Rattle.mc_core.specs.model.State.{has_chunk}
use Rattle.mc_words.specs.declared.hand.Hand.{Hand}
use Rattle.mc_words.specs.hand.Arenas.{view}
use Rattle.mc_words.specs.rule.Happens.{LawfulView}
use Rattle.mc_words.specs.hand.Ready.{IsReady}
use Rattle.mc_words.specs.item.References.{reference_to}
use Rattle.mc_words.specs.item.Refs.{KeepsRefs}
use Rattle.mc_words.specs.hand.View.{Setup, View}
use Rattle.mc_items.specs.declared.refs.Ref.{Ref}
use Rattle.mc_items.specs.Calls.{CallsOn, Deletes, LooksUp, OnlyWaits}
use Rattle.mc_items.specs.ItemRefs.{IsItemRef, item_chunk, item_issue, item_key, item_reference}
use Rattle.mc_items.specs.Keeping.{HoldsToo, HasStoredWords, holding_by}
use Rattle.mc_items.specs.Reading.{AndReads}
use Rattle.mc_items.proofs.Chains.{item_near, item_said, ready_more, ready_still, refs_and_more, refs_stay}
use Rattle.mc_items.proofs.Left.{GotOne, Kept, deletes_keep, gets_one, kept_of, contended_keeps, gone_keeps, none_keeps, one_more_held, only_keeps}

-- a get
pub record Leaves (found : Option Ref) (view now : View) : Type 0 where
  pub holds : HoldsToo found view now
  pub keeps : KeepsRefs view now
  pub stored : now.row.knows.stored ≡ view.row.knows.stored
  pub ids : now.row.ids ≡ view.row.ids

-- one reference more
pub leaves_one : (item : Ref) (view now : View) → GotOne (item_chunk item) (item_issue item) item.reference.room view now → Leaves (Some item) view now
leaves_one item view now one =
    let holding = reference_to (item_chunk item) (item_issue item) one.item in record {
      holds = one_more_held item view now one;
      keeps = refs_and_more view now holding (known_by item.reference.room holding ∷ []) (ap (λ (k : Kept). k.0) one.kept) (ap (λ (k : Kept). k.1) one.kept);
      stored = ap (λ (k : Kept). k.2) one.kept;
      ids = ap (λ (k : Kept). k.3) one.kept;
    }

-- none
pub leaves_none : (view now : View) → kept_of now ≡ kept_of view → Leaves None view now
leaves_none view now kept = record {
  holds = ap (λ (k : Kept). k.0) kept;
  keeps = refs_stay view now (ap (λ (k : Kept). k.0) kept) (ap (λ (k : Kept). k.1) kept);
  stored = ap (λ (k : Kept). k.2) kept;
  ids = ap (λ (k : Kept). k.3) kept;
}

pub get_leaves : (number stripe key : ℕ) (found : Option Ref) (view now : View) → AndReads (option_map item_chunk found) (CallsOn number stripe (LooksUp number stripe key (option_map item_reference found))) view now → Leaves found view now
get_leaves number stripe key (Some item) view now did = leaves_one item view now (gets_one number stripe key item view now did)
get_leaves number stripe key None view now on = leaves_none view now (none_keeps number stripe key view now on)

-- a ready hand, where it held few enough for one more
pub get_ready : (before now : Hand) (found : Option Ref) → now.locks ≡ before.locks → HoldsToo found (view before) (view now) → length (view before).row.holdings < most_refs → IsReady (view before) → IsReady (view now)
get_ready before now (Some item) locks holds within_limit ready = ready_more before now (holding_by (view now) item) locks holds refl within_limit ready
get_ready before now None locks holds within_limit ready = ready_still before now locks holds ready

-- what is known of the item
pub get_near : (setup : Setup) (view : View) (found : Option Ref) (key : ℕ) → LawfulView view → view.setup ≡ setup → IfSome found (λ item. IsItemRef view item × (item_key item ≡ key)) → IfSome found (λ item. has_chunk setup.table (item_chunk item) ≡ true)
get_near setup view (Some item) key was same is = ap (λ (s : Setup). has_chunk s.table (item_chunk item)) (sym same) ∙ item_near view was item is.0
get_near setup view None key was same is = tt

pub get_said : (view : View) (found : Option Ref) (key : ℕ) → LawfulView view → IfSome found (λ item. IsItemRef view item × (item_key item ≡ key)) → IfSome found (HasStoredWords view)
get_said view (Some item) key was is = item_said view was item is.0
get_said view None key was is = tt

-- a delete leaves what is held, known and said
pub delete_kept : {E : Type 0} (r : Result Bool E) (number stripe key : ℕ) (view now : View) → IfOk r (λ there. CallsOn number stripe (Deletes number stripe key there) view now) → OnErr r (OnlyWaits stripe view now) → kept_of now ≡ kept_of view
delete_kept (Ok there) number stripe key view now did none = deletes_keep number stripe key there view now did
delete_kept (Err error) number stripe key view now did none = only_keeps stripe view now none

-- a hint that didn't lead to its item leaves all
abbrev refusal : Again → Result words.Ref Again
refusal e = Err e

pub again_kept : (e : Again) (view : View) (chunk : ChunkId) (issue : ℕ) (now : View) → (refusal e ≡ Err Gone → FindsGone view chunk issue now) → (refusal e ≡ Err Contended → FindsContended view chunk issue now) → (refusal e ≡ Err TooManyRefs → now ≡ view) → kept_of now ≡ kept_of view
again_kept Gone view chunk issue now gone contended at_limit = gone_keeps view chunk issue now (gone refl)
again_kept Contended view chunk issue now gone contended at_limit = contended_keeps view chunk issue now (contended refl)
again_kept TooManyRefs view chunk issue now gone contended at_limit = ap kept_of (at_limit refl)
