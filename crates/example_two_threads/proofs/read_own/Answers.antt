use Rattle.std.proofs.Common.{◌≡◌, ℕ, [], ◌∷◌, ◌∙◌, List, Option, Some, Result, Ok, Err, Contains, IfOk, IfSome, Vec, Global, ap, drop, subst, sym}
use Rattle.std.specs.Result.{result_ok}
use Rattle.std.proofs.lemmas.List.Elements.{Contains-push}
use Rattle.std.proofs.lemmas.Result.{IfOk-weaker}
use Rattle.mc_core.specs.past.Past.{StoredItem}
use Rattle.mc_words.specs.hand.Arenas.{view}
use Rattle.mc_words.specs.item.Items.{item_with}
use Rattle.mc_items.specs.ItemRefs.{item_key, item_stamp}
use Rattle.mc_items.specs.Keeping.{WordsWereStored}
use Rattle.example_two_threads.proofs.read_own.Goals as goal

-- what a clause says of a value it says of the same behind `ok`
behind_ok : {A E : Type 0} (P : A → Type 0) (r : Result A E) → IfOk r P → IfSome (result_ok r) P
behind_ok P (Ok x) h = h
behind_ok P (Err e) h = tt

at_value : {A E : Type 0} (P : A → Type 0) (r : Result A E) (o : Option A) (x : A) → o ≡ result_ok r → o ≡ Some x → IfOk r P → P x
at_value {A} P r o x is was h = subst (λ (q : Option A). IfSome q P) (sym is ∙ was) (behind_ok P r h)

pub returns-then-own : goal.returns-then-own
returns-then-own g c =
    let stamp = c.in_ok-stamp.stamp in
    let item = c.in-Ok-Some.item in
    let saying : StoredItem = record { stamp = stamp; words = item_with 3 stamp (7 ∷ 8 ∷ 9 ∷ []) } in
    let set_said = at_value _ c.set.result c.ok.result stamp c.ok.ensures.value c.in_ok-stamp.was c.set.ensures.stores_words in
    let said = c.read-found.ensures.stores_nothing ∙ (c.get.ensures.stores_nothing ∙ set_said) in
    let among = subst (λ (l : List StoredItem). Contains l saying) (sym said) (Contains-push _ saying) in
    let Read = λ (read : Vec ℕ Global). WordsWereStored (view c.read-found.new.hand) (item_stamp item) (item_with (item_key item) (item_stamp item) read.items) in
    let Own = λ (read : Vec ℕ Global). read.items ≡ 7 ∷ 8 ∷ 9 ∷ [] in
    let own = IfOk-weaker c.read-found.result Read Own (λ read are. ap (drop 3) (sym (are.own saying among (sym c.if-own.true ∙ c.stamp.ensures.stamp)))) c.read-found.ensures.stores_words in
    record { words = subst (λ (o : Option (Vec ℕ Global)). IfSome o Own) (sym c.ok-then-own.ensures.value) (behind_ok Own c.read-found.result own) }
