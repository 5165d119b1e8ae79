-- The state in which every run begins keeps what a state in memory keeps.
use Rattle.std.proofs.Common.{◌≡◌, ℕ, zero, suc, ◌*◌, ◌/◌, ◌^◌, ◌<◌, ◌≤◌, ◌∙◌, List, [], ◌∷◌, map, get_or, replicate, Some, refl, sym, ap, arith}
use Rattle.std.proofs.lemmas.List.{length-replicate}
use Rattle.std.proofs.lemmas.List.FromFn.{length-map-range_with_len}
use Rattle.mc_classes.specs.Classes.{Classes, IsSound, arena_pages_of}
use Rattle.mc_pages.specs.declared.ledger.Owner.{Owner}
use Rattle.mc_pages.specs.declared.ledger.Owner.TheVariants.{Untouched}
use Rattle.mc_pages.specs.ClassState.{ClassState, new_class}
use Rattle.mc_pages.specs.SlabState.{fresh_slabs}
use Rattle.mc_pages.specs.Accounted.{IsAccounted}
use Rattle.mc_stripe.specs.StripeState.{ReadyStripe, new_stripe}
use Rattle.mc_core.specs.declared.head.Head.{Head}
use Rattle.mc_core.specs.declared.holding.Holding.{Holding}
use Rattle.mc_core.specs.declared.ids.Ids.{Ids}
use Rattle.mc_core.specs.declared.look.Look.{Look}
use Rattle.mc_core.specs.declared.head.Tag.TheVariants.{Out}
use Rattle.mc_core.specs.model.Head.{never_cut, uncut_from}
use Rattle.mc_core.specs.model.State.{new_state, most_of}
use Rattle.mc_core.specs.run.Chunks.{most_issue}
use Rattle.mc_core.specs.model.InOrder.{IsStateInOrder}

per_pages : (page : ℕ) (sizes : List ℕ) → map (λ (c : ClassState). c.per_page) (map (λ (size : ℕ). new_class size (page / size)) sizes) ≡ map (λ (size : ℕ). page / size) sizes
per_pages page [] = refl
per_pages page (size ∷ sizes) = ap (λ ns. page / size ∷ ns) (per_pages page sizes)

-- what both an entry and the default keep
pub keeps_either : {X : Type 0} (P : X → Type 0) (n i : ℕ) (x y : X) → P x → P y → P (get_or (replicate n x) i y)
keeps_either P zero i x y px py = py
keeps_either P (suc n) zero x y px py = px
keeps_either P (suc n) (suc i) x y px py = keeps_either P n i x y px py

-- a header of the first moment: out, without holders, and with an issue number that fits
pub record IsFirst (head : Head) : Type 0 where
  pub out : head.tag ≡ Out
  pub none : head.count ≡ 0
  pub fits : head.issue < 2 ^ 46

pub first_heads : (count place start : ℕ) → start ≤ most_issue → IsFirst (get_or (replicate count (uncut_from start)) place never_cut)
first_heads count place start small =
    keeps_either IsFirst count place (uncut_from start) never_cut (record { out = refl; none = refl; fits = omega (arith, small) }) (record { out = refl; none = refl; fits = omega arith })

pub new_in_order : (table : Classes) (stripes hands start : ℕ) → IsSound table → 1 ≤ stripes → start ≤ most_issue → IsAccounted (fresh_slabs table) → IsStateInOrder (new_state table stripes hands start)
new_in_order table stripes hands start sound some small all = record {
  sound = sound;
  slabs = record { page = refl; limit = refl; per_page = per_pages table.page table.sizes; owners = length-replicate {A = Owner} (arena_pages_of table) Untouched; accounted = all };
  issued = λ place. (first_heads (arena_pages_of table * most_of table) place start small).fits;
  stripes = let count = length-replicate {A = ReadyStripe} stripes new_stripe in omega arith;
  locks = length-replicate {A = ℕ} stripes 0 ∙ sym (length-replicate {A = ReadyStripe} stripes new_stripe);
  holdings = length-replicate {A = List Holding} hands [] ∙ sym (length-map-range_with_len {X = Ids} (λ number. record { number = Some number; stamps = 0 }) 0 hands);
  looks = length-replicate {A = List Look} hands [] ∙ sym (length-map-range_with_len {X = Ids} (λ number. record { number = Some number; stamps = 0 }) 0 hands);
}
