-- What keeps the meaning of the table keeps its whole rule.
use Rattle.std.proofs.Common.{◌≡◌, ℕ, true, List, map, None, sym, ap, subst, ◌∙◌, inl, inr, slice_set, slice_index, is_some}
use Rattle.std.proofs.lemmas.Bool.{cases_Bool}
use Rattle.std.proofs.lemmas.List.{map-set}
use mathlib.Core.Option.{some}
use lib.ListN.{get_elem?}
use Rattle.atomic_table.specs.Table.{Allows, homes_after}
use Rattle.atomic_table.proofs.Lists.{at_set, at_map}
use Rattle.mc_core.specs.declared.event.Event.{Event}
use Rattle.mc_core.specs.model.State.{is_hand}
use Rattle.mc_core.specs.past.Past.{Moment}
use Rattle.mc_words.specs.hand.View.{Setup, View, settled_view}
use Rattle.mc_words.specs.rule.Meaning.{IsViewOf, IsRuled}
use Rattle.mc_words.specs.rule.Told.{Sits}
use Rattle.mc_words.specs.rule.Joins.{IsMade, Rule, all_settled}

-- a view of a lawful moment has a number, and isn't of a hand that was just made
abbrev pub IsSettled : View → Type 0
IsSettled view = (is_some view.row.ids.number ≡ true) × (view.made_of ≡ None)

pub settled_same : (view : View) → view.made_of ≡ None → settled_view view ≡ view
settled_same view none = ap (λ made. record view { made_of = made }) (sym none)

pub plain_view : (setup : Setup) (run : List Event) (m : Moment) (hand : ℕ) (view : View) → IsViewOf setup run m hand view → view.made_of ≡ None
plain_view setup run m hand view is = elim (cases_Bool (is_hand m.state hand)) [
  | inl there ↦ ap (λ (v : View). v.made_of) (is.there there)
  | inr gone ↦ ap (λ (v : View). v.made_of) (is.gone gone)
]

-- a hand that wasn't made of two
pub not_made : (view : View) → view.made_of ≡ None → IsMade view
not_made view none kept spent own others made = absurd (cc)

-- a step that keeps the meaning, of a hand that wasn't just made
pub lifts : (setup : Setup) (slots id : ℕ) (me : Sits) → me.0.made_of ≡ None → (place : ℕ) (written : ℕ → ℕ) (told : ℕ → Sits → Type 0) → Allows (IsRuled setup) slots id me place written told → Allows (Rule setup) slots id me place written told
lifts setup slots id me plain place written told allows t rule long at fits =
    let at_settled : get_elem? (map settled_view t.views) id ≡ some me.0 = at_map settled_view t.views id me.0 at ∙ ap some (settled_same me.0 plain) in
    let (w, act, valid, ruled, tells) = allows (all_settled t) rule.ruled long at_settled fits in
    let in_range = Rattle.mc_words.proofs.Rules.NextMoments.within (map settled_view t.views) id me.0 at_settled in
    let w_plain : w.made_of ≡ None = plain_view setup ruled.run ruled.moment id w (ruled.means.views id w (Rattle.atomic_table.proofs.Lists.set_here (map settled_view t.views) id w in_range)) in
    let views : slice_set (map settled_view t.views) id w ≡ map settled_view (slice_set t.views id w) = ap (slice_set (map settled_view t.views) id) (sym (settled_same w w_plain)) ∙ sym (map-set settled_view t.views id w) in (
      w,
      act,
      valid,
      record {
        ruled = subst (λ (views : List View). IsRuled setup (record { words = slice_set t.words place (written (slice_index t.words place)); homes = homes_after t.homes me.1 act; views = views })) views ruled;
        made = λ hand view at_view. elim (at_set t.views id hand w view at_view) [
          | inl same ↦ subst IsMade same.1 (not_made w w_plain)
          | inr differs ↦ rule.made hand view differs.1
        ];
      },
      tells,
    )
