-- One command more, and one map more.
use Rattle.std.proofs.Common.{◌≡◌, ℕ, ◌+◌, ◌<◌, List, [], ◌∷◌, length, get_or, drop, suc, Some, ap, sym, subst, refl, ◌∙◌, add-one, zero, arith, ◌≤◌}
use Rattle.std.specs.Option.{option_map}
use Rattle.std.specs.Prelude.{slice_range, OnOk, Result, Ok, Err}
use Rattle.std.proofs.Math.Seq.{drop-cons}
use Rattle.mc_script.specs.declared.command.Command.{Command}
use Rattle.mc_serial_spec.specs.Lines.{serve}
use Rattle.mc_serial_spec.specs.Machine.{Machine}
use Rattle.mc_map.specs.Books.{Book}
use Rattle.mc_map.specs.Map.{books_after}
use Rattle.mc_map.specs.declared.script.Mark.{Mark}
use Rattle.mcmap.specs.Played.{IsMapShown, LeadTo, ShowsMaps, done_at}
use Rattle.mcmap.specs.declared.show.Form.{Form}

-- what stands from this place on
from_place : {X : Type 0} (xs : List X) (place : ℕ) (x other : X) → place < length xs → x ≡ get_or xs place other → drop place xs ≡ x ∷ drop (place + 1) xs
from_place {X} xs place x other within is =
    drop-cons xs place other within
    ∙ ap (λ (y : X). y ∷ drop (suc place) xs) (sym is)
    ∙ ap (λ (n : ℕ). x ∷ drop n xs) (sym (add-one place))

-- where the commands behind this one lead, this one and those lead
pub leads_on : (commands : List Command) (place : ℕ) (command other : Command) (m next after : Machine) (book more later : Book)
    → place < length commands → command ≡ get_or commands place other
    → option_map (λ served. served.machine) (serve m command) ≡ Some next → more ≡ books_after book m command next
    → LeadTo (drop (place + 1) commands) next more after later → LeadTo (drop place commands) m book after later
leads_on commands place command other m next after book more later within is served noted rest =
    subst (λ (cs : List Command). LeadTo cs m book after later) (sym (from_place commands place command other within is))
    (next, served, subst (λ (b : Book). LeadTo (drop (place + 1) commands) next b after later) noted rest)

-- nothing stands behind the last
pub drop_all : {X : Type 0} (xs : List X) (n : ℕ) → length xs ≤ n → drop n xs ≡ []
drop_all [] zero h = refl
drop_all [] (suc n) h = refl
drop_all (x ∷ xs) zero h = absurd (omega arith)
drop_all (x ∷ xs) (suc n) h = drop_all xs n (omega (arith, h))

-- no commands lead nowhere
pub leads_nowhere : (commands : List Command) (place : ℕ) (m : Machine) (book : Book) → length commands ≤ place → LeadTo (drop place commands) m book m book
leads_nowhere commands place m book past = subst (λ (cs : List Command). LeadTo cs m book m book) (sym (drop_all commands place past)) (refl, refl)

module _ (form : Form) (commands : List Command) where
  -- with the map at this mark and those behind it, the maps from this mark on are shown
  pub shows_more : (done next : ℕ) (marks all : List Mark) (place : ℕ) (mark other : Mark) (m after : Machine) (book later : Book) (old text new : List ℕ)
      → all ≡ marks → place < length all → mark ≡ get_or all place other → next ≡ done_at (length commands) done mark
      → LeadTo (slice_range commands done next) m book after later → IsMapShown form mark.line after later old text
      → ShowsMaps form commands next (drop (place + 1) marks) after later text new
      → ShowsMaps form commands done (drop place marks) m book old new
  shows_more done next marks all place mark other m after book later old text new same within is at played shown rest =
      let here = from_place marks place mark other (subst (λ (ms : List Mark). place < length ms) same within) (is ∙ ap (λ (ms : List Mark). get_or ms place other) same) in
      subst (λ (ms : List Mark). ShowsMaps form commands done ms m book old new) (sym here) (
        after,
        later,
        text,
        record { played = subst (λ (n : ℕ). LeadTo (slice_range commands done n) m book after later) at played; shown = shown },
        subst (λ (n : ℕ). ShowsMaps form commands n (drop (place + 1) marks) after later text new) at rest,
      )

  -- behind the last mark a map at the end is all
  pub shows_last : (done : ℕ) (marks all : List Mark) (place : ℕ) (m after : Machine) (book later : Book) (old new : List ℕ)
      → all ≡ marks → length all ≤ place → LeadTo (slice_range commands done (length commands)) m book after later → IsMapShown form 0 after later old new
      → ShowsMaps form commands done (drop place marks) m book old new
  shows_last done marks all place m after book later old new same past played shown =
      subst (λ (ms : List Mark). ShowsMaps form commands done ms m book old new) (sym (drop_all marks place (subst (λ (ms : List Mark). length ms ≤ place) same past)))
      (after, later, record { played = played; shown = shown })

-- what holds where all is well
pub on_ok : {X E : Type 0} {P Q : Type 0} (result : Result X E) → (P → Q) → OnOk result P → OnOk result Q
on_ok (Ok x) step is = step is
on_ok (Err error) step is = is
