use Rattle.std.proofs.Common.{◌≡◌, ℕ, List, refl, subst}
use Rattle.std.specs.Fmt.{digits}
use Rattle.mc_serial_spec.specs.Machine.{Machine}
use Rattle.mc_map.specs.Books.{Book}
use Rattle.mcmap.specs.Played.{IsMapShown, place_text}
use Rattle.mcmap.specs.declared.show.Form.{Form}
use Rattle.mcmap.proofs.laws.worked_scripts.Goals as goal

as_it_stood : (form : Form) (line : ℕ) (m after : Machine) (book later : Book) (old new : List ℕ) → after ≡ m → later ≡ book → IsMapShown form line after later old new → IsMapShown form line m book old new
as_it_stood form line m after book later old new same kept shown =
    subst (λ (b : Book). IsMapShown form line m b old new) kept (subst (λ (n : Machine). IsMapShown form line n later old new) same shown)

pub returns-clause-shown : goal.returns-clause-shown
returns-clause-shown c form m book old new (after, later, text, first, (finally, books, last)) = (
  text,
  as_it_stood form 3 m after book later old text first.played.0 first.played.1 first.shown,
  as_it_stood form 0 m after book later text new first.played.0 first.played.1 (as_it_stood form 0 after finally later books text new last.played.0 last.played.1 last.shown),
)

pub returns-clause-places : goal.returns-clause-places
unfolding place_text digits
returns-clause-places c = refl
