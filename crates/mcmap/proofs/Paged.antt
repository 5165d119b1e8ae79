-- A page of HTML.
use Rattle.std.proofs.Common.{◌≡◌, ℕ, List, ◌++◌, subst, Err, Ok, OnOk, Result, if◌then◌else◌}
use Rattle.std.specs.Prelude.{is_ok}
use Rattle.mc_script.specs.declared.command.Command.{Command}
use Rattle.mc_options.specs.declared.settings.Run.{Run}
use Rattle.mc_map.specs.declared.script.Mark.{Mark}
use Rattle.mc_picture.specs.Drawn.{TextExtends}
use Rattle.mcmap.specs.Played.{AreMapsOf}
use Rattle.mcmap.specs.Pages.{IsPageOf}
use Rattle.mcmap.specs.declared.show.Form.TheVariants.{Json}

-- a piece behind the text, where it is written
pub ends_piece : {E : Type 0} (result : Result (Unit {0}) E) (old new more : List ℕ) → new ≡ (if is_ok result then old ++ more else old) → OnOk result (TextExtends old new)
ends_piece (Ok done) old new more is = (more, is)
ends_piece (Err e) old new more is = tt

-- maps between two texts
pub page : (run : Run) (commands shown : List Command) (moments : List Mark) (old head middle new : List ℕ) → shown ≡ commands → TextExtends old head
    → AreMapsOf Json run shown moments head middle → TextExtends middle new → IsPageOf run commands old new
page run commands shown moments old head middle new same begins maps ends = record {
  front = begins.0;
  moments = moments;
  middle = middle;
  back = ends.0;
  maps = subst (λ (text : List ℕ). AreMapsOf Json run commands moments text middle) begins.1 (subst (λ (cs : List Command). AreMapsOf Json run cs moments head middle) same maps);
  whole = ends.1;
}
