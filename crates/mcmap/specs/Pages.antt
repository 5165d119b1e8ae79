-- A page of HTML.
use Rattle.std.specs.Prelude.{◌≡◌, ℕ, List, ◌++◌}
use Rattle.mc_script.specs.declared.command.Command.{Command}
use Rattle.mc_options.specs.declared.settings.Run.{Run}
use Rattle.mc_map.specs.declared.script.Mark.{Mark}
use Rattle.mcmap.specs.Played.{AreMapsOf}
use Rattle.mcmap.specs.declared.show.Form.TheVariants.{Json}

-- a page is behind the old text: some text, the maps of these commands at some moments and at the end, as JSON, and some more text
pub record IsPageOf (run : Run) (commands : List Command) (old new : List ℕ) : Type 0 where
  pub front : List ℕ
  pub moments : List Mark
  pub middle : List ℕ
  pub back : List ℕ
  pub maps : AreMapsOf Json run commands moments (old ++ front) middle
  pub whole : new ≡ middle ++ back
