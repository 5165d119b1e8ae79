use Rattle.mc_picture.specs.Maps.{map_page_text}
use Rattle.mc_picture.proofs.Ranges.{written_next}
use Rattle.std.proofs.Common.{refl}
use Rattle.mc_picture.proofs.text.write_pages.Goals as goal

pub loop-place-preserved : goal.loop-place-preserved
loop-place-preserved c =
    written_next (map_page_text c.args.first c.args.owners.now) c.loop-place.place _ _ _ _ c.loop-place.invariant c.in_ok-write_page.ensures.page refl
