use Rattle.mcmap.proofs.PlayedMore.{on_ok}
use Rattle.mcmap.proofs.show.show_map.Goals as goal

pub returns : goal.returns
returns c = record {
  shown = on_ok c.write_form-written.result (λ text. record { keys = c.args.player.now.items.keys.items; map = c.in_ok-map.map; is_map = c.in_ok-map.ensures.map; text = text })
      c.write_form-written.ensures.map;
}
