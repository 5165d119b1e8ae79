use Rattle.std.proofs.Common.{refl, string_bytes, arith}
use Rattle.mcmap.proofs.PlayedMore.{on_ok, shows_last, shows_more}
use Rattle.mcmap.proofs.show.play_maps.Goals as goal

pub loop-mark-preserved : goal.loop-mark-preserved
loop-mark-preserved c = record {
  within_limit = omega (arith, c.place_of-place.ensures);
  shown = λ new rest.
      c.loop-mark.invariant.shown new
      (shows_more c.args.form c.args.commands.now c.loop-mark.done c.place_of-place.result c.args.marks.now c.args.marks.now c.loop-mark.mark-index _ _ c.loop-mark.player.keeper
      c.play_all.new.player.keeper c.loop-mark.player.books c.play_all.new.player.books (string_bytes c.loop-mark.text) (string_bytes c.show_map.new.text) new refl c.loop-mark-test.true refl
      c.place_of-place.ensures c.in_ok-play_all.ensures.played c.in_ok-show_map.ensures.shown rest);
}

pub returns : goal.returns
returns c = record {
  maps = on_ok c.show_map-2.result
      (λ shown.
      c.loop-mark.invariant.shown (string_bytes c.show_map-2.new.text)
      (shows_last c.args.form c.args.commands.now c.loop-mark.done c.args.marks.now c.args.marks.now c.loop-mark.mark-index c.loop-mark.player.keeper c.play_all-2.new.player.keeper
      c.loop-mark.player.books c.play_all-2.new.player.books (string_bytes c.loop-mark.text) (string_bytes c.show_map-2.new.text) refl c.loop-mark-test.false
      c.in_ok-play_all-2.ensures.played shown)) c.show_map-2.ensures.shown;
}
