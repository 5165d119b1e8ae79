use Rattle.std.proofs.Common.{◌<◌, ℕ, List, ◌++◌, length, sym, ◌∙◌, subst, arith, append-nil}
use Rattle.std.specs.Io.KnownBytes.{Appends}
use Rattle.std.proofs.KnownBytes.{Appends-trans}
use Rattle.mc_watch.proofs.Lines.{lines_at_none, lines_at_some, lines_more}
use Rattle.mc_watch.proofs.Writes.{extends_then}
use Rattle.mc_watch.proofs.statistics.write_classes.Goals as goal
use Rattle.mc_watch.proofs.statistics.write_classes.Goals.{then-pages-place-ne0+in_ok-write_class, else-pages-place-ne0}

pub loop-place-preserved : goal.loop-place-preserved
loop-place-preserved g c =
    let before = c.loop-place.invariant in
    let a = c.args in
    let place = c.loop-place.place in
    let in_free : place < length a.free.now = omega (arith, c.requires.pages_of_each, c.requires.free_of_each) in
    let more = lines_more a.table.now a.pages.now a.free.now place before.0 _ c.loop-place-test.true in_free before.2 in
    let gained : List ℕ → Type 0 = λ text. Appends (g.W.Sink.contents a.writer.now) (g.W.Sink.contents c.if-pages-place-ne0.writer) (before.0 ++ text) in
    elim c.if-pages-place-ne0.branch [
      | then-pages-place-ne0+in_ok-write_class w ↦
          let lines = lines_at_some a.table.now a.pages.now a.free.now place w.size.result w.per_page.result w.if-pages-place-ne0.true w.size.ensures.size w.per_page.ensures.chunks in
          (_, subst gained (sym lines) (rw w.writer-is (Appends-trans _ _ _ _ _ before.1 w.in_ok-write_class.ensures.bytes)), more, rw w.writer-is (w.in_ok-write_class.ensures.ok ∙ before.3))
      | else-pages-place-ne0 w ↦
          let lines = lines_at_none a.table.now a.pages.now a.free.now place w.if-pages-place-ne0.false in
          (_, subst gained (sym lines) (rw (append-nil, w.writer-is) before.1), more, rw w.writer-is before.3)
    ]

pub returns-in_err-write_class-clause-kept : goal.returns-in_err-write_class-clause-kept
returns-in_err-write_class-clause-kept g c =
    extends_then _ _ _ _ _ c.loop-place.invariant.1 c.in_err-write_class.ensures.kept
