use Rattle.std.proofs.Common.{sym, ◌∙◌}
use Rattle.test_pages.proofs.Looked.{found_free, found_out, walked_on, walked_all, None-is_none}
use Rattle.test_pages.proofs.tests.pages.driven.Driven.is_listed.Goals.{then-eq-via-then-eq, then-eq-via-else-eq+then-eq-2}
use Rattle.test_pages.proofs.tests.pages.driven.Driven.is_listed.Goals as goal

pub returns-then-eq-clause-listed : goal.returns-then-eq-clause-listed
returns-then-eq-clause-listed c there =
    elim c.then-eq.branch [
      | then-eq-via-then-eq w ↦
          found_free c.args.self.now.slabs.state c.args.class c.loop-place.place c.args.chunk c.free_at-free.result c.free_at-free.ensures.chunk (sym c.eq.ensures ∙ w.if-eq.true)
      | then-eq-via-else-eq+then-eq-2 w ↦
          found_out c.args.self.now.slabs.state c.args.class c.loop-place.place c.args.chunk c.order_at-out.result c.order_at-out.ensures.chunk (sym w.eq-else-eq.ensures ∙ w.if-eq-2.true)
    ]

pub returns-then-is_none-2-clause-unlisted : goal.returns-then-is_none-2-clause-unlisted
returns-then-is_none-2-clause-unlisted c not =
    walked_all c.args.self.now.slabs.state c.args.class c.loop-place.place c.args.chunk (sym c.free_at-free.ensures.chunk ∙ None-is_none c.free_at-free.result c.is_none.result c.is_none.ensures c.if-is_none.true)
    (sym c.order_at-out.ensures.chunk ∙ None-is_none c.order_at-out.result c.is_none-then-is_none.result c.is_none-then-is_none.ensures c.if-is_none-2.true) c.loop-place.invariant

pub loop-place-preserved : goal.loop-place-preserved
loop-place-preserved c =
    walked_on c.args.self.now.slabs.state c.args.class c.loop-place.place c.args.chunk c.free_at-free.result c.order_at-out.result c.free_at-free.ensures.chunk c.order_at-out.ensures.chunk (sym c.eq.ensures ∙ c.if-eq.false)
    (sym c.eq-else-eq.ensures ∙ c.if-eq-2.false) c.loop-place.invariant
