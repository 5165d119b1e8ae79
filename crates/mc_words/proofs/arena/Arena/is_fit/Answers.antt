use Rattle.std.proofs.Common.{◌/◌, refl, inr, ltb-true, ltb-false}
use Rattle.mc_core.specs.model.Head.{decode}
use Rattle.mc_words.proofs.Chunks.Judging.{issue_left, issue_worn}
use Rattle.mc_words.proofs.arena.Arena.is_fit.Goals as goal

pub returns-clause-fit : goal.returns-clause-fit
returns-clause-fit c left = record {
  off = c.if-chunk-page.false;
  head = decode c.head.result;
  unused = issue_left c.head.result (ltb-true (c.head.result / 262144) 70368744177663 left);
  looks = c.head.ensures.happens;
  is = c.head.ensures.seen;
}

pub returns-clause-over : goal.returns-clause-over
returns-clause-over c worn = inr (
  c.if-chunk-page.false,
  record {
    chunk = c.args.chunk;
    is_asked = refl;
    head = decode c.head.result;
    other = issue_worn c.head.result (ltb-false (c.head.result / 262144) 70368744177663 worn);
    happens = c.head.ensures.happens;
    is = c.head.ensures.seen;
  },
)
