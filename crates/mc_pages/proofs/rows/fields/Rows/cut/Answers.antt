use Rattle.std.proofs.Common.{refl}
use Rattle.mc_pages.specs.ClassState.{with_cut}
use Rattle.mc_pages.proofs.ClassRows.{has_become, became_free}
use Rattle.mc_pages.proofs.Linked.{loosened}
use Rattle.mc_pages.proofs.rows.fields.Rows.cut.Goals as goal

pub returns-clause-cut : goal.returns-clause-cut
returns-clause-cut c =
    has_become _ _ _ _ c.put_first.ensures.linked (became_free c.args.self.now _ c.args.class (λ state. with_cut state c.args.next) _ c.put_first.ensures.sizes c.put_first.ensures.lists (λ state. refl))

pub put_first-requires-clause-linked : goal.put_first-requires-clause-linked
put_first-requires-clause-linked c = loosened c.args.self.now c.args.next c.requires.linked
