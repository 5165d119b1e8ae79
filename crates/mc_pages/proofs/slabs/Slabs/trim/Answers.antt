use Rattle.std.proofs.Common.{sym, ap, ◌∙◌, subst, arith}
use Rattle.mc_pages.specs.Base.{Entries}
use Rattle.mc_pages.specs.Ledger.{ordinary_count}
use Rattle.mc_pages.specs.SlabState.{SlabState}
use Rattle.mc_pages.specs.InOrder.{AreSlabsInOrder, slabs_of}
use Rattle.mc_pages.proofs.KeptMoves.{IsInOrder-after_trim}
use Rattle.mc_pages.proofs.slabs.Slabs.trim.Goals as goal

pub invariant_of-self : goal.invariant_of-self
invariant_of-self c =
    let now = ap (λ (entries : Entries). record (slabs_of c.self.inside) { ledger = entries.all; trimmed = entries.trimmed }) c.trim.ensures.trimmed in
    record {
      order = subst (λ (s : SlabState). AreSlabsInOrder s c.self.inside.granted) (sym now) (IsInOrder-after_trim (slabs_of c.self.inside) c.self.inside.granted c.self.invariant.order);
      ledger = omega (arith, c.self.invariant.ledger, c.trim.ensures.kept);
      base = ap (λ (entries : Entries). entries.pages) c.trim.ensures.trimmed ∙ c.self.invariant.base;
      pool = c.self.invariant.pool;
      classes = c.self.invariant.classes;
      linked = c.self.invariant.linked;
      ordinary = c.self.invariant.ordinary ∙ sym (ap (λ (entries : Entries). ordinary_count entries.all) c.trim.ensures.trimmed);
      aged = c.self.invariant.aged;
      rows = c.self.invariant.rows;
    }

pub returns-clause-accounted : goal.returns-clause-accounted
returns-clause-accounted c = (invariant_of-self c).order.accounted
