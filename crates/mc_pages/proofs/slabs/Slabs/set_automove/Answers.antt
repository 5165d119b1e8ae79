use Rattle.mc_pages.specs.InOrder.{slabs_of}
use Rattle.mc_pages.proofs.KeptMoves.{IsInOrder-automove}
use Rattle.mc_pages.proofs.slabs.Slabs.set_automove.Goals as goal

pub invariant_of-self : goal.invariant_of-self
invariant_of-self c =
    record {
      order = IsInOrder-automove (slabs_of c.self.inside) c.self.inside.granted c.args.mode c.requires c.self.invariant.order;
      ledger = c.self.invariant.ledger;
      base = c.self.invariant.base;
      pool = c.self.invariant.pool;
      classes = c.self.invariant.classes;
      linked = c.self.invariant.linked;
      ordinary = c.self.invariant.ordinary;
      aged = c.self.invariant.aged;
      rows = c.self.invariant.rows;
    }

pub returns-clause-accounted : goal.returns-clause-accounted
returns-clause-accounted c = (invariant_of-self c).order.accounted
