use Rattle.std.proofs.Common.{◌≡◌, true, Some, Result, Ok, Err, sym, ◌∙◌, subst, length, arith}
use Rattle.std.specs.Prelude.{OnOk, OnErr}
use Rattle.std.proofs.lemmas.Bool.Decides.{nat_tests}
use Rattle.mc_serial_spec.proofs.KeptChanges.{place_once}
use Rattle.mc_serial_spec.specs.Holds.{Holds, with_hold}
use Rattle.mc_serial_spec.specs.Items.{linked_chunk}
use Rattle.mc_keeper.specs.Kept.{DeadAreCounted}
use Rattle.mc_keeper.proofs.Counted.{counted_taken, leads_linked}
use Rattle.mc_keeper.proofs.keeper.Keeper.hold.Goals as goal

-- what is so of the holds with one more and of those before is so of those after the call
either_holds : {E : Type 0} (result : Result (Unit {0}) E) (P : Holds → Type 0) (new taken old : Holds) → OnOk result (new ≡ taken) → OnErr result (new ≡ old) → P taken → P old → P new
either_holds (Ok done) P new taken old took left more before = subst P (sym took) more
either_holds (Err error) P new taken old took left more before = subst P (sym left) before

pub invariant_of-self : goal.invariant_of-self
invariant_of-self c =
    let found : linked_chunk c.self.inside.items c.args.key ≡ Some c.in-Some.chunk = sym (c.self.invariant.indexed c.args.key) ∙ sym c.in-Some.ensures.chunk in
    let leads = (leads_linked _ _ _ c.args.key c.in-Some.chunk c.self.invariant.kept found).0 in
    let linked : leads.item.linked ≡ true = grind (arith, nat_tests, leads.linked) in
    record {
      kept = c.self.invariant.kept;
      watched = c.self.invariant.watched;
      counted = either_holds c.take.result
          (λ (holds : Holds). DeadAreCounted (length c.self.inside.slabs.state.classes) c.self.inside.slabs.state.owners holds c.self.inside.items c.self.inside.dead)
          c.take.new.self (with_hold c.self.inside.holds c.args.worker c.in-Some.chunk) c.self.inside.holds c.take.ensures.ok c.take.ensures.err
          (counted_taken _ _ _ _ _ c.args.worker c.in-Some.chunk leads.item c.self.invariant.counted leads.there linked
          (place_once _ _ _ c.in-Some.chunk c.self.invariant.kept))
          c.self.invariant.counted;
      indexed = c.self.invariant.indexed;
      bulk = c.self.invariant.bulk;
    }
