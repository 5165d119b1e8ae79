use Rattle.std.proofs.Common.{◌-◌, ◌++◌, length, take, drop, sym, ap, subst, ◌∙◌, arith, length-take}
use lib.Seq.{take-add, take-take}
use Rattle.std.specs.Io.KnownBytes.{Appends}
use Rattle.std.proofs.KnownBytes.{Appends-trans, Appends-kept}
use Rattle.mc_streams.proofs.standard.write_out.Goals as goal
use Rattle.mc_streams.proofs.standard.write_out.Goals.{in-Ok, in-Err+else-not-is_interrupted}

-- what the write took follows what was written before, and a write that failed took nothing
pub loop-preserved : goal.loop-preserved
loop-preserved g c =
    let xs = c.args.bytes.now in
    let done = c.loop.written in
    let before = c.loop.invariant in
    elim c.match-write.branch [
      | in-Ok w ↦
          let n = w.in-Ok.count in
          let fits = w.in-Ok.ensures.bound in
          let most = length-take (length xs - done) (drop done xs) in
          let joined = ap (λ l. take done xs ++ l) (take-take n (length xs - done) (drop done xs) (omega arith)) ∙ sym (take-add done n xs) in
          rw w.written-is (record {
            within = omega arith;
            bytes = subst (Appends _ _) joined (Appends-trans _ _ _ _ _ before.bytes w.in-Ok.ensures.bytes);
          })
      | in-Err+else-not-is_interrupted w ↦ rw w.written-is (record {
        within = before.within;
        bytes = Appends-kept _ _ _ _ before.bytes w.in-Err.ensures.bytes;
      })
    ]
