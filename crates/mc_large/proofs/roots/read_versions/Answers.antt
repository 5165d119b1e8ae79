use Rattle.std.proofs.Common.{false, ◌≡◌, ℕ, List, subst, sym}
use Rattle.mc_packing.specs.Packing.{AreBytes}
use Rattle.mc_packing.proofs.Bytes.{bytes_drop}
use Rattle.mc_large.proofs.Words.{AreRead, eight_first, read_more, some_left, some_stay}
use Rattle.mc_large.proofs.roots.read_versions.Goals as goal

pub loop-first-preserved : goal.loop-first-preserved
loop-first-preserved c =
    let parts = c.in-Some.ensures.cases in
    let rest = c.loop-first.rest.now in (
      subst (λ (versions : List ℕ). AreRead c.args.bytes.now versions c.in-Some.more.now) (sym c.in_ok-push.ensures.items)
          (read_more c.args.bytes.now c.loop-first.versions.items rest c.in-Some.first.now c.in-Some.more.now c.from_le_bytes.result c.loop-first.invariant.1 c.from_le_bytes.type_inv (eight_first rest c.in-Some.first.now c.in-Some.more.now parts.0 parts.2) parts.0 parts.1 c.from_le_bytes.ensures c.loop-first.invariant.0),
      subst (λ (bytes : List ℕ). AreBytes bytes) (sym parts.1) (bytes_drop 8 rest c.loop-first.invariant.1),
    )

pub returns-clause-odd : goal.returns-clause-odd
returns-clause-odd c = λ is. some_stay c.args.bytes.now c.loop-first.versions.items c.loop-first.rest.now c.in_default.ensures.cases (some_left c.loop-first.rest.now c.is_empty.result c.is_empty.ensures (let no : c.is_empty.result ≡ false = cc in no)) c.loop-first.invariant.0
