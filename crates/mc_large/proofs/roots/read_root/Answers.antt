use Rattle.std.proofs.Common.{◌≡◌, ◌∙◌, ◌<◌, ◌∷◌, List, Ok, ap, arith, length, subst, sym, ℕ}
use Rattle.mc_large.specs.Roots.{IsNoRoot}
use Rattle.mc_large.proofs.Words.{many_behind, odd_behind}
use Rattle.mc_large.proofs.roots.read_root.Goals as goal

pub returns-then-not-branch : goal.returns-then-not-branch
returns-then-not-branch c =
    let rest = c.in-Some.rest.now in
    let bytes : c.args.root.now ≡ 1 ∷ rest = c.in-Some.ensures.cases.0 ∙ ap (λ (tag : ℕ). tag ∷ rest) c.if-tag-ne-LARGE.false in (
      subst (λ (root : List ℕ). IsNoRoot root) (sym bytes) (odd_behind rest c.in-Some-read_length.bytes.now c.in-Some-read_length.len c.in-Some-read_length.ensures.some (c.in_ok-read_versions.ensures.odd (ap Ok c.if-not-branch.true))),
      c.clear-then-not-branch.ensures.items,
    )

pub returns-then-len : goal.returns-then-len
returns-then-len c =
    let rest = c.in-Some.rest.now in
    let bytes : c.args.root.now ≡ 1 ∷ rest = c.in-Some.ensures.cases.0 ∙ ap (λ (tag : ℕ). tag ∷ rest) c.if-tag-ne-LARGE.false in
    let many : c.in-Some-read_length.len < length c.read_versions.new.versions.items = omega (arith, c.if-len.true, c.len.ensures) in (
      subst (λ (root : List ℕ). IsNoRoot root) (sym bytes)
          (many_behind rest c.in-Some-read_length.bytes.now c.in-Some-read_length.len c.read_versions.new.versions.items c.in-Some-read_length.ensures.some (c.in_ok-read_versions.ensures.read (ap Ok c.if-not-branch.false)) many),
      c.clear-then-len.ensures.items,
    )
