use Rattle.std.proofs.Common.{◌∙◌, List, ℕ, ap, sym, take, get_or}
use Rattle.std.proofs.lemmas.List.{take_more}
use Rattle.mc_large.specs.Roots.{large_root}
use Rattle.mc_large.proofs.Words.{root_more, root_none, word_bytes}
use Rattle.mc_large.proofs.roots.put_large_root.Goals as goal

pub loop-version-init : goal.loop-version-init
loop-version-init c = root_none c.clear.new.self.items c.push.new.list.items c.to_le_bytes.result c.extend_from_slice.new.list.items c.args.len c.clear.ensures.items (c.in_ok-push.ensures.items) c.to_le_bytes.ensures (c.in_ok-extend_from_slice.ensures.items)

pub loop-version-preserved : goal.loop-version-preserved
loop-version-preserved c =
    let i = c.loop-version.version-index in
    let versions = c.args.versions.now in
    let word = get_or versions i 0 in
    c.in_ok-extend_from_slice-2.ensures.items
    ∙ root_more c.loop-version.into.items c.to_le_bytes-in-loop-version.result c.args.len word (take i versions) (word_bytes word c.to_le_bytes-in-loop-version.result c.to_le_bytes-in-loop-version.ensures) c.loop-version.invariant
    ∙ ap (λ (v : List ℕ). large_root c.args.len v) (sym (take_more versions i 0 c.loop-version-test.true))
