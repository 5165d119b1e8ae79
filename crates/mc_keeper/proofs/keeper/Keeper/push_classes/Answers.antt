use Rattle.std.proofs.Common.{◌≡◌, ℕ, ◌+◌, ◌*◌, ◌/◌, ◌≤◌, not, length, Vec, Global, ap, sym, subst, ◌∙◌, arith}
use Rattle.std.proofs.lemmas.Nat.{mul-le}
use Rattle.std.proofs.lemmas.List.Sums.{count_by-le-length}
use Rattle.mc_classes.specs.Classes.{Classes}
use Rattle.mc_pages.specs.declared.ledger.Owner.{Owner}
use Rattle.mc_pages.specs.declared.numbers.Totals.{Totals}
use Rattle.mc_pages.specs.SlabState.{SlabState, granted_count, is_untouched}
use Rattle.mc_pages.proofs.GrantedPage.{length-owners}
use Rattle.mc_serial_spec.specs.Consistent.{IsConsistent}
use Rattle.mc_serial_spec.specs.Items.{Items}
use Rattle.mc_serial_spec.specs.Machine.{Machine}
use Rattle.mc_serial_spec.proofs.Bounds.{are_counts}
use Rattle.mc_keeper.proofs.keeper.Keeper.push_classes.Goals as goal

pub stats_slabs-requires : goal.stats_slabs-requires
stats_slabs-requires g c =
    rw (c.deref.ensures.value, c.deref-2.ensures.value, c.in_ok-counts.ensures.pages, c.in_ok-counts.ensures.free, ← ap (λ (m : Machine). m.slabs) c.self.view_is)
    (are_counts _ _ _ c.self.invariant.kept)

pub returns-in-Ok-clause-reply : goal.returns-in-Ok-clause-reply
returns-in-Ok-clause-reply g c =
    rw (← c.self.view_is) (rw c.self.invariant.kept.page
    (ap (λ (v : Vec ℕ Global). v.items) c.put_back.ensures.text
    ∙ (rw (
      c.deref.ensures.value,
      c.deref-2.ensures.value,
      c.in_ok-counts.ensures.pages,
      c.in_ok-counts.ensures.free,
      ← c.self.view_is,
      c.totals.ensures.totals,
      c.page.ensures.page,
      c.take-sink.ensures.text,
    ) at c.in-Ok.ensures.bytes)))

-- all pages together have few bytes
granted_bytes : (table : Classes) (slabs : SlabState) (items : Items) → IsConsistent table slabs items → granted_count slabs * table.page ≤ 127 * 16384
granted_bytes table slabs items kept =
    let owners : length slabs.owners ≡ table.limit / table.page + length table.sizes = rw (← kept.limit, ← kept.page, ← kept.classes) (length-owners slabs kept.accounted) in
    let within_limit : granted_count slabs ≤ 127 =
    omega (arith, count_by-le-length (λ (owner : Owner). not (is_untouched owner)) slabs.owners, owners, kept.sound.pages.1, kept.sound.count.1) in
    mul-le (granted_count slabs) table.page 127 16384 within_limit kept.sound.page.1

pub overflow_mul-malloced : goal.overflow_mul-malloced
overflow_mul-malloced g c =
    let within_limit = granted_bytes c.self.inside.table c.self.inside.slabs.state c.self.inside.items c.self.invariant.kept in
    omega (arith, subst (λ (p : ℕ × ℕ). p.0 * p.1 ≤ 127 * 16384) (λ k. (sym (ap (λ (t : Totals). t.granted) c.totals.ensures.totals) k, sym c.page.ensures.page k)) within_limit)
