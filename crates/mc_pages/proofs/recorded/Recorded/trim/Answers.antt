use Rattle.std.proofs.Common.{◌++◌, ℕ, List, length, length-append, arith, replicate, vec_len, sym, ap, ap₂, ◌∙◌}
use Rattle.mc_pages.specs.declared.ledger.Entry.{Entry}
use Rattle.mc_pages.specs.Base.{pages_after_entries, never_granted}
use Rattle.mc_pages.proofs.Trimmed.{left_by-parts}
use Rattle.mc_pages.proofs.recorded.Recorded.trim.Goals as goal

pub invariant_of-self : goal.invariant_of-self
invariant_of-self c =
    let start = λ (count : ℕ). replicate count never_granted in
    let past = c.self.inside.past.entries in
    let tail = c.self.inside.tail.items in
    record {
      trimmed = omega (arith, c.saturating_add-self-inside.ensures, c.self.invariant.trimmed, c.len.ensures, ap (λ (entries : List Entry). length entries) c.and-self-inside.ensures, length-append past c.as_slice-2.result.now, c.as_slice-2.ensures.len);
      base =
          c.apply.ensures.left
          ∙ (ap₂ pages_after_entries c.self.invariant.base c.as_slice.ensures.value
          ∙ (sym (left_by-parts (start (vec_len c.self.inside.base)) past tail)
          ∙ ap₂ (λ (count : ℕ) (entries : List Entry). pages_after_entries (start count) entries) (sym c.apply.ensures.len)
          (ap (λ (entries : List Entry). past ++ entries) (sym c.as_slice-2.ensures.value) ∙ sym c.and-self-inside.ensures)));
    }
