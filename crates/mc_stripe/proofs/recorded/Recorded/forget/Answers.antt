use Rattle.std.proofs.Common.{length, ap, ◌∙◌, arith, rules}
use Rattle.std.proofs.lemmas.List.{length-append}
use Rattle.mc_stripe.proofs.Once.{once_empty}
use Rattle.mc_stripe.proofs.recorded.Recorded.forget.Goals as goal

pub invariant_of-self : goal.invariant_of-self
invariant_of-self c = record {
  trimmed = grind (arith, c.self.invariant.trimmed, c.saturating_add-self-inside.ensures, c.len.ensures, ap length c.and-self-inside.ensures ∙ length-append c.self.inside.past.calls c.as_slice.result.now, c.as_slice.ensures.len);
  fits = search rules;
  base = search rules;
  once = once_empty c.clear.new.self.items c.clear.ensures.items;
  none = search rules;
}
