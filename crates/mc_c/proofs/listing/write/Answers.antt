use Rattle.std.proofs.Common.{◌++◌, ◌∙◌, List, Ok, ap, inl, subst, true, ℕ}
use Rattle.mc_shard.specs.Listing.{bytes_of_keys}
use Rattle.mc_c.specs.Calls.{WritesValue}
use Rattle.mc_c.specs.Listing.{entries_of}
use Rattle.mc_c.proofs.listing.write.Goals as goal

pub returns-in-Ok : goal.returns-in-Ok
returns-in-Ok c =
    inl (subst (λ (value : List ℕ). WritesValue (Ok true) value c.copy.result c.args.out.now c.args.len.now c.copy.new.out c.copy.new.len)
    (c.as_slice.ensures.value ∙ (c.in-Ok.ensures ∙ ap (λ (l : List ℕ). l ++ entries_of (bytes_of_keys c.args.keys.now)) c.clear.ensures.items)) c.copy.ensures)
