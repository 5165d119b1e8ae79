use Rattle.std.proofs.Common.{◌≡◌, ℕ, Bool, true, sym, subst}
use Rattle.std.proofs.lemmas.Bool.{and_parts}
use Rattle.mc_core.specs.model.State.{stripe_of, stripe_at}
use Rattle.mc_core.specs.run.Evictions.{can_lose_entry, key_at}
use Rattle.mc_core.proofs.state.State.condemn.Goals as goal

pub tell_condemn-requires : goal.tell_condemn-requires
tell_condemn-requires c =
    let state = c.args.self.now in
    let asked = (and_parts _ _ (and_parts _ _ c.requires.allowed).0).1 in
    subst (λ (key : ℕ). can_lose_entry (stripe_at state (stripe_of state key)) key c.has_copy-rescues.result ≡ true) (sym c.word-key.ensures)
    (subst (λ (rescues : Bool). can_lose_entry (stripe_at state (stripe_of state (key_at state c.args.chunk))) (key_at state c.args.chunk) rescues ≡ true)
    (sym c.has_copy-rescues.ensures) asked)
