use Rattle.std.proofs.Common.{Some, None, ap, sym, ◌∙◌, slice_index_or}
use Rattle.mc_stripe.specs.Changes.{after_got, used_up}
use Rattle.mc_words.specs.hand.View.{View}
use Rattle.mc_words.proofs.Locks.StripeChanges.{set_found}
use Rattle.mc_words.proofs.arena.Arena.refer_within.Goals as goal

pub returns-in_default-clause-held : goal.returns-in_default-clause-held
returns-in_default-clause-held c =
    let view = c.args.hand.now.seat.me.0 in
    let number = c.args.held.now.number in
    let value = c.args.held.now.stripe in
    ap (λ (v : View). slice_index_or v.stripes number None) c.tell_none.ensures.view
    ∙ (set_found view.stripes number value (used_up (after_got value.state c.args.hand.now.number c.args.key)) c.requires.held
    ∙ ap Some (sym (c.got.ensures.records ∙ (λ k. used_up (after_got (c.stripe_mut.ensures.stripe k).state (c.tell_none.ensures.number k) c.args.key)))))
