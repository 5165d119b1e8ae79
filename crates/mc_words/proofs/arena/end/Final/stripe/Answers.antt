use Rattle.std.proofs.Common.{◌≡◌, ℕ, ◌<◌, None, Some, slice_index_or, sym, ap, subst, ◌∙◌}
use mathlib.Core.Option.{some}
use lib.ListN.{get_elem?}
use Rattle.std.specs.Slots.{slots_items}
use Rattle.mc_words.specs.rule.End.{ArenaEnd, stripe_in}
use Rattle.mc_words.proofs.Rules.Ends.{few_stripes, none_told, stripe_told, no_stripe_in}
use Rattle.mc_words.proofs.arena.end.Final.stripe.Goals as goal

pub returns-then-word-ne0 : goal.returns-then-word-ne0
returns-then-word-ne0 c =
    let f = c.self.inside in
    let in_range = subst (λ (l : ArenaEnd). c.args.stripe < l.setup.config.stripes) (sym c.self.view_is) c.requires.in_range in
    record {
      stripe = none_told f.plan (slots_items f.closed.words) (slots_items f.closed.slots) c.self.invariant.2 c.args.stripe in_range c.word.result (subst (λ (n : ℕ). get_elem? (slots_items f.closed.words) n ≡ some c.word.result) c.word-place.ensures.word c.word.ensures) c.if-word-ne0.true
          ∙ ap (λ (l : ArenaEnd). slice_index_or l.stripes c.args.stripe None) c.self.view_is;
    }

pub returns-in-OfStripe : goal.returns-in-OfStripe
returns-in-OfStripe c =
    let f = c.self.inside in
    let in_range = subst (λ (l : ArenaEnd). c.args.stripe < l.setup.config.stripes) (sym c.self.view_is) c.requires.in_range in
    record {
      stripe = ap Some c.stripe.ensures.stripe
          ∙ (ap stripe_in (sym c.in-OfStripe.is)
          ∙ (stripe_told f.plan (slots_items f.closed.words) (slots_items f.closed.slots) c.self.invariant.2 c.args.stripe in_range c.word.result (subst (λ (n : ℕ). get_elem? (slots_items f.closed.words) n ≡ some c.word.result) c.word-place.ensures.word c.word.ensures) c.if-word-ne0.false c.get.result.now (subst (λ (n : ℕ). c.get.result.now ≡ slice_index_or (slots_items f.closed.slots) n c.get.result.now) c.slot-slot.ensures.slot c.get.ensures)
          ∙ ap (λ (l : ArenaEnd). slice_index_or l.stripes c.args.stripe None) c.self.view_is));
    }

pub returns-in_default : goal.returns-in_default
returns-in_default c =
    let f = c.self.inside in
    let in_range = subst (λ (l : ArenaEnd). c.args.stripe < l.setup.config.stripes) (sym c.self.view_is) c.requires.in_range in
    record {
      stripe = sym (no_stripe_in c.get.result.now c.in_default.not-OfStripe)
          ∙ (stripe_told f.plan (slots_items f.closed.words) (slots_items f.closed.slots) c.self.invariant.2 c.args.stripe in_range c.word.result (subst (λ (n : ℕ). get_elem? (slots_items f.closed.words) n ≡ some c.word.result) c.word-place.ensures.word c.word.ensures) c.if-word-ne0.false c.get.result.now (subst (λ (n : ℕ). c.get.result.now ≡ slice_index_or (slots_items f.closed.slots) n c.get.result.now) c.slot-slot.ensures.slot c.get.ensures)
          ∙ ap (λ (l : ArenaEnd). slice_index_or l.stripes c.args.stripe None) c.self.view_is);
    }

pub word-place-requires : goal.word-place-requires
word-place-requires c = record { within_limit = few_stripes c.self.inside.plan _ _ c.self.invariant.2 c.args.stripe (subst (λ (l : ArenaEnd). c.args.stripe < l.setup.config.stripes) (sym c.self.view_is) c.requires.in_range) }

pub slot-slot-requires : goal.slot-slot-requires
slot-slot-requires c = record { within_limit = few_stripes c.self.inside.plan _ _ c.self.invariant.2 c.args.stripe (subst (λ (l : ArenaEnd). c.args.stripe < l.setup.config.stripes) (sym c.self.view_is) c.requires.in_range) }
