use Rattle.std.proofs.Common.{◌≡◌, ℕ, ◌%◌, true, refl, ap, sym, subst, ◌∙◌, length}
use Rattle.mc_core.specs.model.Codes.{word_minus}
use Rattle.mc_core.specs.model.State.{has_chunk}
use Rattle.mc_core.specs.declared.event.Step.TheVariants as core
use Rattle.mc_words.specs.hand.View.{Setup}
use Rattle.mc_words.specs.rule.Layout.{head_word}
use Rattle.mc_words.specs.rule.Happens.{MayWrite}
use Rattle.mc_words.proofs.Items.Refers.{LeadsTo, entry_near}
use Rattle.mc_words.proofs.Items.Unlinks.{may_unlink, unlinked_view, unlinked_keeps}
use Rattle.mc_words.proofs.Hands.Tallies.{tallied_same}
use Rattle.mc_words.proofs.Locks.Locked.{noted_same}
use Rattle.mc_words.proofs.arena.Arena.unlink_from.Goals as goal

pub head_word-word-requires : goal.head_word-word-requires
head_word-word-requires c =
    let a = c.args.hand.now in
    let arena = c.requires.arena in
    let view = a.seat.me.0 in
    let key = c.args.key in
    let chunk = c.args.chunk in
    let stripe = c.args.held.now.number in
    let value = c.args.held.now.stripe in
    let of_key = ap (λ (s : Setup). key % s.config.stripes) arena.setup ∙ c.requires.of_key in
    let to : LeadsTo view stripe value key chunk c.requires.leads.0 = record { mine = c.requires.held; of_key = of_key; leads = c.requires.leads.1 } in
    record { in_range = subst (λ (s : Setup). has_chunk s.table chunk ≡ true) arena.setup (entry_near view stripe value key chunk c.requires.leads.0 to arena.lawful) }

pub subtract-found-requires : goal.subtract-found-requires
subtract-found-requires c =
    let a = c.args.hand.now in
    let arena = c.requires.arena in
    let view = a.seat.me.0 in
    let key = c.args.key in
    let chunk = c.args.chunk in
    let stripe = c.args.held.now.number in
    let value = c.args.held.now.stripe in
    let of_key = ap (λ (s : Setup). key % s.config.stripes) arena.setup ∙ c.requires.of_key in
    let to : LeadsTo view stripe value key chunk c.requires.leads.0 = record { mine = c.requires.held; of_key = of_key; leads = c.requires.leads.1 } in
    let place : c.head_word-word.result ≡ head_word view.setup chunk = c.head_word-word.ensures.word ∙ ap (λ (s : Setup). head_word s chunk) (sym arena.setup) in
    (refl, (refl, (c.head_word-word.ensures.in_range, (arena, subst (λ (n : ℕ). MayWrite view (core.Unlink key) n (word_minus 65537)) (sym place) (may_unlink view stripe value key chunk c.requires.leads.0 to c.requires.ready c.requires.inside c.requires.free)))))

pub invariant_of-hand : goal.invariant_of-hand
invariant_of-hand c =
    let a = c.args.hand.now in
    let arena = c.requires.arena in
    let view = a.seat.me.0 in
    let key = c.args.key in
    let chunk = c.args.chunk in
    let stripe = c.args.held.now.number in
    let value = c.args.held.now.stripe in
    let of_key = ap (λ (s : Setup). key % s.config.stripes) arena.setup ∙ c.requires.of_key in
    let to : LeadsTo view stripe value key chunk c.requires.leads.0 = record { mine = c.requires.held; of_key = of_key; leads = c.requires.leads.1 } in
    let keeps = unlinked_keeps view stripe value key chunk c.requires.leads.0 to a.number a.noted.0 c.subtract-found.new.seat.me.0 c.subtract-found.ensures.happens in
    record { noted = noted_same a.seat.me c.subtract-found.new.seat.me a.number a.chunks a.chunks a.locks a.noted c.subtract-found.ensures.out c.subtract-found.ensures.hand (a.noted.2 ∙ ap length (sym keeps.1)); tallied = tallied_same a.seat.me c.subtract-found.new.seat.me a.stamps a.fresh a.tallied keeps.0 keeps.1 }

pub returns-clause-holdings : goal.returns-clause-holdings
returns-clause-holdings c =
    let a = c.args.hand.now in
    let arena = c.requires.arena in
    let view = a.seat.me.0 in
    let key = c.args.key in
    let chunk = c.args.chunk in
    let stripe = c.args.held.now.number in
    let value = c.args.held.now.stripe in
    let of_key = ap (λ (s : Setup). key % s.config.stripes) arena.setup ∙ c.requires.of_key in
    let to : LeadsTo view stripe value key chunk c.requires.leads.0 = record { mine = c.requires.held; of_key = of_key; leads = c.requires.leads.1 } in
    (unlinked_keeps view stripe value key chunk c.requires.leads.0 to a.number a.noted.0 c.subtract-found.new.seat.me.0 c.subtract-found.ensures.happens).1

pub returns-clause-unlinked : goal.returns-clause-unlinked
returns-clause-unlinked c =
    let a = c.args.hand.now in
    let arena = c.requires.arena in
    let view = a.seat.me.0 in
    let key = c.args.key in
    let chunk = c.args.chunk in
    let stripe = c.args.held.now.number in
    let value = c.args.held.now.stripe in
    let of_key = ap (λ (s : Setup). key % s.config.stripes) arena.setup ∙ c.requires.of_key in
    let to : LeadsTo view stripe value key chunk c.requires.leads.0 = record { mine = c.requires.held; of_key = of_key; leads = c.requires.leads.1 } in
    unlinked_view view stripe value key chunk c.requires.leads.0 to a.number a.noted.0 c.subtract-found.new.seat.me.0 c.subtract-found.ensures.happens
