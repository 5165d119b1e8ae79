use Rattle.std.proofs.Common.{◌≡◌, ℕ, ◌+◌, ◌/◌, ◌%◌, true, [], ◌∷◌, refl, ap, sym, subst, ◌∙◌, length, length-append, arith}
use Rattle.mc_core.specs.model.Codes.{word_plus}
use Rattle.mc_core.specs.model.State.{has_chunk}
use Rattle.mc_core.specs.declared.event.Step.TheVariants as core
use Rattle.mc_words.specs.hand.View.{View, Setup}
use Rattle.mc_words.specs.rule.Layout.{head_word}
use Rattle.mc_words.specs.item.Refs.{IsRefOf, IsIssueOf}
use Rattle.mc_words.specs.item.References.{GetsItem}
use Rattle.mc_words.specs.rule.Happens.{MayWrite, HappensAt}
use Rattle.mc_words.proofs.Items.GetsItems.{got_ref, got_issue, gets_item}
use Rattle.mc_words.proofs.Items.Refers.{LeadsTo, entry_near, may_refer, new_one, referred_view}
use Rattle.mc_words.specs.hand.Tallies.{fresh_count}
use Rattle.mc_words.proofs.Hands.Tallies.{fresh_more, tallied_fresh}
use Rattle.mc_words.proofs.Locks.Locked.{noted_same}
use Rattle.mc_words.proofs.arena.Arena.refer_to.Goals as goal

pub head_word-word-requires : goal.head_word-word-requires
head_word-word-requires c =
    let arena = c.requires.arena in
    let view = c.args.hand.now.seat.me.0 in
    let stripe = c.args.held.now.number in
    let value = c.args.held.now.stripe in
    let of_key = ap (λ (s : Setup). c.args.key % s.config.stripes) arena.setup ∙ c.requires.of_key in
    let to : LeadsTo view stripe value c.args.key c.args.chunk c.requires.leads.0 = record { mine = c.requires.held; of_key = of_key; leads = c.requires.leads.1 } in
    record { in_range = subst (λ (s : Setup). has_chunk s.table c.args.chunk ≡ true) arena.setup (entry_near view stripe value c.args.key c.args.chunk c.requires.leads.0 to arena.lawful) }

pub fetch_add-found-requires : goal.fetch_add-found-requires
fetch_add-found-requires c =
    let arena = c.requires.arena in
    let view = c.args.hand.now.seat.me.0 in
    let stripe = c.args.held.now.number in
    let value = c.args.held.now.stripe in
    let chunk = c.args.chunk in
    let of_key = ap (λ (s : Setup). c.args.key % s.config.stripes) arena.setup ∙ c.requires.of_key in
    let to : LeadsTo view stripe value c.args.key chunk c.requires.leads.0 = record { mine = c.requires.held; of_key = of_key; leads = c.requires.leads.1 } in
    let place : c.head_word-word.result ≡ head_word view.setup chunk = c.head_word-word.ensures.word ∙ ap (λ (s : Setup). head_word s chunk) (sym arena.setup) in
    (refl, (refl, (c.head_word-word.ensures.in_range, (arena, subst (λ (n : ℕ). MayWrite view (core.Refer c.args.key) n (word_plus 1)) (sym place) (may_refer view stripe value c.args.key chunk c.requires.leads.0 to c.requires.ready c.requires.inside c.requires.within_limit)))))

pub invariant_of-hand : goal.invariant_of-hand
invariant_of-hand c =
    let a = c.args.hand.now in
    let arena = c.requires.arena in
    let view = a.seat.me.0 in
    let now = c.fetch_add-found.new.seat.me.0 in
    let stripe = c.args.held.now.number in
    let value = c.args.held.now.stripe in
    let of_key = ap (λ (s : Setup). c.args.key % s.config.stripes) arena.setup ∙ c.requires.of_key in
    let to : LeadsTo view stripe value c.args.key c.args.chunk c.requires.leads.0 = record { mine = c.requires.held; of_key = of_key; leads = c.requires.leads.1 } in
    let h = c.fetch_add-found.ensures.happens.0 in
    let one = new_one view stripe value c.args.key c.args.chunk c.requires.leads.0 to a.number a.noted.0 now h in
    let is = referred_view view stripe value c.args.key c.args.chunk c.requires.leads.0 to a.number a.noted.0 now h in
    let more = length-append view.row.holdings (one ∷ []) in
    let count = a.noted.2 in
    let fills = a.tallied.1 in
    let fuller = fresh_more view.row.holdings one in
    record { noted = noted_same a.seat.me c.fetch_add-found.new.seat.me a.number a.chunks (a.chunks + 1) a.locks a.noted c.fetch_add-found.ensures.out c.fetch_add-found.ensures.hand ((omega arith) ∙ (sym more ∙ ap (λ (v : View). length v.row.holdings) (sym is))); tallied = tallied_fresh a.seat.me c.fetch_add-found.new.seat.me a.stamps a.fresh a.fresh a.tallied (ap (λ (v : View). v.row.ids) is) ((omega arith) ∙ (sym fuller ∙ ap (λ (v : View). fresh_count v.row.holdings) (sym is))) }

pub room-room-requires-clause-reference : goal.room-room-requires-clause-reference
room-room-requires-clause-reference c =
    let a = c.args.hand.now in
    let arena = c.requires.arena in
    let view = a.seat.me.0 in
    let now = c.fetch_add-found.new.seat.me.0 in
    let chunk = c.args.chunk in
    let stripe = c.args.held.now.number in
    let value = c.args.held.now.stripe in
    let of_key = ap (λ (s : Setup). c.args.key % s.config.stripes) arena.setup ∙ c.requires.of_key in
    let to : LeadsTo view stripe value c.args.key chunk c.requires.leads.0 = record { mine = c.requires.held; of_key = of_key; leads = c.requires.leads.1 } in
    let place : c.head_word-word.result ≡ head_word view.setup chunk = c.head_word-word.ensures.word ∙ ap (λ (s : Setup). head_word s chunk) (sym arena.setup) in
    let at = subst (λ (n : ℕ). HappensAt n c.fetch_add-found.result view [] (core.Refer c.args.key) now) place c.fetch_add-found.ensures.happens in
    (_, got_ref view stripe value c.args.key chunk c.requires.leads.0 to a.number a.noted.0 now c.fetch_add-found.result at c.fetch_add-found.ensures.seat.lawful)

pub returns-clause-gets : goal.returns-clause-gets
returns-clause-gets c =
    let a = c.args.hand.now in
    let arena = c.requires.arena in
    let view = a.seat.me.0 in
    let now = c.fetch_add-found.new.seat.me.0 in
    let chunk = c.args.chunk in
    let stripe = c.args.held.now.number in
    let value = c.args.held.now.stripe in
    let of_key = ap (λ (s : Setup). c.args.key % s.config.stripes) arena.setup ∙ c.requires.of_key in
    let to : LeadsTo view stripe value c.args.key chunk c.requires.leads.0 = record { mine = c.requires.held; of_key = of_key; leads = c.requires.leads.1 } in
    let place : c.head_word-word.result ≡ head_word view.setup chunk = c.head_word-word.ensures.word ∙ ap (λ (s : Setup). head_word s chunk) (sym arena.setup) in
    let at = subst (λ (n : ℕ). HappensAt n c.fetch_add-found.result view [] (core.Refer c.args.key) now) place c.fetch_add-found.ensures.happens in
    let ref = subst (λ (v : View). IsRefOf v chunk c.room-room.result) c.room-room.ensures.same c.room-room.ensures.room in
    subst (GetsItem view a.number stripe value c.args.key chunk (c.fetch_add-found.result / 262144) c.room-room.result) (sym c.room-room.ensures.same)
    (gets_item view stripe value c.args.key chunk c.requires.leads.0 to a.number a.noted.0 now c.fetch_add-found.result at c.fetch_add-found.ensures.seat.lawful c.room-room.result ref)

pub returns-clause-reference : goal.returns-clause-reference
returns-clause-reference c =
    let a = c.args.hand.now in
    let arena = c.requires.arena in
    let view = a.seat.me.0 in
    let now = c.fetch_add-found.new.seat.me.0 in
    let chunk = c.args.chunk in
    let stripe = c.args.held.now.number in
    let value = c.args.held.now.stripe in
    let of_key = ap (λ (s : Setup). c.args.key % s.config.stripes) arena.setup ∙ c.requires.of_key in
    let to : LeadsTo view stripe value c.args.key chunk c.requires.leads.0 = record { mine = c.requires.held; of_key = of_key; leads = c.requires.leads.1 } in
    let place : c.head_word-word.result ≡ head_word view.setup chunk = c.head_word-word.ensures.word ∙ ap (λ (s : Setup). head_word s chunk) (sym arena.setup) in
    let at = subst (λ (n : ℕ). HappensAt n c.fetch_add-found.result view [] (core.Refer c.args.key) now) place c.fetch_add-found.ensures.happens in
    let issue = got_issue view stripe value c.args.key chunk c.requires.leads.0 to a.number a.noted.0 now c.fetch_add-found.result at c.fetch_add-found.ensures.seat.lawful in
    (c.room-room.ensures.room, subst (λ (v : View). IsIssueOf v chunk (c.fetch_add-found.result / 262144)) (sym c.room-room.ensures.same) issue)
