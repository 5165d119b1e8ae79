use Rattle.std.proofs.Common.{◌≡◌, ◌+◌, ◌%◌, ℕ, true, [], ◌∷◌, Some, None, Option, IfSome, refl, ap, sym, subst, arith, length, length-append, slice_index_or, ◌∙◌}
use Rattle.std.specs.Option.{option_map_or}
use Rattle.mc_pages.specs.Accounted.{truth}
use Rattle.mc_stripe.specs.StripeState.{ReadyStripe, key_aside}
use Rattle.mc_stripe.specs.Changes.{after_link, used_up}
use Rattle.mc_core.specs.model.Codes.{word_plus}
use Rattle.mc_core.specs.model.Holdings.{is_of_chunk, words_of_item, without_first, numbers_of_known, holding_words}
use Rattle.mc_core.specs.model.State.{has_chunk}
use Rattle.mc_core.specs.declared.holding.Holding.{Holding}
use Rattle.mc_core.specs.declared.event.Step.TheVariants as core
use Rattle.mc_words.specs.hand.View.{View, Setup}
use Rattle.mc_words.specs.rule.Layout.{head_word}
use Rattle.mc_words.specs.rule.Happens.{MayWrite, HappensAt}
use Rattle.mc_words.specs.item.Items.{issue_in, known_words_in}
use Rattle.mc_words.specs.item.Links.{item_linked, own_item}
use Rattle.mc_words.specs.item.References.{reference_to}
use Rattle.mc_words.specs.item.Refs.{IsRefOf}
use Rattle.mc_words.specs.hand.Tallies.{fresh_count}
use Rattle.mc_words.proofs.Pages.Owners.{holding_near, one_less}
use Rattle.mc_words.proofs.Items.Links.{MayStore, alone_from, issue_was, linked_ref, linked_room, linked_room_is, linked_view, may_link}
use Rattle.mc_words.proofs.Locks.StripeChanges.{set_found}
use Rattle.mc_words.proofs.Locks.Locked.{noted_same}
use Rattle.mc_words.proofs.Hands.Tallies.{fresh_less, fresh_more}
use Rattle.mc_words.proofs.arena.Arena.link.Goals as goal

pub head_word-word-requires : goal.head_word-word-requires
head_word-word-requires c =
    let arena = c.requires.arena in
    let view = c.args.hand.now.seat.me.0 in
    let chunk = c.args.fresh.chunk in
    record { in_range = subst (λ (s : Setup). has_chunk s.table chunk ≡ true) arena.setup (holding_near view arena.lawful chunk (own_item chunk (issue_in view chunk) (known_words_in view chunk)) c.requires.item.found refl) }

pub fetch_add-head-requires : goal.fetch_add-head-requires
fetch_add-head-requires c =
    let a = c.args.hand.now in
    let arena = c.requires.arena in
    let view = a.seat.me.0 in
    let value = c.args.held.now.stripe in
    let chunk = c.args.fresh.chunk in
    let issue = issue_in view chunk in
    let words = known_words_in view chunk in
    let may : MayStore view c.args.held.now.number value c.args.fresh.key = record { mine = c.requires.held; of_key = ap (λ (s : Setup). c.args.fresh.key % s.config.stripes) arena.setup ∙ c.requires.stripe; room = c.requires.room; new = c.requires.new; alone = c.requires.aside } in
    let place : c.head_word-word.result ≡ head_word view.setup chunk = c.head_word-word.ensures.word ∙ ap (λ (s : Setup). head_word s chunk) (sym arena.setup) in
    (refl, (refl, (c.head_word-word.ensures.in_range, (arena, subst (λ (n : ℕ). MayWrite view (core.Link chunk) n (word_plus 65537)) (sym place) (may_link view c.args.held.now.number value c.args.fresh.key c.args.fresh.stamp a.number chunk issue words may c.requires.item a.noted.0 c.requires.stamp)))))

pub overflow_sub-hand : goal.overflow_sub-hand
overflow_sub-hand c =
    let a = c.args.hand.now in
    let fills = a.tallied.1 in
    let fewer = fresh_less c.args.fresh.chunk a.seat.me.0.row.holdings c.requires.fresh.holding c.requires.fresh.found in
    let kind = ap truth c.requires.fresh.fresh in
    omega arith

pub invariant_of-hand : goal.invariant_of-hand
invariant_of-hand c =
    let a = c.args.hand.now in
    let arena = c.requires.arena in
    let view = a.seat.me.0 in
    let value = c.args.held.now.stripe in
    let chunk = c.args.fresh.chunk in
    let issue = issue_in view chunk in
    let words = known_words_in view chunk in
    let may : MayStore view c.args.held.now.number value c.args.fresh.key = record { mine = c.requires.held; of_key = ap (λ (s : Setup). c.args.fresh.key % s.config.stripes) arena.setup ∙ c.requires.stripe; room = c.requires.room; new = c.requires.new; alone = c.requires.aside } in
    let now = c.fetch_add-head.new.seat.me.0 in
    let h = c.fetch_add-head.ensures.happens.0 in
    let is = linked_view view c.args.held.now.number value c.args.fresh.key c.args.fresh.stamp a.number chunk issue words may c.requires.item a.noted.0 now h in
    let room : linked_room view c.args.held.now.number value c.args.fresh.key c.args.fresh.stamp a.number chunk issue words may c.requires.item a.noted.0 now h ≡ c.args.fresh.room =
    linked_room_is view c.args.held.now.number value c.args.fresh.key c.args.fresh.stamp a.number chunk issue words may c.requires.item a.noted.0 now h
    ∙ (ap (λ (o : Option Holding). length (option_map_or holding_words o [])) (sym (sym c.requires.fresh.found)) ∙ c.requires.fresh.room_is) in
    let left = without_first (is_of_chunk chunk) view.row.holdings in
    let one = reference_to chunk issue (numbers_of_known (words_of_item words)) in
    let less = one_less chunk view.row.holdings (own_item chunk issue words) c.requires.item.found in
    let more = length-append left (one ∷ []) in
    let count = a.noted.2 in
    let fills = a.tallied.1 in
    let fewer = fresh_less chunk view.row.holdings (own_item chunk issue words) c.requires.item.found in
    let as_many = fresh_more left one in
    let given = a.tallied.0 in
    record {
      noted = noted_same a.seat.me c.fetch_add-head.new.seat.me a.number a.chunks a.chunks a.locks a.noted c.fetch_add-head.ensures.out c.fetch_add-head.ensures.hand ((omega arith) ∙ (sym more ∙ ap (λ (v : View). length v.row.holdings) (sym is)));
      tallied = ((ap (λ n. n + 1) given) ∙ ap (λ (v : View). v.row.ids.stamps) (sym is), (omega arith) ∙ (sym as_many ∙ ap (λ (v : View). fresh_count v.row.holdings) (sym is)));
    }

pub link-requires-clause-aside : goal.link-requires-clause-aside
link-requires-clause-aside c =
    subst (λ (v : ReadyStripe). IfSome (key_aside v.state) (λ other. other ≡ c.args.fresh.key)) (sym c.stripe_mut.ensures.stripe) (alone_from c.args.held.now.stripe.state c.args.fresh.key c.requires.aside)

pub returns-clause-held : goal.returns-clause-held
returns-clause-held c =
    let a = c.args.hand.now in
    let arena = c.requires.arena in
    let view = a.seat.me.0 in
    let value = c.args.held.now.stripe in
    let chunk = c.args.fresh.chunk in
    let issue = issue_in view chunk in
    let words = known_words_in view chunk in
    let may : MayStore view c.args.held.now.number value c.args.fresh.key = record { mine = c.requires.held; of_key = ap (λ (s : Setup). c.args.fresh.key % s.config.stripes) arena.setup ∙ c.requires.stripe; room = c.requires.room; new = c.requires.new; alone = c.requires.aside } in
    let now = c.fetch_add-head.new.seat.me.0 in
    let h = c.fetch_add-head.ensures.happens.0 in
    let is = linked_view view c.args.held.now.number value c.args.fresh.key c.args.fresh.stamp a.number chunk issue words may c.requires.item a.noted.0 now h in
    let room : linked_room view c.args.held.now.number value c.args.fresh.key c.args.fresh.stamp a.number chunk issue words may c.requires.item a.noted.0 now h ≡ c.args.fresh.room =
    linked_room_is view c.args.held.now.number value c.args.fresh.key c.args.fresh.stamp a.number chunk issue words may c.requires.item a.noted.0 now h
    ∙ (ap (λ (o : Option Holding). length (option_map_or holding_words o [])) (sym (sym c.requires.fresh.found)) ∙ c.requires.fresh.room_is) in
    ap (λ (v : View). slice_index_or v.stripes c.args.held.now.number None) is
    ∙ (set_found view.stripes c.args.held.now.number value (used_up (after_link value.state a.number c.args.fresh.key chunk c.args.fresh.stamp)) c.requires.held
    ∙ ap Some (sym (c.link.ensures.linked ∙ ap (λ (v : ReadyStripe). used_up (after_link v.state a.number c.args.fresh.key chunk c.args.fresh.stamp)) c.stripe_mut.ensures.stripe)))

pub returns-clause-linked : goal.returns-clause-linked
returns-clause-linked c =
    let a = c.args.hand.now in
    let arena = c.requires.arena in
    let view = a.seat.me.0 in
    let value = c.args.held.now.stripe in
    let chunk = c.args.fresh.chunk in
    let issue = issue_in view chunk in
    let words = known_words_in view chunk in
    let may : MayStore view c.args.held.now.number value c.args.fresh.key = record { mine = c.requires.held; of_key = ap (λ (s : Setup). c.args.fresh.key % s.config.stripes) arena.setup ∙ c.requires.stripe; room = c.requires.room; new = c.requires.new; alone = c.requires.aside } in
    let now = c.fetch_add-head.new.seat.me.0 in
    let h = c.fetch_add-head.ensures.happens.0 in
    let is = linked_view view c.args.held.now.number value c.args.fresh.key c.args.fresh.stamp a.number chunk issue words may c.requires.item a.noted.0 now h in
    let room : linked_room view c.args.held.now.number value c.args.fresh.key c.args.fresh.stamp a.number chunk issue words may c.requires.item a.noted.0 now h ≡ c.args.fresh.room =
    linked_room_is view c.args.held.now.number value c.args.fresh.key c.args.fresh.stamp a.number chunk issue words may c.requires.item a.noted.0 now h
    ∙ (ap (λ (o : Option Holding). length (option_map_or holding_words o [])) (sym (sym c.requires.fresh.found)) ∙ c.requires.fresh.room_is) in
    is ∙ ap (λ n. item_linked a.number c.args.held.now.number value c.args.fresh.key c.args.fresh.stamp chunk issue words n view) room

pub returns-clause-same : goal.returns-clause-same
returns-clause-same c =
    let a = c.args.hand.now in
    let arena = c.requires.arena in
    let view = a.seat.me.0 in
    let value = c.args.held.now.stripe in
    let chunk = c.args.fresh.chunk in
    let issue = issue_in view chunk in
    let words = known_words_in view chunk in
    let may : MayStore view c.args.held.now.number value c.args.fresh.key = record { mine = c.requires.held; of_key = ap (λ (s : Setup). c.args.fresh.key % s.config.stripes) arena.setup ∙ c.requires.stripe; room = c.requires.room; new = c.requires.new; alone = c.requires.aside } in
    let now = c.fetch_add-head.new.seat.me.0 in
    let h = c.fetch_add-head.ensures.happens.0 in
    let place : c.head_word-word.result ≡ head_word view.setup chunk = c.head_word-word.ensures.word ∙ ap (λ (s : Setup). head_word s chunk) (sym arena.setup) in
    let at = subst (λ (n : ℕ). HappensAt n c.fetch_add-head.result view [] (core.Link chunk) now) place c.fetch_add-head.ensures.happens in
    (refl, issue_was view c.args.held.now.number value c.args.fresh.key c.args.fresh.stamp a.number chunk issue words may c.requires.item a.noted.0 now at.0 c.fetch_add-head.result at.1, refl)

pub returns-clause-reference : goal.returns-clause-reference
returns-clause-reference c =
    let a = c.args.hand.now in
    let arena = c.requires.arena in
    let view = a.seat.me.0 in
    let value = c.args.held.now.stripe in
    let chunk = c.args.fresh.chunk in
    let issue = issue_in view chunk in
    let words = known_words_in view chunk in
    let may : MayStore view c.args.held.now.number value c.args.fresh.key = record { mine = c.requires.held; of_key = ap (λ (s : Setup). c.args.fresh.key % s.config.stripes) arena.setup ∙ c.requires.stripe; room = c.requires.room; new = c.requires.new; alone = c.requires.aside } in
    let now = c.fetch_add-head.new.seat.me.0 in
    let h = c.fetch_add-head.ensures.happens.0 in
    let is = linked_view view c.args.held.now.number value c.args.fresh.key c.args.fresh.stamp a.number chunk issue words may c.requires.item a.noted.0 now h in
    let room : linked_room view c.args.held.now.number value c.args.fresh.key c.args.fresh.stamp a.number chunk issue words may c.requires.item a.noted.0 now h ≡ c.args.fresh.room =
    linked_room_is view c.args.held.now.number value c.args.fresh.key c.args.fresh.stamp a.number chunk issue words may c.requires.item a.noted.0 now h
    ∙ (ap (λ (o : Option Holding). length (option_map_or holding_words o [])) (sym (sym c.requires.fresh.found)) ∙ c.requires.fresh.room_is) in
    subst (IsRefOf now chunk) room (linked_ref view c.args.held.now.number value c.args.fresh.key c.args.fresh.stamp a.number chunk issue words may c.requires.item a.noted.0 now h c.fetch_add-head.ensures.seat.lawful)
