use Rattle.std.proofs.Common.{◌≡◌, ◌-◌, ◌<◌, ℕ, [], Option, refl, ap, sym, subst, ◌∙◌, arith}
use Rattle.std.specs.Option.{IsSome}
use Rattle.mc_stripe.specs.StripeState.{ReadyStripe, chunk_and_stamp}
use Rattle.mc_stripe.specs.Changes.{after_lift}
use Rattle.mc_core.specs.model.Codes.{word_minus}
use Rattle.mc_core.specs.model.State.{room_in}
use Rattle.mc_core.specs.declared.event.Step.TheVariants as core
use Rattle.mc_pages.specs.declared.ids.ChunkId.{ChunkId}
use Rattle.mc_pages.specs.SlabState.{class_of_page}
use Rattle.mc_words.specs.hand.View.{Setup}
use Rattle.mc_words.specs.rule.Layout.{head_word}
use Rattle.mc_words.specs.rule.Happens.{HappensAt, MayExchange, MayWrite}
use Rattle.mc_words.proofs.Items.Condemns.{may_condemn_original}
use Rattle.mc_words.proofs.Items.CondemnCalls.{asks, condemns_original, dead_by_original, finds_held, has_still, counts_after, key_found, led_there, left_by_original, left_by_miss, copy_still, read_before, reason_still, sees_held, word_condemned, word_held, word_unheld}
use Rattle.mc_words.proofs.Chunks.Heads.{may_look}
use Rattle.mc_words.proofs.Locks.Locked.{noted_same}
use Rattle.mc_words.proofs.Hands.Tallies.{tallied_fresh}
use Rattle.mc_words.proofs.arena.Arena.condemn_original.Goals as goal

pub word_held-key-requires-clause-linked : goal.word_held-key-requires-clause-linked
word_held-key-requires-clause-linked c =
    let arena = c.requires.arena in
    let view = c.args.hand.now.seat.me.0 in
    let slabs = c.args.slabs.now.shared in
    let stripe = c.args.stripe.now.number in
    let value = c.args.stripe.now.stripe in
    let chunk = c.args.chunk in
    let ask = asks view c.args.self.now.table.shared.key slabs stripe value chunk arena.setup c.requires.in_range c.requires.slabs c.requires.stripe c.requires.ready c.requires.key c.requires.reason in
    (read_before view slabs stripe value chunk ask arena.lawful).0

pub word_held-key-requires-clause-inside : goal.word_held-key-requires-clause-inside
word_held-key-requires-clause-inside c =
    let arena = c.requires.arena in
    let view = c.args.hand.now.seat.me.0 in
    let slabs = c.args.slabs.now.shared in
    let stripe = c.args.stripe.now.number in
    let value = c.args.stripe.now.stripe in
    let chunk = c.args.chunk in
    let ask = asks view c.args.self.now.table.shared.key slabs stripe value chunk arena.setup c.requires.in_range c.requires.slabs c.requires.stripe c.requires.ready c.requires.key c.requires.reason in
    subst (λ (s : Setup). 0 < room_in s.table (class_of_page slabs chunk.page)) arena.setup (read_before view slabs stripe value chunk ask arena.lawful).1

pub returns-then-head-ne-UNHELD-clause-moved : goal.returns-then-head-ne-UNHELD-clause-moved
returns-then-head-ne-UNHELD-clause-moved c =
    let arena = c.requires.arena in
    let view = c.args.hand.now.seat.me.0 in
    let slabs = c.args.slabs.now.shared in
    let stripe = c.args.stripe.now.number in
    let value = c.args.stripe.now.stripe in
    let chunk = c.args.chunk in
    let ask = asks view c.args.self.now.table.shared.key slabs stripe value chunk arena.setup c.requires.in_range c.requires.slabs c.requires.stripe c.requires.ready c.requires.key c.requires.reason in
    let key = c.word_held-key.result in
    let word = c.head-head.result in
    let read = c.word_held-key.new.hand.seat.me.0 in
    let seen = c.head-head.new.hand.seat.me.0 in
    let has = key_found view slabs stripe value chunk ask key c.word_held-key.ensures.again in
    let read_is = c.word_held-key.ensures.view in
    let seen_is = c.head-head.ensures.seen in
    (sees_held view read seen slabs stripe value chunk key word has read_is seen_is (word_held word c.if-head-ne-UNHELD.true) c.word_held-key.ensures.happens c.head-head.ensures.happens, refl)

pub exchange-found-requires : goal.exchange-found-requires
exchange-found-requires c =
    let arena = c.requires.arena in
    let view = c.args.hand.now.seat.me.0 in
    let slabs = c.args.slabs.now.shared in
    let stripe = c.args.stripe.now.number in
    let value = c.args.stripe.now.stripe in
    let chunk = c.args.chunk in
    let ask = asks view c.args.self.now.table.shared.key slabs stripe value chunk arena.setup c.requires.in_range c.requires.slabs c.requires.stripe c.requires.ready c.requires.key c.requires.reason in
    let key = c.word_held-key.result in
    let word = c.head-head.result in
    let read = c.word_held-key.new.hand.seat.me.0 in
    let seen = c.head-head.new.hand.seat.me.0 in
    let has = key_found view slabs stripe value chunk ask key c.word_held-key.ensures.again in
    let read_is = c.word_held-key.ensures.view in
    let seen_is = c.head-head.ensures.seen in
    let place : c.head_word-word.result ≡ head_word seen.setup chunk = c.head_word-word.ensures.word ∙ ap (λ (s : Setup). head_word s chunk) (sym c.head-head.ensures.arena.setup) in
    let unheld = word_unheld word c.if-head-ne-UNHELD.false in
    let still = has_still view read seen slabs stripe value chunk key word has read_is seen_is in
    let reason = reason_still view read seen slabs stripe value chunk key word has read_is seen_is unheld ask.reason in
    let none = copy_still view read seen slabs stripe value chunk key word has read_is seen_is c.requires.copy in
    let less : word_minus 65537 word ≡ word - 65537 = word_condemned word (omega arith) c.if-head-ne-UNHELD.false in
    let may = may_condemn_original seen slabs stripe value chunk key still c.requires.empty ask.ready none reason word unheld in (
      refl,
      (
        (refl, refl),
        (
          c.head_word-word.ensures.in_range,
          (
            c.head-head.ensures.arena,
            (
              subst (λ (p : ℕ × ℕ). MayExchange seen (core.Condemn chunk) p.0 word p.1) (λ k. (sym place k, less k)) may,
              subst (λ (n : ℕ). MayWrite seen (core.Head chunk) n (λ found. found)) (sym place) (may_look seen chunk still.in_range),
            ),
          ),
        ),
      ),
    )

pub invariant_of-hand : goal.invariant_of-hand
invariant_of-hand c =
    let arena = c.requires.arena in
    let view = c.args.hand.now.seat.me.0 in
    let slabs = c.args.slabs.now.shared in
    let stripe = c.args.stripe.now.number in
    let value = c.args.stripe.now.stripe in
    let chunk = c.args.chunk in
    let ask = asks view c.args.self.now.table.shared.key slabs stripe value chunk arena.setup c.requires.in_range c.requires.slabs c.requires.stripe c.requires.ready c.requires.key c.requires.reason in
    let key = c.word_held-key.result in
    let word = c.head-head.result in
    let read = c.word_held-key.new.hand.seat.me.0 in
    let seen = c.head-head.new.hand.seat.me.0 in
    let has = key_found view slabs stripe value chunk ask key c.word_held-key.ensures.again in
    let read_is = c.word_held-key.ensures.view in
    let seen_is = c.head-head.ensures.seen in
    let place : c.head_word-word.result ≡ head_word seen.setup chunk = c.head_word-word.ensures.word ∙ ap (λ (s : Setup). head_word s chunk) (sym c.head-head.ensures.arena.setup) in
    let a = c.head-head.new.hand in
    let now = c.exchange-found.new.seat.me.0 in
    let found = c.exchange-found.result in
    let same = counts_after view read seen slabs stripe value chunk key word has read_is seen_is found now c.requires.copy
    (λ hit. subst (λ (n : ℕ). HappensAt n found seen [] (core.Condemn chunk) now) place (c.exchange-found.ensures.happens hit))
    (λ miss. subst (λ (n : ℕ). HappensAt n found seen [] (core.Head chunk) now) place (c.exchange-found.ensures.missed miss)) in
    record { noted = noted_same a.seat.me c.exchange-found.new.seat.me a.number a.chunks a.chunks a.locks a.noted c.exchange-found.ensures.out c.exchange-found.ensures.hand (a.noted.2 ∙ sym same.1); tallied = tallied_fresh a.seat.me c.exchange-found.new.seat.me a.stamps a.fresh a.fresh a.tallied same.0 (a.tallied.1 ∙ sym same.2) }

pub returns-then-found-head-clause-slabs : goal.returns-then-found-head-clause-slabs
returns-then-found-head-clause-slabs c =
    let arena = c.requires.arena in
    let view = c.args.hand.now.seat.me.0 in
    let slabs = c.args.slabs.now.shared in
    let stripe = c.args.stripe.now.number in
    let value = c.args.stripe.now.stripe in
    let chunk = c.args.chunk in
    let ask = asks view c.args.self.now.table.shared.key slabs stripe value chunk arena.setup c.requires.in_range c.requires.slabs c.requires.stripe c.requires.ready c.requires.key c.requires.reason in
    let key = c.word_held-key.result in
    let word = c.head-head.result in
    let read = c.word_held-key.new.hand.seat.me.0 in
    let seen = c.head-head.new.hand.seat.me.0 in
    let has = key_found view slabs stripe value chunk ask key c.word_held-key.ensures.again in
    let read_is = c.word_held-key.ensures.view in
    let seen_is = c.head-head.ensures.seen in
    let place : c.head_word-word.result ≡ head_word seen.setup chunk = c.head_word-word.ensures.word ∙ ap (λ (s : Setup). head_word s chunk) (sym c.head-head.ensures.arena.setup) in
    let now = c.exchange-found.new.seat.me.0 in
    let found = c.exchange-found.result in
    let miss : HappensAt (head_word seen.setup chunk) found seen [] (core.Head chunk) now = subst (λ (n : ℕ). HappensAt n found seen [] (core.Head chunk) now) place (c.exchange-found.ensures.missed c.if-found-head.true) in
    (left_by_miss view read seen slabs stripe value chunk key word has read_is seen_is found now miss).0

pub returns-then-found-head-clause-stripe : goal.returns-then-found-head-clause-stripe
returns-then-found-head-clause-stripe c =
    let arena = c.requires.arena in
    let view = c.args.hand.now.seat.me.0 in
    let slabs = c.args.slabs.now.shared in
    let stripe = c.args.stripe.now.number in
    let value = c.args.stripe.now.stripe in
    let chunk = c.args.chunk in
    let ask = asks view c.args.self.now.table.shared.key slabs stripe value chunk arena.setup c.requires.in_range c.requires.slabs c.requires.stripe c.requires.ready c.requires.key c.requires.reason in
    let key = c.word_held-key.result in
    let word = c.head-head.result in
    let read = c.word_held-key.new.hand.seat.me.0 in
    let seen = c.head-head.new.hand.seat.me.0 in
    let has = key_found view slabs stripe value chunk ask key c.word_held-key.ensures.again in
    let read_is = c.word_held-key.ensures.view in
    let seen_is = c.head-head.ensures.seen in
    let place : c.head_word-word.result ≡ head_word seen.setup chunk = c.head_word-word.ensures.word ∙ ap (λ (s : Setup). head_word s chunk) (sym c.head-head.ensures.arena.setup) in
    let now = c.exchange-found.new.seat.me.0 in
    let found = c.exchange-found.result in
    let miss : HappensAt (head_word seen.setup chunk) found seen [] (core.Head chunk) now = subst (λ (n : ℕ). HappensAt n found seen [] (core.Head chunk) now) place (c.exchange-found.ensures.missed c.if-found-head.true) in
    (left_by_miss view read seen slabs stripe value chunk key word has read_is seen_is found now miss).1

pub returns-then-found-head-clause-moved : goal.returns-then-found-head-clause-moved
returns-then-found-head-clause-moved c =
    let arena = c.requires.arena in
    let view = c.args.hand.now.seat.me.0 in
    let slabs = c.args.slabs.now.shared in
    let stripe = c.args.stripe.now.number in
    let value = c.args.stripe.now.stripe in
    let chunk = c.args.chunk in
    let ask = asks view c.args.self.now.table.shared.key slabs stripe value chunk arena.setup c.requires.in_range c.requires.slabs c.requires.stripe c.requires.ready c.requires.key c.requires.reason in
    let key = c.word_held-key.result in
    let word = c.head-head.result in
    let read = c.word_held-key.new.hand.seat.me.0 in
    let seen = c.head-head.new.hand.seat.me.0 in
    let has = key_found view slabs stripe value chunk ask key c.word_held-key.ensures.again in
    let read_is = c.word_held-key.ensures.view in
    let seen_is = c.head-head.ensures.seen in
    let place : c.head_word-word.result ≡ head_word seen.setup chunk = c.head_word-word.ensures.word ∙ ap (λ (s : Setup). head_word s chunk) (sym c.head-head.ensures.arena.setup) in
    let now = c.exchange-found.new.seat.me.0 in
    let found = c.exchange-found.result in
    let miss : HappensAt (head_word seen.setup chunk) found seen [] (core.Head chunk) now = subst (λ (n : ℕ). HappensAt n found seen [] (core.Head chunk) now) place (c.exchange-found.ensures.missed c.if-found-head.true) in
    (finds_held view read seen slabs stripe value chunk key word has read_is seen_is (word_unheld word c.if-head-ne-UNHELD.false) c.word_held-key.ensures.happens c.head-head.ensures.happens now found c.if-found-head.true miss, refl)

pub lift-requires-clause-there : goal.lift-requires-clause-there
lift-requires-clause-there c =
    let arena = c.requires.arena in
    let view = c.args.hand.now.seat.me.0 in
    let slabs = c.args.slabs.now.shared in
    let stripe = c.args.stripe.now.number in
    let value = c.args.stripe.now.stripe in
    let chunk = c.args.chunk in
    let ask = asks view c.args.self.now.table.shared.key slabs stripe value chunk arena.setup c.requires.in_range c.requires.slabs c.requires.stripe c.requires.ready c.requires.key c.requires.reason in
    let key = c.word_held-key.result in
    let word = c.head-head.result in
    let read = c.word_held-key.new.hand.seat.me.0 in
    let seen = c.head-head.new.hand.seat.me.0 in
    let has = key_found view slabs stripe value chunk ask key c.word_held-key.ensures.again in
    let read_is = c.word_held-key.ensures.view in
    let seen_is = c.head-head.ensures.seen in
    let place : c.head_word-word.result ≡ head_word seen.setup chunk = c.head_word-word.ensures.word ∙ ap (λ (s : Setup). head_word s chunk) (sym c.head-head.ensures.arena.setup) in
    let now = c.exchange-found.new.seat.me.0 in
    let hit : HappensAt (head_word seen.setup chunk) word seen [] (core.Condemn chunk) now = subst (λ (p : ℕ × ℕ). HappensAt p.0 p.1 seen [] (core.Condemn chunk) now) (λ k. (place k, c.if-found-head.false k)) (c.exchange-found.ensures.happens c.if-found-head.false) in
    let unheld = word_unheld word c.if-head-ne-UNHELD.false in
    subst (λ (o : Option (ChunkId × ℕ)). IsSome o) (sym (ap (λ (v : ReadyStripe). chunk_and_stamp v.state key) c.stripe_mut.ensures.stripe ∙ led_there view read seen slabs stripe value chunk key word has read_is seen_is unheld now hit)) refl

pub returns-clause-stripe : goal.returns-clause-stripe
returns-clause-stripe c =
    let arena = c.requires.arena in
    let view = c.args.hand.now.seat.me.0 in
    let slabs = c.args.slabs.now.shared in
    let stripe = c.args.stripe.now.number in
    let value = c.args.stripe.now.stripe in
    let chunk = c.args.chunk in
    let ask = asks view c.args.self.now.table.shared.key slabs stripe value chunk arena.setup c.requires.in_range c.requires.slabs c.requires.stripe c.requires.ready c.requires.key c.requires.reason in
    let key = c.word_held-key.result in
    let word = c.head-head.result in
    let read = c.word_held-key.new.hand.seat.me.0 in
    let seen = c.head-head.new.hand.seat.me.0 in
    let has = key_found view slabs stripe value chunk ask key c.word_held-key.ensures.again in
    let read_is = c.word_held-key.ensures.view in
    let seen_is = c.head-head.ensures.seen in
    let place : c.head_word-word.result ≡ head_word seen.setup chunk = c.head_word-word.ensures.word ∙ ap (λ (s : Setup). head_word s chunk) (sym c.head-head.ensures.arena.setup) in
    let now = c.exchange-found.new.seat.me.0 in
    let hit : HappensAt (head_word seen.setup chunk) word seen [] (core.Condemn chunk) now = subst (λ (p : ℕ × ℕ). HappensAt p.0 p.1 seen [] (core.Condemn chunk) now) (λ k. (place k, c.if-found-head.false k)) (c.exchange-found.ensures.happens c.if-found-head.false) in
    let unheld = word_unheld word c.if-head-ne-UNHELD.false in
    let a = c.head-head.new.hand in
    let left = c.lift.ensures.lifted ∙ ap (λ (v : ReadyStripe). record v { state = after_lift v.state key }) c.stripe_mut.ensures.stripe in
    left_by_original view stripe value c.lift.new.self chunk now c.requires.stripe (condemns_original view read seen slabs stripe value chunk key word has read_is seen_is unheld c.word_held-key.ensures.happens c.head-head.ensures.happens now c.lift.new.self c.requires.copy left hit)

pub returns-clause-condemned : goal.returns-clause-condemned
returns-clause-condemned c =
    let arena = c.requires.arena in
    let view = c.args.hand.now.seat.me.0 in
    let slabs = c.args.slabs.now.shared in
    let stripe = c.args.stripe.now.number in
    let value = c.args.stripe.now.stripe in
    let chunk = c.args.chunk in
    let ask = asks view c.args.self.now.table.shared.key slabs stripe value chunk arena.setup c.requires.in_range c.requires.slabs c.requires.stripe c.requires.ready c.requires.key c.requires.reason in
    let key = c.word_held-key.result in
    let word = c.head-head.result in
    let read = c.word_held-key.new.hand.seat.me.0 in
    let seen = c.head-head.new.hand.seat.me.0 in
    let has = key_found view slabs stripe value chunk ask key c.word_held-key.ensures.again in
    let read_is = c.word_held-key.ensures.view in
    let seen_is = c.head-head.ensures.seen in
    let place : c.head_word-word.result ≡ head_word seen.setup chunk = c.head_word-word.ensures.word ∙ ap (λ (s : Setup). head_word s chunk) (sym c.head-head.ensures.arena.setup) in
    let now = c.exchange-found.new.seat.me.0 in
    let hit : HappensAt (head_word seen.setup chunk) word seen [] (core.Condemn chunk) now = subst (λ (p : ℕ × ℕ). HappensAt p.0 p.1 seen [] (core.Condemn chunk) now) (λ k. (place k, c.if-found-head.false k)) (c.exchange-found.ensures.happens c.if-found-head.false) in
    let unheld = word_unheld word c.if-head-ne-UNHELD.false in
    let a = c.head-head.new.hand in
    let left = c.lift.ensures.lifted ∙ ap (λ (v : ReadyStripe). record v { state = after_lift v.state key }) c.stripe_mut.ensures.stripe in
    condemns_original view read seen slabs stripe value chunk key word has read_is seen_is unheld c.word_held-key.ensures.happens c.head-head.ensures.happens now c.lift.new.self c.requires.copy left hit

pub returns-clause-dead : goal.returns-clause-dead
returns-clause-dead c =
    let arena = c.requires.arena in
    let view = c.args.hand.now.seat.me.0 in
    let slabs = c.args.slabs.now.shared in
    let stripe = c.args.stripe.now.number in
    let value = c.args.stripe.now.stripe in
    let chunk = c.args.chunk in
    let ask = asks view c.args.self.now.table.shared.key slabs stripe value chunk arena.setup c.requires.in_range c.requires.slabs c.requires.stripe c.requires.ready c.requires.key c.requires.reason in
    let key = c.word_held-key.result in
    let word = c.head-head.result in
    let read = c.word_held-key.new.hand.seat.me.0 in
    let seen = c.head-head.new.hand.seat.me.0 in
    let has = key_found view slabs stripe value chunk ask key c.word_held-key.ensures.again in
    let read_is = c.word_held-key.ensures.view in
    let seen_is = c.head-head.ensures.seen in
    let place : c.head_word-word.result ≡ head_word seen.setup chunk = c.head_word-word.ensures.word ∙ ap (λ (s : Setup). head_word s chunk) (sym c.head-head.ensures.arena.setup) in
    let now = c.exchange-found.new.seat.me.0 in
    let hit : HappensAt (head_word seen.setup chunk) word seen [] (core.Condemn chunk) now = subst (λ (p : ℕ × ℕ). HappensAt p.0 p.1 seen [] (core.Condemn chunk) now) (λ k. (place k, c.if-found-head.false k)) (c.exchange-found.ensures.happens c.if-found-head.false) in
    let unheld = word_unheld word c.if-head-ne-UNHELD.false in
    let a = c.head-head.new.hand in
    let left = c.lift.ensures.lifted ∙ ap (λ (v : ReadyStripe). record v { state = after_lift v.state key }) c.stripe_mut.ensures.stripe in
    dead_by_original view stripe value c.lift.new.self chunk now (condemns_original view read seen slabs stripe value chunk key word has read_is seen_is unheld c.word_held-key.ensures.happens c.head-head.ensures.happens now c.lift.new.self c.requires.copy left hit)

pub lift-requires-clause-none : goal.lift-requires-clause-none
lift-requires-clause-none c = ap (λ (v : ReadyStripe). v.state.aside) c.stripe_mut.ensures.stripe ∙ c.requires.empty
