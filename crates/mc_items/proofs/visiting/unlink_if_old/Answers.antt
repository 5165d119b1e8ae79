use Rattle.std.proofs.Common.{◌≡◌, ◌<◌, ◌%◌, ℕ, true, [], refl, ap, sym, subst, ◌∙◌, inl, inr}
use Rattle.mc_classes.specs.declared.config.Config.{Config}
use Rattle.mc_core.specs.declared.event.Step.TheVariants as step
use Rattle.mc_core.specs.model.Head.{decode}
use Rattle.mc_core.specs.model.State.{has_chunk, is_class, room_in}
use Rattle.mc_words.specs.hand.View.{Setup, View}
use Rattle.mc_words.specs.hand.Views.{stripe_given, stripe_missed}
use Rattle.mc_words.specs.item.Removal.{key_seen}
use Rattle.mc_words.specs.lock.Out.{locks_with_stripe, without_stripe}
use Rattle.mc_words.specs.rule.Happens.{Happens}
use Rattle.mc_words.proofs.Chunks.SweepViews.{stands_out}
use Rattle.mc_words.proofs.Hands.HandNumbers.{number_stays}
use Rattle.mc_items.specs.Calls.{IsFull}
use Rattle.mc_items.specs.Visiting.{Unlinks}
use Rattle.mc_items.proofs.Freed.{error_both}
use Rattle.mc_items.proofs.Reaches.{found_linked, lacked, reached, some_room, stripe_back}
use Rattle.mc_items.proofs.Supplies.{if_error}
use Rattle.mc_items.proofs.Visits.{key_found, newer_found}
use Rattle.mc_items.proofs.visiting.unlink_if_old.Goals as goal

pub head-head-requires-clause-in_range : goal.head-head-requires-clause-in_range
head-head-requires-clause-in_range g c =
    let is = ap (λ (s : Setup). is_class s.table c.args.class) c.requires.arena.setup ∙ c.requires.class in
    subst (λ (s : Setup). has_chunk s.table c.args.chunk ≡ true) c.requires.arena.setup (stands_out c.args.hand.now.seat.me.0 c.requires.arena.lawful c.args.slabs.now.shared c.requires.slabs c.args.class is c.args.chunk c.requires.out).in_range

pub returns-then-not-is_unheld-clause-spares : goal.returns-then-not-is_unheld-clause-spares
returns-then-not-is_unheld-clause-spares g c _ =
    inl (record { chunk = c.args.chunk; is_asked = refl; head = decode c.head-head.result; other = sym c.is_unheld.ensures.unheld ∙ c.if-not-is_unheld.true; happens = c.head-head.ensures.happens; is = c.head-head.ensures.seen })

pub word_held-key-requires-clause-linked : goal.word_held-key-requires-clause-linked
word_held-key-requires-clause-linked g c =
    found_linked c.args.hand.now.seat.me.0 c.args.slabs.now.shared c.requires.slabs c.args.chunk (decode c.head-head.result) (sym c.is_unheld.ensures.unheld ∙ c.if-not-is_unheld.false) c.head-head.new.hand.seat.me.0 c.head-head.ensures.seen

pub word_held-key-requires-clause-inside : goal.word_held-key-requires-clause-inside
word_held-key-requires-clause-inside g c =
    let view : View = c.args.hand.now.seat.me.0 in
    let is = ap (λ (s : Setup). is_class s.table c.args.class) c.requires.arena.setup ∙ c.requires.class in
    let own = (stands_out view c.requires.arena.lawful c.args.slabs.now.shared c.requires.slabs c.args.class is c.args.chunk c.requires.out).own in
    subst (λ (p : Setup × ℕ). 0 < room_in p.0.table p.1) (λ k. (c.requires.arena.setup k, sym own k)) (some_room view c.requires.arena.lawful c.args.class is)

pub returns-then-take-clause-spares : goal.returns-then-take-clause-spares
returns-then-take-clause-spares g c _ =
    let view : View = c.args.hand.now.seat.me.0 in
    let key = c.word_held-key.result in
    inr (inl (record {
      head = decode c.head-head.result;
      unheld = sym c.is_unheld.ensures.unheld ∙ c.if-not-is_unheld.false;
      key = key;
      looks = subst (λ (v : View). Happens view [] (step.Head c.args.chunk) v) c.head-head.ensures.seen c.head-head.ensures.happens;
      reads = subst (λ (v : View). Happens v [] (step.WordHeld c.args.chunk 0) c.word_held-key.new.hand.seat.me.0) c.head-head.ensures.seen c.word_held-key.ensures.happens;
      is = c.word_held-key.ensures.view ∙ ap (key_seen c.args.chunk key) c.head-head.ensures.seen;
    }))

pub returns-in_default-clause-spares : goal.returns-in_default-clause-spares
returns-in_default-clause-spares g c _ =
    let view : View = c.args.hand.now.seat.me.0 in
    let head = decode c.head-head.result in
    let key = c.word_held-key.result in
    let (word, busy, missed) = c.in_default.ensures.held in
    let at : c.stripe_of-stripe.result ≡ key % view.setup.config.stripes = c.stripe_of-stripe.ensures ∙ ap (λ (g : Config). key % g.stripes) (c.config.ensures.config ∙ ap (λ (s : Setup). s.config) (sym c.requires.arena.setup)) in
    let read = c.word_held-key.ensures.view ∙ ap (key_seen c.args.chunk key) c.head-head.ensures.seen in
    inr (inr (inl (record {
      head = head;
      unheld = sym c.is_unheld.ensures.unheld ∙ c.if-not-is_unheld.false;
      key = key;
      word = word;
      busy = busy;
      looks = subst (λ (v : View). Happens view [] (step.Head c.args.chunk) v) c.head-head.ensures.seen c.head-head.ensures.happens;
      reads = subst (λ (p : View × View). Happens p.0 [] (step.WordHeld c.args.chunk 0) p.1) (λ k. (c.head-head.ensures.seen k, read k)) c.word_held-key.ensures.happens;
      misses = subst (λ (p : View × ℕ). Happens p.0 [] (step.MissStripe p.1) c.try_stripe.new.hand.seat.me.0) (λ k. (read k, at k)) c.in_default.ensures.missed;
      is = missed ∙ (λ k. stripe_missed (at k) word (read k));
    })))

pub unlink_at-requires-clause-key : goal.unlink_at-requires-clause-key
unlink_at-requires-clause-key g c =
    let key = c.word_held-key.result in
    key_found c.args.chunk key c.stripe_of-stripe.result c.in-Ok.held.stripe c.head-head.new.hand.seat.me.0 c.word_held-key.new.hand.seat.me.0 c.try_stripe.new.hand.seat.me.0 c.word_held-key.ensures.view c.in-Ok.ensures.lent

pub returns-clause-unlinks : goal.returns-clause-unlinks
returns-clause-unlinks g c e =
    let view : View = c.args.hand.now.seat.me.0 in
    let key = c.word_held-key.result in
    let at : c.stripe_of-stripe.result ≡ key % view.setup.config.stripes = c.stripe_of-stripe.ensures ∙ ap (λ (g : Config). key % g.stripes) (c.config.ensures.config ∙ ap (λ (s : Setup). s.config) (sym c.requires.arena.setup)) in
    let ids = ap (λ (v : View). v.row.ids) c.in-Ok.ensures.lent ∙ (ap (λ (v : View). v.row.ids) c.word_held-key.ensures.view ∙ ap (λ (v : View). v.row.ids) c.head-head.ensures.seen) in
    reached (λ number stripe. Unlinks number stripe c.args.chunk) c.args.hand.now.number c.try_stripe.new.hand.number view c.args.chunk (decode c.head-head.result) c.head-head.new.hand.seat.me.0 c.word_held-key.new.hand.seat.me.0 c.try_stripe.new.hand.seat.me.0 c.unlink_at.new.hand.seat.me.0
    key c.stripe_of-stripe.result c.in-Ok.held.number c.in-Ok.held.stripe (sym c.is_unheld.ensures.unheld ∙ c.if-not-is_unheld.false) c.head-head.ensures.seen c.word_held-key.ensures.view at c.in-Ok.ensures.number (number_stays c.args.hand.now c.try_stripe.new.hand ids)
    c.head-head.ensures.happens c.word_held-key.ensures.happens c.in-Ok.ensures.taken c.in-Ok.ensures.lent c.in-Ok.ensures.whole c.in-Ok.ensures.seen (c.unlink_at.ensures.unlinks e)

pub returns-clause-spares : goal.returns-clause-spares
returns-clause-spares g c e =
    let view : View = c.args.hand.now.seat.me.0 in
    let key = c.word_held-key.result in
    let at : c.stripe_of-stripe.result ≡ key % view.setup.config.stripes = c.stripe_of-stripe.ensures ∙ ap (λ (g : Config). key % g.stripes) (c.config.ensures.config ∙ ap (λ (s : Setup). s.config) (sym c.requires.arena.setup)) in
    inr (inr (inr (newer_found view c.args.chunk (decode c.head-head.result) c.head-head.new.hand.seat.me.0 c.word_held-key.new.hand.seat.me.0 c.try_stripe.new.hand.seat.me.0 c.unlink_at.new.hand.seat.me.0
    key c.stripe_of-stripe.result c.in-Ok.held.number c.in-Ok.held.stripe (sym c.is_unheld.ensures.unheld ∙ c.if-not-is_unheld.false) c.head-head.ensures.seen c.word_held-key.ensures.view at c.in-Ok.ensures.number
    c.head-head.ensures.happens c.word_held-key.ensures.happens c.in-Ok.ensures.taken c.in-Ok.ensures.lent c.in-Ok.ensures.whole c.in-Ok.ensures.seen (c.unlink_at.ensures.elsewhere e) (c.unlink_at.ensures.given e))))

pub returns-clause-locks : goal.returns-clause-locks
returns-clause-locks g c =
    let stripe = c.stripe_of-stripe.result in
    c.unlink_at.ensures.locks ∙ (ap without_stripe (c.in-Ok.ensures.locks ∙ ap (locks_with_stripe stripe) (c.word_held-key.ensures.locks ∙ c.head-head.ensures.locks)) ∙ stripe_back c.args.hand.now stripe c.requires.one)

pub returns-clause-no_memory : goal.returns-clause-no_memory
returns-clause-no_memory g c =
    let view : View = c.args.hand.now.seat.me.0 in
    let key = c.word_held-key.result in
    let at : c.stripe_of-stripe.result ≡ key % view.setup.config.stripes = c.stripe_of-stripe.ensures ∙ ap (λ (g : Config). key % g.stripes) (c.config.ensures.config ∙ ap (λ (s : Setup). s.config) (sym c.requires.arena.setup)) in
    if_error c.unlink_at.result
    (λ both. lacked view c.args.chunk (decode c.head-head.result) c.head-head.new.hand.seat.me.0 c.word_held-key.new.hand.seat.me.0 c.try_stripe.new.hand.seat.me.0 c.unlink_at.new.hand.seat.me.0
    key c.stripe_of-stripe.result c.in-Ok.held.number c.in-Ok.held.stripe (sym c.is_unheld.ensures.unheld ∙ c.if-not-is_unheld.false) c.head-head.ensures.seen c.word_held-key.ensures.view at c.in-Ok.ensures.number
    c.head-head.ensures.happens c.word_held-key.ensures.happens c.in-Ok.ensures.taken c.in-Ok.ensures.lent c.in-Ok.ensures.whole c.in-Ok.ensures.seen both.1 both.0)
    (error_both (c.unlink_at.new.hand.seat.me.0 ≡ stripe_given c.in-Ok.held.number c.in-Ok.held.stripe c.try_stripe.new.hand.seat.me.0) (IsFull c.in-Ok.held.stripe) c.unlink_at.result c.unlink_at.ensures.no_memory c.unlink_at.ensures.full)
