use Rattle.std.proofs.Common.{◌≡◌, ℕ, ◌∷◌, refl, sym, ap, subst, ◌∙◌, arith}
use Rattle.atomic_table.specs.Table.{Allows, rest}
use Rattle.mc_words.specs.hand.View.{Setup}
use Rattle.mc_words.specs.rule.Joins.{Rule}
use Rattle.mc_words.specs.rule.Told.{Sits}
use Rattle.mc_words.specs.declared.lock.locks.Lock.{Lock}
use Rattle.mc_words.specs.rule.Layout.{lock_address}
use Rattle.mc_words.specs.lock.Slots.{lock_number, slot_of}
use Rattle.mc_words.specs.lock.Tries.{GivesValue}
use Rattle.mc_words.proofs.Rules.Quiet.{has_number}
use Rattle.mc_words.proofs.Locks.OutFirst.{few_locks, first_slot}
use Rattle.mc_words.proofs.Locks.TakeAndGive.{gives_back}
use Rattle.mc_words.proofs.arena.Arena.give.Goals as goal

pub word-word-requires : goal.word-word-requires
word-word-requires g c =
    let (is, (in_range, more)) = c.requires in
    let a = c.args.self.now in
    record { within_limit = few_locks a.table.shared.key a.plan c.args.lock g.told.0 a.planned a.within_limit (ap (λ t. t.0) is) in_range }

pub slot-slot-requires : goal.slot-slot-requires
slot-slot-requires g c =
    let (is, (in_range, more)) = c.requires in
    let a = c.args.self.now in
    record { within_limit = few_locks a.table.shared.key a.plan c.args.lock g.told.0 a.planned a.within_limit (ap (λ t. t.0) is) in_range }

pub exchange-requires : goal.exchange-requires
exchange-requires g c =
    let (is, (in_range, (seat, (last, more)))) = c.requires in
    let i_is : c.slot-slot.result ≡ slot_of g.told.0 = c.slot-slot.ensures.slot ∙ ap slot_of (ap (λ t. t.0) (sym is)) in (
      seat.same_table,
      first_slot c.args.seat.now.me.1 c.slot-slot.result last.0 (last.1 ∙ ap (λ (j : ℕ). j ∷ last.0) (sym i_is)),
    )

pub store-requires : goal.store-requires
store-requires g c =
    let (is, (in_range, (seat, (last, (value, whole))))) = c.requires in
    let a = c.args.self.now in
    let i_is : c.slot-slot.result ≡ slot_of g.told.0 = c.slot-slot.ensures.slot ∙ ap slot_of (ap (λ t. t.0) (sym is)) in
    let word_is : c.word-word.result ≡ lock_address (lock_number g.told.0) = c.word-word.ensures.word ∙ ap (λ (l : Lock). lock_address (lock_number l)) (ap (λ t. t.0) (sym is)) in
    let value_is : c.args.value ≡ g.told.1 = ap (λ t. t.1) (sym is) in
    let me : Sits = (c.args.seat.now.me.0, (slot_of g.told.0, g.told.1) ∷ rest c.args.seat.now.me.1) in
    let me_is : me ≡ c.exchange.new.seat.me = sym (c.exchange.ensures.3 ∙ (λ k. (c.args.seat.now.me.0, (i_is k, value_is k) ∷ rest c.args.seat.now.me.1))) in
    let count = a.words in
    let stripes : a.table.shared.key.config.stripes ≡ a.plan.config.stripes = ap (λ (s : Setup). s.config.stripes) a.planned in (
      c.exchange.ensures.0 ∙ seat.same_table,
      omega arith,
      subst (λ (p : ℕ × Sits). Allows (Rule a.table.shared.key) a.table.shared.table_id.slots c.exchange.new.seat.id p.1 p.0 (λ _. 0) (λ _. GivesValue g.told.0 p.1)) (λ k. (sym word_is k, me_is k))
          (gives_back a.table.shared.key _ _ me (has_number _ seat.lawful) seat.setup g.told.0 in_range g.told.1 value whole refl),
    )
