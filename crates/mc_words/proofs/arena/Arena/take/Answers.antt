use Rattle.std.proofs.Common.{◌≡◌, ℕ, ◌+◌, eqb, [], sym, ap, subst, ◌∙◌, arith}
use mathlib.Core.Option.{none}
use prog.Atomic.{either}
use Rattle.atomic_table.specs.Table.{Allows, step}
use Rattle.mc_words.specs.hand.View.{Setup, View}
use Rattle.mc_words.specs.rule.Joins.{Rule}
use Rattle.mc_words.specs.rule.Happens.{Happens, HappensAt}
use Rattle.mc_words.specs.declared.lock.locks.Lock.{Lock}
use Rattle.mc_words.specs.rule.Layout.{lock_address}
use Rattle.mc_words.specs.lock.Slots.{lock_number}
use Rattle.mc_words.specs.lock.Tries.{take_of, miss_of, Takes}
use Rattle.mc_words.proofs.Rules.Quiet.{has_number}
use Rattle.mc_words.proofs.Locks.OutFirst.{few_locks}
use Rattle.mc_words.proofs.Locks.TakeAndGive.{tries}
use Rattle.mc_words.proofs.arena.Arena.take.Goals as goal

pub word-word-requires : goal.word-word-requires
word-word-requires g c =
    let (is, (in_range, more)) = c.requires in
    let a = c.args.self.now in
    record { within_limit = few_locks a.table.shared.key a.plan c.args.lock g.told a.planned a.within_limit is in_range }

pub slot-slot-requires : goal.slot-slot-requires
slot-slot-requires g c =
    let (is, (in_range, more)) = c.requires in
    let a = c.args.self.now in
    record { within_limit = few_locks a.table.shared.key a.plan c.args.lock g.told a.planned a.within_limit is in_range }

pub compare_exchange-found-requires : goal.compare_exchange-found-requires
compare_exchange-found-requires g c =
    let (is, (in_range, (seat, number))) = c.requires in
    let a = c.args.self.now in
    let me = c.args.seat.now.me in
    let i_is : c.word-word.result ≡ lock_address (lock_number g.told) = c.word-word.ensures.word ∙ ap (λ (l : Lock). lock_address (lock_number l)) (sym is) in
    let count = a.words in
    let stripes : a.table.shared.key.config.stripes ≡ a.plan.config.stripes = ap (λ (s : Setup). s.config.stripes) a.planned in (
      seat.same_table,
      omega arith,
      subst (λ (i : ℕ). Allows (Rule a.table.shared.key) a.table.shared.table_id.slots c.args.seat.now.id me i (λ n. either (eqb n 0) (c.args.number + 1) n) (Takes g.told (step a.table.shared.table_id.slots i 0 (c.args.number + 1) none) me)) (sym i_is)
          (tries a.table.shared.key _ _ me (has_number _ seat.lawful) seat.setup g.told in_range c.args.number number.0),
    )

pub returns-then-found-ne0-clause-missed : goal.returns-then-found-ne0-clause-missed
returns-then-found-ne0-clause-missed g c none_ =
    let i_is : c.word-word.result ≡ lock_address (lock_number g.told) = c.word-word.ensures.word ∙ ap (λ (l : Lock). lock_address (lock_number l)) (sym c.requires.0) in
    let missed = c.compare_exchange-found.ensures.2.1 c.if-found-ne0.true in (
      c.compare_exchange-found.result,
      c.if-found-ne0.true,
      subst (λ (i : ℕ). HappensAt i c.compare_exchange-found.result c.args.seat.now.me.0 [] (miss_of g.told) c.compare_exchange-found.new.seat.me.0) i_is missed.1,
    )

pub returns-clause-taken : goal.returns-clause-taken
returns-clause-taken g c =
    let taken = c.compare_exchange-found.ensures.2.0 c.if-found-ne0.false in
    subst (λ (v : View). Happens c.args.seat.now.me.0 [] (take_of g.told) v) (ap (λ m. m.0) (sym c.exchange.ensures.3)) taken.happens
