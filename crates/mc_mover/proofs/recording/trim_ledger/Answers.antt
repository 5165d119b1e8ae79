use Rattle.std.proofs.Common.{ap, subst, ◌∙◌}
use Rattle.mc_words.specs.lock.Out.{without_slabs}
use Rattle.mc_words.specs.hand.View.{View}
use Rattle.mc_mover.specs.Recording.{TrimsLedger}
use Rattle.mc_mover.proofs.HoldsSlabs.{lock_back, held_for, wait_number}
use Rattle.mc_mover.proofs.Recorded.{hand_kept, holdings_kept, ledger_keeps, mine_kept, refs_kept, said_kept}
use Rattle.mc_mover.proofs.recording.trim_ledger.Goals as goal

pub returns-clause-trims : goal.returns-clause-trims
returns-clause-trims g c =
    let hand = c.args.hand.now in
    let held = c.lock_slabs-held in
    let taken : View = held.new.hand.seat.me.0 in
    let trim = c.trim_ledger in
    let last : View = trim.new.hand.seat.me.0 in
    let now : View = c.give_slabs.new.hand.seat.me.0 in
    let number = wait_number hand held.new.hand held.result.shared held.ensures.waits in
    held_for (TrimsLedger hand.number) hand.seat.me.0 taken last now held.result.shared trim.new.held.shared held.ensures.waits
    (subst (λ n. TrimsLedger n taken held.result.shared last trim.new.held.shared) number ((trim.ensures.happens, trim.ensures.view), trim.ensures.trimmed)) c.give_slabs.ensures.left

pub returns-clause-holdings : goal.returns-clause-holdings
returns-clause-holdings g c =
    let same = holdings_kept c.args.hand.now c.give_slabs.new.hand (ledger_keeps c.args.hand.now.number c.args.hand.now.seat.me.0 c.give_slabs.new.hand.seat.me.0 (returns-clause-trims g c)) in
    record { same = same; references = refs_kept c.args.hand.now c.give_slabs.new.hand (ledger_keeps c.args.hand.now.number c.args.hand.now.seat.me.0 c.give_slabs.new.hand.seat.me.0 (returns-clause-trims g c)) }

pub returns-clause-hand : goal.returns-clause-hand
returns-clause-hand g c =
    let locks = c.give_slabs.ensures.locks ∙ (ap without_slabs (c.trim_ledger.ensures.locks ∙ c.lock_slabs-held.ensures.locks) ∙ lock_back c.args.hand.now c.requires.ready.unlocked) in
    hand_kept c.args.hand.now c.give_slabs.new.hand (ledger_keeps c.args.hand.now.number c.args.hand.now.seat.me.0 c.give_slabs.new.hand.seat.me.0 (returns-clause-trims g c)) c.args.arena.now c.give_slabs.ensures.arena locks c.requires.ready

pub returns-clause-stores_nothing : goal.returns-clause-stores_nothing
returns-clause-stores_nothing g c = said_kept c.args.hand.now c.give_slabs.new.hand (ledger_keeps c.args.hand.now.number c.args.hand.now.seat.me.0 c.give_slabs.new.hand.seat.me.0 (returns-clause-trims g c))

pub returns-clause-records_nothing : goal.returns-clause-records_nothing
returns-clause-records_nothing g c = mine_kept c.args.hand.now c.give_slabs.new.hand (ledger_keeps c.args.hand.now.number c.args.hand.now.seat.me.0 c.give_slabs.new.hand.seat.me.0 (returns-clause-trims g c))
