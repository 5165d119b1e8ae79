use Rattle.std.proofs.Common.{◌≡◌, true, is_ok, refl, ap, sym, subst, ◌∙◌, length, arith}
use Rattle.mc_pages.specs.Answer.{answer_of}
use Rattle.mc_pages.specs.SlabState.{SlabState}
use Rattle.mc_core.specs.declared.event.Change.TheVariants.{BeginMove}
use Rattle.mc_words.specs.hand.View.{View}
use Rattle.mc_words.proofs.Pages.MoveChanges.{answered, may_begin}
use Rattle.mc_words.proofs.Locks.ChangeViews.{changed_slabs}
use Rattle.mc_words.proofs.Locks.Locked.{noted_same}
use Rattle.mc_words.proofs.Hands.Tallies.{tallied_same}
use Rattle.mc_words.proofs.arena.Arena.begin_move.Goals as goal

pub tell-requires : goal.tell-requires
tell-requires c =
    let count = c.args.self.now.words in
    let slabs = c.args.held.now.shared in
    let can = answered (answer_of c.slabs_mut.result.now.state c.args.src c.args.dst) c.begin_move.result c.begin_move.ensures.answer c.in-Ok.is in
    let can' = subst (λ (x : SlabState). is_ok (answer_of x c.args.src c.args.dst) ≡ true) c.slabs_mut.ensures.slabs can in
    (refl, (refl, ((omega arith), (c.requires.arena, may_begin c.args.hand.now.seat.me.0 slabs c.args.src c.args.dst c.requires.held can'))))

pub invariant_of-hand : goal.invariant_of-hand
invariant_of-hand c =
    let a = c.args.hand.now in
    let is = changed_slabs a.seat.me.0 c.tell.new.seat.me.0 c.args.held.now.shared (BeginMove c.args.src c.args.dst) a.number (λ s hand. refl) c.requires.held a.noted.0 c.tell.ensures.happens in
    record { noted = noted_same a.seat.me c.tell.new.seat.me a.number a.chunks a.chunks a.locks a.noted c.tell.ensures.out c.tell.ensures.hand (a.noted.2 ∙ ap (λ (v : View). length v.row.holdings) (sym is)); tallied = tallied_same a.seat.me c.tell.new.seat.me a.stamps a.fresh a.tallied (ap (λ (v : View). v.row.ids) is) (ap (λ (v : View). v.row.holdings) is) }

pub returns-in-Ok-clause-view : goal.returns-in-Ok-clause-view
returns-in-Ok-clause-view c = changed_slabs c.args.hand.now.seat.me.0 c.tell.new.seat.me.0 c.args.held.now.shared (BeginMove c.args.src c.args.dst) c.args.hand.now.number (λ s hand. refl) c.requires.held c.args.hand.now.noted.0 c.tell.ensures.happens
