use Rattle.std.proofs.Common.{Some, refl, ap, sym, subst, ◌∙◌, length, arith}
use Rattle.mc_pages.specs.declared.ids.Moving.{Moving}
use Rattle.mc_pages.specs.Moves.{CanPass, after_passed}
use Rattle.mc_pages.specs.SlabState.{SlabState}
use Rattle.mc_core.specs.declared.event.Change.TheVariants.{Passed}
use Rattle.mc_words.specs.hand.View.{View}
use Rattle.mc_words.proofs.Pages.MoveChanges.{can_pass_from, may_pass, of_table_here}
use Rattle.mc_words.proofs.Locks.ChangeViews.{changed_slabs}
use Rattle.mc_words.proofs.Locks.Locked.{noted_same}
use Rattle.mc_words.proofs.Hands.Tallies.{tallied_same}
use Rattle.mc_words.proofs.arena.Arena.passed.Goals as goal

pub passed-requires : goal.passed-requires
passed-requires c = subst (λ (x : SlabState). (move : Moving) × CanPass x c.args.found move) (sym c.slabs_mut.ensures.slabs) c.requires.done

pub tell-requires : goal.tell-requires
tell-requires c =
    let count = c.args.self.now.words in
    let view = c.args.hand.now.seat.me.0 in
    let slabs = c.args.held.now.shared in
    let can = can_pass_from view.setup.table slabs c.args.found c.requires.done.0 (of_table_here view c.requires.arena.lawful slabs c.requires.held) c.requires.done.1 in
    (refl, (refl, ((omega arith), (c.requires.arena, may_pass view slabs c.args.found c.requires.held can))))

pub invariant_of-hand : goal.invariant_of-hand
invariant_of-hand c =
    let a = c.args.hand.now in
    let is = changed_slabs a.seat.me.0 c.tell.new.seat.me.0 c.args.held.now.shared (Passed c.args.found) a.number (λ s hand. refl) c.requires.held a.noted.0 c.tell.ensures.happens in
    record { noted = noted_same a.seat.me c.tell.new.seat.me a.number a.chunks a.chunks a.locks a.noted c.tell.ensures.out c.tell.ensures.hand (a.noted.2 ∙ ap (λ (v : View). length v.row.holdings) (sym is)); tallied = tallied_same a.seat.me c.tell.new.seat.me a.stamps a.fresh a.tallied (ap (λ (v : View). v.row.ids) is) (ap (λ (v : View). v.row.holdings) is) }

pub returns-clause-view : goal.returns-clause-view
returns-clause-view c = changed_slabs c.args.hand.now.seat.me.0 c.tell.new.seat.me.0 c.args.held.now.shared (Passed c.args.found) c.args.hand.now.number (λ s hand. refl) c.requires.held c.args.hand.now.noted.0 c.tell.ensures.happens

pub returns-clause-held : goal.returns-clause-held
returns-clause-held c =
    ap (λ (v : View). v.slabs) (returns-clause-view c)
    ∙ ap Some (ap (λ (x : SlabState). after_passed x c.args.found) (sym c.slabs_mut.ensures.slabs) ∙ sym c.passed.ensures.passed)
