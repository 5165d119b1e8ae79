use Rattle.std.proofs.Common.{refl, ap, sym, subst, ◌∙◌, length, arith}
use Rattle.mc_core.proofs.Steps.Listed.{Contains_from_among}
use Rattle.mc_pages.specs.SlabState.{SlabState, class_of_chunk}
use Rattle.std.specs.Prelude.{Contains}
use Rattle.mc_core.specs.declared.event.Change.TheVariants.{Touch}
use Rattle.mc_words.specs.hand.View.{View}
use Rattle.mc_words.proofs.Pages.PageWords.{may_touch}
use Rattle.mc_words.proofs.Locks.ChangeViews.{changed_slabs}
use Rattle.mc_words.proofs.Locks.Locked.{noted_same}
use Rattle.mc_words.proofs.Hands.Tallies.{tallied_same}
use Rattle.mc_words.proofs.arena.Arena.touch.Goals as goal

pub touch-requires : goal.touch-requires
touch-requires c =
    subst (λ (x : SlabState). Contains (class_of_chunk x c.args.chunk).order c.args.chunk) (sym c.slabs_mut.ensures.slabs) (Contains_from_among (class_of_chunk c.args.held.now.shared c.args.chunk).order c.args.chunk c.requires.out)

pub tell-requires : goal.tell-requires
tell-requires c =
    let count = c.args.self.now.words in
    (refl, (refl, ((omega arith), (c.requires.arena, may_touch c.args.hand.now.seat.me.0 c.args.held.now.shared c.args.chunk c.requires.held c.requires.out))))

pub invariant_of-hand : goal.invariant_of-hand
invariant_of-hand c =
    let a = c.args.hand.now in
    let is = changed_slabs a.seat.me.0 c.tell.new.seat.me.0 c.args.held.now.shared (Touch c.args.chunk) a.number (λ s hand. refl) c.requires.held a.noted.0 c.tell.ensures.happens in
    record { noted = noted_same a.seat.me c.tell.new.seat.me a.number a.chunks a.chunks a.locks a.noted c.tell.ensures.out c.tell.ensures.hand (a.noted.2 ∙ ap (λ (v : View). length v.row.holdings) (sym is)); tallied = tallied_same a.seat.me c.tell.new.seat.me a.stamps a.fresh a.tallied (ap (λ (v : View). v.row.ids) is) (ap (λ (v : View). v.row.holdings) is) }

pub returns-clause-view : goal.returns-clause-view
returns-clause-view c = changed_slabs c.args.hand.now.seat.me.0 c.tell.new.seat.me.0 c.args.held.now.shared (Touch c.args.chunk) c.args.hand.now.number (λ s hand. refl) c.requires.held c.args.hand.now.noted.0 c.tell.ensures.happens
