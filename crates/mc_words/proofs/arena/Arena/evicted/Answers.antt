use Rattle.std.proofs.Common.{◌≡◌, true, refl, ap, sym, subst, ◌∙◌, length, arith}
use Rattle.mc_core.specs.model.State.{is_class}
use Rattle.mc_words.proofs.Chunks.Judging.{class_of_slabs}
use Rattle.mc_pages.specs.SlabState.{SlabState, HasClass}
use Rattle.mc_core.specs.declared.event.Change.TheVariants.{Evicted}
use Rattle.mc_words.specs.hand.View.{View, Setup}
use Rattle.mc_words.proofs.Pages.PageWords.{may_evicted}
use Rattle.mc_words.proofs.Locks.ChangeViews.{changed_slabs}
use Rattle.mc_words.proofs.Locks.Locked.{noted_same}
use Rattle.mc_words.proofs.Hands.Tallies.{tallied_same}
use Rattle.mc_words.proofs.arena.Arena.evicted.Goals as goal

pub evicted-requires : goal.evicted-requires
evicted-requires c =
    let is = subst (λ (s : Setup). is_class s.table c.args.class ≡ true) (sym c.requires.arena.setup) c.requires.class in
    subst (λ (x : SlabState). HasClass x c.args.class) (sym c.slabs_mut.ensures.slabs) (class_of_slabs c.args.hand.now.seat.me.0 c.requires.arena.lawful c.args.held.now.shared c.args.class c.requires.held is)

pub tell-requires : goal.tell-requires
tell-requires c =
    let count = c.args.self.now.words in
    (refl, (refl, ((omega arith), (c.requires.arena, may_evicted c.args.hand.now.seat.me.0 c.args.held.now.shared c.args.class c.requires.held (subst (λ (s : Setup). is_class s.table c.args.class ≡ true) (sym c.requires.arena.setup) c.requires.class)))))

pub invariant_of-hand : goal.invariant_of-hand
invariant_of-hand c =
    let a = c.args.hand.now in
    let is = changed_slabs a.seat.me.0 c.tell.new.seat.me.0 c.args.held.now.shared (Evicted c.args.class) a.number (λ s hand. refl) c.requires.held a.noted.0 c.tell.ensures.happens in
    record { noted = noted_same a.seat.me c.tell.new.seat.me a.number a.chunks a.chunks a.locks a.noted c.tell.ensures.out c.tell.ensures.hand (a.noted.2 ∙ ap (λ (v : View). length v.row.holdings) (sym is)); tallied = tallied_same a.seat.me c.tell.new.seat.me a.stamps a.fresh a.tallied (ap (λ (v : View). v.row.ids) is) (ap (λ (v : View). v.row.holdings) is) }

pub returns-clause-view : goal.returns-clause-view
returns-clause-view c = changed_slabs c.args.hand.now.seat.me.0 c.tell.new.seat.me.0 c.args.held.now.shared (Evicted c.args.class) c.args.hand.now.number (λ s hand. refl) c.requires.held c.args.hand.now.noted.0 c.tell.ensures.happens
