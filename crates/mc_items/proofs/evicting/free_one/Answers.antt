use Rattle.std.proofs.Common.{◌≡◌, ℕ, true, Ok, ap, subst, ◌∙◌}
use Rattle.mc_pages.specs.SlabState.{SlabState}
use Rattle.mc_pages.specs.Changes.{after_back}
use Rattle.mc_core.specs.model.State.{has_chunk, is_class}
use Rattle.mc_words.specs.hand.View.{Setup, View}
use Rattle.mc_words.specs.declared.hand.held.SlabsHeld.{SlabsHeld}
use Rattle.mc_words.specs.page.Owner.{PutsBack}
use Rattle.mc_words.proofs.Chunks.SweepViews.{class_here, stands_out}
use Rattle.mc_items.specs.declared.evicting.Supply.TheVariants.{Dead, Evicted}
use Rattle.mc_items.specs.Evicting.{FreesChunk}
use Rattle.mc_items.specs.Supplying.{FreesEvicted}
use Rattle.mc_items.proofs.Freed.{frees_free, takes_keep}
use Rattle.mc_words.proofs.Hands.HandNumbers.{number_stays}
use Rattle.mc_items.proofs.evicting.free_one.Goals as goal

-- the item was evicted
evicted_here : (c : goal.After-free_evicted) → FreesChunk c.args.hand.now.number c.args.class c.args.chunk Evicted c.args.hand.now.seat.me.0 c.args.slabs.now.shared c.free_evicted.new.hand.seat.me.0 c.free_evicted.new.slabs.shared
evicted_here c =
    let hand = c.args.hand.now in
    let next = c.condemn_if_free.new.hand in
    let took = c.condemn_if_free.ensures.taken (c.in_ok-condemn_if_free.was ∙ ap (λ b. Ok b) c.if-branch.true) in
    let number = number_stays hand next (takes_keep hand.number c.args.chunk hand.seat.me.0 next.seat.me.0 took).ids in (
      next.seat.me.0,
      took,
      subst (λ (p : ℕ × SlabState). FreesEvicted p.0 c.args.class c.args.chunk next.seat.me.0 p.1 c.free_evicted.new.hand.seat.me.0 c.free_evicted.new.slabs.shared)
          (λ k. (number k, ap (λ (s : SlabsHeld). s.shared) c.condemn_if_free.ensures.same_slabs k)) c.free_evicted.ensures.freed,
    )

-- it had died, and was put back
back_here : (c : goal.In-Ok) → FreesChunk c.args.hand.now.number c.args.class c.args.chunk Dead c.args.hand.now.seat.me.0 c.args.slabs.now.shared c.put_back.new.hand.seat.me.0 c.put_back.new.held.shared
back_here c =
    let tried : View = c.condemn_if_free.new.hand.seat.me.0 in
    let passes = c.condemn_if_free.ensures.passed (c.in_ok-condemn_if_free.was ∙ ap (λ b. Ok b) c.if-branch.false) in
    let same = ap (λ (s : SlabsHeld). s.shared) c.condemn_if_free.ensures.same_slabs in
    let back = c.in-Ok.ensures.back in (
      tried,
      passes,
      subst (λ (s : SlabState). PutsBack tried s c.args.chunk c.put_back.new.hand.seat.me.0) same back.0,
      back.1 ∙ ap (λ (s : SlabState). after_back s c.args.chunk) same,
    )

pub returns-then-branch-clause-frees : goal.returns-then-branch-clause-frees
returns-then-branch-clause-frees c = evicted_here c

pub returns-then-branch-clause-free : goal.returns-then-branch-clause-free
returns-then-branch-clause-free c =
    let view : View = c.args.hand.now.seat.me.0 in
    let slabs = c.args.slabs.now.shared in
    let is = ap (λ (s : Setup). is_class s.table c.args.class) c.requires.arena.setup ∙ c.requires.class in
    let own = (stands_out view c.requires.arena.lawful slabs c.requires.slabs c.args.class is c.args.chunk c.requires.out).own in
    frees_free c.args.hand.now.number c.args.class c.args.chunk Evicted view slabs c.free_evicted.new.hand.seat.me.0 c.free_evicted.new.slabs.shared (class_here view c.requires.arena.lawful slabs c.requires.slabs c.args.class is) own (evicted_here c)

pub put_back-requires-clause-in_range : goal.put_back-requires-clause-in_range
put_back-requires-clause-in_range c =
    let is = ap (λ (s : Setup). is_class s.table c.args.class) c.requires.arena.setup ∙ c.requires.class in
    subst (λ (s : Setup). has_chunk s.table c.args.chunk ≡ true) c.requires.arena.setup (stands_out c.args.hand.now.seat.me.0 c.requires.arena.lawful c.args.slabs.now.shared c.requires.slabs c.args.class is c.args.chunk c.requires.out).in_range

pub returns-in-Ok-clause-frees : goal.returns-in-Ok-clause-frees
returns-in-Ok-clause-frees c = back_here c

pub returns-in-Ok-clause-free : goal.returns-in-Ok-clause-free
returns-in-Ok-clause-free c =
    let view : View = c.args.hand.now.seat.me.0 in
    let slabs = c.args.slabs.now.shared in
    let is = ap (λ (s : Setup). is_class s.table c.args.class) c.requires.arena.setup ∙ c.requires.class in
    let own = (stands_out view c.requires.arena.lawful slabs c.requires.slabs c.args.class is c.args.chunk c.requires.out).own in
    frees_free c.args.hand.now.number c.args.class c.args.chunk Dead view slabs c.put_back.new.hand.seat.me.0 c.put_back.new.held.shared (class_here view c.requires.arena.lawful slabs c.requires.slabs c.args.class is) own (back_here c)

pub returns-in-Err-clause-passes : goal.returns-in-Err-clause-passes
returns-in-Err-clause-passes c _ =
    let tried : View = c.condemn_if_free.new.hand.seat.me.0 in
    let passes = c.condemn_if_free.ensures.passed (c.in_ok-condemn_if_free.was ∙ ap (λ b. Ok b) c.if-branch.false) in
    let other = c.in-Err.ensures.moved in
    (record { tried = tried; passes = passes; alive = other.0 }, other.1 ∙ ap (λ (s : SlabsHeld). s.shared) c.condemn_if_free.ensures.same_slabs)
