use Rattle.std.proofs.Common.{◌∙◌, ℕ, ◌≤◌, ◌++◌, ap, sym, subst}
use Rattle.mc_pages.specs.SlabState.{SlabState, class_at, class_of_owner}
use Rattle.mc_core.specs.model.State.{is_class, most_of}
use Rattle.mc_words.specs.hand.Arenas.{setup_of}
use Rattle.mc_words.specs.chunk.Dead.{AreHandedOut}
use Rattle.mc_words.specs.hand.View.{Setup}
use Rattle.mc_words.proofs.Pages.Judged.{judged_both}
use Rattle.mc_words.proofs.Pages.LookedOver.{sees_both}
use Rattle.mc_words.proofs.Chunks.SweepViews.{chunks_at_most, own_page}
use Rattle.mc_words.proofs.arena.Arena.look_at_hints.Goals as goal

pub look_at_page-requires-clause-most : goal.look_at_page-requires-clause-most
look_at_page-requires-clause-most c =
    let inv = c.loop.invariant in
    let slabs = c.args.held.now.shared in
    let view = c.loop.hand.seat.me.0 in
    let is = ap (λ (s : Setup). is_class s.table c.args.class) inv.arena.setup ∙ c.requires.class in
    let own = own_page c.args.class c.from-page.result c.class.result slabs c.slabs-in-loop.result.now.state c.slabs-in-loop.ensures.slabs c.if-class.false (c.class.ensures ∙ ap class_of_owner c.owner.ensures.owner) in
    let most = chunks_at_most view inv.arena.lawful slabs inv.held c.args.class is c.from-page.result own in
    let chunks = c.per_page-per_page.ensures.chunks ∙ ap (λ (s : SlabState). (class_at s c.args.class).per_page) c.slabs.ensures.slabs in
    subst (λ (n : ℕ). n ≤ most_of (setup_of c.args.self.now).table) (sym chunks) (subst (λ (s : Setup). (class_at slabs c.args.class).per_page ≤ most_of s.table) inv.arena.setup most)

pub look_at_page-requires-clause-out : goal.look_at_page-requires-clause-out
look_at_page-requires-clause-out c =
    let slabs = c.args.held.now.shared in
    let own = own_page c.args.class c.from-page.result c.class.result slabs c.slabs-in-loop.result.now.state c.slabs-in-loop.ensures.slabs c.if-class.false (c.class.ensures ∙ ap class_of_owner c.owner.ensures.owner) in
    subst (λ (n : ℕ). AreHandedOut (setup_of c.args.self.now).table slabs n c.loop.dead) (sym own) c.loop.invariant.out

pub loop-preserved : goal.loop-preserved
loop-preserved c =
    let inv = c.loop.invariant in
    let slabs = c.args.held.now.shared in
    let at = c.look_at_page.ensures in
    let (more, sees, judged) = at.sees in
    let own = own_page c.args.class c.from-page.result c.class.result slabs c.slabs-in-loop.result.now.state c.slabs-in-loop.ensures.slabs c.if-class.false (c.class.ensures ∙ ap class_of_owner c.owner.ensures.owner) in record {
      arena = at.arena;
      locks = at.locks ∙ inv.locks;
      held = at.held;
      out = subst (λ (n : ℕ). AreHandedOut (setup_of c.args.self.now).table slabs n c.look_at_page.new.dead) own at.out;
      looked = inv.looked ++ more;
      sees = sees_both inv.looked more c.args.hand.now.seat.me.0 c.loop.hand.seat.me.0 c.look_at_page.new.hand.seat.me.0 inv.sees sees;
      judged = judged_both inv.looked more c.loop.hand.seat.me.0.row.looks c.look_at_page.new.hand.seat.me.0.row.looks c.loop.dead c.look_at_page.new.dead inv.judged at.kept judged;
    }
