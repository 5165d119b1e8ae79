use Rattle.std.proofs.Common.{◌≡◌, ℕ, true, Ok, slice_get, refl, ap, sym, subst, ◌∙◌, inl, inr}
use Rattle.mc_pages.specs.SlabState.{SlabState, class_at}
use Rattle.mc_core.specs.model.State.{has_chunk, is_class}
use Rattle.mc_core.specs.run.Silent.{is_among}
use Rattle.mc_words.specs.hand.View.{Setup}
use Rattle.mc_words.proofs.Chunks.SweepViews.{stands_out}
use Rattle.mc_words.proofs.Hands.HandNumbers.{number_stays}
use Rattle.mc_items.specs.Visiting.{EndsUnlinked, PutsBackOrPasses}
use Rattle.mc_items.proofs.Freed.{as_error, on_error}
use Rattle.mc_items.proofs.Passes.{OwnTuple}
use Rattle.mc_items.proofs.Visits.{first_among, first_there, spared_own, unlinks_delete}
use Rattle.mc_items.proofs.visiting.visit_first.Goals as goal

pub unlink_if_old-requires-clause-out : goal.unlink_if_old-requires-clause-out
unlink_if_old-requires-clause-out g c =
    let first = sym (c.first_out.ensures.chunk ∙ ap (λ (x : SlabState). slice_get (class_at x c.args.class).order 0) c.slabs.ensures.slabs) ∙ c.in-Some.is in
    first_there (class_at c.args.slabs.now.shared c.args.class).order c.in-Some.chunk first

pub returns-in_err-unlink_if_old-clause-no_memory : goal.returns-in_err-unlink_if_old-clause-no_memory
returns-in_err-unlink_if_old-clause-no_memory g c =
    let first = sym (c.first_out.ensures.chunk ∙ ap (λ (x : SlabState). slice_get (class_at x c.args.class).order 0) c.slabs.ensures.slabs) ∙ c.in-Some.is in
    as_error c.from_residual.result (record { chunk = c.in-Some.chunk; first = first; lacks = on_error c.unlink_if_old.result c.in_err-unlink_if_old.field-0.0 c.in_err-unlink_if_old.was c.unlink_if_old.ensures.no_memory; same = refl })

pub free_unlinked-requires-clause-in_range : goal.free_unlinked-requires-clause-in_range
free_unlinked-requires-clause-in_range g c =
    let first = sym (c.first_out.ensures.chunk ∙ ap (λ (x : SlabState). slice_get (class_at x c.args.class).order 0) c.slabs.ensures.slabs) ∙ c.in-Some.is in
    let slabs = c.args.slabs.now.shared in
    let is = ap (λ (s : Setup). is_class s.table c.args.class) c.requires.arena.setup ∙ c.requires.class in
    subst (λ (s : Setup). has_chunk s.table c.in-Some.chunk ≡ true) c.requires.arena.setup (stands_out c.args.hand.now.seat.me.0 c.requires.arena.lawful slabs c.requires.slabs c.args.class is c.in-Some.chunk (first_there (class_at slabs c.args.class).order c.in-Some.chunk first)).in_range

pub returns-then-branch-clause-visits : goal.returns-then-branch-clause-visits
returns-then-branch-clause-visits g c =
    let first = sym (c.first_out.ensures.chunk ∙ ap (λ (x : SlabState). slice_get (class_at x c.args.class).order 0) c.slabs.ensures.slabs) ∙ c.in-Some.is in
    let hand = c.args.hand.now in
    let next = c.unlink_if_old.new.hand in
    let slabs = c.args.slabs.now.shared in
    let chunk = c.in-Some.chunk in
    let unlinks = c.unlink_if_old.ensures.unlinks (c.in_ok-unlink_if_old.was ∙ ap (λ b. Ok b) c.if-branch.true) in
    let number = number_stays hand next (unlinks_delete hand.number chunk hand.seat.me.0 next.seat.me.0 unlinks).ids in record {
      chunk = chunk;
      first = first;
      visits = (next.seat.me.0, inl (unlinks, subst (λ n. EndsUnlinked n c.args.class c.free_unlinked.result chunk next.seat.me.0 slabs c.free_unlinked.new.hand.seat.me.0 c.free_unlinked.new.slabs.shared) number c.free_unlinked.ensures.ends));
    }

pub put_back_or_pass-requires-clause-in_range : goal.put_back_or_pass-requires-clause-in_range
put_back_or_pass-requires-clause-in_range g c =
    let first = sym (c.first_out.ensures.chunk ∙ ap (λ (x : SlabState). slice_get (class_at x c.args.class).order 0) c.slabs.ensures.slabs) ∙ c.in-Some.is in
    let slabs = c.args.slabs.now.shared in
    let is = ap (λ (s : Setup). is_class s.table c.args.class) c.requires.arena.setup ∙ c.requires.class in
    subst (λ (s : Setup). has_chunk s.table c.in-Some.chunk ≡ true) c.requires.arena.setup (stands_out c.args.hand.now.seat.me.0 c.requires.arena.lawful slabs c.requires.slabs c.args.class is c.in-Some.chunk (first_there (class_at slabs c.args.class).order c.in-Some.chunk first)).in_range

pub put_back_or_pass-requires-clause-out : goal.put_back_or_pass-requires-clause-out
put_back_or_pass-requires-clause-out g c =
    let first = sym (c.first_out.ensures.chunk ∙ ap (λ (x : SlabState). slice_get (class_at x c.args.class).order 0) c.slabs.ensures.slabs) ∙ c.in-Some.is in
    let slabs = c.args.slabs.now.shared in
    let chunk = c.in-Some.chunk in
    let is = ap (λ (s : Setup). is_class s.table c.args.class) c.requires.arena.setup ∙ c.requires.class in
    let own = (stands_out c.args.hand.now.seat.me.0 c.requires.arena.lawful slabs c.requires.slabs c.args.class is chunk (first_there (class_at slabs c.args.class).order chunk first)).own in
    ap (λ (n : ℕ). is_among (class_at slabs n).order chunk) own ∙ first_among (class_at slabs c.args.class).order chunk first

pub returns-clause-visits : goal.returns-clause-visits
returns-clause-visits g c =
    let first = sym (c.first_out.ensures.chunk ∙ ap (λ (x : SlabState). slice_get (class_at x c.args.class).order 0) c.slabs.ensures.slabs) ∙ c.in-Some.is in
    let hand = c.args.hand.now in
    let next = c.unlink_if_old.new.hand in
    let slabs = c.args.slabs.now.shared in
    let chunk = c.in-Some.chunk in
    let spares = c.unlink_if_old.ensures.spares (c.in_ok-unlink_if_old.was ∙ ap (λ b. Ok b) c.if-branch.false) in
    let number = number_stays hand next (ap (λ (o : OwnTuple). o.2) (spared_own chunk hand.seat.me.0 next.seat.me.0 spares)) in record {
      chunk = chunk;
      first = first;
      visits = (next.seat.me.0, inr (spares, subst (λ n. PutsBackOrPasses n c.put_back_or_pass.result chunk next.seat.me.0 slabs c.put_back_or_pass.new.hand.seat.me.0 c.put_back_or_pass.new.slabs.shared) number c.put_back_or_pass.ensures.ends));
    }
