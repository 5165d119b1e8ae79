use Rattle.std.proofs.Common.{ℕ, Bool, not, map, refl, sym, ap, subst, ◌∙◌, inl}
use Rattle.std.proofs.lemmas.Bool.{and_from}
use Rattle.mc_pages.specs.ClassState.{ClassState}
use Rattle.mc_pages.specs.SlabState.{SlabState, class_of_page}
use Rattle.mc_pages.proofs.ClassChanges.{per_pages-with_class}
use Rattle.mc_pages.proofs.Cuts.{per_page-map}
use Rattle.mc_core.specs.model.Head.{decode}
use Rattle.mc_core.specs.model.State.{has_chunk, is_class}
use Rattle.mc_words.specs.hand.View.{Setup, View}
use Rattle.mc_words.proofs.Chunks.Judging.{class_of_slabs, seen_slabs}
use Rattle.mc_mover.specs.Linked as linked
use Rattle.mc_mover.specs.Linked.{VisitsLinked}
use Rattle.mc_mover.specs.Visiting.{Visits}
use Rattle.mc_mover.proofs.ClearedPages.{cleared_after_clear}
use Rattle.mc_words.proofs.Hands.HandNumbers.{number_stays}
use Rattle.mc_mover.proofs.Refusals.{if_ok, on_err}
use Rattle.mc_mover.proofs.SeenChunks.{linked_found, out_found, sees_linked, visited}
use Rattle.mc_mover.proofs.visiting.visit.Goals as goal

pub visit_linked-requires-clause-linked : goal.visit_linked-requires-clause-linked
visit_linked-requires-clause-linked c =
    linked_found c.args.hand.now.seat.me.0 c.head-head.new.hand.seat.me.0 c.args.held.now.shared c.requires.held c.args.chunk (decode c.head-head.result) c.head-head.ensures.seen (sym c.is_linked.ensures.linked ∙ c.if-is_linked.true)

pub returns-then-is_linked-clause-visits : goal.returns-then-is_linked-clause-visits
returns-then-is_linked-clause-visits c =
    let view : View = c.args.hand.now.seat.me.0 in
    let seen : View = c.head-head.new.hand.seat.me.0 in
    let head = decode c.head-head.result in
    let now : View = c.visit_linked.new.hand.seat.me.0 in
    let left = c.visit_linked.new.held.shared in
    let slabs = c.args.held.now.shared in
    let number = number_stays c.args.hand.now c.head-head.new.hand (ap (λ (v : View). v.row.ids) c.head-head.ensures.seen) in
    if_ok (λ found. VisitsLinked c.head-head.new.hand.number c.args.class c.args.chunk c.args.sweep.now c.is_unheld.result found c.visit_linked.new.sweep seen slabs now left) (λ found. Visits c.args.hand.now.number c.args.class c.args.chunk c.args.sweep.now found c.visit_linked.new.sweep view slabs now left) c.visit_linked.result
    (λ found does. visited c.args.hand.now.number c.args.class c.args.chunk view seen slabs now left head (sym c.is_linked.ensures.linked ∙ c.if-is_linked.true) c.head-head.ensures.happens c.head-head.ensures.seen c.args.sweep.now found c.visit_linked.new.sweep
    (subst (λ (p : ℕ × Bool). VisitsLinked p.0 c.args.class c.args.chunk c.args.sweep.now p.1 found c.visit_linked.new.sweep seen slabs now left) (λ k. (number k, c.is_unheld.ensures.unheld k)) does))
    c.visit_linked.ensures.visits

pub returns-then-is_linked-clause-lacks : goal.returns-then-is_linked-clause-lacks
returns-then-is_linked-clause-lacks c =
    let view : View = c.args.hand.now.seat.me.0 in
    let seen : View = c.head-head.new.hand.seat.me.0 in
    on_err c.visit_linked.result
    (λ lacks. sees_linked c.args.hand.now.number c.args.class c.args.chunk view seen c.args.held.now.shared c.visit_linked.new.hand.seat.me.0 c.visit_linked.new.held.shared (decode c.head-head.result) (sym c.is_linked.ensures.linked ∙ c.if-is_linked.true)
    c.head-head.ensures.happens c.head-head.ensures.seen (linked.LacksCallOnKey c.args.chunk)
    (subst (λ (b : Bool). linked.LacksCallOnKey c.args.chunk b seen c.args.held.now.shared c.visit_linked.new.hand.seat.me.0 c.visit_linked.new.held.shared) c.is_unheld.ensures.unheld lacks))
    c.visit_linked.ensures.lacks

pub returns-then-is_out-clause-clears : goal.returns-then-is_out-clause-clears
returns-then-is_out-clause-clears c =
    let view : View = c.args.hand.now.seat.me.0 in
    let seen : View = c.head-head.new.hand.seat.me.0 in
    let slabs = c.args.held.now.shared in
    let in_range = ap (λ (s : Setup). has_chunk s.table c.args.chunk) c.head-head.ensures.arena.setup ∙ c.requires.in_range in
    let is = ap (λ (s : Setup). is_class s.table c.args.class) c.requires.arena.setup ∙ c.requires.class in
    let valid = class_of_slabs view c.requires.arena.lawful slabs c.args.class c.requires.held is in
    λ _. out_found view seen slabs c.requires.held c.args.chunk (decode c.head-head.result) c.head-head.ensures.seen c.head-head.ensures.arena.lawful in_range c.args.class valid c.requires.cut (sym c.is_out.ensures.out ∙ c.if-is_out.true)

pub returns-in-Ok-clause-visits : goal.returns-in-Ok-clause-visits
returns-in-Ok-clause-visits c = (
  record {
    seen = c.head-head.new.hand.seat.me.0;
    sees = record { head = decode c.head-head.result; so = and_from _ _ (ap not (sym c.is_linked.ensures.linked ∙ c.if-is_linked.false)) (ap not (sym c.is_out.ensures.out ∙ c.if-is_out.false)); looks = c.head-head.ensures.happens; is = c.head-head.ensures.seen };
    clears = c.in-Ok.ensures.cleared.0;
    left_is = c.in-Ok.ensures.cleared.1;
  },
  refl,
)

pub returns-in-Ok-clause-clears : goal.returns-in-Ok-clause-clears
returns-in-Ok-clause-clears c =
    let seen : View = c.head-head.new.hand.seat.me.0 in
    let slabs = c.args.held.now.shared in
    let mine = ap (λ (v : View). v.slabs) c.head-head.ensures.seen ∙ seen_slabs c.args.hand.now.seat.me.0 c.args.chunk (decode c.head-head.result) slabs c.requires.held in
    λ _. cleared_after_clear seen c.clear.new.hand.seat.me.0 slabs c.clear.new.held.shared c.args.class c.args.chunk mine c.clear.ensures.held c.clear.ensures.arena.lawful c.in-Ok.ensures.cleared.0 c.in-Ok.ensures.cleared.1 c.requires.own

pub returns-in-Ok-clause-per_page : goal.returns-in-Ok-clause-per_page
returns-in-Ok-clause-per_page c =
    let slabs = c.args.held.now.shared in
    per_page-map slabs c.clear.new.held.shared c.args.class (ap (λ (s : SlabState). map (λ (x : ClassState). x.per_page) s.classes) c.in-Ok.ensures.cleared.1 ∙ per_pages-with_class slabs (class_of_page slabs c.args.chunk.page) _ refl)

pub returns-in-Err-clause-visits : goal.returns-in-Err-clause-visits
returns-in-Err-clause-visits c =
    inl (
      record {
        seen = c.head-head.new.hand.seat.me.0;
        sees = record { head = decode c.head-head.result; so = and_from _ _ (ap not (sym c.is_linked.ensures.linked ∙ c.if-is_linked.false)) (ap not (sym c.is_out.ensures.out ∙ c.if-is_out.false)); looks = c.head-head.ensures.happens; is = c.head-head.ensures.seen };
        other = c.in-Err.ensures.moved.0;
      },
      c.in-Err.ensures.moved.1,
      refl,
    )
