use Rattle.std.proofs.Common.{◌∙◌, ℕ, ◌+◌, ◌*◌, ◌/◌, ◌%◌, subst, inl, inr, arith}
use Rattle.std.proofs.Math.Nat.{div-add-mod}
use Rattle.std.proofs.lemmas.Bool.{cases_lt}
use Rattle.mc_pages.proofs.Cuts.{chunk_at}
use Rattle.mc_words.specs.hand.Arenas.{view}
use Rattle.mc_words.specs.chunk.Dead.{IsAliveOrNoted}
use Rattle.mc_words.specs.chunk.Sweeps.{LooksAlong}
use Rattle.mc_words.proofs.Pages.Judged.{in_or_out, of_page}
use Rattle.mc_words.proofs.Pages.LookedOver.{looks_behind, looks_fewer, looks_further}
use Rattle.mc_words.proofs.arena.Arena.look_along.Goals as goal

-- all four are linked or free
pub loop-four-preserved-then-are_linked_or_free : goal.loop-four-preserved-then-are_linked_or_free
loop-four-preserved-then-are_linked_or_free c =
    let inv = c.loop-four.invariant in
    let four = c.loop-four.four in
    let first = c.are_linked_or_free.ensures in
    let is = c.if-are_linked_or_free.true in
    let page = c.args.page in
    let dead = c.loop-four.dead in
    let start = view c.args.hand.now in
    let was = view c.loop-four.hand in
    let now = view c.are_linked_or_free.new.hand in record {
      arena = first.arena;
      locks = first.locks ∙ inv.locks;
      held = first.held;
      out = inv.out;
      sees = subst (λ (n : ℕ). LooksAlong page 0 n start now) (omega arith) (looks_further page 0 (4 * four) (4 * four + 4) start was now inv.sees first.sees);
      judged = λ index below. elim (cases_lt index (4 * four)) [
        | inl before ↦ first.kept dead (chunk_at page index) (λ on past. absurd (omega (arith, before, past))) (inv.judged index before)
        | inr past ↦ λ within_limit. inl (first.alive is index past (omega (arith, below)))
      ];
      kept = λ other judged. elim (in_or_out page (4 * four) (4 * four + 4) other) [
        | inl inside ↦ of_page (IsAliveOrNoted now.row.looks dead) page other inside.0 (λ within_limit. inl (first.alive is other.index inside.1 inside.2))
        | inr outside ↦ first.kept dead other outside (inv.kept other judged)
      ];
    }

-- one may be dead
pub loop-four-preserved : goal.loop-four-preserved
loop-four-preserved c =
    let inv = c.loop-four.invariant in
    let four = c.loop-four.four in
    let first = c.are_linked_or_free.ensures in
    let again = c.look_from.ensures in
    let page = c.args.page in
    let dead = c.loop-four.dead in
    let start = view c.args.hand.now in
    let was = view c.loop-four.hand in
    let then = view c.are_linked_or_free.new.hand in
    let now = view c.look_from.new.hand in
    let (looked, sees, among) = first.sees in record {
      arena = again.arena;
      locks = again.locks ∙ (first.locks ∙ inv.locks);
      held = again.held;
      out = again.out;
      sees = subst (λ (n : ℕ). LooksAlong page 0 n start now) (omega arith) (looks_further page 0 (4 * four) (4 * four + 4) start was now inv.sees
          (looks_behind page (4 * four) (4 * four + 4) looked was then now sees again.sees));
      judged = λ index below. elim (cases_lt index (4 * four)) [
        | inl before ↦ again.kept (chunk_at page index) (first.kept dead (chunk_at page index) (λ on past. absurd (omega (arith, before, past))) (inv.judged index before))
        | inr past ↦ again.judged index past (omega (arith, below))
      ];
      kept = λ other judged. elim (in_or_out page (4 * four) (4 * four + 4) other) [
        | inl inside ↦ of_page (IsAliveOrNoted now.row.looks c.look_from.new.dead) page other inside.0 (again.judged other.index inside.1 inside.2)
        | inr outside ↦ again.kept other (first.kept dead other outside (inv.kept other judged))
      ];
    }

pub returns-clause-sees : goal.returns-clause-sees
returns-clause-sees c =
    let inv = c.loop-four.invariant in
    let end = c.loop-four-test.false in
    let page = c.args.page in
    let fours = c.args.per_page / 4 in
    let start = view c.args.hand.now in
    let was = view c.loop-four.hand in
    let now = view c.look_from-2.new.hand in
    subst (λ (n : ℕ). LooksAlong page 0 n start now) (div-add-mod c.args.per_page 4)
    (looks_further page 0 (4 * fours) (4 * fours + c.args.per_page % 4) start was now
    (looks_fewer page 0 (4 * c.loop-four.four) (4 * fours) start was (omega (arith, end)) inv.sees) c.look_from-2.ensures.sees)

pub returns-clause-judged : goal.returns-clause-judged
returns-clause-judged c index below =
    let last = c.look_from-2.ensures in
    let end = c.loop-four-test.false in
    let whole = div-add-mod c.args.per_page 4 in
    elim (cases_lt index (4 * (c.args.per_page / 4))) [
      | inl before ↦ last.kept (record { page = c.args.page; index = index }) (c.loop-four.invariant.judged index (omega (arith, before, end)))
      | inr past ↦ last.judged index past (omega (arith, below, whole))
    ]

pub returns-clause-kept : goal.returns-clause-kept
returns-clause-kept c other judged = c.look_from-2.ensures.kept other (c.loop-four.invariant.kept other judged)
