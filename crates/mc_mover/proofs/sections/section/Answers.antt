use Rattle.std.proofs.Common.{◌≡◌, ◌+◌, true, ap, subst, ◌∙◌, ℕ}
use Rattle.mc_pages.specs.Moves.{chunk_at_position}
use Rattle.mc_core.specs.declared.event.Change.TheVariants as change
use Rattle.mc_core.specs.model.State.{has_chunk, is_class}
use Rattle.mc_words.specs.hand.View.{Setup, View}
use Rattle.mc_words.specs.hand.Views.{slabs_changed}
use Rattle.mc_words.proofs.Hands.HandNumbers.{number_stays}
use Rattle.mc_mover.proofs.Refusals.{as_error, on_error}
use Rattle.mc_mover.proofs.Rounds.{page_is, page_moves, position_cut, position_near, source_is}
use Rattle.mc_mover.proofs.sections.section.Goals as goal

pub visit-requires-clause-in_range : goal.visit-requires-clause-in_range
visit-requires-clause-in_range c =
    subst (λ (s : Setup). has_chunk s.table (chunk_at_position c.args.moving) ≡ true) c.requires.arena.setup
    (position_near c.args.hand.now.seat.me.0 c.requires.arena.lawful c.args.held.now.shared c.requires.held c.args.moving c.requires.runs c.requires.within)

pub visit-requires-clause-class : goal.visit-requires-clause-class
visit-requires-clause-class c =
    subst (λ (s : Setup). is_class s.table c.args.moving.src ≡ true) c.requires.arena.setup
    (source_is c.args.hand.now.seat.me.0 c.requires.arena.lawful c.args.held.now.shared c.requires.held c.args.moving c.requires.runs)

pub visit-requires-clause-own : goal.visit-requires-clause-own
visit-requires-clause-own c = page_is c.args.hand.now.seat.me.0 c.requires.arena.lawful c.args.held.now.shared c.requires.held c.args.moving c.requires.runs

pub visit-requires-clause-moving : goal.visit-requires-clause-moving
visit-requires-clause-moving c = page_moves c.args.hand.now.seat.me.0 c.requires.arena.lawful c.args.held.now.shared c.requires.held c.args.moving c.requires.runs

pub visit-requires-clause-cut : goal.visit-requires-clause-cut
visit-requires-clause-cut c =
    position_cut c.args.hand.now.seat.me.0 c.requires.arena.lawful c.args.held.now.shared c.requires.held c.args.moving c.requires.runs c.requires.whole c.requires.within

pub returns-in_err-found-clause-lacks : goal.returns-in_err-found-clause-lacks
returns-in_err-found-clause-lacks c = as_error c.from_residual.result (on_error c.visit.result c.in_err-found.field-0.0 c.in_err-found.was c.visit.ensures.lacks)

pub returns-clause-section : goal.returns-clause-section
returns-clause-section c =
    let seen : View = c.visit.new.hand.seat.me.0 in
    let number = number_stays c.args.hand.now c.visit.new.hand c.visit.ensures.ids in
    record {
      move = c.args.moving;
      runs = c.requires.runs;
      within = c.requires.within;
      visited = seen;
      kept = c.visit.new.held.shared;
      visits = c.in_ok-found.ensures.visits;
      happens = c.passed.ensures.happens;
      is = c.passed.ensures.view ∙ ap (λ (n : ℕ). slabs_changed c.visit.new.held.shared (change.Passed c.in_ok-found.found) (n + 1) seen) number;
      left_is = c.passed.ensures.passed;
    }
