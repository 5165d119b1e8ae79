use Rattle.std.proofs.Common.{refl}
use Rattle.std.specs.Fmt.{digits}
use Rattle.mc_serial_laws.proofs.laws.worked_examples.Goals as goal

pub returns-clause-first_path : goal.returns-clause-first_path
unfolding digits
returns-clause-first_path c = refl

pub returns-clause-dead_makes_room : goal.returns-clause-dead_makes_room
unfolding digits
returns-clause-dead_makes_room c = refl

pub returns-clause-full_class_evicts : goal.returns-clause-full_class_evicts
unfolding digits
returns-clause-full_class_evicts c = refl

pub returns-clause-first_page_alone : goal.returns-clause-first_page_alone
unfolding digits
returns-clause-first_page_alone c = refl

pub returns-clause-page_to_another_class : goal.returns-clause-page_to_another_class
unfolding digits
returns-clause-page_to_another_class c = refl

pub returns-clause-rescue_into_dead : goal.returns-clause-rescue_into_dead
unfolding digits
returns-clause-rescue_into_dead c = refl

pub returns-clause-busy_item : goal.returns-clause-busy_item
unfolding digits
returns-clause-busy_item c = refl

pub returns-clause-answers_of_reassign : goal.returns-clause-answers_of_reassign
unfolding digits
returns-clause-answers_of_reassign c = refl

pub returns-clause-page_through_the_pool : goal.returns-clause-page_through_the_pool
unfolding digits
returns-clause-page_through_the_pool c = refl

pub returns-clause-two_moves_by_the_pick : goal.returns-clause-two_moves_by_the_pick
unfolding digits
returns-clause-two_moves_by_the_pick c = refl

pub returns-clause-touched_is_kept : goal.returns-clause-touched_is_kept
unfolding digits
returns-clause-touched_is_kept c = refl

pub returns-clause-held_is_kept : goal.returns-clause-held_is_kept
unfolding digits
returns-clause-held_is_kept c = refl

pub returns-clause-too_many_held : goal.returns-clause-too_many_held
unfolding digits
returns-clause-too_many_held c = refl

pub returns-clause-shadowed_hold : goal.returns-clause-shadowed_hold
unfolding digits
returns-clause-shadowed_hold c = refl

pub returns-clause-one_chunk_a_turn : goal.returns-clause-one_chunk_a_turn
unfolding digits
returns-clause-one_chunk_a_turn c = refl

pub returns-clause-eviction_asks_for_a_page : goal.returns-clause-eviction_asks_for_a_page
unfolding digits
returns-clause-eviction_asks_for_a_page c = refl

pub returns-clause-page_to_spare : goal.returns-clause-page_to_spare
unfolding digits
returns-clause-page_to_spare c = refl

pub returns-clause-page_to_the_leader : goal.returns-clause-page_to_the_leader
unfolding digits
returns-clause-page_to_the_leader c = refl

pub returns-clause-pops_before_it_sweeps : goal.returns-clause-pops_before_it_sweeps
unfolding digits
returns-clause-pops_before_it_sweeps c = refl

pub returns-clause-touched_dead_is_last : goal.returns-clause-touched_dead_is_last
unfolding digits
returns-clause-touched_dead_is_last c = refl

pub returns-clause-unlinked_is_a_candidate : goal.returns-clause-unlinked_is_a_candidate
unfolding digits
returns-clause-unlinked_is_a_candidate c = refl

pub returns-clause-victim_on_the_moving_page : goal.returns-clause-victim_on_the_moving_page
unfolding digits
returns-clause-victim_on_the_moving_page c = refl

pub returns-clause-rescue_looks_behind_the_head : goal.returns-clause-rescue_looks_behind_the_head
unfolding digits
returns-clause-rescue_looks_behind_the_head c = refl

pub returns-clause-moving_page_counts_for_quiet : goal.returns-clause-moving_page_counts_for_quiet
unfolding digits
returns-clause-moving_page_counts_for_quiet c = refl

pub returns-clause-own_old_item_counts : goal.returns-clause-own_old_item_counts
unfolding digits
returns-clause-own_old_item_counts c = refl

pub returns-clause-set_sweeps_its_own_class : goal.returns-clause-set_sweeps_its_own_class
unfolding digits
returns-clause-set_sweeps_its_own_class c = refl

pub returns-clause-eviction_rule_is_first : goal.returns-clause-eviction_rule_is_first
unfolding digits
returns-clause-eviction_rule_is_first c = refl

pub returns-clause-mover_evictions_are_apart : goal.returns-clause-mover_evictions_are_apart
unfolding digits
returns-clause-mover_evictions_are_apart c = refl

pub returns-clause-words_from_answers : goal.returns-clause-words_from_answers
unfolding digits
returns-clause-words_from_answers c = (refl, refl, refl, refl)

pub returns-clause-seen_from_answers : goal.returns-clause-seen_from_answers
unfolding digits
returns-clause-seen_from_answers c = (refl, refl, refl, refl, refl, refl, refl, refl, refl, refl)
