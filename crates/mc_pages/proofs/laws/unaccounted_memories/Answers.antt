use Rattle.std.proofs.Common.{arith}
use Rattle.mc_pages.specs.Unaccounted.{one_page}
use Rattle.mc_pages.proofs.Fresh.{IsAccounted-fresh}
use Rattle.mc_pages.proofs.Unaccounted.{no_such_class, no_last_page, no_second_page, no_second_grace, no_page_left, no_such_cursor, no_such_mode}
use Rattle.mc_pages.proofs.laws.unaccounted_memories.Goals as goal

pub returns-clause-nothing_granted : goal.returns-clause-nothing_granted
returns-clause-nothing_granted c = IsAccounted-fresh one_page (omega arith)

pub returns-clause-page_of_no_class : goal.returns-clause-page_of_no_class
returns-clause-page_of_no_class c = no_such_class

pub returns-clause-last_page_moves : goal.returns-clause-last_page_moves
returns-clause-last_page_moves c = no_last_page

pub returns-clause-past_the_limit : goal.returns-clause-past_the_limit
returns-clause-past_the_limit c = no_second_page

pub returns-clause-grace_twice : goal.returns-clause-grace_twice
returns-clause-grace_twice c = no_second_grace

pub returns-clause-grace_given_away : goal.returns-clause-grace_given_away
returns-clause-grace_given_away c = no_page_left

pub returns-clause-cursor_past_the_classes : goal.returns-clause-cursor_past_the_classes
returns-clause-cursor_past_the_classes c = no_such_cursor

pub returns-clause-unknown_mode : goal.returns-clause-unknown_mode
returns-clause-unknown_mode c = no_such_mode
