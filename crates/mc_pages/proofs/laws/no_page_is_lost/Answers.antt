use Rattle.mc_pages.proofs.Pages.{in_one_place, moving_once, in_no_place}
use Rattle.mc_pages.proofs.laws.no_page_is_lost.Goals as goal

pub returns-clause-once : goal.returns-clause-once
returns-clause-once c = in_one_place

pub returns-clause-moving : goal.returns-clause-moving
returns-clause-moving c = moving_once

pub returns-clause-nowhere : goal.returns-clause-nowhere
returns-clause-nowhere c = in_no_place
