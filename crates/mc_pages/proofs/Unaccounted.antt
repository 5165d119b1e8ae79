-- Memories that aren't accounted for, each for one reason.
use Rattle.std.proofs.Common.{◌≢◌, ℕ, zero, suc, refl, arith}
use Rattle.mc_pages.specs.declared.ids.Moving.{Moving}
use Rattle.mc_pages.specs.declared.ledger.Owner.TheVariants.{Class}
use Rattle.mc_pages.specs.Ledger.{owner_at}
use Rattle.mc_pages.specs.Accounted.{IsAccounted}
use Rattle.mc_pages.specs.Unaccounted.{page_of_no_class, last_page_moves, past_the_limit, grace_twice, grace_given_away, cursor_past_the_classes, unknown_mode}

-- neither of the two pages is a class's
not_owned : (page : ℕ) → owner_at grace_given_away.owners page ≢ Class 1
not_owned zero h = cc
not_owned (suc zero) h = cc
not_owned (suc (suc page)) h = cc

-- class 5 isn't one of the classes
pub no_such_class : IsAccounted page_of_no_class → ⊥
no_such_class all = omega (arith, (all.owned 5 0 refl).1)

-- the source of a move has another page
pub no_last_page : IsAccounted last_page_moves → ⊥
no_last_page all =
    let move : Moving = record { page = 0; src = 1; dst = 0; at = 0; busy = 0 } in
    omega (arith, (all.move move refl).spare)

-- one page is within the limit
pub no_second_page : IsAccounted past_the_limit → ⊥
no_second_page all = omega (arith, all.limit)

-- a class gets one page beyond it
pub no_second_grace : IsAccounted grace_twice → ⊥
no_second_grace all = omega (arith, all.grace.once 1)

-- and has a page from then on
pub no_page_left : IsAccounted grace_given_away → ⊥
no_page_left all =
    let own = all.grace.stays 1 (omega arith) in
    not_owned own.0 own.1

-- the cursor is at a class
pub no_such_cursor : IsAccounted cursor_past_the_classes → ⊥
no_such_cursor all = omega (arith, all.cursor.1)

-- there are three modes
pub no_such_mode : IsAccounted unknown_mode → ⊥
no_such_mode all = omega (arith, all.mode)
