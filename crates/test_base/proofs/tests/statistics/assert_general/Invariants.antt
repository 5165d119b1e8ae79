use Rattle.test_base.proofs.tests.statistics.assert_general.Given as goal

-- the ledger of the blank
abbrev pub ghosts-general_written : goal.ghosts-general_written
ghosts-general_written g a = record { name = a.blank.name; parts = a.blank.parts }
