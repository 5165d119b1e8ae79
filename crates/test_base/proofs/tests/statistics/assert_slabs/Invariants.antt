use Rattle.test_base.proofs.tests.statistics.assert_slabs.Given as goal

-- the ledger of the blank
abbrev pub ghosts-slabs_written : goal.ghosts-slabs_written
ghosts-slabs_written g a = record { name = a.blank.name; parts = a.blank.parts }
