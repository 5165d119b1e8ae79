use Rattle.test_base.proofs.tests.streams.writes_until_a_failure.Given as goal

-- the ledger of the blank
abbrev pub ghosts-written : goal.ghosts-written
ghosts-written g a = record { name = a.blank.name; parts = a.blank.parts }
