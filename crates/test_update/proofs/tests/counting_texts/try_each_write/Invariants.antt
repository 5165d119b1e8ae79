use Rattle.test_update.proofs.tests.counting_texts.try_each_write.Given as goal

-- the ledger of the blank
abbrev pub ghosts-written : goal.ghosts-written
ghosts-written a = record { name = a.blank.name; parts = a.blank.parts }
