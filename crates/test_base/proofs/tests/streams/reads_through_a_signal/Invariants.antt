use Rattle.test_base.proofs.tests.streams.reads_through_a_signal.Given as goal

-- the ledger of the blank
abbrev pub ghosts-reads : goal.ghosts-reads
ghosts-reads g a = record { name = a.blank.name; parts = a.blank.parts }
