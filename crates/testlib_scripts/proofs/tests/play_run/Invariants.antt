use Rattle.testlib_scripts.proofs.tests.play_run.Given as goal

-- the ledger of each blank
abbrev pub ghosts-play_counting-I-Ledger : goal.ghosts-play_counting-I-Ledger
ghosts-play_counting-I-Ledger a = record { name = a.reads.name; parts = a.reads.parts }

abbrev pub ghosts-play_counting-O-Ledger : goal.ghosts-play_counting-O-Ledger
ghosts-play_counting-O-Ledger a = record { name = a.writes.name; parts = a.writes.parts }
