use Rattle.test_runs.proofs.tests.mended.run.Given as goal

-- each stream counts its failures in the ledger of its blank
abbrev pub ghosts-run_counting-I-Ledger : goal.ghosts-run_counting-I-Ledger
ghosts-run_counting-I-Ledger g a = record { name = a.reads.name; parts = a.reads.parts }

abbrev pub ghosts-run_counting-O-Ledger : goal.ghosts-run_counting-O-Ledger
ghosts-run_counting-O-Ledger g a = record { name = a.writes.name; parts = a.writes.parts }
