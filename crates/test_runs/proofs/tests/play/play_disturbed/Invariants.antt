use Rattle.test_runs.proofs.tests.play.play_disturbed.Given as goal

-- each stream counts its failures in the ledger of its blank
abbrev pub ghosts-play_counting-I-Ledger : goal.ghosts-play_counting-I-Ledger
ghosts-play_counting-I-Ledger g a = record { name = a.reads.name; parts = a.reads.parts }

abbrev pub ghosts-play_counting-O-Ledger : goal.ghosts-play_counting-O-Ledger
ghosts-play_counting-O-Ledger g a = record { name = a.writes.name; parts = a.writes.parts }
