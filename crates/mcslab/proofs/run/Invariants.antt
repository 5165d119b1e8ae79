use Rattle.mcslab.proofs.run.Given as goal

-- each stream counts its failures in the ledger of its blank
abbrev pub ghosts-serve-I-Ledger : goal.ghosts-serve-I-Ledger
ghosts-serve-I-Ledger g a = record { name = a.reads.name; parts = a.reads.parts }

abbrev pub ghosts-serve-O-Ledger : goal.ghosts-serve-O-Ledger
ghosts-serve-O-Ledger g a = record { name = a.writes.name; parts = a.writes.parts }
