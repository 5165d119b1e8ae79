use Rattle.mc_replay.proofs.start.Given as goal

-- each stream counts its failures in the ledger of its blank
abbrev pub ghosts-serve-I-Ledger : goal.ghosts-serve-I-Ledger
ghosts-serve-I-Ledger a = record { name = a.reads.name; parts = a.reads.parts }

abbrev pub ghosts-serve-O-Ledger : goal.ghosts-serve-O-Ledger
ghosts-serve-O-Ledger a = record { name = a.writes.name; parts = a.writes.parts }
