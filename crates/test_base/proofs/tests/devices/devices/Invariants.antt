use Rattle.test_base.proofs.tests.devices.devices.Given as goal

-- the ledger of the blank
abbrev pub ghosts-copies : goal.ghosts-copies
ghosts-copies g a = record { name = a.blank.name; parts = a.blank.parts }
