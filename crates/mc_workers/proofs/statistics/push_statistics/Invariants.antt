use Rattle.mc_workers.proofs.statistics.push_statistics.Given as goal

-- each text counts its refusals in the ledger of its blank
abbrev pub ghosts-push_classes : goal.ghosts-push_classes
ghosts-push_classes a = record { name = a.refusals.name; parts = a.refusals.parts }

abbrev pub ghosts-push_totals : goal.ghosts-push_totals
ghosts-push_totals a = record { name = a.refusals.name; parts = a.refusals.parts }
