use Rattle.mc_keeper.proofs.keeper.Keeper.answer.Given as goal

-- each text counts its refusals in the ledger of its blank
abbrev pub ghosts-push_totals : goal.ghosts-push_totals
ghosts-push_totals a = record { name = a.refusals.name; parts = a.refusals.parts }

abbrev pub ghosts-serve_classes : goal.ghosts-serve_classes
ghosts-serve_classes a = record { name = a.refusals.name; parts = a.refusals.parts }
