use Rattle.worked_calls.proofs.threads.day.Given as goal

abbrev pub ghosts-day_at : goal.ghosts-day_at
ghosts-day_at g a = record { table = a.table }
