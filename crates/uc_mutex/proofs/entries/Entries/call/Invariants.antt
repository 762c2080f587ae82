use Rattle.uc_mutex.proofs.entries.Entries.call.Given as goal

abbrev pub ghosts-call_by : goal.ghosts-call_by
ghosts-call_by a = record { name = a.blank.name; parts = a.blank.parts }
