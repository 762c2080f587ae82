use Rattle.uc_mutex.proofs.entries.Entries.next.Given as goal

abbrev pub ghosts-next_by : goal.ghosts-next_by
ghosts-next_by a = record { name = a.blank.name; parts = a.blank.parts }
