use Rattle.uc_kernel_core.proofs.uncounted.push_on.Given as goal

abbrev pub ghosts-push_by : goal.ghosts-push_by
ghosts-push_by a = record { name = a.blank.name; parts = a.blank.parts }
