use Rattle.uc_kernel_core.proofs.uncounted.accept_at.Given as goal

abbrev pub ghosts-accept_by : goal.ghosts-accept_by
ghosts-accept_by a = record { name = a.blank.name; parts = a.blank.parts }
