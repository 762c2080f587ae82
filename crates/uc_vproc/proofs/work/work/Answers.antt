use Rattle.uc_vproc.proofs.work.work.Goals as goal

pub turn-requires-clause-came : goal.turn-requires-clause-came
turn-requires-clause-came g c = c.loop.invariant.came c.in-Going.given c.in-Going.is
