use Rattle.uc_types.proofs.Gathered.{all_noted}
use Rattle.uc_types.proofs.sets.names_of_inits.Goals as goal

pub returns : goal.returns
returns c x = all_noted (λ y. y.name) c.args.inits.now c.loop-init.init-index x _ c.loop-init-test.false (c.loop-init.invariant.1 x)
