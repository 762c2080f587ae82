use Rattle.uc_types.proofs.Gathered.{all_noted}
use Rattle.uc_types.proofs.sets.names_of_params.Goals as goal

pub returns : goal.returns
returns c x = all_noted (λ y. y.name) c.args.params.now c.loop-param.param-index x _ c.loop-param-test.false (c.loop-param.invariant.1 x)
