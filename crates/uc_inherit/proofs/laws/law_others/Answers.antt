use Rattle.uc_inherit.proofs.Picked.{left_as_it_is, no_bases, no_virtuals}
use Rattle.uc_inherit.proofs.laws.law_others.Goals as goal

pub returns : goal.returns
returns c = λ ts plain headless. (left_as_it_is ts plain headless, no_bases ts plain headless, no_virtuals ts plain headless)
