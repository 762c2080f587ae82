use Rattle.std.proofs.Common.{ap, ◌∙◌}
use Rattle.std.specs.Prelude.{unwrap_or}
use Rattle.uc_acts.specs.Known.{owner}
use Rattle.uc_judge.proofs.Owned.{first_is}
use Rattle.uc_judge.proofs.tasks.Tasks.owner.Goals as goal

pub returns : goal.returns
returns c opts j h =
    c.value_or.ensures ∙ ap (λ x. unwrap_or x 0) (h.owners c.args.object) ∙ first_is (owner c.args.object j)
