use Rattle.std.proofs.Common.{ap, ◌∙◌}
use Rattle.std.specs.Prelude.{unwrap_or}
use Rattle.uc_acts.specs.Journal.{own_object}
use Rattle.uc_judge.specs.Tasked.{own_objects}
use Rattle.uc_judge.proofs.Owned.{first_is}
use Rattle.uc_judge.proofs.tasks.Tasks.own_object.Goals as goal

pub returns : goal.returns
unfolding own_object
returns c opts j h =
    c.value_or.ensures ∙ ap (λ x. unwrap_or x 0) (h.own c.args.task) ∙ first_is (own_objects c.args.task j)
