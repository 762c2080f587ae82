use Rattle.std.proofs.Common.{ap, sym, ◌∙◌}
use Rattle.uc_acts.specs.Answers.{first_of}
use Rattle.uc_acts.specs.Queues.{tasks_on}
use Rattle.uc_judge.specs.Scheduled.{of_number}
use Rattle.uc_judge.proofs.Rows.{standing_on, nobody_first}
use Rattle.uc_judge.proofs.schedule.Schedule.is_empty.Goals as goal

pub returns : goal.returns
returns c j h =
    nobody_first c.is_none.result c.first_of_number.result (tasks_on c.args.cluster j) (sym c.is_none.ensures) (c.first_of_number.ensures ∙ ap (λ l. first_of (of_number c.args.cluster l)) (c.deref.ensures.value ∙ h.standing) ∙ ap first_of (sym (standing_on c.args.cluster j)))
