use Rattle.std.proofs.Common.{ap, sym, ◌∙◌}
use Rattle.uc_acts.specs.Answers.{first_of}
use Rattle.uc_judge.specs.Scheduled.{of_number}
use Rattle.uc_judge.proofs.Rows.{ready_on}
use Rattle.uc_judge.proofs.schedule.Schedule.first_ready.Goals as goal

pub returns : goal.returns
returns c j h =
    c.first_of_number.ensures ∙ ap (λ l. first_of (of_number c.args.cluster l)) (c.deref.ensures.value ∙ h.ready) ∙ ap first_of (sym (ready_on c.args.cluster j))
