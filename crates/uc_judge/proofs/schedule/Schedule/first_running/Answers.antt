use Rattle.std.proofs.Common.{ap, sym, ◌∙◌}
use Rattle.uc_acts.specs.Answers.{first_of}
use Rattle.uc_judge.specs.Scheduled.{of_number, all_running}
use Rattle.uc_judge.proofs.Rows.{running_on}
use Rattle.uc_judge.proofs.schedule.Schedule.first_running.Goals as goal

pub returns : goal.returns
returns c j h =
    c.first_of_number.ensures ∙ ap (λ l. first_of (of_number c.from.result l)) (c.deref.ensures.value ∙ h.running) ∙ ap (λ p. first_of (of_number p (all_running j))) c.from.ensures ∙ ap first_of (sym (running_on c.args.processor j))
