use Rattle.std.proofs.Common.{ap, sym, ◌∙◌}
use Rattle.uc_judge.specs.Scheduled.{all_running, of_number, only_of}
use Rattle.uc_judge.proofs.Rows.{running_on}
use Rattle.uc_judge.proofs.schedule.Schedule.only_running.Goals as goal

pub returns : goal.returns
returns c j h =
    c.only_of_number.ensures ∙ ap (λ l. only_of (of_number c.from.result l)) (c.deref.ensures.value ∙ h.running) ∙ ap (λ p. only_of (of_number p (all_running j))) c.from.ensures ∙ ap only_of (sym (running_on c.args.processor j))
