use Rattle.std.proofs.Common.{◌≡◌, ap, sym, ◌∙◌}
use Rattle.std.specs.Prelude.{not}
use Rattle.uc_acts.specs.Answers.{first_of}
use Rattle.uc_acts.specs.Queues.{ready, running, is_nobody}
use Rattle.uc_judge.specs.Scheduled.{of_number, all_running, all_ready}
use Rattle.uc_judge.proofs.Rows.{ready_on, running_on}
use Rattle.uc_judge.proofs.Service.{busy_waits, free_waits}
use Rattle.uc_judge.proofs.schedule.Schedule.waits_for.Goals as goal

pub returns-then-is_some : goal.returns-then-is_some
returns-then-is_some c j h =
    busy_waits c.first_of_number.result (running c.args.processor j) (not (is_nobody (ready c.args.cluster j))) (sym c.is_some.ensures ∙ c.if-is_some.true) (c.first_of_number.ensures ∙ ap (λ l. first_of (of_number c.from.result l)) (c.deref.ensures.value ∙ h.running) ∙ ap (λ p. first_of (of_number p (all_running j))) c.from.ensures ∙ ap first_of (sym (running_on c.args.processor j)))

pub returns : goal.returns
returns c j h =
    c.is_some-2.ensures
    ∙ free_waits c.first_of_number.result c.first_of_number-2.result (running c.args.processor j) (ready c.args.cluster j) (sym c.is_some.ensures ∙ c.if-is_some.false) (c.first_of_number.ensures ∙ ap (λ l. first_of (of_number c.from.result l)) (c.deref.ensures.value ∙ h.running) ∙ ap (λ p. first_of (of_number p (all_running j))) c.from.ensures ∙ ap first_of (sym (running_on c.args.processor j))) (c.first_of_number-2.ensures ∙ ap (λ l. first_of (of_number c.from-2.result l)) (c.deref-2.ensures.value ∙ h.ready) ∙ ap (λ p. first_of (of_number p (all_ready j))) c.from-2.ensures ∙ ap first_of (sym (ready_on c.args.cluster j)))
