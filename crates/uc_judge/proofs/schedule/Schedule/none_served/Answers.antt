use Rattle.std.proofs.Common.{ℕ, List, ap, ◌∙◌}
use Rattle.std.specs.List.{list_all}
use Rattle.uc_acts.specs.Queues.{is_nobody}
use Rattle.uc_judge.specs.Scheduled.{of_number}
use Rattle.uc_judge.proofs.Below.{none_is_served}
use Rattle.uc_judge.proofs.schedule.Schedule.none_served.Goals as goal

pub returns : goal.returns
returns c opts j h p =
    c.none_on.ensures ∙ ap (λ (l : List (ℕ × ℕ)). list_all (λ (x : ℕ × ℕ). is_nobody (of_number x.1 l)) c.args.processors.now) c.deref.ensures.value ∙ none_is_served opts j c.args.self.now.ready.items c.args.processors.now p h.ready
