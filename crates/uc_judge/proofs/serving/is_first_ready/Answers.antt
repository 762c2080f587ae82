use Rattle.std.proofs.Common.{ap, sym, ◌∙◌}
use Rattle.uc_acts.specs.Answers.{first_of}
use Rattle.uc_acts.specs.Queues.{ready}
use Rattle.uc_judge.proofs.Service.{first_some, first_none}
use Rattle.uc_judge.proofs.serving.is_first_ready.Goals as goal

pub returns-in-Some : goal.returns-in-Some
returns-in-Some c j h =
    first_some c.args.task c.in-Some.first (ready c.args.cluster j) (sym c.in-Some.is ∙ c.first_ready.ensures j h ∙ ap (λ k. first_of (ready k j)) c.from.ensures)

pub returns-in-None : goal.returns-in-None
returns-in-None c j h =
    first_none c.args.task (ready c.args.cluster j) (sym c.in-None.is ∙ c.first_ready.ensures j h ∙ ap (λ k. first_of (ready k j)) c.from.ensures)
