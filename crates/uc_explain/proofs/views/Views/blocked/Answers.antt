use Rattle.std.proofs.Common.{ap, ◌∙◌}
use Rattle.std.specs.Prelude.{unwrap_or}
use Rattle.uc_acts.specs.Doors.{blocked_at}
use Rattle.uc_explain.specs.Shown.{Shown}
use Rattle.uc_explain.specs.Steps.{nothing}
use Rattle.uc_explain.proofs.ViewLemmas.{none_of}
use Rattle.uc_explain.proofs.views.Views.blocked.Goals as goal

pub returns-in-None : goal.returns-in-None
returns-in-None c j h = none_of c.args.cond (blocked_at c.args.object j) (ap (λ s. (unwrap_or s nothing).blocked) c.in-None.ensures.value ∙ ap (λ (s : Shown). s.blocked) (h c.args.object))
