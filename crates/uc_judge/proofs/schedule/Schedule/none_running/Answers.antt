use Rattle.std.proofs.Common.{ℕ, not, ap, ◌∙◌}
use Rattle.std.specs.Prelude.{nat_lt}
use Rattle.std.specs.List.{list_any}
use Rattle.uc_judge.proofs.Below.{none_runs}
use Rattle.uc_judge.proofs.schedule.Schedule.none_running.Goals as goal

pub returns : goal.returns
returns c opts j h n =
    ap not (c.has_below.ensures ∙ ap (list_any (λ (r : ℕ × ℕ). nat_lt r.1 c.args.processors)) c.deref.ensures.value) ∙ none_runs opts j c.args.processors c.args.self.now.running.items n h.running
