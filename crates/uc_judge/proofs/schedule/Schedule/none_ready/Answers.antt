use Rattle.std.proofs.Common.{ℕ, not, ap, ◌∙◌}
use Rattle.std.specs.Prelude.{nat_lt}
use Rattle.std.specs.List.{list_any}
use Rattle.uc_judge.proofs.Below.{none_waits}
use Rattle.uc_judge.proofs.schedule.Schedule.none_ready.Goals as goal

pub returns : goal.returns
returns c j h n =
    ap not (c.has_below.ensures ∙ ap (list_any (λ (r : ℕ × ℕ). nat_lt r.1 c.args.clusters)) c.deref.ensures.value) ∙ none_waits j c.args.clusters c.args.self.now.ready.items n h.ready
