use Rattle.std.proofs.Common.{◌≤◌, ◌++◌, length, ap, ◌∙◌, arith}
use Rattle.std.specs.Prelude.{decimal}
use Rattle.uc_explain.proofs.LineLemmas.{parted_whole}
use Rattle.uc_explain.proofs.text.put_tasks.Goals as goal

pub returns-after-loop-task : goal.returns-after-loop-task
returns-after-loop-task c =
    let le : length c.in-Some.rest.now ≤ c.loop-task.task-index = omega arith in
    parted_whole decimal c.in-Some.first.now c.in-Some.rest.now c.args.tasks.now c.loop-task.task-index c.args.text.now.items _ c.loop-task.text.items c.in-Some.ensures.cases.0 le (c.in_ok-put_number-in-Some.ensures ∙ ap (λ n. c.args.text.now.items ++ decimal n) c.from.ensures) c.loop-task.invariant
