use Rattle.std.proofs.Common.{Bool, ap, sym, ◌∙◌}
use Rattle.std.specs.Prelude.{◌&&◌, ◌||◌}
use Rattle.uc_resolve.specs.Resolve.{class_by, has_tasks, is_main}
use Rattle.uc_lower.proofs.Mained.{mains_else, mains_first, mains_none}
use Rattle.uc_lower.proofs.routines.main_in.Goals as goal

pub returns-then-is_task_main : goal.returns-then-is_task_main
returns-then-is_task_main c = λ number e. mains_first _ _ (ap (λ (b : Bool). b || (has_tasks c.args.names.now (class_by c.args.names.now c.args.class) && is_main c.args.names.now c.args.sig.now)) (sym e) ∙ sym c.is_task_main.ensures ∙ c.if-is_task_main.true)

pub returns-then-is_coroutine_main : goal.returns-then-is_coroutine_main
returns-then-is_coroutine_main c = λ number e.
    let none = ap (λ (b : Bool). b || (has_tasks c.args.names.now (class_by c.args.names.now c.args.class) && is_main c.args.names.now c.args.sig.now)) (sym e) ∙ sym c.is_task_main.ensures ∙ c.if-is_task_main.false in
    mains_else _ _ none (sym c.is_coroutine_main.ensures ∙ c.if-is_coroutine_main.true)

pub returns : goal.returns
returns c = λ number e.
    let none = ap (λ (b : Bool). b || (has_tasks c.args.names.now (class_by c.args.names.now c.args.class) && is_main c.args.names.now c.args.sig.now)) (sym e) ∙ sym c.is_task_main.ensures ∙ c.if-is_task_main.false in
    mains_none _ _ none (sym c.is_coroutine_main.ensures ∙ c.if-is_coroutine_main.false)
