use Rattle.std.proofs.Common.{refl, sym, ◌∙◌}
use Rattle.std.proofs.lemmas.Bool.{eq-eqb, ne_eqb}
use Rattle.uc_kernel.specs.AtRest.{own}
use Rattle.uc_kernel.proofs.Places.{get_any, let_another}
use Rattle.uc_kernel.proofs.rests.follow_admission.Goals as goal

pub returns-then-e-task-clause-moved : goal.returns-then-e-task-clause-moved
returns-then-e-task-clause-moved g c =
    own c.in-Some.members (get_any _ _ _ _ c.requires.object ∙ sym c.index_mut.ensures.value ∙ sym c.take-lifted.ensures.value ∙ c.in-Some.is) (eq-eqb _ _ c.if-e-task.true) c.push.ensures.items refl

pub returns-else-e-task-clause-moved : goal.returns-else-e-task-clause-moved
returns-else-e-task-clause-moved g c =
    let n = ne_eqb c.args.e.now.task c.args.task c.if-e-task.false in
    let_another c.args.e.now c.args.task c.args.hand.now c.args.tasks.now.items c.give.new.tasks.items c.args.loose.now.items c.in-Some.members (get_any _ _ _ _ c.requires.object ∙ sym c.index_mut.ensures.value ∙ sym c.take-lifted.ensures.value ∙ c.in-Some.is) n (c.requires.there n) c.give.ensures
