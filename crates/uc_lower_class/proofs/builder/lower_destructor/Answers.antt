use Rattle.std.proofs.Common.{length, ap, sym, ◌∙◌, arith}
use Rattle.std.proofs.lemmas.List.{length-reverse}
use Rattle.uc_lower_stmt.proofs.Laying.{lays_routine}
use Rattle.uc_lower_class.proofs.Assembling.{destructor_laid}
use Rattle.uc_lower_class.proofs.builder.lower_destructor.Goals as goal

pub returns : goal.returns
returns c =
    destructor_laid c.args.names.now c.args.class c.args.routine.now (length c.marks-depth.result.now) c.args.out.now c.leave_own.new.out c.lower_whole.new.out c.close_scopes.new.out c.requires.class (sym (length-reverse c.marks-depth.result.now) ∙ ap length c.marks-depth.ensures.marks) c.in_ok-leave_own.ensures c.in_ok-lower_whole.ensures c.in_ok-close_scopes.ensures

pub lower_whole-requires-clause-inside : goal.lower_whole-requires-clause-inside
lower_whole-requires-clause-inside c = let same = lays_routine c.in_ok-leave_own.ensures in let few = c.requires.written in omega (arith, same, few)
