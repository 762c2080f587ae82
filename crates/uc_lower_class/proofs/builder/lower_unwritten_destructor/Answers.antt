use Rattle.std.proofs.Common.{length, ap, sym, ◌∙◌}
use Rattle.std.proofs.lemmas.List.{length-reverse}
use Rattle.uc_lower_class.proofs.Assembling.{unwritten_left}
use Rattle.uc_lower_class.proofs.builder.lower_unwritten_destructor.Goals as goal

pub returns : goal.returns
returns c = unwritten_left c.args.names.now c.args.class (length c.marks-depth.result.now) c.args.out.now c.leave_all.new.out c.close_scopes.new.out (sym (length-reverse c.marks-depth.result.now) ∙ ap length c.marks-depth.ensures.marks) c.in_ok-leave_all.ensures c.in_ok-close_scopes.ensures
