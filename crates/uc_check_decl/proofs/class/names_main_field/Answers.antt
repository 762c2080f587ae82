use Rattle.std.proofs.Common.{sym, ◌∙◌}
use Rattle.uc_tree.specs.Numbering.{main_name}
use Rattle.uc_check_decl.proofs.Listed.{declared_any}
use Rattle.uc_check_decl.proofs.class.names_main_field.Goals as goal

pub returns : goal.returns
returns c = c.any_named-found.ensures ∙ sym (declared_any c.args.declarators.now main_name)
