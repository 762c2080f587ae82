use Rattle.std.proofs.Common.{ℕ, Option, ap, ◌∙◌}
use Rattle.std.specs.Prelude.{unwrap_or}
use Rattle.uc_tree.specs.Numbering.{main_name}
use Rattle.uc_lower_expr.proofs.routine_table.main_number_in.Goals as goal

pub returns : goal.returns
returns c = λ ds number are. c.unwrap_or.ensures ∙ ap (λ (o : Option ℕ). unwrap_or o 0) (c.find-number.ensures ∙ are.members main_name)
