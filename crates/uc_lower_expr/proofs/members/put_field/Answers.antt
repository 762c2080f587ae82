use Rattle.std.proofs.Common.{sym, ◌∙◌}
use Rattle.std.specs.Prelude.{◌||◌}
use Rattle.uc_lower_expr.proofs.MembersLemmas.{arm_plain_field, arm_held_field}
use Rattle.uc_lower_expr.proofs.members.put_field.Goals as goal

pub returns-in_ok-put-2 : goal.returns-in_ok-put-2
returns-in_ok-put-2 c = arm_held_field c.args.line (c.args.field.number || c.args.field.by_ref) c.args.field.cell _ _ _ (sym c.is_held.ensures ∙ c.if-is_held.true) c.in_ok-put.ensures c.in_ok-put-2.ensures

pub returns-else-is_held : goal.returns-else-is_held
returns-else-is_held c = arm_plain_field c.args.line (c.args.field.number || c.args.field.by_ref) c.args.field.cell _ _ (sym c.is_held.ensures ∙ c.if-is_held.false) c.in_ok-put.ensures
