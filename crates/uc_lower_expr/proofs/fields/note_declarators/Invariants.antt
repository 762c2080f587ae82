use Rattle.std.proofs.Common.{take}
use Rattle.uc_tree.specs.Objects.{declared_fields}
use Rattle.uc_lower_expr.specs.FieldTables.{Notes}
use Rattle.uc_lower_expr.proofs.fields.note_declarators.Given as goal

abbrev pub invariant-loop-declarator : goal.invariant-loop-declarator
invariant-loop-declarator l = Notes l.sizes l.held (declared_fields l.base (take l.declarator-index l.declarators)) l.initial.table l.table
