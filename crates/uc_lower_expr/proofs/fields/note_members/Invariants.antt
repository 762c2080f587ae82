use Rattle.std.proofs.Common.{take}
use Rattle.uc_tree.specs.Objects.{fields_of}
use Rattle.uc_lower_expr.specs.FieldTables.{Notes}
use Rattle.uc_lower_expr.proofs.fields.note_members.Given as goal

abbrev pub invariant-loop-member : goal.invariant-loop-member
invariant-loop-member l = Notes l.sizes l.held (fields_of (take l.member-index l.members)) l.initial.table l.table
