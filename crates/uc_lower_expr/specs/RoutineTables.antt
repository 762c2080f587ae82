-- What noting a routine does to the tables of the routines of classes.
use Rattle.std.specs.Prelude.{◌≡◌, ℕ, List, Option, Some, None, slice_get, slice_set, unwrap_or, if◌then◌else◌}
use Rattle.uc_names.specs.Blocks.{Block, declared, is_declared}
use Rattle.uc_tree.specs.declared.kinds.Role.{Role}
use Rattle.uc_tree.specs.declared.kinds.Role.TheVariants as role
use Rattle.uc_tree.specs.Programs.{Routine}
use Rattle.uc_lower_expr.specs.declared.routine_table.RoutineTable.{RoutineTable}

-- a name is declared once
abbrev pub noted_name : List Block → List ℕ → ℕ → List Block
noted_name bs name number = if is_declared bs name then bs else declared bs name number

-- a table with one routine of its class more, by its role
abbrev pub routed : Role → List ℕ → ℕ → RoutineTable → RoutineTable
routed role.Plain name number t = record t { members = noted_name t.members name number }
routed role.Constructor name number t = record t { built_by = Some (unwrap_or t.built_by number) }
routed role.Destructor name number t = record t { destroyed_by = Some (unwrap_or t.destroyed_by number) }

abbrev pub Routes : Routine → ℕ → RoutineTable → RoutineTable → Type 0
Routes r number old new = new ≡ routed r.sig.role r.sig.name number old

-- tables with one routine more, of the class of this number
abbrev pub noted_in : Option RoutineTable → ℕ → Routine → ℕ → List RoutineTable → List RoutineTable
noted_in None owner r number ts = ts
noted_in (Some t) owner r number ts = slice_set ts owner (routed r.sig.role r.sig.name number t)

abbrev pub NoteOne : ℕ → Routine → ℕ → List RoutineTable → List RoutineTable → Type 0
NoteOne owner r number old new = new ≡ noted_in (slice_get old owner) owner r number old
