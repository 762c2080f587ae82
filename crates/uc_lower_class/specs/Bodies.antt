-- The bodies of constructors and destructors, and their routines.
use Rattle.std.specs.Prelude.{◌≡◌, ℕ, ◌+◌, ◌*◌, [], Bool, Option, Some, None, false, if◌then◌else◌}
use Rattle.uc_tree.specs.declared.limits.TheConstants.{OPS_FOR_SIZE}
use Rattle.uc_tree.specs.declared.kinds.Role.{Role}
use Rattle.uc_tree.specs.declared.kinds.Role.TheVariants as role
use Rattle.uc_tree.specs.StatementSizes.{stmts_size}
use Rattle.uc_tree.specs.Cells.{declared_cells, stmts_cells}
use Rattle.uc_tree.specs.Scopes.{stmts_scopes}
use Rattle.uc_tree.specs.Programs.{Class, Program, Routine}
use Rattle.uc_tree.specs.Numbering.{is_event, is_plain}
use Rattle.uc_tree.specs.Objects.{Unwritten, class_at, is_task, written_at, unwritten_number}
use Rattle.uc_tree.specs.Source.{Stmts, Then, Whole}
use Rattle.uc_resolve.specs.Resolve.{Scope, body_by, class_by, construction_ends, freed, main_at, nowhere, place_or_zero, scope_behind, stmts_meant, unwritten_body}
use Rattle.uc_code.specs.Drafts.{Draft}
use Rattle.uc_code.specs.Lowered.{StmtAt, StmtsAt}
use Rattle.uc_code.specs.OpenRows.{clean_room}
use Rattle.uc_lower_expr.specs.Meanings.{is_mutex_at}
use Rattle.uc_lower_stmt.specs.LowersStatement.{Lowers, scope_of, sizes_at}
use Rattle.uc_lower_class.specs.Fields.{all_built, all_left, all_room, left_room, live_room}
use Rattle.uc_lower_stmt.specs.SourceRows.{stmt_rows_under, stmts_rows_under}

-- a body, and the block that it is

abbrev pub whole_room : Routine → ℕ
whole_room r = 4 + OPS_FOR_SIZE * sizes_at r.body 0

abbrev pub LowersWhole : Program → Routine → Draft → Draft → Type 0
LowersWhole p r old new =
    Lowers (stmt_rows_under old.marks (Whole r.brace.line (stmts_meant p r.body (scope_of old)))) (whole_room r) (stmts_size r.body) (stmts_cells r.body (declared_cells p)) (stmts_scopes r.body) (λ code. StmtAt code old.marks (Whole r.brace.line (stmts_meant p r.body (scope_of old)))) (scope_behind p r.body (scope_of old)) old new

-- the fields of the class with a place, where there is one

abbrev pub built_at : Program → Option ℕ → Routine → Scope → Stmts → Stmts
built_at p None r s rest = rest
built_at p (Some i) r s rest = all_built p i r.inits s (class_at p i) rest

abbrev pub left_at : Program → Option ℕ → Stmts → Stmts
left_at p None rest = rest
left_at p (Some i) rest = all_left p i (class_at p i) rest

-- what a mutex object that is built stands in, round all else
abbrev pub freed_in : Program → ℕ → Option Class → Stmts → Stmts
freed_in p i None rest = rest
freed_in p i (Some c) rest = freed p c.kind i rest

abbrev pub freed_at : Program → Option ℕ → Stmts → Stmts
freed_at p None rest = rest
freed_at p (Some i) rest = freed_in p i (class_at p i) rest

abbrev pub mutex_by : Program → Option ℕ → Bool
mutex_by p None = false
mutex_by p (Some i) = is_mutex_at p i

-- what it begins with then: a task with its main
abbrev pub freed_main : Program → ℕ → Option Class → Option ℕ
freed_main p i None = None
freed_main p i (Some c) = if is_task c.kind then Some (main_at p i) else None

-- how many ops they take at most: those that build them (`left_room` of Fields: those that destroy them)

abbrev pub built_room : Program → Option ℕ → Routine → ℕ
built_room p place r = all_room r.inits (class_by p place)

-- what the end of a part may take at most beyond the least that it takes; the end of the scope of a mutex object takes no more
abbrev pub part_end : ℕ
part_end = clean_room + 3

abbrev pub raise_room : Program → Option ℕ → Routine → ℕ
raise_room p place r = built_room p place r + whole_room r + live_room (class_by p place)

abbrev pub role_room : Program → Role → Option ℕ → Routine → ℕ
role_room p role.Plain place r = 0
role_room p role.Constructor place r = raise_room p place r + part_end
role_room p role.Destructor place r = left_room (class_by p place) + whole_room r

-- the code of a written routine of the class with this place, its return included
abbrev pub builder_room : Program → Routine → Option ℕ → ℕ
builder_room p r place = role_room p r.sig.role place r + 1

abbrev pub LowersBody : Program → Role → Routine → Draft → Draft → Type 0
LowersBody p wanted r old new =
    Lowers (stmts_rows_under old.marks (body_by p wanted r (scope_of old))) (role_room p wanted old.place.class r) (stmts_size r.body) (stmts_cells r.body (declared_cells p)) (stmts_scopes r.body) (λ code. StmtsAt code old.marks 0 (body_by p wanted r (scope_of old))) (scope_behind p r.body (scope_of old)) old new

-- the same of a constructor, but for the scope of a mutex object

abbrev pub raised_body : Program → Option ℕ → Routine → Scope → Stmts
raised_body p place r s = built_at p place r s (Then (Whole r.brace.line (stmts_meant p r.body s)) (construction_ends p (class_by p place) (place_or_zero p place)))

abbrev pub LowersRaised : Program → Option ℕ → Routine → Draft → Draft → Type 0
LowersRaised p place r old new =
    Lowers (stmts_rows_under old.marks (raised_body p place r (scope_of old))) (raise_room p place r) (stmts_size r.body) (stmts_cells r.body (declared_cells p)) (stmts_scopes r.body) (λ code. StmtsAt code old.marks 0 (raised_body p place r (scope_of old))) (scope_behind p r.body (scope_of old)) old new

-- one that nobody wrote: its place among the routines, its code
pub record IsUnwritten (p : Program) (u : Unwritten) (number : ℕ) : Type 0 where
  pub class : Class
  pub there : class_at p u.class ≡ Some class
  pub object : is_event class.kind ≡ false
  pub builds : is_plain u.role ≡ false
  pub none : written_at p u.class u.role ≡ None
  pub number_is : number ≡ unwritten_number p u.class u.role

abbrev pub unwritten_raise : Option Class → ℕ
unwritten_raise c = all_room [] c + live_room c

abbrev pub unwritten_room : Role → Option Class → ℕ
unwritten_room role.Plain c = 0
unwritten_room role.Constructor c = unwritten_raise c + part_end
unwritten_room role.Destructor c = left_room c

abbrev pub LowersUnwritten : Program → Role → ℕ → Draft → Draft → Type 0
LowersUnwritten p wanted i old new = Lowers (stmts_rows_under old.marks (unwritten_body p wanted i)) (unwritten_room wanted (class_at p i)) 0 0 0 (λ code. StmtsAt code old.marks 0 (unwritten_body p wanted i)) (scope_of old) old new

abbrev pub LowersBare : Program → ℕ → Draft → Draft → Type 0
LowersBare p i old new = Lowers (stmts_rows_under old.marks (all_built p i [] (nowhere p) (class_at p i) (construction_ends p (class_at p i) i))) (unwritten_raise (class_at p i)) 0 0 0 (λ code. StmtsAt code old.marks 0 (all_built p i [] (nowhere p) (class_at p i) (construction_ends p (class_at p i) i))) (scope_of old) old new
