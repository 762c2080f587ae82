-- The code of routines.
use Rattle.std.specs.Prelude.{ℕ, ◌+◌, ◌*◌, Bool, true, false, ◌&&◌, ◌||◌, Option, Some, None, nat_eq, if◌then◌else◌}
use Rattle.uc_tree.specs.declared.limits.TheConstants.{OPS_FOR_SIZE}
use Rattle.uc_tree.specs.Cells.{declared_cells, routine_cells, stmts_cells}
use Rattle.uc_tree.specs.Hidden.{hidden_in_all}
use Rattle.uc_tree.specs.ProgramMain.{main_number}
use Rattle.uc_tree.specs.Programs.{Class, Sig, Routine, Program}
use Rattle.uc_resolve.specs.Resolve.{class_by, has_coroutines, has_number_in, has_tasks, is_main, plain_body, purpose_of, scope_behind, stmts_meant}
use Rattle.uc_tree.specs.Scopes.{stmts_scopes}
use Rattle.uc_tree.specs.Source.{Purpose, TaskMain, CoroutineMain, Builder}
use Rattle.uc_tree.specs.StatementSizes.{stmts_size}
use Rattle.uc_code.specs.declared.op.Op.TheVariants as op
use Rattle.uc_code.specs.declared.rows.MainOf.{MainOf}
use Rattle.uc_code.specs.declared.rows.MainOf.TheVariants as main_of
use Rattle.uc_code.specs.Drafts.{Draft}
use Rattle.uc_code.specs.Layout.{Laid}
use Rattle.uc_code.specs.CodeShapes.{Both, Nothing, One}
use Rattle.uc_code.specs.Lowered.{BodyAt}
use Rattle.uc_lower_stmt.specs.LowersStatement.{Lowers, scope_of, sizes_at}
use Rattle.uc_lower_stmt.specs.SourceRows.{body_rows}

-- the cells of a routine's frame: of its variables, and those that are hidden
abbrev pub frame_cells : Program → Routine → ℕ
frame_cells p r = routine_cells p r + hidden_in_all r.body

-- whose main a routine of this number and this class is, if it is one
abbrev pub main_in : Program → ℕ → Option Class → Sig → Option MainOf
main_in p number c s =
    if nat_eq number (main_number p) || (has_tasks p c && is_main p s) then Some main_of.Task else if has_coroutines p c && is_main p s then Some main_of.Coroutine else None

-- what such a main is
abbrev pub purpose_by : MainOf → Purpose
purpose_by main_of.Task = TaskMain
purpose_by main_of.Coroutine = CoroutineMain

-- what is done behind the statements of a routine that is no main, by whether it has no value
abbrev pub EndCode : Bool → ℕ → Laid → ℕ → ℕ → Type 0
EndCode true line code = One code op.Return 0
EndCode false line code = Both (One code op.NoReturn line) (One code op.Return 0)

-- a routine with a value owes it there, by whether it has none
abbrev pub OwedCode : Bool → ℕ → Laid → ℕ → ℕ → Type 0
OwedCode true line code = Nothing
OwedCode false line code = One code op.NoReturn line

-- the statements of a written routine, and what is done behind them; the last one that is written has this number
abbrev pub LowersRoutine : Program → Purpose → ℕ → Routine → Draft → Draft → Type 0
LowersRoutine p purpose last r old new =
    Lowers (body_rows purpose (stmts_meant p r.body (scope_of old))) (OPS_FOR_SIZE * (1 + sizes_at r.body 0)) (stmts_size r.body) (stmts_cells r.body (declared_cells p)) (stmts_scopes r.body) (λ code. BodyAt code purpose last r.brace.line (stmts_meant p r.body (scope_of old))) (scope_behind p r.body (scope_of old)) old new

-- so it is of those of a mutex member, which stand in the scope that leaves its object
abbrev pub LowersMutex : Program → ℕ → Routine → Draft → Draft → Type 0
LowersMutex p last r old new =
    Lowers (body_rows Builder (plain_body p true r (stmts_meant p r.body (scope_of old)))) (OPS_FOR_SIZE * (1 + sizes_at r.body 0)) (stmts_size r.body) (stmts_cells r.body (declared_cells p)) (stmts_scopes r.body) (λ code. BodyAt code Builder last r.brace.line (plain_body p true r (stmts_meant p r.body (scope_of old)))) (scope_behind p r.body (scope_of old)) old new

-- so it is of those of a routine of this number that is no constructor and no destructor
abbrev pub LowersPlain : Program → ℕ → ℕ → Routine → Draft → Draft → Type 0
LowersPlain p number last r old new =
    Lowers (body_rows (purpose_of p number (class_by p old.place.class) r) (plain_body p (has_number_in p (class_by p old.place.class) r.sig) r (stmts_meant p r.body (scope_of old)))) (OPS_FOR_SIZE * (1 + sizes_at r.body 0)) (stmts_size r.body) (stmts_cells r.body (declared_cells p)) (stmts_scopes r.body)
    (λ code. BodyAt code (purpose_of p number (class_by p old.place.class) r) last r.brace.line (plain_body p (has_number_in p (class_by p old.place.class) r.sig) r (stmts_meant p r.body (scope_of old)))) (scope_behind p r.body (scope_of old)) old new
