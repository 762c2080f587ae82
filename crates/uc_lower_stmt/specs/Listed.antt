-- The first statements of a block: what they bring into scope, and what they stand for in front of what follows.
use Rattle.std.specs.Prelude.{ℕ, ◌+◌, ◌*◌, List, [], ◌∷◌}
use Rattle.uc_tree.specs.declared.limits.TheConstants.{OPS_FOR_SIZE}
use Rattle.uc_tree.specs.Statements.{Stmt, stmts_of}
use Rattle.uc_tree.specs.StatementSizes.{stmts_size}
use Rattle.uc_tree.specs.Exits.{declares}
use Rattle.uc_tree.specs.Scopes.{stmts_scopes}
use Rattle.uc_tree.specs.Cells.{declared_cells, stmts_cells}
use Rattle.uc_tree.specs.Programs.{Program}
use Rattle.uc_tree.specs.Source as source
use Rattle.uc_resolve.specs.Resolve.{Scope, stmt_meant, stmt_then, scope_after, scope_behind}
use Rattle.uc_code.specs.Drafts.{Draft}
use Rattle.uc_lower_stmt.specs.Marked.{objects_in}
use Rattle.uc_lower_stmt.specs.OpenScopes.{Lays}
use Rattle.uc_lower_stmt.specs.LowersStatement.{scope_of, sizes_at}

abbrev pub declares_all : List Stmt → ℕ
declares_all [] = 0
declares_all (x ∷ xs) = declares x + declares_all xs

abbrev pub stmts_then : Program → List Stmt → Scope → source.Stmts → source.Stmts
stmts_then p [] s rest = rest
stmts_then p (x ∷ xs) s rest = stmt_then p x s (stmt_meant p x s) (stmts_then p xs (scope_after p x s) rest)

-- these statements are laid out in a block of this line
abbrev pub LaysStmts : Program → ℕ → List Stmt → Draft → Draft → Type 0
LaysStmts p line xs old new =
    Lays (OPS_FOR_SIZE * sizes_at (stmts_of xs) (objects_in old.marks)) (stmts_size (stmts_of xs)) (stmts_cells (stmts_of xs) (declared_cells p)) (declares_all xs) (stmts_scopes (stmts_of xs)) line (stmts_then p xs (scope_of old)) (scope_behind p (stmts_of xs) (scope_of old)) old new
