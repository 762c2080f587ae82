-- What statements that raise events do to a draft.
use Rattle.std.specs.Prelude.{ℕ, ◌+◌, ◌*◌, Option, Some}
use Rattle.uc_tree.specs.declared.limits.TheConstants.{OPS_FOR_SIZE}
use Rattle.uc_tree.specs.Expressions.{Expr}
use Rattle.uc_tree.specs.ExpressionSizes.{expr_size}
use Rattle.uc_tree.specs.Hidden.{EVENT_FIELDS, raised_cells}
use Rattle.uc_tree.specs.Programs.{Program}
use Rattle.uc_resolve.specs.Resolve.{Scope, context_at, meant, raised_meant}
use Rattle.uc_tree.specs.Source.{EventStmt, RaiseAt}
use Rattle.uc_tree.specs.Statements.{Raised}
use Rattle.uc_tree.specs.StatementSizes.{maybe_raised_size, raised_size}
use Rattle.uc_code.specs.Drafts.{Draft}
use Rattle.uc_code.specs.Lowered.{EventAt, RaisedAt}
use Rattle.uc_lower_stmt.specs.LowersStatement.{Lowers, scope_of}

-- behind so many hidden cells more
abbrev pub hidden_past : Scope → ℕ → Scope
hidden_past s n = record s { hidden = s.hidden + n }

-- the event that a statement raises, as the newest operands
abbrev pub LowersRaised : Program → ℕ → Option Raised → Draft → Draft → Type 0
LowersRaised p line r old new =
    Lowers 0 (3 + OPS_FOR_SIZE * maybe_raised_size r) 0 0 0 (λ code. RaisedAt code line old.marks (raised_meant p (scope_of old) r)) (hidden_past (scope_of old) (raised_cells r)) old new

-- a statement that raises one
abbrev pub LowersRaise : Program → EventStmt → Option Raised → Draft → Draft → Type 0
LowersRaise p s r old new = Lowers 0 (OPS_FOR_SIZE * (1 + maybe_raised_size r)) 0 0 0 (λ code. EventAt code old.marks s) (hidden_past (scope_of old) (raised_cells r)) old new

-- one that raises one at a task or a coroutine
abbrev pub LowersRaiseAt : Program → ℕ → Raised → Expr → Draft → Draft → Type 0
LowersRaiseAt p line r target old new =
    Lowers 0 (OPS_FOR_SIZE * (1 + raised_size r + expr_size target)) 0 0 0 (λ code. EventAt code old.marks (RaiseAt line (raised_meant p (scope_of old) (Some r)) (meant (context_at p (scope_of old)) target).expr)) (hidden_past (scope_of old) EVENT_FIELDS) old new
