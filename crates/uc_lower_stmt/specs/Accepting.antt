-- What accept statements do to a draft.
use Rattle.std.specs.Prelude.{◌≡◌, ℕ, ◌+◌, ◌*◌, ◌<◌, pos, List, [], ◌∷◌, Option, Some, None, length}
use Rattle.uc_tree.specs.declared.limits.TheConstants.{OPS_FOR_SIZE}
use Rattle.uc_tree.specs.Cells.{clauses_cells, declared_cells, maybe_cells}
use Rattle.uc_tree.specs.Expressions as tree
use Rattle.uc_tree.specs.ExpressionSizes.{expr_size}
use Rattle.uc_tree.specs.Programs.{Program}
use Rattle.uc_tree.specs.Scopes.{clauses_scopes, maybe_scopes}
use Rattle.uc_tree.specs.Sizes.{size_at}
use Rattle.uc_tree.specs.Source.{Accept, Clauses, Expr, Literal}
use Rattle.uc_tree.specs.Statements.{Accepts, Clause, MaybeStmt, Stmt, clauses_of}
use Rattle.uc_tree.specs.StatementSizes.{clauses_size, maybe_stmt_size}
use Rattle.uc_resolve.specs.Resolve.{Context, Scope, clauses_meant, context_at, else_meant, scope_past_clauses, value_in_scope, within_accept}
use Rattle.uc_code.specs.declared.op.Op.TheVariants as op
use Rattle.uc_code.specs.declared.rows.Instruction.{Instruction}
use Rattle.uc_code.specs.declared.rows.CodeMark.{CodeMark}
use Rattle.uc_code.specs.Drafts.{Draft, patched}
use Rattle.uc_code.specs.Layout.{Laid}
use Rattle.uc_code.specs.CodeShapes.{AcceptsAt, Both, Nothing, One, OpAt}
use Rattle.uc_code.specs.Lowered.{BranchesAt, ExprAt, TaskAt}
use Rattle.uc_lower_stmt.specs.Control.{maybe_at_size, maybe_past}
use Rattle.uc_lower_stmt.specs.LowersStatement.{Lowers, scope_of}
use Rattle.uc_lower_stmt.specs.Marked.{objects_in}
use Rattle.uc_lower_stmt.specs.SourceRows.{clauses_rows_under}

-- the guard and the statement of a clause

abbrev pub guard_of : Clause → Option tree.Expr
guard_of (Accepts place guard members body) = guard

abbrev pub branch_of : Clause → Stmt
branch_of (Accepts place guard members body) = body

-- guards

-- one that is not written is true
abbrev pub guard_meant : Context → Option tree.Expr → Expr
guard_meant c None = Literal (pos 1)
guard_meant c (Some e) = value_in_scope c e

abbrev pub guard_room : Option tree.Expr → ℕ
guard_room None = 1
guard_room (Some e) = OPS_FOR_SIZE * expr_size e

abbrev pub guards_room : List Clause → ℕ
guards_room [] = 0
guards_room (x ∷ xs) = guard_room (guard_of x) + guards_room xs

-- their code, from left to right
abbrev pub GuardsCode : ℕ → List CodeMark → Context → List Clause → Laid → ℕ → ℕ → Type 0
GuardsCode line ms c [] code = Nothing
GuardsCode line ms c (x ∷ xs) code = Both (ExprAt code line ms (guard_meant c (guard_of x))) (GuardsCode line ms c xs code)

-- the choice of a branch

-- so many jumps, whose places are still to come
pub record HolesAt (code : Laid) (line count a z : ℕ) : Type 0 where
  pub each : (i : ℕ) → i < count → OpAt code (a + i) (op.Jump 0) line
  pub end : z ≡ a + count

abbrev pub HolesCode : ℕ → ℕ → Laid → ℕ → ℕ → Type 0
HolesCode line count code = HolesAt code line count

-- what stands before the branches: the guards, what asks, and the choice, whose jumps have no places yet
abbrev pub ChoiceCode : ℕ → List CodeMark → Context → ℕ → List Clause → Laid → ℕ → ℕ → Type 0
ChoiceCode line ms c site xs code =
    Both (GuardsCode line ms c xs code) (Both (AcceptsAt code ms site (length xs) line) (Both (One code (op.Choose (length xs) 0) line) (HolesAt code line (length xs + 1))))

abbrev pub choice_room : List Clause → ℕ
choice_room xs = guards_room xs + length xs + 10

abbrev pub LowersChoice : Program → ℕ → List Clause → Draft → Draft → Type 0
LowersChoice p line xs old new =
    Lowers 0 (choice_room xs) 0 0 0 (ChoiceCode line old.marks (context_at p (scope_of old)) old.sites xs) (within_accept p (scope_of old)) old new

-- the branches

-- jumps one after another, from a place on, lead to these places
abbrev pub jumps_set : List Instruction → ℕ → List ℕ → List Instruction
jumps_set ops at [] = ops
jumps_set ops at (to ∷ tos) = jumps_set (patched ops at (op.Jump to)) (at + 1) tos

-- so do those of clauses, the first of which has this place, and that of no clause
abbrev pub choice_set : ℕ → ℕ → ℕ → List ℕ → Draft → Draft
choice_set else_at first otherwise places d = record d { ops = patched (jumps_set d.ops first places) else_at (op.Jump otherwise) }

abbrev pub branches_room : List Clause → ℕ → ℕ
branches_room [] k = 0
branches_room (x ∷ xs) k = 1 + OPS_FOR_SIZE * size_at (branch_of x) k + branches_room xs k

-- behind each of them all goes on where the last one ends
abbrev pub branches_meant : Program → List Clause → MaybeStmt → Scope → Clauses
branches_meant p xs other s = clauses_meant p (clauses_of xs) s (else_meant p other (scope_past_clauses p (clauses_of xs) s))

abbrev pub BranchesCode : Program → ℕ → List CodeMark → List Clause → MaybeStmt → Scope → ℕ → List ℕ → Laid → ℕ → ℕ → Type 0
BranchesCode p line ms xs other s otherwise places code a z =
    BranchesAt code ms line (branches_meant p xs other s) otherwise places z a z

abbrev pub past_branches : Program → List Clause → MaybeStmt → Scope → Scope
past_branches p xs other s = maybe_past p other (scope_past_clauses p (clauses_of xs) s)

-- a draft with the branches of clauses and of an `_Else`, to which the jumps lead that stand before them
pub record LowersBranches (p : Program) (line else_at first : ℕ) (xs : List Clause) (other : MaybeStmt) (old new : Draft) : Type 0 where
  pub otherwise : ℕ
  pub places : List ℕ
  pub count : length places ≡ length xs
  pub branches : Lowers (clauses_rows_under old.marks (branches_meant p xs other (scope_of old))) (branches_room xs (objects_in old.marks) + OPS_FOR_SIZE * maybe_at_size other (objects_in old.marks)) (clauses_size (clauses_of xs) + maybe_stmt_size other)
      (clauses_cells (clauses_of xs) (declared_cells p) + maybe_cells other (declared_cells p)) (clauses_scopes (clauses_of xs) + maybe_scopes other)
      (BranchesCode p line old.marks xs other (scope_of old) otherwise places) (past_branches p xs other (scope_of old)) (choice_set else_at first otherwise places old) new

-- an accept statement

abbrev pub accept_room : List Clause → MaybeStmt → ℕ → ℕ
accept_room xs other k = choice_room xs + (branches_room xs k + OPS_FOR_SIZE * maybe_at_size other k)

abbrev pub LowersAccept : Program → ℕ → List Clause → MaybeStmt → Draft → Draft → Type 0
LowersAccept p line xs other old new =
    Lowers (clauses_rows_under old.marks (branches_meant p xs other (within_accept p (scope_of old)))) (accept_room xs other (objects_in old.marks)) (clauses_size (clauses_of xs) + maybe_stmt_size other)
    (clauses_cells (clauses_of xs) (declared_cells p) + maybe_cells other (declared_cells p)) (clauses_scopes (clauses_of xs) + maybe_scopes other)
    (λ code. TaskAt code old.marks (Accept line old.sites (branches_meant p xs other (within_accept p (scope_of old)))))
    (past_branches p xs other (within_accept p (scope_of old))) old new
