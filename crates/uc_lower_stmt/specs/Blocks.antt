-- The end of the scopes of objects in a block.
use Rattle.std.specs.Prelude.{◌≡◌, ℕ, ◌+◌, ◌≤◌, ◌<◌, List, [], ◌∷◌, Bool, true, false, Option, Some, None, length, nat_le}
use Rattle.uc_tree.specs.declared.kinds.Role.{Role}
use Rattle.uc_tree.specs.Programs.{Program}
use Rattle.uc_tree.specs.Source.{Stmts}
use Rattle.uc_tree.specs.Statements.{Start, NoStart, StartValue, StartArgs}
use Rattle.uc_resolve.specs.Resolve.{Context, Meant, args_meant}
use Rattle.uc_code.specs.declared.rows.Cleaning.{Cleaning}
use Rattle.uc_code.specs.declared.rows.Cleaning.TheVariants as cleaning
use Rattle.uc_code.specs.declared.rows.CodeMark.{CodeMark}
use Rattle.uc_code.specs.declared.rows.CodeMark.TheVariants as mark
use Rattle.uc_code.specs.Drafts.{Draft}
use Rattle.uc_code.specs.Layout.{laid_in, routine_in}
use Rattle.uc_code.specs.CodeShapes.{Kept}
use Rattle.uc_code.specs.Lowered.{StmtsAt}
use Rattle.uc_code.specs.RowCounts.{return_rows}
use Rattle.uc_lower_expr.specs.declared.making.Made.{Made}
use Rattle.uc_lower_expr.specs.Members.{made_routine}
use Rattle.uc_lower_stmt.specs.declared.block.ObjectScope.{ObjectScope}
use Rattle.uc_lower_stmt.specs.Marked.{taken}
use Rattle.uc_lower_stmt.specs.RowFit.{RowsFit}
use Rattle.uc_lower_stmt.specs.OpenScopes.{Step, NoParts, Pending, block_of, ended_rows}

-- what builds and destroys what is made, and nobody wrote, stands further on than the routine of these marks
pub record AllStandBehind (p : Program) (m : Made) (ms : List CodeMark) : Type 0 where
  pub each : (wanted : Role) → (made_routine p wanted m).written ≡ false → routine_in ms < (made_routine p wanted m).number

-- these statements are a block of this line, under the marks of a draft, and nothing stands behind it; there are so many rows in all
pub record BlockStands (line : ℕ) (ms : List CodeMark) (ss : Stmts) (a total : ℕ) (d : Draft) : Type 0 where
  pub marks : d.marks ≡ ms
  pub rows : length d.rows ≡ total
  pub code : StmtsAt (laid_in d) ms line ss a (length d.ops)

-- a draft in which the scopes of the objects behind the first marks, so many, have ended, and so many rows came by it: steps of a
-- block that were laid out under these marks, and statements behind them, are a block under the first ones
pub record EndsScopes (count : ℕ) (old new : Draft) : Type 0 where
  pub rest : new ≡ record old { ops = new.ops; rows = new.rows; settled = new.settled; marks = new.marks }
  pub kept : Kept (laid_in old) (laid_in new)
  pub ends : ℕ
  pub rows : RowsFit 0 ends old new
  pub room : taken new ≤ taken old
  pub block : (line a y : ℕ) (ks : List Step) (ms : List CodeMark) (ss : Stmts) → length ms ≡ count → NoParts ks → Pending (laid_in old) line ms a ks old.marks y → StmtsAt (laid_in old) old.marks line ss y (length old.ops) → BlockStands line ms (block_of ks ss) a (length old.rows + ended_rows (return_rows ms) ks) new

-- in between: steps and statements that make the same block; there are so many rows in all once the scopes of these steps have ended
pub record Unended (line : ℕ) (ms : List CodeMark) (whole : Stmts) (a total : ℕ) (d : Draft) : Type 0 where
  pub steps : List Step
  pub none : NoParts steps
  pub rows : length d.rows + ended_rows (return_rows ms) steps ≡ total
  pub behind : Stmts
  pub middle : ℕ
  pub before : Pending (laid_in d) line ms a steps d.marks middle
  pub code : StmtsAt (laid_in d) d.marks line behind middle (length d.ops)
  pub same : block_of steps behind ≡ whole

pub record EndingScopes (count : ℕ) (old now : Draft) : Type 0 where
  pub rest : now ≡ record old { ops = now.ops; rows = now.rows; settled = now.settled; marks = now.marks }
  pub kept : Kept (laid_in old) (laid_in now)
  pub ends : ℕ
  pub rows : RowsFit 0 ends old now
  pub room : taken now ≤ taken old
  pub block : (line a y : ℕ) (ks : List Step) (ms : List CodeMark) (ss : Stmts) → length ms ≡ count → NoParts ks → Pending (laid_in old) line ms a ks old.marks y → StmtsAt (laid_in old) old.marks line ss y (length old.ops) → Unended line ms (block_of ks ss) a (length old.rows + ended_rows (return_rows ms) ks) now

-- the arguments with which an object starts
abbrev pub started_args : Context → Start → List Meant
started_args c NoStart = []
started_args c (StartValue e) = []
started_args c (StartArgs es) = args_meant c es

-- the scope of the innermost mark, where more marks stand than so many; that of a mutex call ends with its routine

abbrev pub scope_by : Cleaning → ℕ → Option ObjectScope
scope_by (cleaning.Call what) line = Some (record { what = cleaning.Call what; line = line })
scope_by cleaning.TakeDown line = Some (record { what = cleaning.TakeDown; line = line })
scope_by cleaning.Forget line = Some (record { what = cleaning.Forget; line = line })
scope_by cleaning.Leave line = None
scope_by cleaning.End line = Some (record { what = cleaning.End; line = line })
scope_by (cleaning.Free main) line = Some (record { what = cleaning.Free main; line = line })
scope_by (cleaning.Restore cell) line = Some (record { what = cleaning.Restore cell; line = line })

abbrev pub scope_at : CodeMark → Option ObjectScope
scope_at (mark.Clean what line row) = scope_by what line
scope_at (mark.Body routine) = None
scope_at (mark.Finish main routine line row) = None
scope_at (mark.Loop leave again) = None
scope_at (mark.Whole leave row) = None
scope_at (mark.Guard row) = None
scope_at (mark.Part row) = None
scope_at (mark.Elements row) = None
scope_at (mark.Outward below row) = None

abbrev pub innermost_by : Bool → List CodeMark → Option ObjectScope
innermost_by true ms = None
innermost_by false [] = None
innermost_by false (m ∷ ms) = scope_at m

abbrev pub innermost_in : List CodeMark → ℕ → Option ObjectScope
innermost_in ms count = innermost_by (nat_le (length ms) count) ms
