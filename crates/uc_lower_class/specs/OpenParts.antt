-- Parts of an object under construction that are built, while what follows them is still to come.
use Rattle.std.specs.Prelude.{◌≡◌, ℕ, ◌+◌, ◌*◌, ◌≤◌, List, [], ◌∷◌, ◌++◌, drop, length, reverse}
use Rattle.uc_tree.specs.Source.{CleanUp, Stmt, Stmts}
use Rattle.uc_code.specs.declared.rows.CodeMark.{CodeMark}
use Rattle.uc_code.specs.declared.rows.CodeMark.TheVariants as mark
use Rattle.uc_code.specs.declared.rows.Cleaning.{Cleaning}
use Rattle.uc_code.specs.Drafts.{Draft}
use Rattle.uc_code.specs.Layout.{Laid, laid_in, routine_in}
use Rattle.uc_code.specs.OpenRows.{CleansBehind}
use Rattle.uc_code.specs.CodeShapes.{Kept}
use Rattle.uc_code.specs.Lowered.{StmtAt, StmtsAt}
use Rattle.uc_code.specs.ObjectCalls.{Cleans}
use Rattle.uc_code.specs.Emits.{clean_length}
use Rattle.uc_lower_stmt.specs.OpenScopes.{Step, Does, Builds, Lays, block_of, begun_under, way_rows}
use Rattle.uc_lower_stmt.specs.LowersStatement.{scope_of}
use Rattle.uc_lower_class.specs.Fields.{field_close}
use Rattle.uc_lower_stmt.specs.RowFit.{RowsFit}
use Rattle.uc_code.specs.RowCounts.{cleaning_rows, loop_rows, return_rows}

-- steps that are laid out in no line, from these marks and this place to those marks and that place, with the clean-ups of the parts
-- among them; the newest stands first
pub data Pended (code : Laid) (ms : List CodeMark) (a : ℕ) : List Cleaning → List Step → List CodeMark → ℕ → Type 0 where
  Begins : Pended code ms a [] [] ms a
  Done : (ws : List Cleaning) (ks : List Step) (ns : List CodeMark) (y z : ℕ) (s : Stmt) → Pended code ms a ws ks ns y → StmtAt code ns s y z → Pended code ms a ws (Does s ∷ ks) ns z
  Parted : (ws : List Cleaning) (ks : List Step) (ns : List CodeMark) (z row : ℕ) (c : CleanUp) (what : Cleaning) → Pended code ms a ws ks ns z → Cleans c what → Pended code ms a (what ∷ ws) (Builds c ∷ ks) (mark.Part row ∷ ns) z

-- these parts are those of the innermost marks
pub data PartsIn : List Cleaning → List CodeMark → Type 0 where
  NoParts : (ms : List CodeMark) → PartsIn [] ms
  MoreParts : (what : Cleaning) (ws : List Cleaning) (row : ℕ) (ms : List CodeMark) → CleansBehind ms what → PartsIn ws ms → PartsIn (what ∷ ws) (mark.Part row ∷ ms)

-- the ops that end what follows these parts
abbrev pub end_room : List Cleaning → ℕ
end_room [] = 0
end_room (w ∷ ws) = clean_length w + 2 + end_room ws

-- the rows of their ends
abbrev pub parts_rows : List Cleaning → ℕ
parts_rows [] = 0
parts_rows (w ∷ ws) = cleaning_rows w + parts_rows ws

-- what builds some fields does to a draft, and to the parts of which the clean-ups are to come, the oldest of which stands first: at
-- most n ops more, those that end what follows the new parts included, by which statements are made of what follows
pub record Constructs (n : ℕ) (F : Stmts → Stmts) (ws : List Cleaning) (old : Draft) (us : List Cleaning) (new : Draft) : Type 0 where
  pub rest : new ≡ record old { ops = new.ops; rows = new.rows; settled = new.settled; marks = new.marks }
  pub kept : Kept (laid_in old) (laid_in new)
  pub room : length new.ops + end_room us ≤ length old.ops + end_room ws + n
  pub parts : PartsIn (reverse ws) old.marks → PartsIn (reverse us) new.marks
  pub inside : routine_in new.marks ≡ routine_in old.marks
  pub steps : List Step
  pub rows : RowsFit 0 (begun_under old.marks steps) old new
  pub loops : loop_rows new.marks ≡ way_rows steps (loop_rows old.marks)
  pub returns : return_rows new.marks ≡ way_rows steps (return_rows old.marks)
  pub block : (ss : Stmts) → block_of steps ss ≡ F ss
  pub code : (ms : List CodeMark) (a : ℕ) (ks : List Step) → Pended (laid_in old) ms a (reverse ws) ks old.marks (length old.ops) → Pended (laid_in new) ms a (reverse us) (steps ++ ks) new.marks (length new.ops)

-- a draft in which what follows these parts has ended, the newest of which stands first
pub record EndsParts (ws : List Cleaning) (old new : Draft) : Type 0 where
  pub rest : new ≡ record old { ops = new.ops; rows = new.rows; settled = new.settled; marks = new.marks }
  pub kept : Kept (laid_in old) (laid_in new)
  pub rows : RowsFit 0 (parts_rows ws) old new
  pub room : length new.ops ≤ length old.ops + end_room ws
  pub block : (ms : List CodeMark) (a y : ℕ) (ks : List Step) (ss : Stmts) → Pended (laid_in old) ms a ws ks old.marks y → StmtsAt (laid_in old) old.marks 0 ss y (length old.ops) → StmtsAt (laid_in new) ms 0 (block_of ks ss) a (length new.ops)
  pub marks : new.marks ≡ drop (length ws) old.marks

-- the scopes of all of them are opened, and behind that an execution is unwound
abbrev pub LeavesAll : ℕ → ℕ → (Stmts → Stmts) → Draft → Draft → Type 0
LeavesAll n d F old new = Lays n 0 0 d 0 0 F (scope_of old) old new

-- the scopes of some fields are opened, of at most so many objects
abbrev pub Opens : ℕ → (Stmts → Stmts) → Draft → Draft → Type 0
Opens n F old new = Lays (field_close * n) 0 0 n 0 0 F (scope_of old) old new
