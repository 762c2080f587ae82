-- Statements of a block that are laid out, where objects that they declare are still in scope: their clean-ups are to come.
use Rattle.std.specs.Prelude.{◌≡◌, ℕ, suc, ◌+◌, ◌≤◌, List, [], ◌∷◌, length}
use Rattle.uc_tree.specs.Source.{CleanUp, Destroys, DestroysAll, Unwinds, Forgets, Leaves, Ends, Frees, Restores, Stmt, Stmts, Then, Scoped, Built}
use Rattle.uc_resolve.specs.Resolve.{Scope}
use Rattle.uc_code.specs.declared.rows.CodeMark.{CodeMark}
use Rattle.uc_code.specs.declared.rows.CodeMark.TheVariants as mark
use Rattle.uc_code.specs.declared.rows.Cleaning.{Cleaning}
use Rattle.uc_code.specs.Drafts.{Draft}
use Rattle.uc_code.specs.Layout.{Laid, laid_in}
use Rattle.uc_code.specs.CodeShapes.{Kept}
use Rattle.uc_code.specs.Lowered.{StmtAt}
use Rattle.uc_code.specs.ObjectCalls.{Cleans}
use Rattle.uc_code.specs.RowCounts.{loop_rows, return_rows}
use Rattle.uc_lower_stmt.specs.Marked.{objects_in, taken}
use Rattle.uc_lower_stmt.specs.LowersStatement.{scope_of}
use Rattle.uc_lower_stmt.specs.RowFit.{RowsFit}
use Rattle.uc_lower_stmt.specs.SourceRows.{clean_rows, pad_rows, past_rows, stmt_rows}

-- what stands in a block, one after another: a statement, the begin of the scope of an object, or that of what follows a part of an
-- object under construction
pub data Step : Type 0 where
  Does : Stmt → Step
  Opens : CleanUp → Step
  Builds : CleanUp → Step

-- the statements of a block that begins with these steps, the newest of which stands first, and goes on so
abbrev pub block_of : List Step → Stmts → Stmts
block_of [] ss = ss
block_of (Does s ∷ ks) ss = block_of ks (Then s ss)
block_of (Opens c ∷ ks) ss = block_of ks (Scoped c ss)
block_of (Builds c ∷ ks) ss = block_of ks (Built c ss)

-- how many rows a way out has behind these steps, by how many it has in front of them
abbrev pub way_rows : List Step → ℕ → ℕ
way_rows [] way = way
way_rows (Does s ∷ ks) way = way_rows ks way
way_rows (Opens c ∷ ks) way = past_rows c (way_rows ks way)
way_rows (Builds c ∷ ks) way = way_rows ks way

-- how many rows they have as far as they are laid out, and how many come at their end: those of the ends of their scopes and parts

abbrev pub begun_rows : ℕ → ℕ → List Step → ℕ
begun_rows loop out [] = 0
begun_rows loop out (Does s ∷ ks) = begun_rows loop out ks + stmt_rows (way_rows ks loop) (way_rows ks out) s
begun_rows loop out (Opens c ∷ ks) = suc (begun_rows loop out ks)
begun_rows loop out (Builds c ∷ ks) = suc (begun_rows loop out ks)

abbrev pub ended_rows : ℕ → List Step → ℕ
ended_rows out [] = 0
ended_rows out (Does s ∷ ks) = ended_rows out ks
ended_rows out (Opens c ∷ ks) = clean_rows c + pad_rows (way_rows ks out) c + ended_rows out ks
ended_rows out (Builds c ∷ ks) = clean_rows c + ended_rows out ks

abbrev pub begun_under : List CodeMark → List Step → ℕ
begun_under ms ks = begun_rows (loop_rows ms) (return_rows ms) ks

-- no part of an object under construction is among them, and no mutex call

abbrev pub NoCall : CleanUp → Type 0
NoCall (Destroys e) = Unit {0}
NoCall (DestroysAll n e) = Unit {0}
NoCall Unwinds = Unit {0}
NoCall Forgets = Unit {0}
NoCall Leaves = ⊥
NoCall Ends = Unit {0}
NoCall (Frees main) = Unit {0}
NoCall (Restores cell) = Unit {0}

abbrev pub NoParts : List Step → Type 0
NoParts [] = Unit {0}
NoParts (Does s ∷ ks) = NoParts ks
NoParts (Opens c ∷ ks) = NoCall c × NoParts ks
NoParts (Builds c ∷ ks) = ⊥

-- steps that are laid out in a block of this line: from these marks and this place to those marks and that place
pub data Pending (code : Laid) (line : ℕ) (ms : List CodeMark) (a : ℕ) : List Step → List CodeMark → ℕ → Type 0 where
  Begins : Pending code line ms a [] ms a
  Done : (ks : List Step) (ns : List CodeMark) (y z : ℕ) (s : Stmt) → Pending code line ms a ks ns y → StmtAt code ns s y z → Pending code line ms a (Does s ∷ ks) ns z
  Opened : (ks : List Step) (ns : List CodeMark) (z row : ℕ) (c : CleanUp) (what : Cleaning) → Pending code line ms a ks ns z → Cleans c what → Pending code line ms a (Opens c ∷ ks) (mark.Clean what line row ∷ ns) z
  Parted : (ks : List Step) (ns : List CodeMark) (z row : ℕ) (c : CleanUp) (what : Cleaning) → Pending code line ms a ks ns z → Cleans c what → Pending code line ms a (Builds c ∷ ks) (mark.Part row ∷ ns) z

-- a draft with some steps of a block more, by which a block that goes on in some way is made of one: at most n ops, those that
-- end the new scopes included, k text literals, c cells and d objects in scope more, o scopes more, and this scope behind them
pub record Lays (n k c d o line : ℕ) (f : Stmts → Stmts) (after : Scope) (old new : Draft) : Type 0 where
  pub rest : new ≡ record old { ops = new.ops; rows = new.rows; settled = new.settled; marks = new.marks; scopes = new.scopes; names = new.names; cells = new.cells; hidden = new.hidden; texts = new.texts; sites = new.sites }
  pub scope : scope_of new ≡ after
  pub opened : new.scopes ≡ old.scopes + o
  pub kept : Kept (laid_in old) (laid_in new)
  pub room : taken new ≤ taken old + n
  pub texts : new.texts ≤ old.texts + k
  pub cells : new.cells ≤ old.cells + c
  pub objects : objects_in new.marks ≤ objects_in old.marks + d
  pub steps : List Step
  pub none : NoParts steps
  pub rows : RowsFit 0 (begun_under old.marks steps) old new
  pub block : (ss : Stmts) → block_of steps ss ≡ f ss
  pub code : Pending (laid_in new) line old.marks (length old.ops) steps new.marks (length new.ops)
