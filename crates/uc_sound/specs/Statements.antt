-- Statements that break no rule are in order, whatever they declare.
use Rattle.std.specs.Prelude.{◌≡◌, ℕ, ◌≤◌, List, [], length}
use Rattle.uc_tree.specs.Statements.{Stmts}
use Rattle.uc_tree.specs.Gathered.{gathered_all}
use Rattle.uc_resolve.specs.Resolve.{Scope, stmts_meant}
use Rattle.uc_rules.specs.Scopes.{Env}
use Rattle.uc_rules.specs.Visits.{stmts_visits}
use Rattle.uc_typing.specs.Typing.{Ty, Name, Sig, Table, Among, FineStmts}
use Rattle.uc_sound.specs.Unbroken.{Unbroken}
use Rattle.uc_sound.specs.SoundFormed.{own_nameless}
use Rattle.uc_sound.specs.Tables.{stmts_locals}
use Rattle.uc_sound.specs.Rooted.{Within}

-- these variables are among those of the routine
abbrev pub Holds : Sig → List (ℕ × Ty) → Type 0
Holds g ls = (k : ℕ) (a : Ty) → Among ls k a → Among g.locals k a

-- variables and hidden cells lie behind the parameters
pub record IsBehind (g : Sig) (s : Scope) : Type 0 where
  pub cells : length g.params ≤ s.cells
  pub hidden : length g.params ≤ s.hidden

module _ (t : Table) (g : Sig) where
  abbrev pub LawStatements : Type 0
  LawStatements = (body : Stmts) (sc : List Name) (env : Env) (s : Scope) → Within t g sc env s.class s.names → IsBehind g s → Holds g (stmts_locals env.program body s) → gathered_all own_nameless body ≡ [] → Unbroken (stmts_visits body env) → FineStmts t g sc (stmts_meant env.program body s)
