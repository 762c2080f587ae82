-- Statements that declare nothing, enable nothing and raise nothing new: where no rule is broken in one, it is in order.
use Rattle.std.specs.Prelude.{◌≡◌, ℕ, List, true, false, Option, Some, None}
use Rattle.uc_tree.specs.declared.kinds.LocalVariable.{LocalVariable}
use Rattle.uc_tree.specs.Expressions.{Expr}
use Rattle.uc_tree.specs.Statements as stmt
use Rattle.uc_resolve.specs.Resolve.{Scope, stmt_meant}
use Rattle.uc_rules.specs.declared.rules.OwnClass.{OwnClass}
use Rattle.uc_rules.specs.declared.rules.Entity.{Entity}
use Rattle.uc_rules.specs.declared.rules.Entity.TheVariants as entity
use Rattle.uc_rules.specs.Scopes.{Env, block_env, opened}
use Rattle.uc_rules.specs.Entities.{entity_of}
use Rattle.uc_rules.specs.Visits.{stmt_visits, looped, joined, handling}
use Rattle.uc_rules.specs.OwnerBreaks.{may_switch_in, may_accept}
use Rattle.uc_typing.specs.Typing.{Name, Sig, Table, Executing, InMutex, FineStmt}
use Rattle.uc_sound.specs.Agreement.{Tied}
use Rattle.uc_sound.specs.Unbroken.{Unbroken, IsKnown}

-- a statement's expression is a value, a place or an array, and no name of a routine or a class alone
abbrev pub IsValued : Option Entity → Type 0
IsValued (Some (entity.Value s)) = Unit {0}
IsValued (Some (entity.Place s)) = Unit {0}
IsValued (Some (entity.Array s n)) = Unit {0}
IsValued _ = ⊥

-- what a `for` begins with and steps by is valued too, where it declares nothing
abbrev pub IsStart : stmt.ForStart → Env → Type 0
IsStart stmt.NoFor env = Unit {0}
IsStart (stmt.ForDeclare p b ds) env = ⊥
IsStart (stmt.ForEvaluate e) env = IsValued (entity_of env e)

abbrev pub IsStep : Option Expr → Env → Type 0
IsStep None env = Unit {0}
IsStep (Some e) env = IsValued (entity_of env e)

abbrev mutual
  pub IsPlain : stmt.Stmt → Env → Type 0
  IsPlain (stmt.Block p body) env = ArePlain body (block_env env)
  IsPlain (stmt.Empty p) env = Unit {0}
  IsPlain (stmt.Evaluate p e) env = IsValued (entity_of env e)
  IsPlain (stmt.If p test chosen other) env = IsPlain chosen (opened env) × IsMaybePlain other env
  IsPlain (stmt.While p test body) env = IsPlain body (opened (looped env))
  IsPlain (stmt.Do p body test) env = IsPlain body (opened (looped env))
  IsPlain (stmt.For p start test step body) env = IsStart start (opened env) × IsStep step (opened env) × IsPlain body (joined (looped (opened env)))
  IsPlain (stmt.Break p) env = Unit {0}
  IsPlain (stmt.Continue p) env = Unit {0}
  IsPlain (stmt.Return p value) env = Unit {0}
  IsPlain (stmt.Print p items) env = Unit {0}
  IsPlain (stmt.PrintTogether p items) env = Unit {0}
  IsPlain (stmt.Read p es) env = Unit {0}
  IsPlain (stmt.Resume p) env = Unit {0}
  IsPlain (stmt.Suspend p) env = Unit {0}
  IsPlain (stmt.Yield p) env = Unit {0}
  IsPlain (stmt.Migrate p e) env = Unit {0}
  IsPlain (stmt.Accept p cs other) env = AreClausesPlain cs env × IsMaybePlain other env
  -- what a handler handles may be raised again
  IsPlain (stmt.Throw p None) env = Unit {0}
  IsPlain (stmt.Raise p None) env = Unit {0}
  IsPlain (stmt.Try p brace body hs) env = ArePlain body (opened env) × AreHandlersPlain hs env
  IsPlain _ env = ⊥

  pub ArePlain : stmt.Stmts → Env → Type 0
  ArePlain stmt.NoStmts env = Unit {0}
  ArePlain (stmt.MoreStmts first rest) env = IsPlain first env × ArePlain rest env

  pub IsMaybePlain : stmt.MaybeStmt → Env → Type 0
  IsMaybePlain stmt.NoStmt env = Unit {0}
  IsMaybePlain (stmt.OneStmt body) env = IsPlain body (opened env)

  -- a handler declares no parameter
  pub AreHandlersPlain : stmt.Handlers → Env → Type 0
  AreHandlersPlain stmt.NoHandlers env = Unit {0}
  AreHandlersPlain (stmt.MoreHandlers (stmt.Handles p kind event None brace body) rest) env = ArePlain body (handling env) × AreHandlersPlain rest env
  AreHandlersPlain (stmt.MoreHandlers (stmt.Handles p kind event (Some name) brace body) rest) env = ⊥

  pub AreClausesPlain : stmt.Clauses → Env → Type 0
  AreClausesPlain stmt.NoClauses env = Unit {0}
  AreClausesPlain (stmt.MoreClauses (stmt.Accepts p guard members body) rest) env = IsPlain body (opened env) × AreClausesPlain rest env

module _ (t : Table) (g : Sig) (sc : List Name) where
  -- the names agree, and the routine is the one that the rules see: one that returns a value neither builds nor destroys,
  -- `resume` stands where the object at hand has an execution, and `_Accept` where it is one of a mutex class
  pub record Stood (env : Env) (class : Option ℕ) (routine : ℕ) (locals : List LocalVariable) : Type 0 where
    pub tied : Tied t g sc env class routine locals
    pub known : IsKnown env
    pub returning : env.around.returns ≡ true → g.whole ≡ false
    pub switching : (h : OwnClass) → env.around.home ≡ Some h → may_switch_in env.around.inner h ≡ true → Executing t g
    pub accepting : may_accept env.around ≡ true → InMutex t g

  abbrev pub LawPlain : Type 0
  LawPlain = (a : stmt.Stmt) (env : Env) (s : Scope) → Stood env s.class s.routine s.names → IsPlain a env → Unbroken (stmt_visits a env) → FineStmt t g sc (stmt_meant env.program a s)
