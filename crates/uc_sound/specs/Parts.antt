-- What statements ask of their expressions: where no rule is broken at them, each is of the type that is asked for.
use Rattle.std.specs.Prelude.{◌≡◌, ℕ, ◌+◌, List, [], ◌∷◌, length, map, slice_get, Option, Some}
use Rattle.uc_tree.specs.declared.pos.Pos.{Pos}
use Rattle.uc_tree.specs.declared.kinds.LocalVariable.{LocalVariable}
use Rattle.uc_tree.specs.declared.kinds.Param.{Param}
use Rattle.uc_tree.specs.Expressions as expr
use Rattle.uc_tree.specs.Statements as stmt
use Rattle.uc_tree.specs.Source.{Shape}
use Rattle.uc_resolve.specs.Standings.{meant, args_by, args_meant, converted, value_in_scope}
use Rattle.uc_resolve.specs.Resolve.{items_meant, targets_meant}
use Rattle.uc_rules.specs.declared.rules.Target.{Target}
use Rattle.uc_rules.specs.Scopes.{Env}
use Rattle.uc_rules.specs.Entities.{count, expected, param_expected, entity_of}
use Rattle.uc_rules.specs.Visits.{AtRaiseTarget, AtMigrate, visits, args_visits, condition_visits, return_visits, outs_visits, reads_visits}
use Rattle.uc_typing.specs.Typing.{Num, Obj, Clu, Name, Sig, Table, IsTarget, Yields, GiveAll, FineItems, FineTargets}
use Rattle.uc_sound.specs.Agreement.{context, param_ty, AreLike, Tied}
use Rattle.uc_sound.specs.Unbroken.{Unbroken, IsKnown}

module _ (t : Table) (g : Sig) (sc : List Name) where
  pub record Parts (env : Env) (class : Option ℕ) (routine : ℕ) (known : List LocalVariable) : Type 0 where
    -- a condition is a number
    pub condition : (e : expr.Expr) → Unbroken (condition_visits env e) → Yields t g sc (value_in_scope (context env class routine known) e) Num
    -- so is what is returned, in whatever shape it is kept, where a value is returned at all
    pub returned : (p : Pos) (k : Shape) (e : expr.Expr) → Unbroken (return_visits env p (Some e)) → Yields t g sc (converted k (value_in_scope (context env class routine known) e)) Num
    -- printed items are numbers, and what is read into is the place of one
    pub printed : (texts : ℕ) (os : List stmt.OutItem) → Unbroken (outs_visits env os) → FineItems t g sc (items_meant (context env class routine known) texts os)
    pub read : (es : expr.Exprs) → Unbroken (reads_visits env es) → FineTargets t g sc (targets_meant (context env class routine known) es)
    -- an event is raised at an object that takes it, a task migrates to a cluster
    pub raised_at : (p : Pos) (e : expr.Expr) → Unbroken (visits env e) → Unbroken (AtRaiseTarget p (entity_of env e) ∷ []) → (c : ℕ) × Yields t g sc (meant (context env class routine known) e).expr (Obj c) × IsTarget t c
    pub migrated : (p : Pos) (e : expr.Expr) → Unbroken (visits env e) → Unbroken (AtMigrate p (entity_of env e) ∷ []) → Yields t g sc (meant (context env class routine known) e).expr Clu
    -- arguments for parameters like these are of their types
    pub arguments : (args : expr.Exprs) (to : Target) (xs ys : List Param) → count args ≡ length xs → ((k : ℕ) → expected env.program to (0 + k) ≡ param_expected env.program (slice_get xs k)) → AreLike env.program xs ys → Unbroken (args_visits env args to 0) → GiveAll t g sc (args_by ys (args_meant (context env class routine known) args)) (map (param_ty env.program) ys)

  abbrev pub LawParts : Type 0
  LawParts = (env : Env) (class : Option ℕ) (routine : ℕ) (known : List LocalVariable) → Tied t g sc env class routine known → IsKnown env → Parts env class routine known
