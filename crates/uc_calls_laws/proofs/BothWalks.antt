-- What is asked of the resolved tree in two ways is asked in a third, where that follows from both.
use Rattle.std.proofs.Common.{ℕ, List, [], ◌∷◌, Option, Some, None}
use Rattle.uc_tree.specs.Source as src
use Rattle.uc_tree.specs.Source.{Expr, Exprs, ObjectExpr, Item, Target, Declared, CleanUp, Raised, Stmt, Stmts, EventStmt, TaskStmt, Handlers, Clauses}
use Rattle.uc_inner_laws.specs.Walks as walk

module _ (G : Type 0) (under : CleanUp → G → G) (A : ℕ → Exprs → Type 0) (O : G → ObjectExpr → Type 0) (T : G → TaskStmt → Type 0) (C : G → CleanUp → Type 0) (same : CleanUp → Unit {0} → Unit {0}) (B : ℕ → Exprs → Type 0) (P : Unit {0} → ObjectExpr → Type 0) (S : Unit {0} → TaskStmt → Type 0) (D : Unit {0} → CleanUp → Type 0) (E : ℕ → Exprs → Type 0) (Q : G → ObjectExpr → Type 0) (U : G → TaskStmt → Type 0) (F : G → CleanUp → Type 0) (calls : (r : ℕ) (es : Exprs) → A r es → B r es → E r es) (objects : (g : G) (o : ObjectExpr) → O g o → P tt o → Q g o) (tasks : (g : G) (a : TaskStmt) → T g a → S tt a → U g a) (cleans : (g : G) (c : CleanUp) → C g c → D tt c → F g c) where
  mutual
    pub expr : (g : G) (e : Expr) → walk.InExpr G under A O T C g e → walk.InExpr (Unit {0}) same B P S D tt e → walk.InExpr G under E Q U F g e
    expr g (src.Literal n) h k = tt
    expr g (src.Variable n) h k = tt
    expr g (src.Element n s e i) h k = (expr g e h.0 k.0, expr g i h.1 k.1)
    expr g (src.Get n) h k = tt
    expr g (src.Load e) h k = expr g e h k
    expr g (src.Negated e) h k = expr g e h k
    expr g (src.Not e) h k = expr g e h k
    expr g (src.AsCharacter e) h k = expr g e h k
    expr g (src.AsTruth e) h k = expr g e h k
    expr g (src.Operate op e f) h k = (expr g e h.0 k.0, expr g f h.1 k.1)
    expr g (src.And e f) h k = (expr g e h.0 k.0, expr g f h.1 k.1)
    expr g (src.Or e f) h k = (expr g e h.0 k.0, expr g f h.1 k.1)
    expr g (src.Set n e) h k = expr g e h k
    expr g (src.Assign p e) h k = (expr g p h.0 k.0, expr g e h.1 k.1)
    expr g (src.First e f) h k = (expr g e h.0 k.0, expr g f h.1 k.1)
    expr g (src.Update op s p e) h k = (expr g p h.0 k.0, expr g e h.1 k.1)
    expr g (src.StepBehind op s p) h k = expr g p h k
    expr g src.Fail h k = tt
    expr g (src.Call r es) h k = (calls r es h.0 k.0, exprs g es h.1 k.1)
    expr g (src.OfObject o) h k = (objects g o h.0 k.0, object g o h.1 k.1)

    pub exprs : (g : G) (es : Exprs) → walk.InExprs G under A O T C g es → walk.InExprs (Unit {0}) same B P S D tt es → walk.InExprs G under E Q U F g es
    exprs g src.NoExprs h k = tt
    exprs g (src.MoreExprs e es) h k = (expr g e h.0 k.0, exprs g es h.1 k.1)

    object : (g : G) (o : ObjectExpr) → walk.InObject G under A O T C g o → walk.InObject (Unit {0}) same B P S D tt o → walk.InObject G under E Q U F g o
    object g src.This h k = tt
    object g (src.OwnField s i) h k = tt
    object g (src.GetOwn s i) h k = tt
    object g (src.FieldOf s i e) h k = expr g e h k
    object g src.Counted h k = tt
    object g (src.CallOn r e es) h k = (expr g e h.0 k.0, exprs g es h.1 k.1)
    object g (src.CallLive r e es) h k = (expr g e h.0 k.0, exprs g es h.1 k.1)
    object g (src.CallUnwritten r e) h k = expr g e h k
    object g (src.EnterOn m r e es) h k = (expr g e h.0 k.0, exprs g es h.1 k.1)
    object g (src.EndOn r written e) h k = expr g e h k
    object g (src.Bind p e) h k = (expr g p h.0 k.0, expr g e h.1 k.1)
    object g (src.MakeOn c r written e es) h k = (expr g e h.0 k.0, exprs g es h.1 k.1)
    object g src.NewCluster h k = tt
    object g (src.NewProcessor e) h k = expr g e h k
    object g (src.EndCluster e) h k = expr g e h k
    object g (src.EndProcessor e) h k = expr g e h k
    object g (src.ConditionAt n m e) h k = expr g e h k
    object g (src.Wait e f) h k = (expr g e h.0 k.0, expr g f h.1 k.1)
    object g (src.Signal e) h k = expr g e h k
    object g (src.SignalBlock e) h k = expr g e h k
    object g (src.IsEmpty e) h k = expr g e h k
    object g (src.FrontOf e) h k = expr g e h k

  maybe : (g : G) (e : Option Expr) → walk.InMaybe G under A O T C g e → walk.InMaybe (Unit {0}) same B P S D tt e → walk.InMaybe G under E Q U F g e
  maybe g None h k = tt
  maybe g (Some e) h k = expr g e h k

  items : (g : G) (is : List Item) → walk.InItems G under A O T C g is → walk.InItems (Unit {0}) same B P S D tt is → walk.InItems G under E Q U F g is
  items g [] h k = tt
  items g (src.Show form e ∷ is) h k = (expr g e h.0 k.0, items g is h.1 k.1)
  items g (src.ShowText n ∷ is) h k = (tt, items g is h.1 k.1)

  targets : (g : G) (xs : List Target) → walk.InTargets G under A O T C g xs → walk.InTargets (Unit {0}) same B P S D tt xs → walk.InTargets G under E Q U F g xs
  targets g [] h k = tt
  targets g (x ∷ xs) h k = (expr g x.place h.0 k.0, targets g xs h.1 k.1)

  declared : (g : G) (ds : List Declared) → walk.InDeclared G under A O T C g ds → walk.InDeclared (Unit {0}) same B P S D tt ds → walk.InDeclared G under E Q U F g ds
  declared g [] h k = tt
  declared g (d ∷ ds) h k = (maybe g d.value h.0 k.0, declared g ds h.1 k.1)

  clean : (g : G) (c : CleanUp) → walk.InClean G under A O T C g c → walk.InClean (Unit {0}) same B P S D tt c → walk.InClean G under E Q U F g c
  clean g (src.Destroys e) h k = expr g e h k
  clean g (src.DestroysAll n e) h k = expr g e h k
  clean g src.Unwinds h k = cleans g src.Unwinds h k
  clean g src.Forgets h k = cleans g src.Forgets h k
  clean g src.Leaves h k = cleans g src.Leaves h k
  clean g src.Ends h k = cleans g src.Ends h k
  clean g (src.Frees r) h k = cleans g (src.Frees r) h k
  clean g (src.Restores n) h k = cleans g (src.Restores n) h k

  raised : (g : G) (r : Raised) → walk.InRaised G under A O T C g r → walk.InRaised (Unit {0}) same B P S D tt r → walk.InRaised G under E Q U F g r
  raised g (src.Plainly n) h k = tt
  raised g (src.BuiltAt n c e) h k = expr g e h k
  raised g (src.AgainFrom n) h k = tt

  mutual
    stmt : (g : G) (a : Stmt) → walk.InStmt G under A O T C g a → walk.InStmt (Unit {0}) same B P S D tt a → walk.InStmt G under E Q U F g a
    stmt g (src.Skip line) h k = tt
    stmt g (src.Block line body) h k = stmts g body h k
    stmt g (src.Whole line body) h k = stmts g body h k
    stmt g (src.Evaluate line e) h k = expr g e h k
    stmt g (src.Declare line ds) h k = declared g ds h k
    stmt g (src.Print line is) h k = items g is h k
    stmt g (src.PrintTogether line is) h k = items g is h k
    stmt g (src.Read line xs) h k = targets g xs h k
    stmt g (src.If line e a b) h k = (expr g e h.0 k.0, stmt g a h.1 k.1, stmt g b h.2 k.2)
    stmt g (src.Loop line order e step b) h k = (expr g e h.0 k.0, maybe g step h.1 k.1, stmt g b h.2 k.2)
    stmt g (src.Break line) h k = tt
    stmt g (src.Continue line) h k = tt
    stmt g (src.Return line e) h k = maybe g e h k
    stmt g (src.Owes line) h k = tt
    stmt g (src.Fill line n b d) h k = (expr g b h.0 k.0, expr g d h.1 k.1)
    stmt g (src.OfEvents a) h k = event g a h k
    stmt g (src.OfTasks a) h k = (tasks g a h.0 k.0, task g a h.1 k.1)

    pub stmts : (g : G) (ss : Stmts) → walk.InStmts G under A O T C g ss → walk.InStmts (Unit {0}) same B P S D tt ss → walk.InStmts G under E Q U F g ss
    stmts g src.Nil h k = tt
    stmts g (src.Then a rest) h k = (stmt g a h.0 k.0, stmts g rest h.1 k.1)
    stmts g (src.Scoped c rest) h k = (clean g c h.0 k.0, stmts (under c g) rest h.1 k.1)
    stmts g (src.Built c rest) h k = (clean g c h.0 k.0, stmts g rest h.1 k.1)

    event : (g : G) (a : EventStmt) → walk.InEvent G under A O T C g a → walk.InEvent (Unit {0}) same B P S D tt a → walk.InEvent G under E Q U F g a
    event g (src.Throw line r) h k = raised g r h k
    event g (src.Raise line r) h k = raised g r h k
    event g (src.Try line body hs) h k = (stmts g body h.0 k.0, handlers g hs h.1 k.1)
    event g (src.RaiseAt line r e) h k = (raised g r h.0 k.0, expr g e h.1 k.1)
    event g (src.Enable line events cell a) h k = stmt g a h k
    event g (src.Disable line events cell a) h k = stmt g a h k

    handlers : (g : G) (hs : Handlers) → walk.InHandlers G under A O T C g hs → walk.InHandlers (Unit {0}) same B P S D tt hs → walk.InHandlers G under E Q U F g hs
    handlers g src.NoHandlers h k = tt
    handlers g (src.MoreHandlers resumes v cell line body rest) h k = (stmts g body h.0 k.0, handlers g rest h.1 k.1)

    task : (g : G) (a : TaskStmt) → walk.InTask G under A O T C g a → walk.InTask (Unit {0}) same B P S D tt a → walk.InTask G under E Q U F g a
    task g (src.Migrate line e) h k = expr g e h k
    task g (src.Accept line site cs) h k = clauses g cs h k
    task g (src.Resume line) h k = tt
    task g (src.Suspend line) h k = tt
    task g (src.SetUp r) h k = tt
    task g src.Enliven h k = tt
    task g src.TakeDown h k = tt
    task g (src.Yield line) h k = tt

    clauses : (g : G) (cs : Clauses) → walk.InClauses G under A O T C g cs → walk.InClauses (Unit {0}) same B P S D tt cs → walk.InClauses G under E Q U F g cs
    clauses g src.NoClauses h k = tt
    clauses g (src.Otherwise b) h k = stmt g b h k
    clauses g (src.MoreClauses guard b cs) h k = (expr g guard h.0 k.0, stmt g b h.1 k.1, clauses g cs h.2 k.2)
