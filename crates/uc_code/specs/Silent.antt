-- Statements in which no event is raised and no switch made: those of constructors and destructors that nobody wrote.
use Rattle.uc_tree.specs.Source.{Expr, Element, Load, Negated, Not, AsCharacter, AsTruth, Operate, And, Or, Set, Assign, First, Update, StepBehind, Call, OfObject, ObjectExpr, FieldOf, CallOn, CallUnwritten, CallLive, EnterOn, EndOn, Bind, MakeOn, NewProcessor, EndCluster, EndProcessor, ConditionAt, Wait, Signal, SignalBlock, IsEmpty, FrontOf, Exprs, NoExprs, MoreExprs, Stmt, Skip, Block, Whole, Evaluate, Fill, OfTasks, TaskStmt, SetUp, Enliven, TakeDown, CleanUp, Leaves, Stmts, Nil, Then, Scoped, Built}

-- a task that has waited is delivered events
abbrev mutual
  pub silent_expr : Expr → Type 0
  silent_expr (Element n s a i) = silent_expr a × silent_expr i
  silent_expr (Load a) = silent_expr a
  silent_expr (Negated a) = silent_expr a
  silent_expr (Not a) = silent_expr a
  silent_expr (AsCharacter a) = silent_expr a
  silent_expr (AsTruth a) = silent_expr a
  silent_expr (Operate o a b) = silent_expr a × silent_expr b
  silent_expr (And a b) = silent_expr a × silent_expr b
  silent_expr (Or a b) = silent_expr a × silent_expr b
  silent_expr (Set k a) = silent_expr a
  silent_expr (Assign p a) = silent_expr p × silent_expr a
  silent_expr (First a b) = silent_expr a × silent_expr b
  silent_expr (Update o s p a) = silent_expr p × silent_expr a
  silent_expr (StepBehind o s p) = silent_expr p
  silent_expr (Call r es) = silent_exprs es
  silent_expr (OfObject o) = silent_object o
  silent_expr _ = Unit {0}

  pub silent_object : ObjectExpr → Type 0
  silent_object (FieldOf s i e) = silent_expr e
  silent_object (CallOn r e es) = silent_expr e × silent_exprs es
  silent_object (CallLive r e es) = silent_expr e × silent_exprs es
  silent_object (CallUnwritten r e) = silent_expr e
  silent_object (EnterOn m r e es) = silent_expr e × silent_exprs es
  silent_object (EndOn r written e) = silent_expr e
  silent_object (Bind p e) = silent_expr p × silent_expr e
  silent_object (MakeOn c r written e es) = silent_expr e × silent_exprs es
  silent_object (NewProcessor e) = silent_expr e
  silent_object (EndCluster e) = silent_expr e
  silent_object (EndProcessor e) = silent_expr e
  silent_object (ConditionAt k n e) = silent_expr e
  silent_object (Wait c n) = ⊥
  silent_object (Signal c) = silent_expr c
  silent_object (SignalBlock c) = silent_expr c
  silent_object (IsEmpty c) = silent_expr c
  silent_object (FrontOf c) = silent_expr c
  silent_object _ = Unit {0}

  pub silent_exprs : Exprs → Type 0
  silent_exprs NoExprs = Unit {0}
  silent_exprs (MoreExprs e es) = silent_expr e × silent_exprs es

abbrev pub silent_task : TaskStmt → Type 0
silent_task (SetUp r) = Unit {0}
silent_task Enliven = Unit {0}
silent_task TakeDown = Unit {0}
silent_task _ = ⊥

-- a mutex call that leaves its object is delivered events
abbrev pub silent_clean : CleanUp → Type 0
silent_clean Leaves = ⊥
silent_clean _ = Unit {0}

-- an exit may leave a mutex call, and of other statements such routines have these alone
abbrev mutual
  pub silent : Stmt → Type 0
  silent (Skip line) = Unit {0}
  silent (Block line ss) = silent_all ss
  silent (Whole line ss) = silent_all ss
  silent (Evaluate line e) = silent_expr e
  silent (Fill line n b d) = Unit {0}
  silent (OfTasks s) = silent_task s
  silent _ = ⊥

  pub silent_all : Stmts → Type 0
  silent_all Nil = Unit {0}
  silent_all (Then s ss) = silent s × silent_all ss
  silent_all (Scoped c ss) = silent_clean c × silent_all ss
  silent_all (Built c ss) = silent_clean c × silent_all ss
