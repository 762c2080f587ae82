-- Code that waits, signals and accepts only in routines that hold their object, or that are called on it by such ones; that calls routines
-- which are there, and begins tasks and coroutines with mains.
use Rattle.std.specs.Prelude.{◌≡◌, ℕ, suc, List, Option, Some, None, Bool, true, false, slice_get, is_some, if◌then◌else◌}
use Rattle.uc_tree.specs.Source.{Expr, Exprs, ObjectExpr, OfObject, NoExprs, MoreExprs, This, CallOn, CallLive, CallUnwritten, EnterOn, EndOn, MakeOn, Wait, Signal, SignalBlock, IsEmpty, FrontOf, CleanUp, Frees, Item, Target, Declared, Raised, Stmt, Stmts, EventStmt, TaskStmt, Accept, SetUp, Handlers, Clauses, Routine, Source}
use Rattle.uc_depth_laws.specs.Entering.{lets_go, IsMain}
use Rattle.uc_inner_laws.specs.Walks as walk

-- what a routine is for its callers: any one; a helper of an object, which waits, signals or accepts without holding its object; one that
-- builds a mutex object; the main of a task or of a cormonitor, which does what a helper does, and which nobody calls; or another main, which nobody
-- calls either
pub data Part : Type 0 where
  Plain : Part
  Helper : Part
  Maker : Part
  Uncalled : Part
  Begun : Part

-- what is known of a place: whether the task is inside the object of the activation, and whether that is a mutex object that it builds
pub record Ground : Type 0 where
  pub inside : Bool
  pub made : Bool

-- a routine begins so
abbrev pub ground_of : Part → Ground
ground_of Plain = record { inside = false; made = false }
ground_of Helper = record { inside = true; made = false }
ground_of Maker = record { inside = false; made = true }
ground_of Uncalled = record { inside = true; made = false }
ground_of Begun = record { inside = false; made = false }

-- in a scope that lets go of the object of the activation, the task is inside that
abbrev pub under : CleanUp → Ground → Ground
under c g = if lets_go c then record { inside = true; made = g.made } else g

-- how many arguments there are, and parameters
abbrev pub count : Exprs → ℕ
count NoExprs = 0
count (MoreExprs e es) = suc (count es)

abbrev pub params_at : Option Routine → ℕ
params_at None = 0
params_at (Some r) = r.params

module _ (part : ℕ → Part) (source : Source) where
  abbrev pub params : ℕ → ℕ
  params r = params_at (slice_get source.routines r)

  -- there is a routine of this number
  abbrev pub Exists : ℕ → Type 0
  Exists r = is_some (slice_get source.routines r) ≡ true

  -- a plain routine that takes so many arguments
  abbrev pub IsPlain : ℕ → ℕ → Type 0
  IsPlain r n = (part r ≡ Plain) × (n ≡ params r) × Exists r

  -- a helper is called on the object of the activation, where the task is inside that
  abbrev pub CalledOn : Ground → Part → Expr → Type 0
  CalledOn g Plain e = Unit {0}
  CalledOn g Helper e = (g.inside ≡ true) × (e ≡ OfObject This)
  CalledOn g Maker e = ⊥
  CalledOn g Uncalled e = ⊥
  CalledOn g Begun e = ⊥

  abbrev pub AtCall : ℕ → Exprs → Type 0
  AtCall r args = IsPlain r (count args)

  abbrev pub AtObject : Ground → ObjectExpr → Type 0
  AtObject g (CallOn r e args) = CalledOn g (part r) e × (count args ≡ params r) × Exists r
  AtObject g (CallLive r e args) = IsPlain r (count args)
  AtObject g (CallUnwritten r e) = IsPlain r 0
  AtObject g (EnterOn m r e args) = IsPlain r (count args)
  AtObject g (EndOn r written e) = IsPlain r 0
  AtObject g (MakeOn c r written e args) = (part r ≡ Maker) × (count args ≡ params r) × Exists r
  AtObject g (Wait e f) = g.inside ≡ true
  AtObject g (Signal e) = g.inside ≡ true
  AtObject g (SignalBlock e) = g.inside ≡ true
  AtObject g (IsEmpty e) = g.inside ≡ true
  AtObject g (FrontOf e) = g.inside ≡ true
  AtObject g o = Unit {0}

  -- the main of a coroutine waits for nothing, but for that of a cormonitor, which is set up as that is built
  abbrev pub SetsUp : Ground → Part → Type 0
  SetsUp g Plain = Unit {0}
  SetsUp g Helper = ⊥
  SetsUp g Maker = ⊥
  SetsUp g Uncalled = g.made ≡ true
  SetsUp g Begun = Unit {0}

  abbrev pub AtTask : Ground → TaskStmt → Type 0
  AtTask g (Accept line site cs) = g.inside ≡ true
  AtTask g (SetUp r) = SetsUp g (part r) × IsMain source r
  AtTask g a = Unit {0}

  -- a task that begins has a main
  abbrev pub Begins : Option ℕ → Type 0
  Begins None = Unit {0}
  Begins (Some r) = IsMain source r

  -- only what builds an object frees it
  abbrev pub AtClean : Ground → CleanUp → Type 0
  AtClean g (Frees r) = (g.made ≡ true) × Begins r
  AtClean g c = Unit {0}

  abbrev pub InnerExpr : Ground → Expr → Type 0
  InnerExpr g e = walk.InExpr Ground under AtCall AtObject AtTask AtClean g e

  abbrev pub InnerExprs : Ground → Exprs → Type 0
  InnerExprs g es = walk.InExprs Ground under AtCall AtObject AtTask AtClean g es

  abbrev pub InnerObject : Ground → ObjectExpr → Type 0
  InnerObject g o = AtObject g o × walk.InObject Ground under AtCall AtObject AtTask AtClean g o

  abbrev pub InnerMaybe : Ground → Option Expr → Type 0
  InnerMaybe g e = walk.InMaybe Ground under AtCall AtObject AtTask AtClean g e

  abbrev pub InnerItem : Ground → Item → Type 0
  InnerItem g i = walk.InItem Ground under AtCall AtObject AtTask AtClean g i

  abbrev pub InnerItems : Ground → List Item → Type 0
  InnerItems g is = walk.InItems Ground under AtCall AtObject AtTask AtClean g is

  abbrev pub InnerTargets : Ground → List Target → Type 0
  InnerTargets g xs = walk.InTargets Ground under AtCall AtObject AtTask AtClean g xs

  abbrev pub InnerDeclared : Ground → List Declared → Type 0
  InnerDeclared g ds = walk.InDeclared Ground under AtCall AtObject AtTask AtClean g ds

  abbrev pub InnerClean : Ground → CleanUp → Type 0
  InnerClean g c = walk.InClean Ground under AtCall AtObject AtTask AtClean g c

  abbrev pub InnerRaised : Ground → Raised → Type 0
  InnerRaised g r = walk.InRaised Ground under AtCall AtObject AtTask AtClean g r

  abbrev pub InnerStmt : Ground → Stmt → Type 0
  InnerStmt g a = walk.InStmt Ground under AtCall AtObject AtTask AtClean g a

  abbrev pub InnerStmts : Ground → Stmts → Type 0
  InnerStmts g ss = walk.InStmts Ground under AtCall AtObject AtTask AtClean g ss

  abbrev pub InnerEvent : Ground → EventStmt → Type 0
  InnerEvent g a = walk.InEvent Ground under AtCall AtObject AtTask AtClean g a

  abbrev pub InnerHandlers : Ground → Handlers → Type 0
  InnerHandlers g hs = walk.InHandlers Ground under AtCall AtObject AtTask AtClean g hs

  abbrev pub InnerTask : Ground → TaskStmt → Type 0
  InnerTask g a = AtTask g a × walk.InTask Ground under AtCall AtObject AtTask AtClean g a

  abbrev pub InnerClauses : Ground → Clauses → Type 0
  InnerClauses g cs = walk.InClauses Ground under AtCall AtObject AtTask AtClean g cs

  -- the body of a routine, if there is one
  abbrev pub InnerRoutine : Part → Option Routine → Type 0
  InnerRoutine p None = Unit {0}
  InnerRoutine p (Some r) = InnerStmts (ground_of p) r.body

  abbrev pub InnerSource : Type 0
  InnerSource = (n : ℕ) → InnerRoutine (part n) (slice_get source.routines n)
