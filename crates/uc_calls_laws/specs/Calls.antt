-- Code in which no main is called: in the source of every program that breaks no rule.
use Rattle.std.specs.Prelude.{◌≡◌, ℕ, List, [], Bool, true, false, Option, Some, None, slice_get}
use Rattle.uc_tree.specs.Programs.{Program}
use Rattle.uc_tree.specs.Source.{Expr, Exprs, ObjectExpr, CallOn, CallLive, CallUnwritten, EnterOn, EndOn, MakeOn, Item, Target, Declared, CleanUp, Raised, Stmt, Stmts, TaskStmt, Handlers, Clauses, Purpose, TaskMain, CoroutineMain, Procedure, Function, Builder, Routine, Source}
use Rattle.uc_resolve.specs.Resolve.{source_of}
use Rattle.uc_rules.specs.Breaks.{breaks_of}
use Rattle.uc_sound.specs.SoundFormed.{IsFormed}
use Rattle.uc_depth_laws.specs.Entering.{IsMain}
use Rattle.uc_inner_laws.specs.Walks as walk
use Rattle.uc_inner_laws.specs.Inner.{Part, Plain, Helper, Maker, Uncalled, Begun, InnerSource}
use Rattle.uc_source_laws.specs.SourceLaws.{part_of}

module _ (source : Source) where
  -- a routine that is no main
  abbrev pub IsNoMain : ℕ → Type 0
  IsNoMain r = IsMain source r → ⊥

  abbrev pub AtCall : ℕ → Exprs → Type 0
  AtCall r args = IsNoMain r

  abbrev pub AtObject : Unit {0} → ObjectExpr → Type 0
  AtObject u (CallOn r e args) = IsNoMain r
  AtObject u (CallLive r e args) = IsNoMain r
  AtObject u (CallUnwritten r e) = IsNoMain r
  AtObject u (EnterOn m r e args) = IsNoMain r
  AtObject u (EndOn r written e) = IsNoMain r
  AtObject u (MakeOn c r written e args) = IsNoMain r
  AtObject u o = Unit {0}

  abbrev pub AtTask : Unit {0} → TaskStmt → Type 0
  AtTask u a = Unit {0}

  abbrev pub AtClean : Unit {0} → CleanUp → Type 0
  AtClean u c = Unit {0}

  abbrev pub same : CleanUp → Unit {0} → Unit {0}
  same c u = u

  abbrev pub CallsExpr : Expr → Type 0
  CallsExpr e = walk.InExpr (Unit {0}) same AtCall AtObject AtTask AtClean tt e

  abbrev pub CallsExprs : Exprs → Type 0
  CallsExprs es = walk.InExprs (Unit {0}) same AtCall AtObject AtTask AtClean tt es

  abbrev pub CallsMaybe : Option Expr → Type 0
  CallsMaybe e = walk.InMaybe (Unit {0}) same AtCall AtObject AtTask AtClean tt e

  abbrev pub CallsItems : List Item → Type 0
  CallsItems is = walk.InItems (Unit {0}) same AtCall AtObject AtTask AtClean tt is

  abbrev pub CallsTargets : List Target → Type 0
  CallsTargets xs = walk.InTargets (Unit {0}) same AtCall AtObject AtTask AtClean tt xs

  abbrev pub CallsDeclared : List Declared → Type 0
  CallsDeclared ds = walk.InDeclared (Unit {0}) same AtCall AtObject AtTask AtClean tt ds

  abbrev pub CallsClean : CleanUp → Type 0
  CallsClean c = walk.InClean (Unit {0}) same AtCall AtObject AtTask AtClean tt c

  abbrev pub CallsRaised : Raised → Type 0
  CallsRaised r = walk.InRaised (Unit {0}) same AtCall AtObject AtTask AtClean tt r

  abbrev pub CallsStmt : Stmt → Type 0
  CallsStmt a = walk.InStmt (Unit {0}) same AtCall AtObject AtTask AtClean tt a

  abbrev pub CallsStmts : Stmts → Type 0
  CallsStmts ss = walk.InStmts (Unit {0}) same AtCall AtObject AtTask AtClean tt ss

  abbrev pub CallsHandlers : Handlers → Type 0
  CallsHandlers hs = walk.InHandlers (Unit {0}) same AtCall AtObject AtTask AtClean tt hs

  abbrev pub CallsClauses : Clauses → Type 0
  CallsClauses cs = walk.InClauses (Unit {0}) same AtCall AtObject AtTask AtClean tt cs

  -- the body of a routine, if there is one
  abbrev pub CallsRoutine : Option Routine → Type 0
  CallsRoutine None = Unit {0}
  CallsRoutine (Some r) = CallsStmts r.body

  abbrev pub NoMainSource : Type 0
  NoMainSource = (n : ℕ) → CallsRoutine (slice_get source.routines n)

-- mains as parts: nobody calls them, also where they hold no object
abbrev pub ends_main : Purpose → Bool
ends_main TaskMain = true
ends_main CoroutineMain = true
ends_main Procedure = false
ends_main Function = false
ends_main Builder = false

abbrev pub is_main_by : Option Routine → Bool
is_main_by None = false
is_main_by (Some r) = ends_main r.purpose

abbrev pub main_part : Bool → Part → Part
main_part true Plain = Begun
main_part b part = part

abbrev pub main_part_of : Program → ℕ → Part
main_part_of p r = main_part (is_main_by (slice_get (source_of p).routines r)) (part_of p r)

abbrev pub IsUncalled : Part → Type 0
IsUncalled Plain = ⊥
IsUncalled Helper = ⊥
IsUncalled Maker = ⊥
IsUncalled Uncalled = Unit {0}
IsUncalled Begun = Unit {0}

-- of a program that breaks no rule: no main is called; so the code is in order with mains as parts that nobody calls
pub record NoMainProgram (p : Program) : Type 0 where
  pub calls : NoMainSource (source_of p)
  pub inner : InnerSource (main_part_of p) (source_of p)
  pub mains : (r : ℕ) → IsMain (source_of p) r → IsUncalled (main_part_of p r)

abbrev pub LawNoMains : Type 0
LawNoMains = (p : Program) → IsFormed p → breaks_of p ≡ [] → NoMainProgram p
